-- T_GET_FIELD and T_SET_FIELD, each a chain of tests in the order of docs/REFERENCE.md, 'Instruction set'; field 0 is the title, 1 the state, 2 the instructions.
use Rattle.std.specs.Prelude.{ℕ, ◌%◌, cond, List, eqb, ltb, Ok, Err, Result, ⊤}
use Rattle.errors.specs.declared.Refusal.TheVariants.{InvalidTaskField, TitleTooLong}
use Rattle.inlinevec.specs.Stacks.{pop}
use Rattle.values.specs.Values.{to_u32, to_u32_val, to_calldata_val, to_fat_pointer}
use Rattle.values.specs.declared.FatPointer.{FatPointer}
use Rattle.memory.specs.Reads.{get_slice_bytes}
use Rattle.pools.specs.declared.InstructionsRef.{InstructionsRef}
use Rattle.storage.specs.declared.Task.{Task}
use Rattle.storage.specs.Storage.{find}
use Rattle.storage.specs.Tasks.{with_state}
use Rattle.mechanism.specs.Registers.{OnStack, OnMemory, on_memory, in_use, moved}
use Rattle.mechanism.specs.Stack.{push_value}
use Rattle.mechanism.specs.Store.{store}
use Rattle.mechanism.specs.declared.Registers.{Registers}
use Rattle.machine.specs.Titles.{within, title_length, title_bytes, retitled, retargeted}
use Rattle.mechanism.specs.declared.Change.{Change}
use Rattle.mechanism.specs.declared.Change.TheVariants.{Put, Restate}
use Rattle.errors.specs.declared.Refusal.{Refusal}

-- the task: 9
unfoldable pub if_found : ℕ → ℕ → Result ⊤ Refusal → Result (ℕ × ℕ) Refusal
if_found field height (Ok tt) = Ok (field, height)
if_found field height (Err refusal) = Err refusal

-- its id: 3
unfoldable pub owner_popped : Task → ℕ → Result (ℕ × ℕ) Refusal → Result (ℕ × ℕ) Refusal
owner_popped task field (Ok (value, height)) = if_found field height (find task (record { 0 = to_u32 value }))
owner_popped task field (Err refusal) = Err refusal

unfoldable pub owner : List ℕ → ℕ → Task → ℕ → Result (ℕ × ℕ) Refusal
owner stack height task field = owner_popped task field (pop stack height)

-- the field: 3, 10
unfoldable pub field_popped : List ℕ → Task → Result (ℕ × ℕ) Refusal → Result (ℕ × ℕ) Refusal
field_popped stack task (Ok (value, height)) =
    cond (ltb 2 (to_u32 value)) (Err (InvalidTaskField (to_u32 value))) (owner stack height task (to_u32 value))
field_popped stack task (Err refusal) = Err refusal

-- a field and its task: 3, 10, 3, 9
unfoldable pub field_of : List ℕ → ℕ → Task → Result (ℕ × ℕ) Refusal
field_of stack height task = field_popped stack task (pop stack height)

-- a field that leaves the memory
abbrev pub pushed : OnStack → List ℕ → OnMemory
pushed after memory = on_memory after.result after.stack memory

-- a field's value at a height of the stack: a title is a new text, 13, 23
unfoldable pub get_field : List ℕ → List ℕ → Registers → ℕ → ℕ → ℕ → Task → OnMemory
get_field stack memory registers next height field task =
    cond (eqb field 0) (store stack memory (title_bytes task) registers next height (title_length task % 65536) 4)
    (cond (eqb field 1) (pushed (push_value stack registers next height (to_u32_val task.state.state)) memory)
    (pushed (push_value stack registers next height (to_calldata_val task.instructions_ref.0)) memory))

unfoldable pub get_found : List ℕ → List ℕ → Registers → ℕ → Task → Result (ℕ × ℕ) Refusal → OnMemory
get_found stack memory registers next task (Ok (field, height)) = get_field stack memory registers next height field task
get_found stack memory registers next task (Err refusal) = on_memory (Err refusal) stack memory

-- T_GET_FIELD: 3, 10, 3, 9, then 13, 23 for a title
unfoldable pub op_t_get_field : List ℕ → List ℕ → Registers → ℕ → Task → OnMemory
op_t_get_field stack memory registers next task = get_found stack memory registers next task (field_of stack registers.height task)

-- a title: 14, 21
unfoldable pub title_within : List ℕ → Registers → FatPointer → Task → Result ⊤ Refusal → Result (Registers × Change) Refusal
title_within memory after pointer task (Ok tt) =
    cond (ltb 128 pointer.size) (Err TitleTooLong)
    (Ok (after, Put (retitled task (get_slice_bytes memory pointer))))
title_within memory after pointer task (Err refusal) = Err refusal

unfoldable pub set_title : List ℕ → Registers → FatPointer → Task → Result (Registers × Change) Refusal
set_title memory after pointer task = title_within memory after pointer task (within memory pointer)

-- a title: 5 before these
unfoldable pub title_vector : List ℕ → Registers → Task → Result FatPointer Refusal → Result (Registers × Change) Refusal
title_vector memory after task (Ok pointer) = set_title memory after pointer task
title_vector memory after task (Err refusal) = Err refusal

-- a state: 11
unfoldable pub state_answered : Registers → ℕ → Result ⊤ Refusal → Result (Registers × Change) Refusal
state_answered after state (Ok tt) = Ok (after, Restate state)
state_answered after state (Err refusal) = Err refusal

unfoldable pub set_state : Registers → ℕ → Task → Result (Registers × Change) Refusal
set_state after state task = state_answered after state (with_state task.state state).answer

-- instructions: no test
unfoldable pub set_instructions : Registers → InstructionsRef → Task → Result (Registers × Change) Refusal
set_instructions after reference task = Ok (after, Put (retargeted task reference))

-- a field's new value
unfoldable pub set_field : List ℕ → Registers → ℕ → ℕ → Task → Result (Registers × Change) Refusal
set_field memory after field value task =
    cond (eqb field 0) (title_vector memory after task (to_fat_pointer value))
    (cond (eqb field 1) (set_state after (to_u32 value) task)
    (set_instructions after (record { 0 = to_u32 value }) task))

unfoldable pub set_popped : List ℕ → Registers → ℕ → ℕ → Task → Result (ℕ × ℕ) Refusal → Result (Registers × Change) Refusal
set_popped memory registers next field task (Ok (value, height)) =
    set_field (in_use memory registers) (moved registers next height) field value task
set_popped memory registers next field task (Err refusal) = Err refusal

unfoldable pub set_found : List ℕ → List ℕ → Registers → ℕ → Task → Result (ℕ × ℕ) Refusal → Result (Registers × Change) Refusal
set_found stack memory registers next task (Ok (field, height)) = set_popped memory registers next field task (pop stack height)
set_found stack memory registers next task (Err refusal) = Err refusal

-- T_SET_FIELD: 3, 10, 3, 9, 3, then 5, 14, 21 for a title, 11 for a state
unfoldable pub op_t_set_field : List ℕ → List ℕ → Registers → ℕ → Task → Result (Registers × Change) Refusal
op_t_set_field stack memory registers next task = set_found stack memory registers next task (field_of stack registers.height task)
