-- T_CREATE and T_DELETE, each a chain of tests in the order of docs/REFERENCE.md, 'Instruction set'.
use Rattle.std.specs.Prelude.{ℕ, ◌%◌, List, Ok, Err, Result, ⊤}
use Rattle.inlinevec.specs.Stacks.{pop}
use Rattle.values.specs.Values.{to_u32, to_fat_pointer}
use Rattle.values.specs.declared.FatPointer.{FatPointer}
use Rattle.memory.specs.Reads.{get_slice_bytes}
use Rattle.pools.specs.declared.InstructionsRef.{InstructionsRef}
use Rattle.storage.specs.declared.TaskId.{TaskId}
use Rattle.storage.specs.declared.TaskState.{TaskState}
use Rattle.storage.specs.declared.Task.{Task}
use Rattle.storage.specs.Storage.{find, room}
use Rattle.storage.specs.Tasks.{blank, default_state, new_task}
use Rattle.mechanism.specs.Registers.{in_use, moved}
use Rattle.mechanism.specs.Stack.{pop_two}
use Rattle.mechanism.specs.declared.Registers.{Registers}
use Rattle.machine.specs.Titles.{within}
use Rattle.mechanism.specs.declared.Change.{Change}
use Rattle.mechanism.specs.declared.Change.TheVariants.{Put}
use Rattle.errors.specs.declared.Refusal.{Refusal}

-- the new task, where there is room: 20, 21
unfoldable pub with_room : List ℕ → Registers → FatPointer → TaskId → TaskState → InstructionsRef → Result ⊤ Refusal → Result (Registers × Change) Refusal
with_room memory after pointer id state reference (Ok tt) =
    Ok (after, Put (new_task id (get_slice_bytes memory pointer) state reference))
with_room memory after pointer id state reference (Err refusal) = Err refusal

-- its title in the memory in use: 14
unfoldable pub if_within : List ℕ → Registers → FatPointer → TaskId → TaskState → InstructionsRef → Result ⊤ Refusal → Result (Registers × Change) Refusal
if_within memory after pointer id state reference (Ok tt) =
    with_room memory after pointer id state reference (room id.0 pointer.size)
if_within memory after pointer id state reference (Err refusal) = Err refusal

unfoldable pub new : List ℕ → Registers → FatPointer → TaskId → TaskState → InstructionsRef → Result (Registers × Change) Refusal
new memory after pointer id state reference =
    if_within memory after pointer id state reference (within memory pointer)

-- the title a vector: 5
unfoldable pub if_vector : List ℕ → Registers → TaskId → TaskState → InstructionsRef → Result FatPointer Refusal → Result (Registers × Change) Refusal
if_vector memory after id state reference (Ok pointer) = new memory after pointer id state reference
if_vector memory after id state reference (Err refusal) = Err refusal

-- the title: 3
unfoldable pub with_title : List ℕ → Registers → TaskId → TaskState → InstructionsRef → Result (ℕ × ℕ) Refusal → Result (Registers × Change) Refusal
with_title memory before id state reference (Ok (value, height)) =
    if_vector (in_use memory before) (moved before before.place height) id state reference (to_fat_pointer value)
with_title memory before id state reference (Err refusal) = Err refusal

unfoldable pub titled : List ℕ → List ℕ → Registers → TaskId → TaskState → InstructionsRef → Result (Registers × Change) Refusal
titled stack memory before id state reference =
    with_title memory before id state reference (pop stack before.height)

-- the first of so many states: 8
unfoldable pub with_state : List ℕ → List ℕ → Registers → TaskId → ℕ → Result TaskState Refusal → Result (Registers × Change) Refusal
with_state stack memory before id reference (Ok state) =
    titled stack memory before id state (record { 0 = to_u32 reference })
with_state stack memory before id reference (Err refusal) = Err refusal

-- reference and count: 3, 3; the count is taken modulo 256
unfoldable pub with_two : List ℕ → List ℕ → Registers → ℕ → TaskId → Result (ℕ × ℕ × ℕ) Refusal → Result (Registers × Change) Refusal
with_two stack memory registers next id (Ok (reference, count, height)) =
    with_state stack memory (moved registers next height) id reference (default_state (to_u32 count % 256))
with_two stack memory registers next id (Err refusal) = Err refusal

-- T_CREATE: 3, 3, 8, 3, 5, 14, 20, 21
unfoldable pub op_t_create : List ℕ → List ℕ → Registers → ℕ → ℕ → Result (Registers × Change) Refusal
op_t_create stack memory registers next next_id =
    with_two stack memory registers next (record { 0 = next_id }) (pop_two stack registers.height)

-- T_DELETE: 3, 9; the slot becomes blank
unfoldable pub delete_found : Registers → Result ⊤ Refusal → Result (Registers × Change) Refusal
delete_found after (Ok tt) = Ok (after, Put blank)
delete_found after (Err refusal) = Err refusal

unfoldable pub delete_popped : Registers → ℕ → Task → Result (ℕ × ℕ) Refusal → Result (Registers × Change) Refusal
delete_popped registers next task (Ok (value, height)) =
    delete_found (moved registers next height) (find task (record { 0 = to_u32 value }))
delete_popped registers next task (Err refusal) = Err refusal

unfoldable pub op_t_delete : List ℕ → Registers → ℕ → Task → Result (Registers × Change) Refusal
op_t_delete stack registers next task = delete_popped registers next task (pop stack registers.height)
