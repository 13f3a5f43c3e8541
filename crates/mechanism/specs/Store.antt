-- Opcodes that write memory, each a chain of tests in the order of docs/REFERENCE.md, 'Instruction set'.
use Rattle.std.specs.Prelude.{ℕ, ◌+◌, cond, List, ◌++◌, ltb, leb, set, take, drop, Ok, Err, Result, ⊤}
use Rattle.errors.specs.declared.Refusal.{Refusal}
use Rattle.errors.specs.declared.Refusal.TheVariants.{StackOverflow, MSliceParamOverflow}
use Rattle.inlinevec.specs.Stacks.{pop, last}
use Rattle.values.specs.Values.{to_u32, raw_tag, to_fat_pointer}
use Rattle.values.specs.declared.FatPointer.{FatPointer}
use Rattle.memory.specs.Allocation.{vector, alloc}
use Rattle.memory.specs.Change.{mut_vec}
use Rattle.memory.specs.declared.ElementIndex.{ElementIndex}
use Rattle.mechanism.specs.Registers.{OnMemory, on_memory, moved}
use Rattle.mechanism.specs.Stack.{pop_two}
use Rattle.mechanism.specs.declared.Registers.{Registers}

-- a tag and an offset are tested before the full stack
unfoldable pub full_by : Result ℕ Refusal → Refusal
full_by (Err refusal) = refusal
full_by (Ok value) = StackOverflow

unfoldable pub full : ℕ → ℕ → ℕ → Refusal
full used size tag = full_by (vector used size tag)

-- an allocation's value at a height of the stack, and the memory that it leaves
unfoldable pub placed : List ℕ → Registers → ℕ → ℕ → List ℕ → Result (ℕ × ℕ) Refusal → OnMemory
placed stack registers next height memory (Ok (value, used)) =
    on_memory (Ok (record { place = next; height = height + 1; loops = registers.loops; memory = used })) (set stack height value) memory
placed stack registers next height memory (Err refusal) = on_memory (Err refusal) stack memory

-- M_STI, its operands being there, and each other new vector: 5 or 13, then 4, then 23
unfoldable pub store : List ℕ → List ℕ → List ℕ → Registers → ℕ → ℕ → ℕ → ℕ → OnMemory
store stack memory payload registers next height size tag =
    cond (leb 1000 height) (on_memory (Err (full registers.memory size tag)) stack memory)
    (placed stack registers next height
    (alloc memory payload registers.memory size tag).memory
    (alloc memory payload registers.memory size tag).answer)

-- M_ST, its operand being there: 3, 13, 5, 13, 23
unfoldable pub sized : List ℕ → List ℕ → List ℕ → Registers → ℕ → ℕ → Result (ℕ × ℕ) Refusal → OnMemory
sized stack memory none registers next tag (Ok (value, height)) =
    cond (ltb 65535 (to_u32 value)) (on_memory (Err MSliceParamOverflow) stack memory)
    (store stack memory none registers next height (to_u32 value) tag)
sized stack memory none registers next tag (Err refusal) = on_memory (Err refusal) stack memory

unfoldable pub op_m_st : List ℕ → List ℕ → List ℕ → Registers → ℕ → ℕ → OnMemory
op_m_st stack memory none registers next tag = sized stack memory none registers next tag (pop stack registers.height)

-- a change's answer, and the lent memory after it
pub record ChangedIn : Type 0 where
  pub answer : Result ⊤ Refusal
  pub memory : List ℕ

abbrev pub changed_in : Result ⊤ Refusal → List ℕ → ChangedIn
changed_in answer memory = record { answer = answer; memory = memory }

-- a change of the part in use; the bytes past it stay
unfoldable pub mut_in_use : List ℕ → ℕ → FatPointer → ElementIndex → ℕ → ℕ → ChangedIn
mut_in_use memory used pointer index payload tag =
    changed_in (mut_vec (take used memory) pointer index.0 payload tag).answer
    ((mut_vec (take used memory) pointer index.0 payload tag).memory ++ drop used memory)

-- an answer, and the memory after it
pub record ChangedTo : Type 0 where
  pub result : Result Registers Refusal
  pub memory : List ℕ

abbrev pub changed_to : Result Registers Refusal → List ℕ → ChangedTo
changed_to result memory = record { result = result; memory = memory }

-- on at the next place where the element was changed
unfoldable pub mutated : Registers → ℕ → ℕ → Result ⊤ Refusal → Result Registers Refusal
mutated registers next height (Ok tt) = Ok (moved registers next height)
mutated registers next height (Err refusal) = Err refusal

-- a scalar has no elements; the tag of a vector is that of its word
unfoldable pub mutate_at : List ℕ → Registers → ℕ → ℕ → ElementIndex → ℕ → ℕ → Result FatPointer Refusal → ChangedTo
mutate_at memory registers next height index payload tag (Ok pointer) =
    changed_to (mutated registers next height (mut_in_use memory registers.memory pointer index payload tag).answer)
    (mut_in_use memory registers.memory pointer index payload tag).memory
mutate_at memory registers next height index payload tag (Err refusal) = changed_to (Err refusal) memory

unfoldable pub mutate : List ℕ → Registers → ℕ → ℕ → ℕ → ElementIndex → ℕ → ChangedTo
mutate memory registers next height vector index payload =
    mutate_at memory registers next height index payload (raw_tag vector) (to_fat_pointer vector)

-- M_MUTA: 3, 3, 3, 5, 5, 14, 14; the value is on top, the index below it, and the vector stays
unfoldable pub mutate_last : List ℕ → Registers → ℕ → ℕ → ℕ → ℕ → Result ℕ Refusal → ChangedTo
mutate_last memory registers next height payload index (Ok vector) =
    mutate memory registers next height vector (record { 0 = to_u32 index }) (to_u32 payload)
mutate_last memory registers next height payload index (Err refusal) = changed_to (Err refusal) memory

unfoldable pub mutate_two : List ℕ → List ℕ → Registers → ℕ → Result (ℕ × ℕ × ℕ) Refusal → ChangedTo
mutate_two stack memory registers next (Ok (payload, index, height)) =
    mutate_last memory registers next height payload index (last stack height)
mutate_two stack memory registers next (Err refusal) = changed_to (Err refusal) memory

unfoldable pub op_m_muta : List ℕ → List ℕ → Registers → ℕ → ChangedTo
op_m_muta stack memory registers next = mutate_two stack memory registers next (pop_two stack registers.height)
