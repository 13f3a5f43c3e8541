-- Opcodes with operands: each reads its operand, which stands behind the opcode.
use Rattle.std.specs.Prelude.{ℕ, ◌+◌, ◌%◌, cond, List, [], eqb, take, drop, Ok, Err, Result}
use Rattle.errors.specs.declared.Refusal.{Refusal}
use Rattle.bytecode.specs.Operands.{operand}
use Rattle.mechanism.specs.Registers.{OnStack, on_stack, OnMemory, on_memory}
use Rattle.mechanism.specs.Stack.{op_push, op_muli}
use Rattle.mechanism.specs.Control.{op_jump_if_false}
use Rattle.mechanism.specs.Store.{op_m_st, store}
use Rattle.mechanism.specs.declared.Registers.{Registers}

-- on with an operand, or 2
unfoldable pub with_operand : {A : Type 0} → (Refusal → A) → (ℕ → A) → Result ℕ Refusal → A
with_operand refuse onward (Ok number) = onward number
with_operand refuse onward (Err refusal) = refuse refusal

-- PUSH_U32
unfoldable pub push_u32 : List ℕ → List ℕ → Registers → ℕ → OnStack
push_u32 stack code registers next =
    with_operand (λ refusal. on_stack (Err refusal) stack) (op_push stack registers next) (operand 4 code (registers.place + 1))

-- PUSH_STATE, PUSH_MAX_STATES, PUSH_TASK_FIELD
unfoldable pub push_u8 : List ℕ → List ℕ → Registers → ℕ → OnStack
push_u8 stack code registers next =
    with_operand (λ refusal. on_stack (Err refusal) stack) (op_push stack registers next) (operand 1 code (registers.place + 1))

-- MULI
unfoldable pub muli : List ℕ → List ℕ → Registers → ℕ → OnStack
muli stack code registers next =
    with_operand (λ refusal. on_stack (Err refusal) stack) (op_muli stack registers next) (operand 4 code (registers.place + 1))

-- JUMP_IF_FALSE
unfoldable pub jump_if_false : List ℕ → List ℕ → Registers → ℕ → Result Registers Refusal
jump_if_false stack code registers next =
    with_operand Err (op_jump_if_false stack registers next) (operand 4 code (registers.place + 1))

-- M_ST
unfoldable pub m_st : List ℕ → List ℕ → List ℕ → Registers → ℕ → OnMemory
m_st stack memory code registers next =
    with_operand (λ refusal. on_memory (Err refusal) stack memory)
    (λ tag. op_m_st stack memory [] registers next (tag % 256))
    (operand 1 code (registers.place + 1))

-- the payload stands behind the operands if the signal is 1
unfoldable pub payload_of : List ℕ → ℕ → ℕ → ℕ → List ℕ
payload_of code place size signal = cond (eqb signal 1) (take size (drop (place + 5) code)) []

unfoldable pub m_sti_of : List ℕ → List ℕ → List ℕ → Registers → ℕ → ℕ → ℕ → ℕ → OnMemory
m_sti_of stack memory code registers next size tag signal =
    store stack memory (payload_of code registers.place size signal) registers next registers.height (size % 65536) (tag % 256)

-- M_STI
unfoldable pub m_sti : List ℕ → List ℕ → List ℕ → Registers → ℕ → OnMemory
m_sti stack memory code registers next =
    with_operand (λ refusal. on_memory (Err refusal) stack memory)
    (λ size. with_operand (λ refusal. on_memory (Err refusal) stack memory)
    (λ tag. with_operand (λ refusal. on_memory (Err refusal) stack memory)
    (λ signal. m_sti_of stack memory code registers next size tag signal)
    (operand 1 code (registers.place + 4)))
    (operand 1 code (registers.place + 3)))
    (operand 2 code (registers.place + 1))
