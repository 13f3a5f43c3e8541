-- Instructions by what stands behind their opcode: nothing, a byte, a number of four bytes, or what the operand rule says.
use Rattle.std.specs.Prelude.{ℕ, ◌+◌, Bool, false, cond, ◌||◌, List, [], ◌∷◌, eqb, ltb, Ok, Err, Result, Option, Some, None}
use Rattle.errors.specs.declared.Refusal.TheVariants.{UnexpectedEOB}
use Rattle.bytecode.specs.Opcodes.{PUSH_U32, S_LEN, DO, LOOP, LOOP_INDEX, DROP, DUP, SWAP, LT, GT, JUMP_IF_FALSE, M_STI, M_ST, M_MUTA, MULI, MUL}
use Rattle.bytecode.specs.Operands.{operand, extent}
use Rattle.mechanism.specs.Registers.{OnStack, on_stack, OnMemory, on_memory, moved}
use Rattle.mechanism.specs.Stack.{op_push, op_muli}
use Rattle.mechanism.specs.Control.{op_jump_if_false}
use Rattle.mechanism.specs.Store.{op_m_muta}
use Rattle.mechanism.specs.Operated.{with_operand, m_st, m_sti}
use Rattle.mechanism.specs.Cut.{cut_m_st}
use Rattle.mechanism.specs.Execute.{changed}
use Rattle.mechanism.specs.declared.Registers.{Registers}
use Rattle.errors.specs.declared.Refusal.{Refusal}

-- an opcode that is one of some
abbrev pub among : ℕ → List ℕ → Bool
among op [] = false
among op (one ∷ others) = eqb op one || among op others

-- nothing behind it, and over the stack alone
abbrev pub plain_opcodes : List ℕ
plain_opcodes = MUL ∷ LT ∷ GT ∷ DUP ∷ SWAP ∷ DROP ∷ DO ∷ LOOP ∷ LOOP_INDEX ∷ S_LEN ∷ []

unfoldable pub is_plain : ℕ → Bool
is_plain op = among op plain_opcodes

-- a number of four bytes behind it
abbrev pub number_opcodes : List ℕ
number_opcodes = PUSH_U32 ∷ MULI ∷ JUMP_IF_FALSE ∷ []

unfoldable pub has_number : ℕ → Bool
has_number op = among op number_opcodes

-- a byte behind it, which it pushes: by the range in which those opcodes stand, and PUSH_CALLDATA, which needs the pool
unfoldable pub pushes_byte : ℕ → Bool
pushes_byte op = cond (ltb 2 op) (ltb op 7) false

-- an opcode with its number
unfoldable pub with_number : List ℕ → Registers → ℕ → ℕ → ℕ → OnStack
with_number stack registers next op number =
    cond (eqb op PUSH_U32) (op_push stack registers next number)
    (cond (eqb op MULI) (op_muli stack registers next number) (on_stack (op_jump_if_false stack registers next number) stack))

-- with the number that stands behind it, or 2
unfoldable pub numbered : List ℕ → List ℕ → Registers → ℕ → ℕ → OnStack
numbered stack code registers next op =
    with_operand (λ refusal. on_stack (Err refusal) stack) (with_number stack registers next op) (operand 4 code (registers.place + 1))

-- any other: over memory, or it does nothing
unfoldable pub stored : List ℕ → List ℕ → List ℕ → Registers → ℕ → ℕ → OnMemory
stored stack memory code registers next op =
    cond (eqb op M_STI) (m_sti stack memory code registers next)
    (cond (eqb op M_ST) (m_st stack memory code registers next)
    (cond (eqb op M_MUTA) (changed stack (op_m_muta stack memory registers next))
    (on_memory (Ok (moved registers next registers.height)) stack memory)))

-- such a one that the code's end cuts
unfoldable pub cut_stored : List ℕ → Registers → ℕ → Result Registers Refusal
cut_stored stack registers op = cond (eqb op M_ST) (cut_m_st stack registers) (Err UnexpectedEOB)

unfoldable pub stored_by : List ℕ → List ℕ → List ℕ → Registers → ℕ → Option ℕ → OnMemory
stored_by stack memory code registers op (Some next) = stored stack memory code registers next op
stored_by stack memory code registers op None = on_memory (cut_stored stack registers op) stack memory

unfoldable pub whole_or_cut : List ℕ → List ℕ → List ℕ → Registers → ℕ → OnMemory
whole_or_cut stack memory code registers op = stored_by stack memory code registers op (extent code registers.place)
