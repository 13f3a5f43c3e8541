-- A refused instruction that needs no task, frame or pool leaves the stack and memory as they were.
use Prim.Native.Nat.{ℕ, ◌%◌}
use mathlib.Core.Bool.{true, false}
use mathlib.Core.List.{List, []}
use lib.Dec.{eqb}
use Rattle.bytecode.specs.Opcodes.{PUSH_U32, PUSH_STATE, PUSH_TASK_FIELD, PUSH_MAX_STATES, S_LEN, DO, LOOP, LOOP_INDEX, DROP, DUP, SWAP, EQ, LT, GT, JUMP_IF_FALSE, M_STI, M_ST, M_MUTA, MULI, MUL}
use Rattle.errors.specs.declared.Refusal.{Refusal}
use Rattle.bytecode.specs.Operands.{operand}
use Rattle.mechanism.specs.Registers.{on_memory}
use Rattle.mechanism.specs.declared.Registers.{Registers}
use Rattle.mechanism.specs.Operated.{with_operand, push_u32, push_u8, muli, m_st, m_sti_of, m_sti}
use Rattle.mechanism.specs.Execute.{plain, operated, is_equality, execute, by_extent, instruct}
use Rattle.mechanism.proofs.Either.{either}
use Rattle.mechanism.proofs.RefusalsStack as stack
use Rattle.mechanism.proofs.RefusalsStack.{unwritten, push_leaves, mul_leaves, muli_leaves, compare_leaves, dup_leaves, swap_leaves, loop_index_leaves, eq_leaves}
use Rattle.mechanism.proofs.Memory.{Leaves, finished, kept, beside, store_leaves, m_st_leaves, m_muta_leaves}
use Rattle.std.specs.Prelude.{Ok, Err, Result, Option, Some, None}

-- an operand that is missing, then what holds of any
sized : {A : Type 0} (P : A → Type 0) (refuse : Refusal → A) (onward : ℕ → A) (result : Result ℕ Refusal)
    → ((refusal : Refusal) → P (refuse refusal)) → ((number : ℕ) → P (onward number)) → P (with_operand refuse onward result)
unfolding with_operand
sized P refuse onward (Ok number) none some = some number
sized P refuse onward (Err refusal) none some = none refusal

push_u32_leaves : (s code : List ℕ) (registers : Registers) (next : ℕ) → stack.Leaves s (push_u32 s code registers next)
unfolding push_u32
push_u32_leaves s code registers next = sized (stack.Leaves s) _ _ (operand 4 code _) (λ r. stack.kept r) (λ n. push_leaves s registers next n)

push_u8_leaves : (s code : List ℕ) (registers : Registers) (next : ℕ) → stack.Leaves s (push_u8 s code registers next)
unfolding push_u8
push_u8_leaves s code registers next = sized (stack.Leaves s) _ _ (operand 1 code _) (λ r. stack.kept r) (λ n. push_leaves s registers next n)

muli_leaves_all : (s code : List ℕ) (registers : Registers) (next : ℕ) → stack.Leaves s (muli s code registers next)
unfolding muli
muli_leaves_all s code registers next = sized (stack.Leaves s) _ _ (operand 4 code _) (λ r. stack.kept r) (λ n. muli_leaves s registers next n)

m_st_leaves_all : (s memory code : List ℕ) (registers : Registers) (next : ℕ) → Leaves s memory (m_st s memory code registers next)
unfolding m_st
m_st_leaves_all s memory code registers next =
    sized (Leaves s memory) _ _ (operand 1 code _) (λ r. kept r) (λ tag. m_st_leaves s memory [] registers next (tag % 256))

m_sti_leaves : (s memory code : List ℕ) (registers : Registers) (next : ℕ) → Leaves s memory (m_sti s memory code registers next)
unfolding m_sti m_sti_of
m_sti_leaves s memory code registers next =
    sized (Leaves s memory) _ _ (operand 2 code _) (λ r. kept r)
    (λ size. sized (Leaves s memory) _ _ (operand 1 code _) (λ r. kept r)
    (λ tag. sized (Leaves s memory) _ _ (operand 1 code _) (λ r. kept r)
    (λ signal. store_leaves s memory _ registers next _ (size % 65536) (tag % 256))))

plain_leaves : (s : List ℕ) (registers : Registers) (next op count : ℕ) → stack.Leaves s (plain s registers next op count)
unfolding plain
plain_leaves s registers next op count =
    either (stack.Leaves s) (eqb op MUL) _ _ (mul_leaves s registers next)
    (either (stack.Leaves s) (eqb op LT) _ _ (compare_leaves s registers next true)
    (either (stack.Leaves s) (eqb op GT) _ _ (compare_leaves s registers next false)
    (either (stack.Leaves s) (eqb op DUP) _ _ (dup_leaves s registers next)
    (either (stack.Leaves s) (eqb op SWAP) _ _ (swap_leaves s registers next)
    (either (stack.Leaves s) (eqb op DROP) _ _ (unwritten s _)
    (either (stack.Leaves s) (eqb op DO) _ _ (unwritten s _)
    (either (stack.Leaves s) (eqb op LOOP) _ _ (unwritten s _)
    (either (stack.Leaves s) (eqb op LOOP_INDEX) _ _ (loop_index_leaves s registers next)
    (either (stack.Leaves s) (eqb op S_LEN) _ _ (push_leaves s registers next count)
    (unwritten s _))))))))))

operated_leaves : (s code : List ℕ) (registers : Registers) (next op count : ℕ) → stack.Leaves s (operated s code registers next op count)
unfolding operated
operated_leaves s code registers next op count =
    either (stack.Leaves s) (eqb op PUSH_U32) _ _ (push_u32_leaves s code registers next)
    (either (stack.Leaves s) (eqb op PUSH_STATE) _ _ (push_u8_leaves s code registers next)
    (either (stack.Leaves s) (eqb op PUSH_TASK_FIELD) _ _ (push_u8_leaves s code registers next)
    (either (stack.Leaves s) (eqb op PUSH_MAX_STATES) _ _ (push_u8_leaves s code registers next)
    (either (stack.Leaves s) (eqb op MULI) _ _ (muli_leaves_all s code registers next)
    (either (stack.Leaves s) (eqb op JUMP_IF_FALSE) _ _ (unwritten s _)
    (plain_leaves s registers next op count))))))

execute_leaves : (s memory code : List ℕ) (registers : Registers) (next op count : ℕ) → Leaves s memory (execute s memory code registers next op count)
unfolding execute
execute_leaves s memory code registers next op count =
    either (Leaves s memory) (is_equality op) _ _ (beside s memory _ (eq_leaves s memory registers next (eqb op EQ)))
    (either (Leaves s memory) (eqb op M_STI) _ _ (m_sti_leaves s memory code registers next)
    (either (Leaves s memory) (eqb op M_ST) _ _ (m_st_leaves_all s memory code registers next)
    (either (Leaves s memory) (eqb op M_MUTA) _ _ (m_muta_leaves s memory registers next)
    (beside s memory _ (operated_leaves s code registers next op count)))))

unwritten_either : (s memory : List ℕ) (result : Result Registers Refusal) → Leaves s memory (on_memory result s memory)
unwritten_either s memory (Ok registers) = finished registers s memory
unwritten_either s memory (Err refusal) = kept refusal

by_extent_leaves : (s memory code : List ℕ) (registers : Registers) (op count : ℕ) (extent : Option ℕ) → Leaves s memory (by_extent s memory code registers op count extent)
unfolding by_extent
by_extent_leaves s memory code registers op count (Some next) = execute_leaves s memory code registers next op count
by_extent_leaves s memory code registers op count None = unwritten_either s memory _

pub instruct_leaves : (s memory code : List ℕ) (registers : Registers) (count : ℕ) → Leaves s memory (instruct s memory code registers count)
unfolding instruct
instruct_leaves s memory code registers count = by_extent_leaves s memory code registers _ count _
