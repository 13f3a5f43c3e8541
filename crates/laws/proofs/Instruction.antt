-- An instruction that needs no task, frame or pool keeps the registers, the stack and the length of memory.
use Prim.Native.Nat.{ℕ, ◌+◌, ◌%◌, ◌^◌, ◌<◌}
use mathlib.Core.Bool.{true, false}
use mathlib.Core.List.{List, []}
use native.Mathlib.Omega.{arith}
use lib.Dec.{eqb, ltb}
use lib.ListN.{length, get_or}
use Rattle.errors.specs.declared.Refusal.{Refusal}
use Rattle.bytecode.specs.Opcodes.{PUSH_U32, PUSH_STATE, PUSH_TASK_FIELD, PUSH_MAX_STATES, S_LEN, DO, LOOP, LOOP_INDEX, DROP, DUP, SWAP, EQ, LT, GT, JUMP_IF_FALSE, M_STI, M_ST, M_MUTA, MULI, MUL}
use Rattle.bytecode.specs.Operands.{operand, extent}
use Rattle.values.specs.Values.{to_u32, to_bool_val}
use Rattle.mechanism.specs.Registers.{OnStack}
use Rattle.mechanism.specs.declared.Registers.{Registers}
use Rattle.mechanism.specs.Operated.{with_operand, push_u32, push_u8, muli, jump_if_false, m_st, m_sti_of, m_sti}
use Rattle.mechanism.specs.Cut.{cut_value, cut_muli, cut_size, cut_m_st, cut_skip, cut_jump, cut}
use Rattle.mechanism.specs.Execute.{plain, operated, is_equality, execute, by_extent, instruct}
use Rattle.laws.proofs.Either.{either}
use Rattle.laws.proofs.Stack as stacked
use Rattle.laws.proofs.Stack.{Registered, Goes, goes, stops, Pops, popped, not_popped, pops, lowered, push_keeps, mul_keeps, muli_keeps, compare_keeps, eq_keeps, dup_keeps, swap_keeps, drop_goes, do_goes, loop_goes, loop_index_keeps, jump_goes, idle_goes}
use Rattle.laws.proofs.Memory.{Keeps, refused, beside, unwritten, store_keeps, m_st_keeps, m_muta_keeps}
use Rattle.std.specs.Prelude.{Ok, Err, Result, Option, Some, None}

-- an operand that is missing, then what holds of any
sized : {A : Type 0} (P : A → Type 0) (refuse : Refusal → A) (onward : ℕ → A) (result : Result ℕ Refusal)
    → ((refusal : Refusal) → P (refuse refusal)) → ((number : ℕ) → P (onward number)) → P (with_operand refuse onward result)
unfolding with_operand
sized P refuse onward (Ok number) none some = some number
sized P refuse onward (Err refusal) none some = none refusal

-- a size of 16 bits
short : (size : ℕ) → size % 65536 < 2 ^ 16
short size = omega arith

module _ {asked : Type 0} (registers : Registers) (stack memory code : List ℕ) (next : ℕ) (r : Registered asked (length memory) registers stack) where
  abbrev OverStack : OnStack → Type 0
  OverStack = stacked.Keeps asked (length memory)

  push_u32_keeps : OverStack (push_u32 stack code registers next)
  unfolding push_u32
  push_u32_keeps = sized OverStack _ _ (operand 4 code _) (λ refusal. stacked.refused refusal stack) (λ n. push_keeps (length memory) registers stack next r n)

  push_u8_keeps : OverStack (push_u8 stack code registers next)
  unfolding push_u8
  push_u8_keeps = sized OverStack _ _ (operand 1 code _) (λ refusal. stacked.refused refusal stack) (λ n. push_keeps (length memory) registers stack next r n)

  muli_all_keeps : OverStack (muli stack code registers next)
  unfolding muli
  muli_all_keeps = sized OverStack _ _ (operand 4 code _) (λ refusal. stacked.refused refusal stack) (λ n. muli_keeps (length memory) registers stack next r n)

  jump_all_goes : Goes asked (length memory) stack (jump_if_false stack code registers next)
  unfolding jump_if_false
  jump_all_goes = sized (Goes asked (length memory) stack) _ _ (operand 4 code _) (λ refusal. stops refusal) (λ target. jump_goes (length memory) registers stack next r target)

  m_st_all_keeps : Keeps asked (length memory) (m_st stack memory code registers next)
  unfolding m_st
  m_st_all_keeps =
      sized (Keeps asked (length memory)) _ _ (operand 1 code _) (λ refusal. refused refusal stack memory) (λ tag. m_st_keeps registers stack memory next r [] (tag % 256))

  m_sti_keeps : Keeps asked (length memory) (m_sti stack memory code registers next)
  unfolding m_sti m_sti_of
  m_sti_keeps =
      sized (Keeps asked (length memory)) _ _ (operand 2 code _) (λ refusal. refused refusal stack memory)
      (λ size. sized (Keeps asked (length memory)) _ _ (operand 1 code _) (λ refusal. refused refusal stack memory)
      (λ tag. sized (Keeps asked (length memory)) _ _ (operand 1 code _) (λ refusal. refused refusal stack memory)
      (λ signal. store_keeps registers stack memory next r _ registers.height (size % 65536) (tag % 256) (omega arith) (short size))))

  plain_keeps : (op count : ℕ) → OverStack (plain stack registers next op count)
  unfolding plain
  plain_keeps op count =
      either OverStack (eqb op MUL) _ _ (λ _. mul_keeps (length memory) registers stack next r)
      (λ _. either OverStack (eqb op LT) _ _ (λ _. compare_keeps (length memory) registers stack next r true)
      (λ _. either OverStack (eqb op GT) _ _ (λ _. compare_keeps (length memory) registers stack next r false)
      (λ _. either OverStack (eqb op DUP) _ _ (λ _. dup_keeps (length memory) registers stack next r)
      (λ _. either OverStack (eqb op SWAP) _ _ (λ _. swap_keeps (length memory) registers stack next r)
      (λ _. either OverStack (eqb op DROP) _ _ (λ _. stacked.unwritten (length memory) stack _ (drop_goes (length memory) registers stack next r))
      (λ _. either OverStack (eqb op DO) _ _ (λ _. stacked.unwritten (length memory) stack _ (do_goes (length memory) registers stack next r))
      (λ _. either OverStack (eqb op LOOP) _ _ (λ _. stacked.unwritten (length memory) stack _ (loop_goes (length memory) registers stack next r))
      (λ _. either OverStack (eqb op LOOP_INDEX) _ _ (λ _. loop_index_keeps (length memory) registers stack next r)
      (λ _. either OverStack (eqb op S_LEN) _ _ (λ _. push_keeps (length memory) registers stack next r count)
      (λ _. stacked.unwritten (length memory) stack _ (idle_goes (length memory) registers stack next r)))))))))))

  operated_keeps : (op count : ℕ) → OverStack (operated stack code registers next op count)
  unfolding operated
  operated_keeps op count =
      either OverStack (eqb op PUSH_U32) _ _ (λ _. push_u32_keeps)
      (λ _. either OverStack (eqb op PUSH_STATE) _ _ (λ _. push_u8_keeps)
      (λ _. either OverStack (eqb op PUSH_TASK_FIELD) _ _ (λ _. push_u8_keeps)
      (λ _. either OverStack (eqb op PUSH_MAX_STATES) _ _ (λ _. push_u8_keeps)
      (λ _. either OverStack (eqb op MULI) _ _ (λ _. muli_all_keeps)
      (λ _. either OverStack (eqb op JUMP_IF_FALSE) _ _ (λ _. stacked.unwritten (length memory) stack _ jump_all_goes)
      (λ _. plain_keeps op count))))))

  execute_keeps : (op count : ℕ) → Keeps asked (length memory) (execute stack memory code registers next op count)
  unfolding execute
  execute_keeps op count =
      either (Keeps asked (length memory)) (is_equality op) _ _ (λ _. beside memory _ (eq_keeps (length memory) registers stack next r memory (eqb op EQ)))
      (λ _. either (Keeps asked (length memory)) (eqb op M_STI) _ _ (λ _. m_sti_keeps)
      (λ _. either (Keeps asked (length memory)) (eqb op M_ST) _ _ (λ _. m_st_all_keeps)
      (λ _. either (Keeps asked (length memory)) (eqb op M_MUTA) _ _ (λ _. m_muta_keeps registers stack memory next r)
      (λ _. beside memory _ (operated_keeps op count)))))

-- ---- cut by the code's end

module _ {asked : Type 0} (registers : Registers) (stack : List ℕ) (lent : ℕ) (r : Registered asked lent registers stack) where
  cut_value_goes : (result : Result (ℕ × ℕ) Refusal) → Goes asked lent stack (cut_value result)
  unfolding cut_value
  cut_value_goes (Ok (value, height)) = stops _
  cut_value_goes (Err refusal) = stops refusal

  cut_size_goes : (result : Result (ℕ × ℕ) Refusal) → Goes asked lent stack (cut_size result)
  unfolding cut_size
  cut_size_goes (Ok (value, height)) = either (Goes asked lent stack) (ltb 65535 (to_u32 value)) _ _ (λ _. stops _) (λ _. stops _)
  cut_size_goes (Err refusal) = stops refusal

  cut_skip_goes : (result : Result (ℕ × ℕ) Refusal) → Pops stack registers.height result → Goes asked lent stack (cut_skip registers result)
  unfolding cut_skip
  cut_skip_goes _ (popped new less) =
      either (Goes asked lent stack) (eqb (get_or stack new 0) (to_bool_val false)) _ _ (λ _. stops _) (λ _. goes _ (lowered lent registers stack (registers.place + 5) new r (omega arith)))
  cut_skip_goes _ (not_popped refusal) = stops refusal

  cut_goes : (op : ℕ) → Goes asked lent stack (cut stack registers op)
  unfolding cut cut_muli cut_m_st cut_jump
  cut_goes op =
      either (Goes asked lent stack) (eqb op MULI) _ _ (λ _. cut_value_goes _)
      (λ _. either (Goes asked lent stack) (eqb op M_ST) _ _ (λ _. cut_size_goes _)
      (λ _. either (Goes asked lent stack) (eqb op JUMP_IF_FALSE) _ _ (λ _. cut_skip_goes _ (pops stack registers.height)) (λ _. stops _)))

by_extent_keeps : {asked : Type 0} (registers : Registers) (stack memory code : List ℕ) (op count : ℕ) (extent : Option ℕ) → Registered asked (length memory) registers stack
    → Keeps asked (length memory) (by_extent stack memory code registers op count extent)
unfolding by_extent
by_extent_keeps registers stack memory code op count (Some next) r = execute_keeps registers stack memory code next r op count
by_extent_keeps registers stack memory code op count None r = unwritten memory stack _ (cut_goes registers stack (length memory) r op)

pub instruct_keeps : {asked : Type 0} (registers : Registers) (stack memory code : List ℕ) (count : ℕ) → Registered asked (length memory) registers stack
    → Keeps asked (length memory) (instruct stack memory code registers count)
unfolding instruct
instruct_keeps registers stack memory code count r = by_extent_keeps registers stack memory code _ count (extent code registers.place) r
