-- An instruction that needs no task, frame or pool, as the code goes about it, is what its opcode does.
use Prim.Native.Nat.{ℕ, ◌+◌, ◌%◌, ◌<◌, ◌≤◌}
use mathlib.Core.Bool.{Bool, true, false, cond, ◌&&◌}
use mathlib.Core.List.{List, [], ◌++◌}
use mathlib.Core.Path.{◌≡◌, refl, ◌∙◌}
use native.Mathlib.Omega.{arith}
use lib.Dec.{eqb, ltb, leb}
use lib.ListN.{length, get_or, take, drop}
use borrow.Author.Tests.{leb-true, leb-false, ltb-true, ltb-false, le-leb, lt-leb, lt-ltb, le-ltb}
use Rattle.errors.specs.declared.Refusal.{Refusal}
use Rattle.errors.specs.declared.Refusal.TheVariants.{UnexpectedEOB, StackOverflow}
use Rattle.bytecode.specs.Opcodes.{PUSH_U32, JUMP_IF_FALSE, M_STI, M_ST, MULI}
use Rattle.bytecode.specs.Operands as operands
use Rattle.inlinevec.specs.Stacks as stacks
use Rattle.values.specs.Values.{is_vec, raw_tag, to_u32, to_u32_val, to_bool_val, bool_not, to_fat_pointer, turned, mul_checked, mul_checked_i, value_cmp}
use Rattle.values.specs.declared.FatPointer.{FatPointer}
use Rattle.memory.specs.Allocation as allocation
use Rattle.machine.specs.Machines.{placed}
use Rattle.machine.specs.World.{World, code, place, height, memory_in_use, moved, looping, with_memory}
use Rattle.machine.specs.Words.{StepResult, next, refused, test, pop, popped, looked_at, push, calculated, pointed, allocated, store, element_changed, loop_pushed, loop_popped, loop_looked_at, operand_found, push_loop, next_round}
use Rattle.machine.specs.Opcodes as opcodes
use Rattle.mechanism.specs.Registers.{on_memory, registers_of, settled}
use Rattle.mechanism.specs.Stack.{pop_two, pop_first, pop_second, pushed_to, push_value, finish, on_one, on_two, op_push, op_mul, op_compare, op_muli, op_dup, dup_last, op_swap, swapped, op_drop, dropped}
use Rattle.mechanism.specs.Control.{op_do, do_two, opened_to, op_loop, looped, op_loop_index, index_of}
use Rattle.mechanism.specs.Equality.{op_eq, turned_if, eq_values, eq_vectors}
use Rattle.mechanism.specs.Store as storing
use Rattle.mechanism.specs.Store.{placed as allocated-at, full, full_by, op_m_st, sized, op_m_muta, mutate_two, mutate_last, mutate, mutate_at, mutated, mut_in_use, changed_to}
use Rattle.mechanism.specs.Control.{op_jump_if_false, jumped}
use Rattle.mechanism.specs.Operated.{with_operand, push_u32, push_u8, muli, jump_if_false, m_st, m_sti, m_sti_of, payload_of}
use Rattle.mechanism.specs.Cut.{cut, cut_muli, cut_value, cut_m_st, cut_size, cut_jump, cut_skip}
use Rattle.mechanism.specs.Execute.{kept, changed, operated, is_equality, execute, by_extent}
use Rattle.mechanism.specs.Step.{inner_result, on_registers}
use Rattle.mechanism.specs.declared.Registers.{Registers}
use Rattle.mechanism.proofs.Settled.{on_bool}
use Rattle.mechanism.proofs.Operands.{up_to, one_byte}
use Rattle.std.specs.Prelude.{Ok, Err, Result, Option, ⊤}
use Rattle.inlinevec.specs.declared.Loop.{Loop}
use Rattle.inlinevec.specs.declared.Two.{Two}

module _ (w : World) where
  abbrev r : Registers
  r = registers_of w.machine

  -- ---- values off the stack

  pub one_off : (F : Result (ℕ × ℕ) Refusal → StepResult) (K : ℕ → ℕ → StepResult) → ((refusal : Refusal) → F (Err refusal) ≡ refused refusal)
      → ((value below : ℕ) → F (Ok (value, below)) ≡ K value below) → (a : Result (ℕ × ℕ) Refusal) → F a ≡ popped a K
  unfolding popped
  one_off F K bad good (Ok (value, below)) = good value below
  one_off F K bad good (Err refusal) = bad refusal

  pub two_off : (F : Result (ℕ × ℕ × ℕ) Refusal → StepResult) (K : ℕ → ℕ → ℕ → StepResult) → ((refusal : Refusal) → F (Err refusal) ≡ refused refusal)
      → ((first second below : ℕ) → F (Ok (first, second, below)) ≡ K first second below) → (height : ℕ)
      → F (pop_two w.stack height) ≡ (pop w height λ first above. pop w above λ second below. K first second below)
  unfolding pop_two pop_first pop_second popped
  two_off F K bad good height = on_first (stacks.pop w.stack height)
    where
      on_second : (first : ℕ) (b : Result (ℕ × ℕ) Refusal) → F (pop_second first b) ≡ popped b (K first)
      on_second first (Ok (second, below)) = good first second below
      on_second first (Err refusal) = bad refusal

      on_first : (a : Result (ℕ × ℕ) Refusal) → F (pop_first w.stack a) ≡ popped a (λ first above. pop w above λ second below. K first second below)
      on_first (Ok (first, above)) = on_second first (stacks.pop w.stack above)
      on_first (Err refusal) = bad refusal

  -- ---- a value pushed

  pub pushes : (to height value : ℕ) → on_registers w (kept (push_value w.stack r to height value) w.memory) ≡ push w to height value
  unfolding push_value stacks.push stacks.if_room pushed_to inner_result push test settled placed registers_of
  pushes to height value = on_bool (ltb height 1000) (λ t. rw t) (λ t. rw t)

  pub finishes : (to height : ℕ) (result : Result ℕ Refusal) → on_registers w (kept (finish w.stack r to height result) w.memory) ≡ calculated result (push w to height)
  unfolding finish calculated inner_result
  finishes to height (Ok value) = pushes to height value
  finishes to height (Err refusal) = refl

  on_two_is : (calculate : ℕ → ℕ → Result ℕ Refusal) (to height : ℕ)
      → on_registers w (kept (on_two calculate w.stack r to (pop_two w.stack height)) w.memory)
      ≡ (pop w height λ first above. pop w above λ second below. calculated (calculate first second) (push w to below))
  unfolding on_two inner_result
  on_two_is calculate to height =
      two_off (λ a. on_registers w (kept (on_two calculate w.stack r to a) w.memory)) (λ first second below. calculated (calculate first second) (push w to below))
      (λ refusal. refl) (λ first second below. finishes to below (calculate first second)) height

  -- ---- opcodes over the stack alone

  pub mul_is : on_registers w (kept (op_mul w.stack r (place w + 1)) w.memory) ≡ opcodes.mul w
  unfolding op_mul opcodes.mul registers_of
  mul_is = on_two_is mul_checked (place w + 1) (height w)

  pub compare_is : (is_lt : Bool) → on_registers w (kept (op_compare w.stack r (place w + 1) is_lt) w.memory) ≡ opcodes.compare is_lt w
  unfolding op_compare opcodes.compare registers_of
  compare_is is_lt = on_two_is (λ right left. value_cmp left right is_lt) (place w + 1) (height w)

  pub muli_is : (to number : ℕ) → on_registers w (kept (op_muli w.stack r to number) w.memory) ≡ (pop w (height w) λ left below. calculated (mul_checked_i left number) (push w to below))
  unfolding op_muli on_one inner_result registers_of
  muli_is to number =
      one_off (λ a. on_registers w (kept (on_one (λ value. mul_checked_i value number) w.stack r to a) w.memory)) (λ left below. calculated (mul_checked_i left number) (push w to below))
      (λ refusal. refl) (λ left below. finishes to below (mul_checked_i left number)) (stacks.pop w.stack (height w))

  pub dup_is : on_registers w (kept (op_dup w.stack r (place w + 1)) w.memory) ≡ opcodes.dup w
  unfolding op_dup dup_last opcodes.dup looked_at inner_result registers_of
  dup_is = by (stacks.last w.stack (height w))
    where
      by : (a : Result ℕ Refusal) → on_registers w (kept (dup_last w.stack r (place w + 1) a) w.memory) ≡ looked_at a (push w (place w + 1) (height w))
      by (Ok value) = pushes (place w + 1) (height w) value
      by (Err refusal) = refl

  pub swap_is : on_registers w (kept (op_swap w.stack r (place w + 1)) w.memory) ≡ opcodes.swap w
  unfolding op_swap swapped opcodes.swap inner_result settled placed registers_of
  swap_is =
      two_off (λ a. on_registers w (kept (swapped w.stack r (place w + 1) a) w.memory)) _
      (λ refusal. refl) (λ first second below. refl) (height w)

  pub drops_is : on_registers w (on_memory (op_drop w.stack r (place w + 1)) w.stack w.memory) ≡ opcodes.drops w
  unfolding op_drop dropped opcodes.drops inner_result settled placed registers_of
  drops_is =
      one_off (λ a. on_registers w (on_memory (dropped r (place w + 1) a) w.stack w.memory)) _
      (λ refusal. refl) (λ value below. refl) (stacks.pop w.stack (height w))

  pub s_len_is : on_registers w (kept (op_push w.stack r (place w + 1) w.machine.count) w.memory) ≡ opcodes.s_len w
  unfolding op_push opcodes.s_len registers_of
  s_len_is = pushes (place w + 1) (height w) (to_u32_val w.machine.count)

  -- ---- loops

  opened : (to height : ℕ) (a : Result (Two Loop) Refusal) → on_registers w (on_memory (opened_to r to height a) w.stack w.memory) ≡ loop_pushed a (λ loops. next (looping (moved w to height) loops))
  unfolding opened_to loop_pushed inner_result settled placed registers_of
  opened to height (Ok loops) = refl
  opened to height (Err refusal) = refl

  pub do_is : on_registers w (on_memory (op_do w.stack r (place w + 1)) w.stack w.memory) ≡ opcodes.«do» w
  unfolding op_do do_two opcodes.«do» inner_result registers_of
  do_is =
      two_off (λ a. on_registers w (on_memory (do_two r (place w + 1) a) w.stack w.memory)) _
      (λ refusal. refl) (λ index limit below. opened (place w + 1) below _) (height w)

  pub loop_is : on_registers w (on_memory (op_loop r (place w + 1)) w.stack w.memory) ≡ opcodes.loop w
  unfolding op_loop looped opcodes.loop loop_popped inner_result settled placed registers_of
  loop_is = by (stacks.pop_off w.machine.loops)
    where
      by : (a : Result (Loop × Two Loop) Refusal) → on_registers w (on_memory (looped r (place w + 1) a) w.stack w.memory)
          ≡ loop_popped a (λ innermost others. cond (ltb (innermost.index + 1) innermost.limit)
          (push_loop others (next_round innermost) λ loops. next (looping (moved w innermost.place (height w)) loops))
          (next (looping (opcodes.onward w (height w)) others)))
      by (Ok (innermost, others)) =
          on_bool (ltb (innermost.index + 1) innermost.limit) (λ t. rw t (opened innermost.place (height w) _)) (λ t. rw t)
      by (Err refusal) = refl

  pub loop_index_is : on_registers w (kept (op_loop_index w.stack r (place w + 1)) w.memory) ≡ opcodes.loop_index w
  unfolding op_loop_index index_of opcodes.loop_index loop_looked_at inner_result registers_of
  loop_index_is = by (stacks.last_on w.machine.loops)
    where
      by : (a : Result Loop Refusal) → on_registers w (kept (index_of w.stack r (place w + 1) a) w.memory) ≡ loop_looked_at a (λ innermost. push w (place w + 1) (height w) (to_u32_val innermost.index))
      by (Ok innermost) = pushes (place w + 1) (height w) (to_u32_val innermost.index)
      by (Err refusal) = refl

  -- ---- equality

  equal_is : (left right : ℕ) (k : ℕ → StepResult) → calculated (eq_values (memory_in_use w) left right) k ≡ opcodes.equal w left right k
  unfolding eq_values eq_vectors opcodes.equal calculated test
  equal_is left right k =
      on_bool (is_vec left && is_vec right)
      (λ t. rw t (on_bool (eqb (raw_tag left) (raw_tag right)) (λ u. rw u) (λ u. rw u)))
      (λ t. rw t)

  turned_round : (result : Result ℕ Refusal) (k : ℕ → StepResult) → calculated (turned result) k ≡ calculated result (λ answer. k (bool_not answer))
  unfolding turned calculated
  turned_round (Ok value) k = refl
  turned_round (Err refusal) k = refl

  eq_with : (is_eq : Bool) (to : ℕ) (K : ℕ → ℕ → ℕ → StepResult)
      → ((right left below : ℕ) → calculated (turned_if is_eq (eq_values (memory_in_use w) left right)) (push w to below) ≡ K right left below)
      → on_registers w (kept (op_eq w.stack w.memory r to is_eq) w.memory) ≡ (pop w (height w) λ right above. pop w above λ left below. K right left below)
  unfolding op_eq on_two inner_result registers_of
  eq_with is_eq to K answers =
      two_off (λ a. on_registers w (kept (on_two (λ right left. turned_if is_eq (eq_values (memory_in_use w) left right)) w.stack r to a) w.memory)) K
      (λ refusal. refl) (λ right left below. finishes to below _ ∙ answers right left below) (height w)

  pub eq_is : on_registers w (kept (op_eq w.stack w.memory r (place w + 1) true) w.memory) ≡ opcodes.eq w
  unfolding opcodes.eq turned_if
  eq_is = eq_with true (place w + 1) _ (λ right left below. equal_is left right (push w (place w + 1) below))

  pub neq_is : on_registers w (kept (op_eq w.stack w.memory r (place w + 1) false) w.memory) ≡ opcodes.neq w
  unfolding opcodes.neq turned_if
  neq_is = eq_with false (place w + 1) _ (λ right left below. turned_round _ (push w (place w + 1) below) ∙ equal_is left right (λ answer. push w (place w + 1) below (bool_not answer)))

  -- ---- memory

  abbrev filled : List ℕ → ℕ → ℕ → Result ℕ Refusal → allocation.AfterAllocation
  filled payload size tag a = allocation.vector_stored w.memory payload w.machine.memory size (allocation.offset_aligned w.machine.memory tag) a

  pub stores : (to height size tag : ℕ) (payload : List ℕ) → on_registers w (storing.store w.stack w.memory payload r to height size tag) ≡ store w to height size tag payload
  unfolding storing.store full full_by allocated-at allocation.alloc allocation.vector_stored store calculated allocated test inner_result settled placed registers_of
  stores to height size tag payload = by (allocation.vector w.machine.memory size tag)
    where
      at : (a : Result (ℕ × ℕ) Refusal) (memory : List ℕ) → on_registers w (allocated-at w.stack r to height memory a) ≡ allocated w to height memory a
      at (Ok (value, used)) memory = refl
      at (Err refusal) memory = refl

      by : (a : Result ℕ Refusal) → on_registers w (cond (leb 1000 height) (on_memory (Err (full_by a)) w.stack w.memory) (allocated-at w.stack r to height (filled payload size tag a).memory (filled payload size tag a).answer))
          ≡ calculated a (λ value. test (ltb height 1000) StackOverflow (allocated w to height (filled payload size tag a).memory (filled payload size tag a).answer))
      by (Ok value) =
          on_bool (ltb height 1000)
          (λ t. rw (t, lt-leb 1000 height (ltb-true height 1000 t)) (at (filled payload size tag (Ok value)).answer (filled payload size tag (Ok value)).memory))
          (λ t. rw (t, le-leb 1000 height (ltb-false height 1000 t)))
      by (Err refusal) = on_bool (leb 1000 height) (λ t. rw t) (λ t. rw t)

  pub m_muta_is : on_registers w (changed w.stack (op_m_muta w.stack w.memory r (place w + 1))) ≡ opcodes.m_muta w
  unfolding op_m_muta mutate_two mutate_last mutate mutate_at mutated mut_in_use opcodes.m_muta looked_at pointed element_changed inner_result settled placed registers_of
  m_muta_is =
      two_off (λ a. on_registers w (changed w.stack (mutate_two w.stack w.memory r (place w + 1) a))) _
      (λ refusal. refl) (λ payload index below. on_last payload index below (stacks.last w.stack below)) (height w)
    where
      on_change : (payload index below value : ℕ) (v : FatPointer) (a : Result ⊤ Refusal) (m : List ℕ)
          → on_registers w (changed w.stack (changed_to (mutated r (place w + 1) below a) (m ++ drop w.machine.memory w.memory)))
          ≡ element_changed a (next (with_memory (opcodes.onward w below) (m ++ drop w.machine.memory w.memory) w.machine.memory))
      on_change payload index below value v (Ok tt) m = refl
      on_change payload index below value v (Err refusal) m = refl

      on_pointer : (payload index below value : ℕ) (a : Result FatPointer Refusal)
          → on_registers w (changed w.stack (mutate_at w.memory r (place w + 1) below (record { 0 = to_u32 index }) (to_u32 payload) (raw_tag value) a))
          ≡ pointed a (λ v. element_changed (opcodes.changing w value v index payload).answer (next (with_memory (opcodes.onward w below) ((opcodes.changing w value v index payload).memory ++ drop w.machine.memory w.memory) w.machine.memory)))
      on_pointer payload index below value (Ok v) = on_change payload index below value v (opcodes.changing w value v index payload).answer (opcodes.changing w value v index payload).memory
      on_pointer payload index below value (Err refusal) = refl

      on_last : (payload index below : ℕ) (a : Result ℕ Refusal)
          → on_registers w (changed w.stack (mutate_last w.memory r (place w + 1) below payload index a))
          ≡ looked_at a (λ value. pointed (to_fat_pointer value) λ v. element_changed (opcodes.changing w value v index payload).answer (next (with_memory (opcodes.onward w below) ((opcodes.changing w value v index payload).memory ++ drop w.machine.memory w.memory) w.machine.memory)))
      on_last payload index below (Ok value) = on_pointer payload index below value (to_fat_pointer value)
      on_last payload index below (Err refusal) = refl

  -- ---- opcodes with operands, whole or cut by the code's end

  abbrev at_extent : ℕ → Option ℕ → StepResult
  at_extent op reach = on_registers w (by_extent w.stack w.memory (code w) r op w.machine.count reach)

  abbrev on : ℕ → ℕ
  on size = place w + 1 + size

  behind : (size more : ℕ) → more ≡ 1 + size → on size ≡ place w + more
  behind size more e = omega arith

  pub push_u32_is : at_extent PUSH_U32 (up_to (code w) (on 4)) ≡ opcodes.push_u32 w
  unfolding by_extent execute is_equality operated cut push_u32 op_push with_operand operands.operand opcodes.push_u32 operand_found inner_result registers_of
  push_u32_is =
      on_bool (leb (on 4) (length (code w))) (λ t. rw (t, t, behind 4 5 refl) (pushes (place w + 5) (height w) _)) (λ t. rw t)

  pub push_byte_is : (op : ℕ) → execute w.stack w.memory (code w) r (on 1) op w.machine.count ≡ kept (push_u8 w.stack (code w) r (on 1)) w.memory → cut w.stack r op ≡ Err UnexpectedEOB
      → at_extent op (up_to (code w) (on 1)) ≡ opcodes.push_byte w
  unfolding by_extent push_u8 op_push with_operand operands.operand opcodes.push_byte operand_found inner_result registers_of
  push_byte_is op whole short =
      on_bool (leb (on 1) (length (code w))) (λ t. rw (t, whole, t, behind 1 2 refl) (pushes (place w + 2) (height w) _)) (λ t. rw (t, short))

  pub muli_at : at_extent MULI (up_to (code w) (on 4)) ≡ opcodes.muli w
  unfolding by_extent execute is_equality operated cut cut_muli cut_value muli with_operand operands.operand opcodes.muli operand_found inner_result registers_of
  muli_at =
      on_bool (leb (on 4) (length (code w))) (λ t. rw (t, t, behind 4 5 refl) (muli_is (place w + 5) _))
      (λ t. rw t (one_off (λ a. on_registers w (on_memory (cut_value a) w.stack w.memory)) _ (λ refusal. refl) (λ value below. refl) (stacks.pop w.stack (height w))))

  pub jump_if_false_is : at_extent JUMP_IF_FALSE (up_to (code w) (on 4)) ≡ opcodes.jump_if_false w
  unfolding by_extent execute is_equality operated cut cut_jump cut_skip jump_if_false op_jump_if_false jumped with_operand operands.operand opcodes.jump_if_false operand_found inner_result settled placed registers_of
  jump_if_false_is =
      on_bool (leb (on 4) (length (code w)))
      (λ t. rw (t, t, behind 4 5 refl) (one_off (λ a. on_registers w (on_memory (jumped r (place w + 5) (operands.big_endian 4 (code w) (place w + 1)) a) w.stack w.memory)) _ (λ refusal. refl)
      (λ value below. on_bool (eqb value (to_bool_val false)) (λ f. rw f) (λ f. rw f)) (stacks.pop w.stack (height w))))
      (λ t. rw t (one_off (λ a. on_registers w (on_memory (cut_skip r a) w.stack w.memory)) _ (λ refusal. refl)
      (λ value below. on_bool (eqb value (to_bool_val false)) (λ f. rw f) (λ f. rw f)) (stacks.pop w.stack (height w))))

  pub m_st_is : at_extent M_ST (up_to (code w) (on 1)) ≡ opcodes.m_st w
  unfolding by_extent execute is_equality cut cut_m_st cut_size m_st op_m_st sized with_operand operands.operand opcodes.m_st operand_found test inner_result registers_of
  m_st_is =
      on_bool (leb (on 1) (length (code w)))
      (λ t. rw (t, t, behind 1 2 refl) (one_off (λ a. on_registers w (sized w.stack w.memory [] r (place w + 2) (operands.big_endian 1 (code w) (place w + 1) % 256) a)) _ (λ refusal. refl)
      (λ value below. on_bool (leb (to_u32 value) 65535)
      (λ f. rw (f, le-ltb 65535 (to_u32 value) (leb-true (to_u32 value) 65535 f)) (stores (place w + 2) below _ _ []))
      (λ f. rw (f, lt-ltb 65535 (to_u32 value) (leb-false (to_u32 value) 65535 f)))) (stacks.pop w.stack (height w))))
      (λ t. rw t (one_off (λ a. on_registers w (on_memory (cut_size a) w.stack w.memory)) _ (λ refusal. refl)
      (λ value below. on_bool (leb (to_u32 value) 65535)
      (λ f. rw (f, le-ltb 65535 (to_u32 value) (leb-true (to_u32 value) 65535 f)))
      (λ f. rw (f, lt-ltb 65535 (to_u32 value) (leb-false (to_u32 value) 65535 f)))) (stacks.pop w.stack (height w))))

  -- M_STI: the payload counts to it if the signal is 1
  abbrev sti_size : ℕ
  sti_size = operands.big_endian 2 (code w) (place w + 1)

  sti_there : (size behind : ℕ) → place w + behind + size ≤ length (code w) → operands.operand size (code w) (place w + behind) ≡ Ok (operands.big_endian size (code w) (place w + behind))
  unfolding operands.operand
  sti_there size behind fits = rw (le-leb (place w + behind + size) (length (code w)) fits)

  sti_cut : (size behind : ℕ) → leb (place w + behind + size) (length (code w)) ≡ false → operands.operand size (code w) (place w + behind) ≡ Err UnexpectedEOB
  unfolding operands.operand
  sti_cut size behind short = rw short

  sti_whole : (b : Bool) → eqb (get_or (code w) (place w + 4) 0) 1 ≡ b → on 4 + cond b sti_size 0 ≤ length (code w)
      → on_registers w (m_sti w.stack w.memory (code w) r (on 4 + cond b sti_size 0)) ≡ opcodes.m_sti w
  unfolding m_sti with_operand m_sti_of payload_of opcodes.m_sti operand_found test registers_of
  sti_whole true e fits =
      let z : on 4 + sti_size ≡ place w + 5 + sti_size = omega arith in
      rw (sti_there 2 1 (omega arith), sti_there 1 3 (omega arith), sti_there 1 4 (omega arith), one_byte (code w) (place w + 4), e, le-leb (place w + 5 + sti_size) (length (code w)) (omega arith), z)
      (stores (place w + 5 + sti_size) (height w) (sti_size % 65536) (operands.big_endian 1 (code w) (place w + 3) % 256) (take sti_size (drop (place w + 5) (code w))))
  sti_whole false e fits =
      let z : on 4 + 0 ≡ place w + 5 = omega arith in
      rw (sti_there 2 1 (omega arith), sti_there 1 3 (omega arith), sti_there 1 4 (omega arith), one_byte (code w) (place w + 4), e, z)
      (stores (place w + 5) (height w) (sti_size % 65536) (operands.big_endian 1 (code w) (place w + 3) % 256) [])

  sti_short : (b : Bool) → eqb (get_or (code w) (place w + 4) 0) 1 ≡ b → length (code w) < on 4 + cond b sti_size 0 → refused UnexpectedEOB ≡ opcodes.m_sti w
  unfolding opcodes.m_sti operand_found test
  sti_short b e short =
      on_bool (leb (place w + 1 + 2) (length (code w)))
      (λ one. on_bool (leb (place w + 3 + 1) (length (code w)))
      (λ two. on_bool (leb (place w + 4 + 1) (length (code w)))
      (λ three. rw (sti_there 2 1 (leb-true _ _ one), sti_there 1 3 (leb-true _ _ two), sti_there 1 4 (leb-true _ _ three), one_byte (code w) (place w + 4), e) (at_the_end b short (leb-true _ _ three)))
      (λ three. rw (sti_there 2 1 (leb-true _ _ one), sti_there 1 3 (leb-true _ _ two), sti_cut 1 4 three)))
      (λ two. rw (sti_there 2 1 (leb-true _ _ one), sti_cut 1 3 two)))
      (λ one. rw (sti_cut 2 1 one))
    where
      at_the_end : (d : Bool) → length (code w) < on 4 + cond d sti_size 0 → place w + 4 + 1 ≤ length (code w)
          → refused UnexpectedEOB ≡ cond d (cond (leb (place w + 5 + sti_size) (length (code w)))
          (store w (place w + 5 + sti_size) (height w) (sti_size % 65536) (operands.big_endian 1 (code w) (place w + 3) % 256) (take sti_size (drop (place w + 5) (code w)))) (refused UnexpectedEOB))
          (store w (place w + 5) (height w) (sti_size % 65536) (operands.big_endian 1 (code w) (place w + 3) % 256) [])
      at_the_end true past three = rw (lt-leb (place w + 5 + sti_size) (length (code w)) (omega arith))
      at_the_end false past three = absurd (omega arith)

  pub m_sti_is : at_extent M_STI (up_to (code w) (on 4 + cond (eqb (get_or (code w) (place w + 4) 0) 1) sti_size 0)) ≡ opcodes.m_sti w
  unfolding by_extent execute is_equality cut inner_result
  m_sti_is =
      on_bool (leb (on 4 + cond (eqb (get_or (code w) (place w + 4) 0) 1) sti_size 0) (length (code w)))
      (λ t. rw t (sti_whole (eqb (get_or (code w) (place w + 4) 0) 1) refl (leb-true _ _ t)))
      (λ t. rw t (sti_short (eqb (get_or (code w) (place w + 4) 0) 1) refl (leb-false _ _ t)))
