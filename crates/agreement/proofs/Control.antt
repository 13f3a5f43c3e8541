-- The opcodes with an operand and the loops, beside the Rust's arms.
use Prim.Native.Nat.{ℕ, zero, suc, ◌+◌, ◌≤◌, ◌<◌}
use mathlib.Core.Bool.{Bool, true, false, cond}
use mathlib.Core.Path.{◌≡◌, refl, ap}
use mathlib.Core.List.{List, [], ◌∷◌}
use native.Mathlib.Omega.{arith}
use lib.Dec.{eqb, ltb, leb}
use lib.ListN.{length, get_or, take}
use borrow.Author.Tests.{ltb-true, le-leb, ne_eqb}
use Rattle.bytecode.specs.Opcodes.{PUSH_U32, PUSH_STATE, PUSH_TASK_FIELD, PUSH_MAX_STATES, MULI, JUMP_IF_FALSE}
use Rattle.bytecode.specs.Operands.{big_endian}
use Rattle.errors.specs.declared.Refusal.TheVariants as refusal
use Rattle.slices.specs.Numbers.{Bytes}
use Rattle.inlinevec.specs.Stacks.{if_room, if_some, values_of, two_of, push_two, pop_two, last_two, loops_of, push_onto, pop_off, last_on}
use Rattle.inlinevec.specs.declared.Two.{Two}
use Rattle.inlinevec.specs.declared.Loop.{Loop}
use Rattle.inlinevec.proofs.Lists.{pushed_two, popped_two, length_two}
use Rattle.pools.specs.Pool.{entries_of}
use Rattle.values.specs.Values.{to_u32_val, mul_checked_i, to_bool_val}
use Rattle.mechanism.specs.Registers.{on_memory}
use Rattle.mechanism.specs.Stack.{finish, op_push, on_one, op_muli}
use Rattle.mechanism.specs.Control.{looping, opened_to, do_two, op_do, looped, op_loop, index_of, op_loop_index, jumped, op_jump_if_false}
use Rattle.mechanism.specs.declared.Registers.{Registers}
use Rattle.mechanism.specs.Cut.{cut, cut_value, cut_muli, cut_skip, cut_jump}
use Rattle.mechanism.specs.Operated.{with_operand, push_u32, push_u8, muli, jump_if_false}
use Rattle.mechanism.specs.Execute.{kept, operated, is_equality, execute, by_extent}
use Rattle.machine.specs.Machines.{current}
use Rattle.mechanism.specs.Registers.{registers_of}
use Rattle.machine.specs.World.{World, code, place}
use Rattle.machine.specs.Words.{StepResult, refused}
use Rattle.mechanism.specs.Step.{inner_result}
use Rattle.rust.specs.Errors.{StackUnderflow, StackOverflow, Out, ok, panic}
use Rattle.rust.specs.InlineVec as inlinevec
use Rattle.rust.specs.Helpers.{byte, prepare_u32_from_be_checked}
use Rattle.rust.specs.Values as values
use Rattle.rust.specs.Vm as rust
use Rattle.rust.specs.Vm.{VM, at, pushes, with_control_stack}
use Rattle.agreement.specs.View.{callers, storage_of, shown, view}
use Rattle.agreement.specs.Agreement.{Agree, errs, panics}
use Rattle.agreement.proofs.Facts.{Facts}
use Rattle.agreement.proofs.Laws.{same, one_off, two_off}
use Rattle.agreement.proofs.Views.{stepped, goes, moves, pushed}
use Rattle.agreement.proofs.Values.{muli_agrees}
use Rattle.agreement.proofs.Stack.{finished, missed}
use Rattle.mechanism.proofs.Operands.{up_to, operand_there, one_byte}
use Rattle.std.specs.Prelude.{Ok, Err, Result, Option, Some, None}
use Rattle.errors.specs.declared.Refusal.{Refusal}

none_of : (two : Two Loop) → two.count ≡ 0 → two_of two ≡ []
unfolding two_of
none_of two e = rw e

fewer : (two : Two Loop) → two.count ≤ 2 → (pop_two two).count ≤ 2
unfolding pop_two
fewer two few = omega arith

module _ (w : World) (stale : ℕ) (h : Facts w) (bytes : Bytes w.pool) where
  abbrev r : Registers
  r = registers_of w.machine

  abbrev c : List ℕ
  c = code w

  abbrev p : ℕ
  p = place w

  -- an instruction by its extent
  abbrev by : ℕ → Option ℕ → StepResult
  by op reach = stepped w (by_extent w.stack w.memory c r op w.machine.count reach)

  pub push_u32_agrees : Agree w (by PUSH_U32 (up_to c (p + 1 + 4))) (rust.push_u32 c (p + 1) (view stale w))
  unfolding rust.push_u32 prepare_u32_from_be_checked by_extent execute is_equality operated push_u32 with_operand op_push registers_of view cut inner_result
  push_u32_agrees =
      same (by PUSH_U32) (leb (p + 1 + 4) (length c))
      (λ t. rw (operand_there 4 c (p + 1) t) (pushed w stale bytes h (p + 1 + 4) w.machine.height (to_u32_val (big_endian 4 c (p + 1)))))
      (λ t. panics)

  -- PUSH_STATE, PUSH_TASK_FIELD, PUSH_MAX_STATES
  byte_pushed : leb (p + 1 + 1) (length c) ≡ true → Agree w (stepped w (kept (push_u8 w.stack c r (p + 1 + 1)) w.memory)) (pushes (view stale w) (p + 1 + 1) (values_of w.machine.height w.stack) (to_u32_val (get_or c (p + 1) 0)))
  unfolding push_u8 with_operand op_push registers_of
  byte_pushed t = rw (operand_there 1 c (p + 1) t, one_byte c (p + 1)) (pushed w stale bytes h (p + 1 + 1) w.machine.height (to_u32_val (get_or c (p + 1) 0)))

  pub push_state_agrees : Agree w (by PUSH_STATE (up_to c (p + 1 + 1))) (rust.push_state c (p + 1) (view stale w))
  unfolding rust.push_state byte by_extent execute is_equality operated view cut inner_result
  push_state_agrees = same (by PUSH_STATE) (leb (p + 1 + 1) (length c)) byte_pushed (λ t. panics)

  pub push_task_field_agrees : Agree w (by PUSH_TASK_FIELD (up_to c (p + 1 + 1))) (rust.push_state c (p + 1) (view stale w))
  unfolding rust.push_state byte by_extent execute is_equality operated view cut inner_result
  push_task_field_agrees = same (by PUSH_TASK_FIELD) (leb (p + 1 + 1) (length c)) byte_pushed (λ t. panics)

  pub push_max_states_agrees : Agree w (by PUSH_MAX_STATES (up_to c (p + 1 + 1))) (rust.push_state c (p + 1) (view stale w))
  unfolding rust.push_state byte by_extent execute is_equality operated view cut inner_result
  push_max_states_agrees = same (by PUSH_MAX_STATES) (leb (p + 1 + 1) (length c)) byte_pushed (λ t. panics)

  -- MULI pops before its operand is looked at
  muli_by : (b : Bool) → leb (p + 1 + 4) (length c) ≡ b
      → Agree w (by MULI (cond b (Some (p + 1 + 4)) None))
      (inlinevec.pop (values_of w.machine.height w.stack) λ lhs st. cond b (values.mul_checked_i lhs (big_endian 4 c (p + 1)) λ res. pushes (view stale w) (p + 1 + 4) st res) panic)
  unfolding by_extent execute is_equality operated muli with_operand op_muli on_one registers_of cut cut_muli cut_value inner_result
  muli_by true t =
      rw (operand_there 4 c (p + 1) t)
      (one_off w.stack w.machine.height h.height (λ (o : Result (ℕ × ℕ) Refusal). stepped w (kept (on_one (λ value. mul_checked_i value (big_endian 4 c (p + 1))) w.stack r (p + 1 + 4) o) w.memory)) _ refl
      (λ i e. muli_agrees (λ (v : Result ℕ Refusal). stepped w (kept (finish w.stack r (p + 1 + 4) i v) w.memory)) _ (finished w stale h bytes (p + 1 + 4) i) (missed w stale h bytes (p + 1 + 4) i) _ _))
  muli_by false t =
      one_off w.stack w.machine.height h.height (λ (o : Result (ℕ × ℕ) Refusal). stepped w (on_memory (cut_value o) w.stack w.memory)) _ refl
      (λ i e. panics)

  pub muli_op_agrees : Agree w (by MULI (up_to c (p + 1 + 4))) (rust.muli c (p + 1) (view stale w))
  unfolding rust.muli prepare_u32_from_be_checked view
  muli_op_agrees = muli_by (leb (p + 1 + 4) (length c)) refl

  -- JUMP_IF_FALSE looks at its operand on FALSE only
  jump_by : (b : Bool) → leb (p + 1 + 4) (length c) ≡ b
      → Agree w (by JUMP_IF_FALSE (cond b (Some (p + 1 + 4)) None))
      (inlinevec.pop (values_of w.machine.height w.stack) λ v st. cond (eqb v (to_bool_val false)) (cond b (ok (at (view stale w) (big_endian 4 c (p + 1)) st)) panic) (ok (at (view stale w) (p + 1 + 4) st)))
  unfolding by_extent execute is_equality operated jump_if_false with_operand op_jump_if_false jumped registers_of cut cut_jump cut_skip inner_result
  jump_by true t =
      rw (operand_there 4 c (p + 1) t)
      (one_off w.stack w.machine.height h.height (λ (o : Result (ℕ × ℕ) Refusal). stepped w (on_memory (jumped r (p + 1 + 4) (big_endian 4 c (p + 1)) o) w.stack w.memory)) _ refl
      (λ i e. same (λ d. stepped w (on_memory d w.stack w.memory)) (eqb (get_or w.stack i 0) (to_bool_val false))
      (λ u. moves w stale bytes (big_endian 4 c (p + 1)) i w.stack _ refl)
      (λ u. moves w stale bytes (p + 1 + 4) i w.stack _ refl)))
  jump_by false t =
      let z : p + 5 ≡ p + 1 + 4 = omega arith in
      one_off w.stack w.machine.height h.height (λ (o : Result (ℕ × ℕ) Refusal). stepped w (on_memory (cut_skip r o) w.stack w.memory)) _ refl
      (λ i e. rw z
      (same (λ d. stepped w (on_memory d w.stack w.memory)) (eqb (get_or w.stack i 0) (to_bool_val false))
      (λ u. panics)
      (λ u. moves w stale bytes (p + 1 + 4) i w.stack _ refl)))

  pub jump_if_false_agrees : Agree w (by JUMP_IF_FALSE (up_to c (p + 1 + 4))) (rust.jump_if_false c (p + 1) (view stale w))
  unfolding rust.jump_if_false prepare_u32_from_be_checked view
  jump_if_false_agrees = jump_by (leb (p + 1 + 4) (length c)) refl

  -- ---- the loops

  -- on with other loops
  loops_go : (at_place height : ℕ) (loops : Two Loop) (control : List Loop) → loops_of loops ≡ control
      → Agree w (stepped w (on_memory (Ok (looping r at_place height loops)) w.stack w.memory)) (ok (with_control_stack (at (view stale w) at_place (values_of height w.stack)) control))
  unfolding registers_of view
  loops_go at_place height loops control e =
      goes w stale bytes (looping r at_place height loops) w.stack w.memory _
      (ap (λ (l : List Loop). shown (record { instructions_ref = (current w.machine.frames).entry.0; pc = at_place }) stale (callers w.machine.frames)
      (values_of height w.stack) l (take w.machine.memory w.memory)
      (entries_of w.pool w.ends w.machine.entries) (storage_of w.machine.next_id.0 w.machine.count w.table)) e)

  -- one loop more
  loop_pushed : (at_place height : ℕ) (loops : Two Loop) (new : Loop) → loops.count ≤ 2
      → Agree w (stepped w (on_memory (opened_to r at_place height (push_onto loops new)) w.stack w.memory))
      (inlinevec.push 2 (loops_of loops) new λ control. ok (with_control_stack (at (view stale w) at_place (values_of height w.stack)) control))
  unfolding push_onto if_room opened_to inlinevec.push inner_result
  loop_pushed at_place height loops new few =
      rw (length_two loops few)
      (same (λ (l : Result (Two Loop) Refusal). stepped w (on_memory (opened_to r at_place height l) w.stack w.memory)) (ltb loops.count 2)
      (λ t. loops_go at_place height (push_two loops new) (new ∷ loops_of loops) (pushed_two loops new (ltb-true _ _ t)))
      (λ t. errs StackOverflow))

  pub do_agrees : (next : ℕ) → Agree w (stepped w (on_memory (op_do w.stack r next) w.stack w.memory)) (rust.«do» next (view stale w))
  unfolding op_do do_two rust.«do» view registers_of inner_result
  do_agrees next =
      two_off w.stack w.machine.height h.height (λ (o : Result (ℕ × ℕ × ℕ) Refusal). stepped w (on_memory (do_two r next o) w.stack w.memory)) _ refl
      (λ i e. loop_pushed next i w.machine.loops _ h.loops)

  -- one loop off, or none there
  one_loop_off : (loops : Two Loop) → loops.count ≤ 2 → (f : Result (Loop × Two Loop) Refusal → StepResult) (k : Loop → List Loop → Out VM)
      → f (Err refusal.StackUnderflow) ≡ refused refusal.StackUnderflow
      → (0 < loops.count → Agree w (f (Ok (last_two loops, (pop_two loops)))) (k (last_two loops) (two_of (pop_two loops))))
      → Agree w (f (pop_off loops)) (inlinevec.pop (loops_of loops) k)
  unfolding pop_off if_some inlinevec.pop
  one_loop_off loops few f k under onto = cases loops.count refl
    where
      cases : (n : ℕ) → loops.count ≡ n → Agree w (f (pop_off loops)) (inlinevec.pop (loops_of loops) k)
      cases zero e = rw (none_of loops e, e, under) (errs StackUnderflow)
      cases (suc n) e = rw (ne_eqb loops.count 0 (λ z. omega arith), le-leb loops.count 2 few, popped_two loops (omega arith) few) (onto (omega arith))

  pub loop_agrees : (next : ℕ) → Agree w (stepped w (on_memory (op_loop r next) w.stack w.memory)) (rust.loop next (view stale w))
  unfolding op_loop looped rust.loop view registers_of inner_result
  loop_agrees next =
      one_loop_off w.machine.loops h.loops (λ (o : Result (Loop × Two Loop) Refusal). stepped w (on_memory (looped r next o) w.stack w.memory)) _ refl
      (λ l. back (last_two w.machine.loops) (pop_two w.machine.loops) (fewer w.machine.loops h.loops))
    where
      back : (last : Loop) (loops : Two Loop) → loops.count ≤ 2
          → Agree w (stepped w (on_memory (looped r next (Ok (last, loops))) w.stack w.memory))
          (cond (ltb (last.index + 1) last.limit)
          (inlinevec.push 2 (loops_of loops) (record { place = last.place; index = last.index + 1; limit = last.limit }) λ control. ok (with_control_stack (at (view stale w) last.place (values_of w.machine.height w.stack)) control))
          (ok (with_control_stack (at (view stale w) next (values_of w.machine.height w.stack)) (loops_of loops))))
      back last loops few =
          same (λ (d : Result Registers Refusal). stepped w (on_memory d w.stack w.memory)) (ltb (last.index + 1) last.limit)
          (λ t. loop_pushed last.place w.machine.height loops _ few)
          (λ t. loops_go next w.machine.height loops (loops_of loops) refl)

  -- a look at the innermost loop
  one_loop_seen : (loops : Two Loop) → loops.count ≤ 2 → (f : Result Loop Refusal → StepResult) (k : Loop → Out VM)
      → f (Err refusal.StackUnderflow) ≡ refused refusal.StackUnderflow
      → Agree w (f (Ok (last_two loops))) (k (last_two loops))
      → Agree w (f (last_on loops)) (inlinevec.last (loops_of loops) k)
  unfolding last_on if_some inlinevec.last
  one_loop_seen loops few f k under onto = cases loops.count refl
    where
      cases : (n : ℕ) → loops.count ≡ n → Agree w (f (last_on loops)) (inlinevec.last (loops_of loops) k)
      cases zero e = rw (none_of loops e, e, under) (errs StackUnderflow)
      cases (suc n) e = rw (ne_eqb loops.count 0 (λ z. omega arith), le-leb loops.count 2 few, popped_two loops (omega arith) few) onto

  pub loop_index_agrees : (next : ℕ) → Agree w (stepped w (kept (op_loop_index w.stack r next) w.memory)) (rust.loop_index next (view stale w))
  unfolding op_loop_index index_of rust.loop_index view registers_of inner_result
  loop_index_agrees next =
      one_loop_seen w.machine.loops h.loops (λ (o : Result Loop Refusal). stepped w (kept (index_of w.stack r next o) w.memory)) _ refl
      (pushed w stale bytes h next w.machine.height _)
