-- The opcodes over the stack alone, and those that choose where the run goes on, beside the Rust's arms.
use Prim.Native.Nat.{ℕ, suc, ◌+◌, ◌≤◌, ◌<◌}
use mathlib.Core.Bool.{Bool}
use mathlib.Core.Path.{◌≡◌, refl}
use mathlib.Core.List.{List, ◌∷◌}
use native.Mathlib.Omega.{arith}
use lib.ListN.{get_or, set, length-set}
use borrow.Author.Tests.{lt-ltb}
use Rattle.slices.specs.Numbers.{Bytes}
use Rattle.inlinevec.specs.Stacks.{values_of}
use Rattle.inlinevec.proofs.Lists.{pushed_values, length_values}
use Rattle.values.specs.Values.{mul_checked, value_cmp}
use Rattle.mechanism.specs.Registers.{on_memory, moved}
use Rattle.mechanism.specs.Stack.{finish, on_two, op_mul, op_compare, dup_last, op_dup, swapped, op_swap, dropped, op_drop}
use Rattle.mechanism.specs.declared.Registers.{Registers}
use Rattle.mechanism.specs.Execute.{kept}
use Rattle.mechanism.specs.Registers.{registers_of}
use Rattle.machine.specs.World.{World}
use Rattle.machine.specs.Words.{StepResult}
use Rattle.mechanism.specs.Step.{inner_result}
use Rattle.rust.specs.Errors.{VMError, Out, err}
use Rattle.rust.specs.InlineVec as inlinevec
use Rattle.rust.specs.Vm as rust
use Rattle.rust.specs.Vm.{VM, pushes}
use Rattle.agreement.specs.View.{view}
use Rattle.agreement.specs.Agreement.{Agree, errs, refusal_of}
use Rattle.agreement.proofs.Facts.{Facts}
use Rattle.agreement.proofs.Laws.{one_off, two_off, one_seen}
use Rattle.agreement.proofs.Views.{stepped, moves, pushed}
use Rattle.agreement.proofs.Values.{mul_agrees, cmp_agrees}
use Rattle.std.specs.Prelude.{Ok, Err, Result}
use Rattle.errors.specs.declared.Refusal.{Refusal}

module _ (w : World) (stale : ℕ) (h : Facts w) (bytes : Bytes w.pool) (next : ℕ) where
  abbrev r : Registers
  r = registers_of w.machine

  -- a calculation's value at a height
  pub finished : (height value : ℕ) → Agree w (stepped w (kept (finish w.stack r next height (Ok value)) w.memory)) (pushes (view stale w) next (values_of height w.stack) value)
  unfolding finish
  finished height value = pushed w stale bytes h next height value

  pub missed : (height : ℕ) (error : VMError) → Agree w (stepped w (kept (finish w.stack r next height (Err (refusal_of error))) w.memory)) (err error)
  unfolding finish inner_result
  missed height error = errs error

  pub mul : Agree w (stepped w (kept (op_mul w.stack r next) w.memory)) (rust.mul next (view stale w))
  unfolding op_mul on_two rust.mul view registers_of inner_result
  mul =
      two_off w.stack w.machine.height h.height (λ (p : Result (ℕ × ℕ × ℕ) Refusal). stepped w (kept (on_two mul_checked w.stack r next p) w.memory)) _ refl
      (λ i e. mul_agrees (λ (v : Result ℕ Refusal). stepped w (kept (finish w.stack r next i v) w.memory)) _ (finished i) (missed i) _ _)

  pub compare : (is_lt : Bool) → Agree w (stepped w (kept (op_compare w.stack r next is_lt) w.memory)) (rust.compare is_lt next (view stale w))
  unfolding op_compare on_two rust.compare view registers_of inner_result
  compare is_lt =
      two_off w.stack w.machine.height h.height (λ (p : Result (ℕ × ℕ × ℕ) Refusal). stepped w (kept (on_two (λ right left. value_cmp left right is_lt) w.stack r next p) w.memory)) _ refl
      (λ i e. cmp_agrees (λ (v : Result ℕ Refusal). stepped w (kept (finish w.stack r next i v) w.memory)) _ (finished i) (missed i) _ _ is_lt)

  pub dup : Agree w (stepped w (kept (op_dup w.stack r next) w.memory)) (rust.dup next (view stale w))
  unfolding op_dup dup_last rust.dup view registers_of inner_result
  dup =
      one_seen w.stack w.machine.height h.height (λ (p : Result ℕ Refusal). stepped w (kept (dup_last w.stack r next p) w.memory)) _ refl
      (λ i e. pushed w stale bytes h next w.machine.height _)

  pub drop : Agree w (stepped w (on_memory (op_drop w.stack r next) w.stack w.memory)) (rust.drop next (view stale w))
  unfolding op_drop dropped rust.drop view registers_of inner_result
  drop =
      one_off w.stack w.machine.height h.height (λ (p : Result (ℕ × ℕ) Refusal). stepped w (on_memory (dropped r next p) w.stack w.memory)) _ refl
      (λ i e. moves w stale bytes next i w.stack (values_of i w.stack) refl)

  -- a push that has room
  pub free : {a : StepResult} (height value : ℕ) (k : List ℕ → Out VM) (stack : List ℕ) → height < 1000 → Agree w a (k (value ∷ values_of height stack)) → Agree w a (inlinevec.push 1000 (values_of height stack) value k)
  unfolding inlinevec.push
  free height value k stack less agrees = rw (length_values stack height, lt-ltb height 1000 less) agrees

  pub swap : Agree w (stepped w (kept (op_swap w.stack r next) w.memory)) (rust.swap next (view stale w))
  unfolding op_swap swapped rust.swap view registers_of inner_result pushes
  swap =
      two_off w.stack w.machine.height h.height (λ (p : Result (ℕ × ℕ × ℕ) Refusal). stepped w (kept (swapped w.stack r next p) w.memory)) _ refl
      (λ i e. after i e (get_or w.stack (suc i) 0) (get_or w.stack i 0))
    where
      after : (i : ℕ) → w.machine.height ≡ suc (suc i) → (b a : ℕ)
          → Agree w (stepped w (on_memory (Ok (moved r next w.machine.height)) (set (set w.stack i b) (i + 1) a) w.memory))
          (inlinevec.push 1000 (values_of i w.stack) b λ st. pushes (view stale w) next st a)
      after i e b a =
          let most : i + 2 ≤ 1000 = omega (arith, h.height) in
          let more : i + 1 + 1 ≡ w.machine.height = omega arith in
          let once = pushed_values w.stack i b (omega (arith, h.stack_lent)) in
          let twice = pushed_values (set w.stack i b) (i + 1) a (omega (arith, h.stack_lent, length-set w.stack i b)) in
          free i b _ w.stack (omega arith)
          (rw (← once)
          (free (i + 1) a _ (set w.stack i b) (omega arith)
          (moves w stale bytes next w.machine.height (set (set w.stack i b) (i + 1) a) _ (rw (← more) twice))))
