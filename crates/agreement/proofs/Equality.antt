-- EQ and NEQ beside the Rust's arms: a vector on the stack of a sound world lies in memory in use, so that no slice panics.
use Prim.Native.Nat.{ℕ, suc, ◌+◌, ◌≤◌, ◌<◌}
use mathlib.Core.Bool.{Bool, true, false, cond, ◌&&◌, not, and-eq-true_iff, true≢false}
use mathlib.Core.Path.{◌≡◌, refl}
use mathlib.Core.List.{List}
use native.Mathlib.Omega.{arith}
use lib.Dec.{eqb}
use lib.ListN.{length, get_or, take}
use lib.Seq.{length-take-le}
use borrow.Author.Tests.{le-leb}
use Rattle.slices.specs.Numbers.{Bytes}
use Rattle.inlinevec.specs.Stacks.{values_of}
use Rattle.values.specs.Values.{is_qnan, is_vec, raw_tag, fat_pointer, bool_not, one_vector, alike, value_eq, turned}
use Rattle.values.specs.declared.FatPointer.{FatPointer}
use Rattle.values.proofs.Laws.{vec_boxed}
use Rattle.memory.specs.Change.{inside}
use Rattle.memory.specs.Reads.{get_slice_bytes, is_m_slice_eq}
use Rattle.mechanism.specs.Stack.{finish, on_two}
use Rattle.mechanism.specs.Equality.{eq_vectors, eq_values, turned_if, op_eq}
use Rattle.mechanism.specs.declared.Registers.{Registers}
use Rattle.mechanism.specs.Execute.{kept}
use Rattle.mechanism.specs.Registers.{registers_of}
use Rattle.machine.specs.World.{World}
use Rattle.machine.specs.Words.{StepResult}
use Rattle.mechanism.specs.Step.{inner_result}
use Rattle.laws.specs.Sound.{Inside}
use Rattle.rust.specs.Errors.{VMError, TypeMismatch, Out, err}
use Rattle.rust.specs.Values as values
use Rattle.rust.specs.Helpers.{slice}
use Rattle.rust.specs.Memory as memory
use Rattle.rust.specs.Vm as rust
use Rattle.rust.specs.Vm.{VM, pushes}
use Rattle.agreement.specs.View.{view}
use Rattle.agreement.specs.Agreement.{Agree, refusal_of}
use Rattle.agreement.specs.Exceptions.{scalar_with_vector, true_with_false}
use Rattle.agreement.proofs.Facts.{Facts}
use Rattle.agreement.proofs.Laws.{same, fails, two_off}
use Rattle.agreement.proofs.Views.{stepped}
use Rattle.agreement.proofs.Values.{eq_agrees, scalars_agree, scalars_differ}
use Rattle.agreement.proofs.Stack.{finished, missed}
use Rattle.std.specs.Prelude.{Ok, Err, Result}
use Rattle.errors.specs.declared.Refusal.{Refusal}

-- a slice of a vector that lies in memory
pub sliced : {w : World} {a : StepResult} (l : List ℕ) (pointer : FatPointer) (k : List ℕ → Out VM) → pointer.offset + pointer.size ≤ length l
    → Agree w a (k (get_slice_bytes l pointer)) → Agree w a (memory.get_slice_bytes l pointer k)
unfolding memory.get_slice_bytes slice
sliced l pointer k inside agrees = rw (le-leb (pointer.offset + pointer.size) (length l) inside) agrees

-- and the test of it
pub is_inside : (l : List ℕ) (pointer : FatPointer) → pointer.offset + pointer.size ≤ length l → inside l pointer ≡ true
unfolding inside
is_inside l pointer lies = le-leb (pointer.offset + pointer.size) (length l) lies

-- two vectors
slices_agree : {w : World} (f : Result ℕ Refusal → StepResult) (k : ℕ → Out VM) → ((value : ℕ) → Agree w (f (Ok value)) (k value))
    → (l : List ℕ) (left right : FatPointer) → left.offset + left.size ≤ length l → right.offset + right.size ≤ length l
    → Agree w (f (is_m_slice_eq l left right)) (memory.is_m_slice_eq l left right k)
unfolding is_m_slice_eq memory.is_m_slice_eq
slices_agree {w} f k given l left right a b =
    same f (eqb left.size right.size)
    (λ t. same f (eqb left.offset right.offset) (λ u. given _)
    (λ u. rw (is_inside l left a, is_inside l right b) (sliced l left _ a (sliced l right _ b (given _)))))
    (λ t. given _)

-- two values that are not left out, over memory in use; g is EQ's own answer or NEQ's, which turns it round
module _ {w : World} (g : ℕ → ℕ) (f : Result ℕ Refusal → StepResult) (k : ℕ → Out VM) (given : (value : ℕ) → Agree w (f (Ok value)) (k (g value)))
    (missed : (error : VMError) → Agree w (f (Err (refusal_of error))) (err error)) (l : List ℕ) (left right : ℕ) where
  -- the Rust's arm, with what it does with two scalars of one tag
  abbrev arm : Out VM → Out VM
  arm scalars =
      values.tag left λ tag-left. values.tag right λ tag-right. cond (eqb tag-left tag-right)
      (cond (is_vec left) (values.to_fat_pointer left λ a. values.to_fat_pointer right λ b. memory.is_m_slice_eq l a b λ v. k (g v)) scalars) (err TypeMismatch)

  vectors_agree : (scalars : Out VM) → Inside (length l) left → Inside (length l) right → is_vec left ≡ true → is_vec right ≡ true → Agree w (f (eq_vectors l left right)) (arm scalars)
  unfolding eq_vectors values.tag values.to_fat_pointer
  vectors_agree scalars in_left in_right a b =
      rw (vec_boxed left a, vec_boxed right b, a, b)
      (same f (eqb (raw_tag left) (raw_tag right)) (λ e. slices_agree f (λ v. k (g v)) given l (fat_pointer left) (fat_pointer right) (in_left a) (in_right b)) (λ e. missed TypeMismatch))

  -- no vector on the left, where not both are vectors and not one
  left_scalar : (is_vec left && is_vec right) ≡ false → one_vector left right ≡ false → is_vec left ≡ false
  unfolding one_vector
  left_scalar = by (is_vec left) (is_vec right)
    where
      by : (a b : Bool) → (a && b) ≡ false → cond a (not b) b ≡ false → a ≡ false
      by true true both one = absurd (true≢false both)
      by true false both one = absurd (true≢false one)
      by false b both one = refl

  eq_agree : Inside (length l) left → Inside (length l) right → scalar_with_vector left right ≡ false → true_with_false left right ≡ false
      → (scalars : Out VM) → (is_qnan left ≡ true → is_qnan right ≡ true → eqb (raw_tag left) (raw_tag right) ≡ true → Agree w (f (alike (raw_tag left) left right)) scalars)
      → Agree w (f (eq_values l left right)) (arm scalars)
  unfolding eq_values
  eq_agree in_left in_right no_vector no_bools scalars compares = by (is_vec left && is_vec right) refl
    where
      by : (b : Bool) → (is_vec left && is_vec right) ≡ b → Agree w (f (cond b (eq_vectors l left right) (value_eq left right))) (arm scalars)
      by true both = let each = (and-eq-true_iff (is_vec left) (is_vec right)).0 both in vectors_agree scalars in_left in_right each.0 each.1
      by false not_both =
          eq_agrees f (λ v. k (g v)) given missed left right _ no_vector no_bools
          (λ t u e one. fails (is_vec left) (left_scalar not_both one) _ (compares t u e))

module _ (w : World) (stale : ℕ) (h : Facts w) (bytes : Bytes w.pool) (next : ℕ) where
  abbrev r : Registers
  r = registers_of w.machine

  -- a value on the stack over the memory in use
  pub in_memory : (i : ℕ) → i < w.machine.height → Inside (length (take w.machine.memory w.memory)) (get_or w.stack i 0)
  in_memory i less = rw (length-take-le w.machine.memory w.memory h.memory) (h.inside i less)

  -- the two values on top are not left out
  abbrev pub NotLeftOut : Type 0
  NotLeftOut = (i : ℕ) → w.machine.height ≡ suc (suc i)
      → (scalar_with_vector (get_or w.stack i 0) (get_or w.stack (suc i) 0) ≡ false) × (true_with_false (get_or w.stack i 0) (get_or w.stack (suc i) 0) ≡ false)

  pub eq : NotLeftOut → Agree w (stepped w (kept (op_eq w.stack w.memory r next true) w.memory)) (rust.eq next (view stale w))
  unfolding op_eq on_two turned_if rust.eq view registers_of inner_result
  eq not_left_out =
      two_off w.stack w.machine.height h.height
      (λ (o : Result (ℕ × ℕ × ℕ) Refusal). stepped w (kept (on_two (λ right left. eq_values (take w.machine.memory w.memory) left right) w.stack r next o) w.memory)) _ refl
      (λ i e. eq_agree (λ v. v) (λ (v : Result ℕ Refusal). stepped w (kept (finish w.stack r next i v) w.memory)) (λ v. pushes (view stale w) next (values_of i w.stack) v)
      (finished w stale h bytes next i) (missed w stale h bytes next i) (take w.machine.memory w.memory) _ _ (in_memory i (omega arith)) (in_memory (suc i) (omega arith))
      (not_left_out i e).0 (not_left_out i e).1 _
      (scalars_agree (λ (v : Result ℕ Refusal). stepped w (kept (finish w.stack r next i v) w.memory)) _ (finished w stale h bytes next i) (missed w stale h bytes next i) _ _))

  turned_given : (height value : ℕ) → Agree w (stepped w (kept (finish w.stack r next height (turned (Ok value))) w.memory)) (pushes (view stale w) next (values_of height w.stack) (bool_not value))
  unfolding turned
  turned_given height value = finished w stale h bytes next height (bool_not value)

  turned_missed : (height : ℕ) (error : VMError) → Agree w (stepped w (kept (finish w.stack r next height (turned (Err (refusal_of error)))) w.memory)) (err error)
  unfolding turned
  turned_missed height error = missed w stale h bytes next height error

  pub neq : NotLeftOut → Agree w (stepped w (kept (op_eq w.stack w.memory r next false) w.memory)) (rust.neq next (view stale w))
  unfolding op_eq on_two turned_if rust.neq view registers_of inner_result
  neq not_left_out =
      two_off w.stack w.machine.height h.height
      (λ (o : Result (ℕ × ℕ × ℕ) Refusal). stepped w (kept (on_two (λ right left. turned (eq_values (take w.machine.memory w.memory) left right)) w.stack r next o) w.memory)) _ refl
      (λ i e. eq_agree bool_not (λ (v : Result ℕ Refusal). stepped w (kept (finish w.stack r next i (turned v)) w.memory)) (λ v. pushes (view stale w) next (values_of i w.stack) v)
      (turned_given i) (turned_missed i) (take w.machine.memory w.memory) _ _ (in_memory i (omega arith)) (in_memory (suc i) (omega arith))
      (not_left_out i e).0 (not_left_out i e).1 _
      (scalars_differ (λ (v : Result ℕ Refusal). stepped w (kept (finish w.stack r next i v) w.memory)) _ (finished w stale h bytes next i) (missed w stale h bytes next i) _ _))
