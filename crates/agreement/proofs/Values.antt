-- The calculations of values.rs: their refusals are the Rust's errors, and what they give is given on.
use Prim.Native.Nat.{ℕ, ◌*◌, ◌^◌}
use mathlib.Core.Bool.{Bool, true, false, cond, ◌&&◌, ◌||◌, not, true≢false}
use mathlib.Core.Path.{◌≡◌, refl}
use lib.Dec.{eqb, ltb}
use Rattle.values.specs.Values.{is_qnan, is_vec, is_u32_val, raw_tag, to_u32, to_bool_val, bool_not, fat_pointer, product, mul_checked, mul_checked_i, is_bool, one_vector, of_one_kind, alike, value_eq, turned, value_cmp, to_fat_pointer}
use Rattle.values.specs.declared.FatPointer.{FatPointer}
use Rattle.errors.specs.declared.Refusal.TheVariants as refusal
use Rattle.machine.specs.World.{World}
use Rattle.machine.specs.Words.{StepResult}
use Rattle.rust.specs.Errors.{VMError, InvalidType, TypeMismatch, MultiplicationOverflowed, Out, err}
use Rattle.rust.specs.Values as rust
use Rattle.rust.specs.Vm.{VM}
use Rattle.agreement.specs.Agreement.{Agree, refusal_of}
use Rattle.agreement.specs.Exceptions.{scalar_with_vector, true_with_false}
use Rattle.agreement.proofs.Laws.{same}
use Rattle.std.specs.Prelude.{Ok, Err, Result}
use Rattle.errors.specs.declared.Refusal.{Refusal}

module _ {w : World} (f : Result ℕ Refusal → StepResult) (k : ℕ → Out VM) (given : (value : ℕ) → Agree w (f (Ok value)) (k value))
    (missed : (error : VMError) → Agree w (f (Err (refusal_of error))) (err error)) where
  product_agrees : (left right : ℕ) → Agree w (f (product left right)) (rust.product left right k)
  unfolding product rust.product
  product_agrees left right = same f (ltb (left * right) (2 ^ 32)) (λ t. given _) (λ t. missed MultiplicationOverflowed)

  pub mul_agrees : (lhs rhs : ℕ) → Agree w (f (mul_checked lhs rhs)) (rust.mul_checked lhs rhs k)
  unfolding mul_checked rust.mul_checked
  mul_agrees lhs rhs = by (is_u32_val lhs) (is_u32_val rhs)
    where
      by : (a b : Bool) → Agree w (f (cond a (cond b (product (to_u32 lhs) (to_u32 rhs)) (Err refusal.InvalidType)) (Err refusal.InvalidType)))
          (cond (a && b) (rust.product (to_u32 lhs) (to_u32 rhs) k) (err InvalidType))
      by true true = product_agrees (to_u32 lhs) (to_u32 rhs)
      by true false = missed InvalidType
      by false b = missed InvalidType

  pub muli_agrees : (lhs rhs : ℕ) → Agree w (f (mul_checked_i lhs rhs)) (rust.mul_checked_i lhs rhs k)
  unfolding mul_checked_i rust.mul_checked_i
  muli_agrees lhs rhs = same f (is_u32_val lhs) (λ t. product_agrees (to_u32 lhs) rhs) (λ t. missed InvalidType)

  pub cmp_agrees : (left right : ℕ) (is_lt : Bool) → Agree w (f (value_cmp left right is_lt)) (rust.value_cmp left right is_lt k)
  unfolding value_cmp rust.value_cmp
  cmp_agrees left right is_lt = by (is_u32_val left) (is_u32_val right)
    where
      by : (a b : Bool)
          → Agree w (f (cond a (cond b (Ok (to_bool_val (cond is_lt (ltb (to_u32 left) (to_u32 right)) (ltb (to_u32 right) (to_u32 left))))) (Err refusal.InvalidType)) (Err refusal.InvalidType)))
          (cond (a && b) (k (to_bool_val (cond is_lt (ltb (to_u32 left) (to_u32 right)) (ltb (to_u32 right) (to_u32 left))))) (err InvalidType))
      by true true = given _
      by true false = missed InvalidType
      by false b = missed InvalidType

  alike_agrees : (tag left right : ℕ) → Agree w (f (alike tag left right)) (rust.alike tag left right k)
  unfolding alike rust.alike
  alike_agrees tag left right = by (eqb tag 6) (eqb tag 5) (eqb tag 3) (eqb tag 2)
    where
      by : (a b c d : Bool)
          → Agree w
          (f (cond a (Ok (to_bool_val (eqb (to_u32 left) (to_u32 right))))
          (cond b (Ok (to_bool_val (eqb (to_u32 left) (to_u32 right))))
          (cond c (Ok (to_bool_val (eqb left right)))
          (cond d (Ok (to_bool_val (eqb left right))) (Err refusal.InvalidType))))))
          (cond (a || b) (k (to_bool_val (eqb (to_u32 left) (to_u32 right)))) (cond (c || d) (k (to_bool_val (eqb left right))) (err InvalidType)))
      by true b c d = given _
      by false true c d = given _
      by false false true d = given _
      by false false false true = given _
      by false false false false = missed InvalidType

  -- of two values that are not left out; what the Rust does with two of one tag is o
  pub eq_agrees : (left right : ℕ) (o : Out VM) → scalar_with_vector left right ≡ false → true_with_false left right ≡ false
      → (is_qnan left ≡ true → is_qnan right ≡ true → eqb (raw_tag left) (raw_tag right) ≡ true → one_vector left right ≡ false → Agree w (f (alike (raw_tag left) left right)) o)
      → Agree w (f (value_eq left right)) (rust.tag left λ tag-left. rust.tag right λ tag-right. cond (eqb tag-left tag-right) o (err TypeMismatch))
  unfolding value_eq rust.tag scalar_with_vector true_with_false of_one_kind
  eq_agrees left right o no_vector no_bools compares =
      same f (is_qnan left)
      (λ t. same f (is_qnan right)
      (λ u. by (one_vector left right) (eqb (raw_tag left) (raw_tag right)) (is_bool left) (is_bool right) (simp (t, u) at no_vector) no_bools (compares t u))
      (λ u. missed InvalidType))
      (λ t. missed InvalidType)
    where
      by : (one same_tag a b : Bool) → (one && same_tag) ≡ false → (a && b && not same_tag) ≡ false → (same_tag ≡ true → one ≡ false → Agree w (f (alike (raw_tag left) left right)) o)
          → Agree w (f (cond one (Err refusal.TypeMismatch) (cond (cond same_tag true (cond a b false)) (alike (raw_tag left) left right) (Err refusal.TypeMismatch)))) (cond same_tag o (err TypeMismatch))
      by true true a b no_vector no_bools compares = absurd (true≢false no_vector)
      by false true a b no_vector no_bools compares = compares refl refl
      by true false a b no_vector no_bools compares = missed TypeMismatch
      by false false true true no_vector no_bools compares = absurd (true≢false no_bools)
      by false false true false no_vector no_bools compares = missed TypeMismatch
      by false false false b no_vector no_bools compares = missed TypeMismatch

  -- two scalars of one tag
  pub scalars_agree : (left right : ℕ) → is_qnan left ≡ true → is_qnan right ≡ true → eqb (raw_tag left) (raw_tag right) ≡ true → Agree w (f (alike (raw_tag left) left right)) (rust.value_eq left right k)
  unfolding rust.value_eq rust.tag
  scalars_agree left right t u e = rw (t, u, e) (alike_agrees (raw_tag left) left right)

-- NEQ: the answer turned round on both sides
module _ {w : World} (f : Result ℕ Refusal → StepResult) (k : ℕ → Out VM) (given : (value : ℕ) → Agree w (f (Ok value)) (k value))
    (missed : (error : VMError) → Agree w (f (Err (refusal_of error))) (err error)) where
  turned_missed : (error : VMError) → Agree w (f (turned (Err (refusal_of error)))) (err error)
  unfolding turned
  turned_missed error = missed error

  turned_given : (value : ℕ) → Agree w (f (turned (Ok value))) (k (bool_not value))
  unfolding turned
  turned_given value = given (bool_not value)

  pub scalars_differ : (left right : ℕ) → is_qnan left ≡ true → is_qnan right ≡ true → eqb (raw_tag left) (raw_tag right) ≡ true → Agree w (f (turned (alike (raw_tag left) left right))) (rust.value_neq left right k)
  unfolding rust.value_neq
  scalars_differ left right = scalars_agree (λ r. f (turned r)) (λ v. k (bool_not v)) turned_given turned_missed left right

-- the place of a vector
pub pointer_agrees : {w : World} (f : Result FatPointer Refusal → StepResult) (k : FatPointer → Out VM) (v : ℕ) → (is_vec v ≡ true → Agree w (f (Ok (fat_pointer v))) (k (fat_pointer v)))
    → Agree w (f (Err refusal.InvalidType)) (err InvalidType) → Agree w (f (to_fat_pointer v)) (rust.to_fat_pointer v k)
unfolding to_fat_pointer rust.to_fat_pointer
pointer_agrees f k v given missed = same f (is_vec v) given (λ t. missed)
