-- What MUL, MULI, LT, GT, EQ and NEQ calculate of values that have the kinds of their rules.
use Prim.Native.Nat.{ℕ, ◌*◌, ◌^◌}
use mathlib.Core.Path.{◌≡◌, refl, ap, ◌∙◌}
use mathlib.Core.Bool.{Bool, true, false, not}
use mathlib.Core.List.{List}
use lib.Dec.{eqb, ltb}
use borrow.Author.Tests.{eq-eqb}
use Rattle.values.specs.Values.{make_scalar_tagged, is_qnan, is_scalar, is_vec, raw_tag, is_u32_val, to_u32, fat_pointer, is_bool, one_vector, of_one_kind, product, mul_checked, mul_checked_i, alike, value_eq, turned, value_cmp, to_bool_val, bool_not}
use Rattle.values.specs.declared.FatPointer.{FatPointer}
use Rattle.values.proofs.Laws.{scalar_no_vec, scalar_boxed, bool_turned}
use Rattle.memory.specs.Change.{inside}
use Rattle.memory.specs.Reads.{is_m_slice_eq}
use Rattle.mechanism.specs.Equality.{eq_vectors, eq_values, turned_if}
use Rattle.labels.specs.declared.Kind.{Kind}
use Rattle.labels.specs.declared.Kind.TheVariants.{Number, Calldata, Boolean, Text, Numbers}
use Rattle.mechanism.proofs.Either.{either}
use Rattle.safety.specs.Kinds.{HasKind}
use Rattle.safety.proofs.Kinded.{number_kind, bool_kind}
use Rattle.safety.proofs.Holds.{Gives, is_value, is_refused}
use Rattle.std.specs.Prelude.{Ok, Result}
use Rattle.errors.specs.declared.Refusal.{Refusal}

-- a number passes the test of numbers
pub is_number : (v : ℕ) → HasKind Number v → is_u32_val v ≡ true
unfolding is_u32_val
is_number v has = simp (has.0, has.1)

-- ---- MUL, MULI, LT, GT

product_result : (left right : ℕ) → Gives Number (product left right)
unfolding product
product_result left right = either (Gives Number) (ltb (left * right) (2 ^ 32)) _ _ (is_value (number_kind (left * right))) (is_refused refl)

pub mul_result : (left right : ℕ) → HasKind Number left → HasKind Number right → Gives Number (mul_checked left right)
unfolding mul_checked
mul_result left right a b = simp (is_number left a, is_number right b) (product_result (to_u32 left) (to_u32 right))

pub muli_result : (left number : ℕ) → HasKind Number left → Gives Number (mul_checked_i left number)
unfolding mul_checked_i
muli_result left number a = simp (is_number left a) (product_result (to_u32 left) number)

pub compare_result : (left right : ℕ) (is_lt : Bool) → HasKind Number left → HasKind Number right → Gives Boolean (value_cmp left right is_lt)
unfolding value_cmp
compare_result left right is_lt a b = simp (is_number left a, is_number right b) (is_value (bool_kind _))

-- ---- EQ and NEQ

slices_result : (memory : List ℕ) (left right : FatPointer) → Gives Boolean (is_m_slice_eq memory left right)
unfolding is_m_slice_eq
slices_result memory left right =
    either (Gives Boolean) (eqb left.size right.size) _ _
    (either (Gives Boolean) (eqb left.offset right.offset) _ _ (is_value (bool_kind true))
    (either (Gives Boolean) (inside memory left) _ _
    (either (Gives Boolean) (inside memory right) _ _ (is_value (bool_kind _)) (is_refused refl))
    (is_refused refl)))
    (is_value (bool_kind false))

vectors_result : (memory : List ℕ) (left right tag : ℕ) → is_vec left ≡ true → is_vec right ≡ true → raw_tag left ≡ tag → raw_tag right ≡ tag → Gives Boolean (eq_values memory left right)
unfolding eq_values eq_vectors
vectors_result memory left right tag a b c d = simp (a, b, c, d, eq-eqb tag tag refl) (slices_result memory (fat_pointer left) (fat_pointer right))

-- two scalars of a tag that are compared as numbers
scalars_result : (memory : List ℕ) (left right tag : ℕ) → alike tag left right ≡ Ok (to_bool_val (eqb (to_u32 left) (to_u32 right)))
    → is_scalar left ≡ true → is_scalar right ≡ true → raw_tag left ≡ tag → raw_tag right ≡ tag → Gives Boolean (eq_values memory left right)
unfolding eq_values value_eq one_vector of_one_kind
scalars_result memory left right tag compared a b c d =
    simp (scalar_boxed left a, scalar_boxed right b, c, d, eq-eqb tag tag refl, scalar_no_vec left a, scalar_no_vec right b, compared) (is_value (bool_kind _))

-- two bools, alike or not
bools_result : (memory : List ℕ) (left right : Bool) → Gives Boolean (eq_values memory (to_bool_val left) (to_bool_val right))
unfolding eq_values value_eq one_vector of_one_kind is_bool alike to_bool_val make_scalar_tagged is_qnan is_vec is_scalar raw_tag
bools_result memory true true = is_value (bool_kind true)
bools_result memory true false = is_value (bool_kind false)
bools_result memory false true = is_value (bool_kind false)
bools_result memory false false = is_value (bool_kind true)

eq_result : (memory : List ℕ) (left right : ℕ) (kind : Kind) → HasKind kind left → HasKind kind right → Gives Boolean (eq_values memory left right)
unfolding alike
eq_result memory left right Number a b = scalars_result memory left right 6 refl a.0 b.0 a.1 b.1
eq_result memory left right Calldata a b = scalars_result memory left right 5 refl a.0 b.0 a.1 b.1
eq_result memory left right Boolean a b = rw (a.1, b.1) (bools_result memory a.0 b.0)
eq_result memory left right Text a b = vectors_result memory left right 4 a.0 b.0 a.1 b.1
eq_result memory left right Numbers a b = vectors_result memory left right 6 a.0 b.0 a.1 b.1

turned_result : {result : Result ℕ Refusal} → Gives Boolean result → Gives Boolean (turned result)
unfolding turned
turned_result (is_value has) = is_value (not has.0, ap bool_not has.1 ∙ bool_turned has.0)
turned_result (is_refused may) = is_refused may

pub equality_result : (is_eq : Bool) (memory : List ℕ) (left right : ℕ) (kind : Kind) → HasKind kind left → HasKind kind right → Gives Boolean (turned_if is_eq (eq_values memory left right))
unfolding turned_if
equality_result true memory left right kind a b = eq_result memory left right kind a b
equality_result false memory left right kind a b = turned_result (eq_result memory left right kind a b)
