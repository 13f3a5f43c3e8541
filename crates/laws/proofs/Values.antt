-- What a calculation gives is no vector.
use Prim.Native.Nat.{ℕ, ◌*◌, ◌^◌}
use mathlib.Core.Bool.{Bool, true, false, ◌&&◌, not, false≢true}
use mathlib.Core.List.{List}
use mathlib.Core.Path.{◌≡◌, sym, ◌∙◌, subst}
use lib.Dec.{eqb, ltb}
use Rattle.errors.specs.declared.Refusal.{Refusal}
use Rattle.values.specs.Values.{make_scalar_tagged, to_bool_val, is_vec, is_qnan, is_u32_val, raw_tag, to_u32, one_vector, of_one_kind, product, mul_checked, mul_checked_i, alike, value_eq, turned, value_cmp}
use Rattle.values.specs.declared.FatPointer.{FatPointer}
use Rattle.values.proofs.Laws.{scalar_is_scalar, scalar_no_vec, bool_turned}
use Rattle.memory.specs.Change.{inside}
use Rattle.memory.specs.Reads.{is_m_slice_eq}
use Rattle.mechanism.specs.Equality.{eq_vectors, eq_values, turned_if}
use Rattle.laws.specs.Sound.{Inside}
use Rattle.laws.proofs.Either.{either}
use Rattle.std.specs.Prelude.{Ok, Err, Result}

-- a scalar, or none
pub data Scalar : Result ℕ Refusal → Type 0 where
  scalar : (v : ℕ) → is_vec v ≡ false → Scalar (Ok v)
  no_scalar : (refusal : Refusal) → Scalar (Err refusal)

-- a bool, or none
data Boolean : Result ℕ Refusal → Type 0 where
  boolean : (b : Bool) → Boolean (Ok (to_bool_val b))
  no_boolean : (refusal : Refusal) → Boolean (Err refusal)

-- a scalar is no vector, so it lies wherever it should
pub boxed_no_vec : (tag payload : ℕ) → is_vec (make_scalar_tagged tag payload) ≡ false
boxed_no_vec tag payload = scalar_no_vec (make_scalar_tagged tag payload) (scalar_is_scalar tag payload)

pub no_vec_inside : (used v : ℕ) → is_vec v ≡ false → Inside used v
no_vec_inside used v none vec = absurd (false≢true (sym none ∙ vec))

bool_no_vec : (b : Bool) → is_vec (to_bool_val b) ≡ false
unfolding to_bool_val
bool_no_vec true = boxed_no_vec 3 0
bool_no_vec false = boxed_no_vec 2 0

boolean_scalar : (result : Result ℕ Refusal) → Boolean result → Scalar result
boolean_scalar _ (boolean b) = scalar (to_bool_val b) (bool_no_vec b)
boolean_scalar _ (no_boolean refusal) = no_scalar refusal

-- ---- products and comparisons

product_scalar : (left right : ℕ) → Scalar (product left right)
unfolding product
product_scalar left right = either Scalar (ltb (left * right) (2 ^ 32)) _ _ (λ _. scalar _ (boxed_no_vec 6 (left * right))) (λ _. no_scalar _)

pub mul_scalar : (lhs rhs : ℕ) → Scalar (mul_checked lhs rhs)
unfolding mul_checked
mul_scalar lhs rhs =
    either Scalar (is_u32_val lhs) _ _ (λ _. either Scalar (is_u32_val rhs) _ _ (λ _. product_scalar (to_u32 lhs) (to_u32 rhs)) (λ _. no_scalar _)) (λ _. no_scalar _)

pub muli_scalar : (lhs rhs : ℕ) → Scalar (mul_checked_i lhs rhs)
unfolding mul_checked_i
muli_scalar lhs rhs = either Scalar (is_u32_val lhs) _ _ (λ _. product_scalar (to_u32 lhs) rhs) (λ _. no_scalar _)

compare_boolean : (left right : ℕ) (is_lt : Bool) → Boolean (value_cmp left right is_lt)
unfolding value_cmp
compare_boolean left right is_lt =
    either Boolean (is_u32_val left) _ _ (λ _. either Boolean (is_u32_val right) _ _ (λ _. boolean _) (λ _. no_boolean _)) (λ _. no_boolean _)

pub compare_scalar : (left right : ℕ) (is_lt : Bool) → Scalar (value_cmp left right is_lt)
compare_scalar left right is_lt = boolean_scalar _ (compare_boolean left right is_lt)

-- ---- EQ and NEQ

alike_boolean : (tag left right : ℕ) → Boolean (alike tag left right)
unfolding alike
alike_boolean tag left right =
    either Boolean (eqb tag 6) _ _ (λ _. boolean _)
    (λ _. either Boolean (eqb tag 5) _ _ (λ _. boolean _)
    (λ _. either Boolean (eqb tag 3) _ _ (λ _. boolean _)
    (λ _. either Boolean (eqb tag 2) _ _ (λ _. boolean _) (λ _. no_boolean _))))

value_eq_boolean : (left right : ℕ) → Boolean (value_eq left right)
unfolding value_eq
value_eq_boolean left right =
    either Boolean (is_qnan left) _ _
    (λ _. either Boolean (is_qnan right) _ _
    (λ _. either Boolean (one_vector left right) _ _ (λ _. no_boolean _)
    (λ _. either Boolean (of_one_kind left right) _ _ (λ _. alike_boolean (raw_tag left) left right) (λ _. no_boolean _)))
    (λ _. no_boolean _))
    (λ _. no_boolean _)

slices_boolean : (memory : List ℕ) (left right : FatPointer) → Boolean (is_m_slice_eq memory left right)
unfolding is_m_slice_eq
slices_boolean memory left right =
    either Boolean (eqb left.size right.size) _ _
    (λ _. either Boolean (eqb left.offset right.offset) _ _ (λ _. boolean true)
    (λ _. either Boolean (inside memory left) _ _
    (λ _. either Boolean (inside memory right) _ _ (λ _. boolean _) (λ _. no_boolean _))
    (λ _. no_boolean _)))
    (λ _. boolean false)

eq_boolean : (memory : List ℕ) (left right : ℕ) → Boolean (eq_values memory left right)
unfolding eq_values eq_vectors
eq_boolean memory left right =
    either Boolean (is_vec left && is_vec right) _ _
    (λ _. either Boolean (eqb (raw_tag left) (raw_tag right)) _ _ (λ _. slices_boolean memory _ _) (λ _. no_boolean _))
    (λ _. value_eq_boolean left right)

turned_boolean : (result : Result ℕ Refusal) → Boolean result → Boolean (turned result)
unfolding turned
turned_boolean _ (boolean b) = subst (λ (v : ℕ). Boolean (Ok v)) (sym (bool_turned b)) (boolean (not b))
turned_boolean _ (no_boolean refusal) = no_boolean refusal

turned_if_boolean : (is_eq : Bool) (result : Result ℕ Refusal) → Boolean result → Boolean (turned_if is_eq result)
unfolding turned_if
turned_if_boolean true result b = b
turned_if_boolean false result b = turned_boolean result b

pub eq_scalar : (memory : List ℕ) (is_eq : Bool) (left right : ℕ) → Scalar (turned_if is_eq (eq_values memory left right))
eq_scalar memory is_eq left right = boolean_scalar _ (turned_if_boolean is_eq _ (eq_boolean memory left right))
