-- Which two values EQ and NEQ compare otherwise than the Rust, computed as one table.
use Prim.Native.Nat.{ℕ}
use mathlib.Core.Bool.{Bool, true, false, ◌||◌}
use mathlib.Core.Path.{◌≡◌, refl}
use Rattle.values.specs.Values.{make_scalar_tagged, make_vec_tagged, is_qnan, is_scalar, is_vec, raw_tag, is_bool, one_vector, to_bool_val, to_u32_val, to_calldata_val}
use Rattle.agreement.specs.Exceptions.{scalar_with_vector, true_with_false}

abbrev left_out : ℕ → ℕ → Bool
left_out left right = scalar_with_vector left right || true_with_false left right

-- the number 512, and 6 bytes of numbers from place 4 of memory on, which read as 512
abbrev number : ℕ
number = to_u32_val 512

abbrev numbers : ℕ
numbers = make_vec_tagged 4 6 6

abbrev text : ℕ
text = make_vec_tagged 4 6 4

abbrev TRUE : ℕ
TRUE = to_bool_val true

abbrev FALSE : ℕ
FALSE = to_bool_val false

pub record LeftOut : Type 0 where
  pub number_with_numbers : left_out number numbers ≡ true
  pub numbers_with_number : left_out numbers number ≡ true
  pub true_and_false : left_out TRUE FALSE ≡ true
  pub false_and_true : left_out FALSE TRUE ≡ true
  -- both machines answer 6
  pub number_with_text : left_out number text ≡ false
  pub text_with_calldata : left_out text (to_calldata_val 1) ≡ false
  pub text_with_numbers : left_out text numbers ≡ false
  pub number_with_true : left_out number TRUE ≡ false
  -- both machines compare
  pub true_and_true : left_out TRUE TRUE ≡ false
  pub two_numbers : left_out number number ≡ false
  pub two_vectors : left_out numbers numbers ≡ false
  -- both machines answer 5: 6 is the word of no box
  pub no_box : left_out 6 numbers ≡ false

pub left_out_table : LeftOut
unfolding scalar_with_vector true_with_false make_scalar_tagged make_vec_tagged to_bool_val is_qnan is_scalar is_vec raw_tag is_bool one_vector
left_out_table = record {
  number_with_numbers = refl;
  numbers_with_number = refl;
  true_and_false = refl;
  false_and_true = refl;
  number_with_text = refl;
  text_with_calldata = refl;
  text_with_numbers = refl;
  number_with_true = refl;
  true_and_true = refl;
  two_numbers = refl;
  two_vectors = refl;
  no_box = refl;
}
