-- Boxes, their tags and types, products and comparisons on small words, computed from `values`.
use Prim.Native.Nat.{ℕ}
use mathlib.Core.Bool.{true, false}
use mathlib.Core.Path.{◌≡◌, refl}
use Rattle.errors.specs.declared.Refusal.TheVariants.{MSliceParamOverflow, MultiplicationOverflowed, InvalidType, TypeMismatch}
use Rattle.values.specs.Values.{to_u32_val, to_calldata_val, to_bool_val, to_vec_val, bool_not, mul_checked, mul_checked_i, value_eq, value_neq, value_cmp, get_value_type, is_vec, raw_tag, tag_of, to_u32, to_fat_pointer, make_scalar_tagged, make_vec_tagged, is_qnan, is_scalar, is_u32_val, fat_pointer, product, is_bool, one_vector, of_one_kind, alike, turned, vec_type, scalar_type}
use Rattle.values.specs.declared.ValueType.TheVariants as kind
use Rattle.std.specs.Prelude.{Ok, Err, Some}

-- a number, calldata and a vector of numbers, each of entry, offset or number 1
abbrev one : ℕ
one = 0x7FFC000000040006

abbrev entry_one : ℕ
entry_one = 0x7FFC000000040005

abbrev two_at_one : ℕ
two_at_one = 0xFFFC000002000406

abbrev TRUE : ℕ
TRUE = 0x7FFC000000000003

abbrev FALSE : ℕ
FALSE = 0x7FFC000000000002

-- the examples
pub record Examples : Type 0 where
  -- a box: thirteen QNAN bits, the payload from bit 18 on, the tag
  pub number : to_u32_val 1 ≡ 0x7FFC000000040006
  pub calldata : to_calldata_val 1 ≡ 0x7FFC000000040005
  pub true_box : to_bool_val true ≡ 0x7FFC000000000003
  pub false_box : to_bool_val false ≡ 0x7FFC000000000002
  -- a vector: the sign, the offset from bit 25 on, the size from bit 9 on
  pub vector_box : to_vec_val 1 2 6 ≡ Ok 0xFFFC000002000406
  -- an offset of 2^25 is 13
  pub large_offset : to_vec_val 0x2000000 0 6 ≡ Err MSliceParamOverflow
  pub true_turned : bool_not TRUE ≡ FALSE
  pub false_turned : bool_not FALSE ≡ TRUE
  pub mul : mul_checked (to_u32_val 3) (to_u32_val 5) ≡ Ok (to_u32_val 15)
  -- 2^32 is 7
  pub mul_above : mul_checked (to_u32_val 65536) (to_u32_val 65536) ≡ Err MultiplicationOverflowed
  pub mul_calldata : mul_checked (to_calldata_val 3) (to_u32_val 5) ≡ Err InvalidType
  pub muli : mul_checked_i (to_u32_val 3) 5 ≡ Ok (to_u32_val 15)
  -- words that are numbers but for a QNAN bit, or for the sign
  pub muli_with_sign : mul_checked_i 0xFFFC000000040006 5 ≡ Err InvalidType
  -- TRUE and FALSE are compared, and other values of different tags are not
  pub eq_bools : value_eq TRUE FALSE ≡ Ok FALSE
  pub eq_tags : value_eq one entry_one ≡ Err TypeMismatch
  -- a number and a vector that reads as that number are not compared, whichever is on the left
  pub eq_vector_right : value_eq 0x7FFC000002000006 two_at_one ≡ Err TypeMismatch
  pub eq_vector_left : value_eq two_at_one 0x7FFC000002000006 ≡ Err TypeMismatch
  -- words that are no boxes stay 5, beside a vector too
  pub eq_no_box : value_eq 6 two_at_one ≡ Err InvalidType
  pub neq_equal : value_neq one one ≡ Ok FALSE
  pub neq_tags : value_neq one entry_one ≡ Err TypeMismatch
  pub neq_bools : value_neq FALSE TRUE ≡ Ok TRUE
  pub neq_vector : value_neq two_at_one 0x7FFC000002000006 ≡ Err TypeMismatch
  pub lt : value_cmp (to_u32_val 2) (to_u32_val 3) true ≡ Ok TRUE
  pub gt : value_cmp (to_u32_val 3) (to_u32_val 2) false ≡ Ok TRUE
  pub bool_type : get_value_type FALSE ≡ Some kind.Boolean
  pub vector_type : get_value_type two_at_one ≡ Some kind.VecU32
  pub no_vector : is_vec one ≡ false
  pub vector_of_12_bits : is_vec 0xFFF8000002000406 ≡ false
  pub raw : raw_tag 0x7FFC00000000000E ≡ 6
  pub tag : tag_of 0x7FFC00000000000E ≡ Ok 6
  -- no box
  pub no_tag : tag_of 0x7FF8000000000006 ≡ Err InvalidType
  pub read : to_u32 (to_u32_val 65536) ≡ 65536
  pub read_pointer : fat_pointer two_at_one ≡ record { offset = 1; size = 2 }
  pub pointer : to_fat_pointer two_at_one ≡ Ok (record { offset = 1; size = 2 })
  pub no_pointer : to_fat_pointer one ≡ Err InvalidType

pub examples : Examples
unfolding make_scalar_tagged make_vec_tagged to_vec_val to_bool_val is_qnan is_scalar is_vec raw_tag tag_of is_u32_val to_u32 fat_pointer to_fat_pointer bool_not product mul_checked mul_checked_i is_bool one_vector of_one_kind alike value_eq turned value_neq value_cmp vec_type scalar_type get_value_type
examples = record {
  number = refl;
  calldata = refl;
  true_box = refl;
  false_box = refl;
  vector_box = refl;
  large_offset = refl;
  true_turned = refl;
  false_turned = refl;
  mul = refl;
  mul_above = refl;
  mul_calldata = refl;
  muli = refl;
  muli_with_sign = refl;
  eq_bools = refl;
  eq_tags = refl;
  eq_vector_right = refl;
  eq_vector_left = refl;
  eq_no_box = refl;
  neq_equal = refl;
  neq_tags = refl;
  neq_bools = refl;
  neq_vector = refl;
  lt = refl;
  gt = refl;
  bool_type = refl;
  vector_type = refl;
  no_vector = refl;
  vector_of_12_bits = refl;
  raw = refl;
  tag = refl;
  no_tag = refl;
  read = refl;
  read_pointer = refl;
  pointer = refl;
  no_pointer = refl;
}
