-- The definitions of the boxes with each power and each tag written out as a number: they say the same.
use Prim.Native.Nat.{ℕ, ◌+◌, ◌-◌, ◌*◌, ◌/◌, ◌%◌, ◌^◌}
use mathlib.Core.Bool.{Bool, true, false, cond}
use mathlib.Core.Path.{◌≡◌, refl}
use native.Mathlib.Omega.{arith}
use lib.Dec.{eqb, ltb}
use Rattle.errors.specs.declared.Refusal.TheVariants.{InvalidType, MSliceParamOverflow}
use Rattle.values.specs.Values.{make_scalar_tagged, make_vec_tagged, to_vec_val, to_u32_val, to_calldata_val, to_bool_val, head, is_qnan, is_scalar, is_vec, raw_tag, is_u32_val, to_u32, fat_pointer, is_bool, alike, vec_type, scalar_type}
use Rattle.values.specs.declared.ValueType.TheVariants.{U32, String, CallData, Boolean, VecU32, Null}
use Rattle.std.specs.Prelude.{Ok, Err, Some, None}

pub scalar_written_out : (tag payload : ℕ) → make_scalar_tagged tag payload ≡ 0x7FFC000000000000 + payload % 2 ^ 32 * 2 ^ 18 + tag % 2 ^ 3
unfolding make_scalar_tagged
scalar_written_out tag payload = omega arith

pub vec_written_out : (offset size tag : ℕ) → make_vec_tagged offset size tag ≡ 0xFFFC000000000000 + offset % 2 ^ 25 * 2 ^ 25 + size % 2 ^ 16 * 2 ^ 9 + tag % 2 ^ 3
unfolding make_vec_tagged
vec_written_out offset size tag = omega arith

pub vec_val_written_out : (offset size tag : ℕ) → to_vec_val offset size tag ≡ cond (ltb offset (2 ^ 25)) (Ok (make_vec_tagged offset size tag)) (Err MSliceParamOverflow)
unfolding to_vec_val
vec_val_written_out offset size tag = refl

pub number_written_out : (number : ℕ) → to_u32_val number ≡ make_scalar_tagged 6 number
number_written_out number = refl

pub calldata_written_out : (index : ℕ) → to_calldata_val index ≡ make_scalar_tagged 5 index
calldata_written_out index = refl

pub bool_written_out : (b : Bool) → to_bool_val b ≡ cond b (make_scalar_tagged 3 0) (make_scalar_tagged 2 0)
unfolding to_bool_val
bool_written_out true = refl
bool_written_out false = refl

pub head_written_out : (v : ℕ) → head v ≡ v / 2 ^ 50
head_written_out v = refl

pub qnan_written_out : (v : ℕ) → is_qnan v ≡ eqb (head v % 2 ^ 13) (2 ^ 13 - 1)
unfolding is_qnan
qnan_written_out v = refl

pub is_scalar_written_out : (v : ℕ) → is_scalar v ≡ eqb (head v) (2 ^ 13 - 1)
unfolding is_scalar
is_scalar_written_out v = refl

pub is_vec_written_out : (v : ℕ) → is_vec v ≡ eqb (head v) (2 ^ 14 - 1)
unfolding is_vec
is_vec_written_out v = refl

pub tag_written_out : (v : ℕ) → raw_tag v ≡ v % 2 ^ 3
unfolding raw_tag
tag_written_out v = omega arith

pub is_number_written_out : (v : ℕ) → is_u32_val v ≡ cond (is_scalar v) (eqb (raw_tag v) 6) false
unfolding is_u32_val
is_number_written_out v = refl

pub payload_written_out : (v : ℕ) → to_u32 v ≡ v / 2 ^ 18 % 2 ^ 32
unfolding to_u32
payload_written_out v = refl

pub pointer_written_out : (v : ℕ) → fat_pointer v ≡ record { offset = v / 2 ^ 25 % 2 ^ 25; size = v / 2 ^ 9 % 2 ^ 16 }
unfolding fat_pointer
pointer_written_out v = refl

pub is_bool_written_out : (v : ℕ) → is_bool v ≡ cond (is_scalar v) (cond (eqb (raw_tag v) 3) true (eqb (raw_tag v) 2)) false
unfolding is_bool
is_bool_written_out v = refl

pub alike_written_out : (tag left right : ℕ) → alike tag left right ≡ cond (eqb tag 6) (Ok (to_bool_val (eqb (to_u32 left) (to_u32 right)))) (cond (eqb tag 5) (Ok (to_bool_val (eqb (to_u32 left) (to_u32 right)))) (cond (eqb tag 3) (Ok (to_bool_val (eqb left right))) (cond (eqb tag 2) (Ok (to_bool_val (eqb left right))) (Err InvalidType))))
unfolding alike
alike_written_out tag left right = refl

pub vec_type_written_out : (tag : ℕ) → vec_type tag ≡ cond (eqb tag 6) (Some VecU32) (cond (eqb tag 4) (Some String) None)
unfolding vec_type
vec_type_written_out tag = refl

pub scalar_type_written_out : (tag : ℕ) → scalar_type tag ≡ cond (eqb tag 6) (Some U32) (cond (eqb tag 5) (Some CallData) (cond (eqb tag 4) (Some String) (cond (eqb tag 3) (Some Boolean) (cond (eqb tag 2) (Some Boolean) (cond (eqb tag 1) (Some Null) None)))))
unfolding scalar_type
scalar_type_written_out tag = refl
