-- What was boxed comes back: fields stand side by side, each is what went in, over its whole range, and a box is of one kind only.
use Prim.Native.Nat.{ℕ, ◌+◌, ◌*◌, ◌/◌, ◌%◌, ◌^◌, ◌<◌}
use mathlib.Core.Bool.{Bool, true, false, not}
use mathlib.Core.Path.{◌≡◌, refl}
use native.Mathlib.Omega.{arith}
use lib.Dec.{eqb}
use borrow.Author.Tests.{eq-eqb, ne_eqb, eqb-true}
use Rattle.values.specs.Values.{SIGN_BEGIN, QNAN_BEGIN, QNAN_WIDTH, PAYLOAD_BEGIN, PAYLOAD_WIDTH, OFFSET_BEGIN, OFFSET_WIDTH, SIZE_BEGIN, SIZE_WIDTH, TAG_BEGIN, TAG_WIDTH, QNAN, make_scalar_tagged, make_vec_tagged, to_u32_val, to_calldata_val, to_bool_val, head, is_qnan, is_scalar, is_vec, raw_tag, to_u32, fat_pointer, bool_not, get_value_type, vec_type, scalar_type}
use Rattle.values.specs.declared.ValueType.TheVariants.{U32, String, CallData, Boolean, VecU32}
use Rattle.std.specs.Prelude.{Some}

-- the fields of a scalar stand side by side: each begins where those to its right end
pub scalar_side_by_side : (PAYLOAD_BEGIN ≡ 2 ^ 15 * TAG_WIDTH * TAG_BEGIN) × (QNAN_BEGIN ≡ PAYLOAD_WIDTH * PAYLOAD_BEGIN)
scalar_side_by_side = (refl, refl)

-- so do those of a vector
pub vec_side_by_side : (SIZE_BEGIN ≡ 2 ^ 6 * TAG_WIDTH * TAG_BEGIN) × ((OFFSET_BEGIN ≡ SIZE_WIDTH * SIZE_BEGIN) × (QNAN_BEGIN ≡ OFFSET_WIDTH * OFFSET_BEGIN))
vec_side_by_side = (refl, (refl, refl))

-- and the sign is the highest bit of the word
pub sign_is_highest : (SIGN_BEGIN ≡ QNAN_WIDTH * QNAN_BEGIN) × (2 ^ 64 ≡ 2 * SIGN_BEGIN)
sign_is_highest = (refl, refl)

-- the head of a scalar comes back
pub scalar_head_back : (tag payload : ℕ) → head (make_scalar_tagged tag payload) ≡ 0 * QNAN_WIDTH + QNAN
unfolding make_scalar_tagged
scalar_head_back tag payload = omega arith

-- the head of a vector comes back
pub vec_head_back : (offset size tag : ℕ) → head (make_vec_tagged offset size tag) ≡ 1 * QNAN_WIDTH + QNAN
unfolding make_vec_tagged
vec_head_back offset size tag = omega arith

-- a scalar is a scalar
pub scalar_is_scalar : (tag payload : ℕ) → is_scalar (make_scalar_tagged tag payload) ≡ true
unfolding is_scalar
scalar_is_scalar tag payload = eq-eqb _ _ (scalar_head_back tag payload)

-- a vector is a vector
pub vec_is_vec : (offset size tag : ℕ) → is_vec (make_vec_tagged offset size tag) ≡ true
unfolding is_vec
vec_is_vec offset size tag = eq-eqb _ _ (vec_head_back offset size tag)

-- no value is both
pub scalar_no_vec : (v : ℕ) → is_scalar v ≡ true → is_vec v ≡ false
unfolding is_scalar is_vec
scalar_no_vec v s = let h : head v ≡ 0 * QNAN_WIDTH + QNAN = eqb-true _ _ s in ne_eqb (head v) (1 * QNAN_WIDTH + QNAN) (λ e. omega arith)

-- each is boxed
pub scalar_boxed : (v : ℕ) → is_scalar v ≡ true → is_qnan v ≡ true
unfolding is_scalar is_qnan
scalar_boxed v s = let h : head v ≡ 0 * QNAN_WIDTH + QNAN = eqb-true _ _ s in eq-eqb (head v % QNAN_WIDTH) QNAN (omega arith)

pub vec_boxed : (v : ℕ) → is_vec v ≡ true → is_qnan v ≡ true
unfolding is_vec is_qnan
vec_boxed v s = let h : head v ≡ 1 * QNAN_WIDTH + QNAN = eqb-true _ _ s in eq-eqb (head v % QNAN_WIDTH) QNAN (omega arith)

-- the payload of a scalar comes back
pub payload_back : (tag payload : ℕ) → payload < 2 ^ 32 → to_u32 (make_scalar_tagged tag payload) ≡ payload
unfolding make_scalar_tagged to_u32
payload_back tag payload small = omega arith

-- and so does its tag
pub scalar_tag_back : (tag payload : ℕ) → tag < 2 ^ 3 → raw_tag (make_scalar_tagged tag payload) ≡ tag
unfolding make_scalar_tagged raw_tag
scalar_tag_back tag payload small = omega arith

-- the offset and the size of a vector come back
pub pointer_back : (offset size tag : ℕ) → offset < 2 ^ 25 → size < 2 ^ 16 → fat_pointer (make_vec_tagged offset size tag) ≡ record { offset = offset; size = size }
unfolding make_vec_tagged fat_pointer
pointer_back offset size tag small short =
    let o : make_vec_tagged offset size tag / OFFSET_BEGIN % OFFSET_WIDTH ≡ offset = omega arith in
    let s : make_vec_tagged offset size tag / SIZE_BEGIN % SIZE_WIDTH ≡ size = omega arith in
    simp (o, s)

-- and so does its tag
pub vec_tag_back : (offset size tag : ℕ) → tag < 2 ^ 3 → raw_tag (make_vec_tagged offset size tag) ≡ tag
unfolding make_vec_tagged raw_tag
vec_tag_back offset size tag small = omega arith

-- the unused bits of a scalar are zeros
pub scalar_unused : (tag payload : ℕ) → make_scalar_tagged tag payload / (TAG_WIDTH * TAG_BEGIN) % 2 ^ 15 ≡ 0
unfolding make_scalar_tagged
scalar_unused tag payload = omega arith

-- and those of a vector
pub vec_unused : (offset size tag : ℕ) → make_vec_tagged offset size tag / (TAG_WIDTH * TAG_BEGIN) % 2 ^ 6 ≡ 0
unfolding make_vec_tagged
vec_unused offset size tag = omega arith

-- a vector read as a number
pub vec_as_number : (offset size tag : ℕ) → offset < 2 ^ 25 → size < 2 ^ 16 → to_u32 (make_vec_tagged offset size tag) ≡ 128 * offset + size / 512
unfolding make_vec_tagged to_u32
vec_as_number offset size tag small short = omega arith

-- the other bool
pub bool_turned : (b : Bool) → bool_not (to_bool_val b) ≡ to_bool_val (not b)
unfolding bool_not to_bool_val make_scalar_tagged
bool_turned true = refl
bool_turned false = refl

-- a bool comes back
pub bool_back : (b : Bool) → eqb (to_bool_val b) (to_bool_val true) ≡ b
unfolding to_bool_val make_scalar_tagged
bool_back true = refl
bool_back false = refl

-- the type of a scalar by its tag alone
scalar_typed : (tag payload : ℕ) → tag < 2 ^ 3 → get_value_type (make_scalar_tagged tag payload) ≡ scalar_type tag
unfolding get_value_type
scalar_typed tag payload small =
    simp (scalar_no_vec _ (scalar_is_scalar tag payload), scalar_is_scalar tag payload, scalar_tag_back tag payload small)

-- the type of a vector by its tag alone
vec_typed : (offset size tag : ℕ) → tag < 2 ^ 3 → get_value_type (make_vec_tagged offset size tag) ≡ vec_type tag
unfolding get_value_type
vec_typed offset size tag small = simp (vec_is_vec offset size tag, vec_tag_back offset size tag small)

-- the type of each box
pub number_type : (n : ℕ) → get_value_type (to_u32_val n) ≡ Some U32
unfolding scalar_type
number_type n = scalar_typed 6 n (omega arith)

pub calldata_type : (index : ℕ) → get_value_type (to_calldata_val index) ≡ Some CallData
unfolding scalar_type
calldata_type index = scalar_typed 5 index (omega arith)

pub bool_type : (b : Bool) → get_value_type (to_bool_val b) ≡ Some Boolean
unfolding scalar_type to_bool_val
bool_type true = scalar_typed 3 0 (omega arith)
bool_type false = scalar_typed 2 0 (omega arith)

pub text_type : (offset size : ℕ) → get_value_type (make_vec_tagged offset size 4) ≡ Some String
unfolding vec_type
text_type offset size = vec_typed offset size 4 (omega arith)

pub numbers_type : (offset size : ℕ) → get_value_type (make_vec_tagged offset size 6) ≡ Some VecU32
unfolding vec_type
numbers_type offset size = vec_typed offset size 6 (omega arith)
