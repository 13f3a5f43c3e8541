-- Boxed values: a scalar or a vector in one word of 64 bits, made and read field by field as they are drawn.
--
--    bit   63   62         50 49                            18 17              3 2      0
--         +----+-------------+--------------------------------+-----------------+--------+
--         |sign| QNAN        | payload                        | unused          | tag    |
--         | 0  | 13 ones     | 32 bits                        | 15 zeros        | 3 bits |   a scalar
--         +----+-------------+--------------------------------+-----------------+--------+
--
--    bit   63   62         50 49                     25 24             9 8       3 2      0
--         +----+-------------+-------------------------+----------------+---------+--------+
--         |sign| QNAN        | offset                  | size           | unused  | tag    |
--         | 1  | 13 ones     | 25 bits                 | 16 bits        | 6 zeros | 3 bits |   a vector
--         +----+-------------+-------------------------+----------------+---------+--------+
--
-- A field begins at 2^k if its lowest bit has number k, and is 2^w wide if it has w bits. A box is the sum of its fields, each multiplied by where it
-- begins. A field is read by dividing the word by where the field begins, and taking of that the remainder by the field's width.
use Rattle.std.specs.Prelude.{ℕ, ◌+◌, ◌-◌, ◌*◌, ◌/◌, ◌%◌, ◌^◌, Bool, true, false, cond, not, eqb, ltb, Ok, Err, Some, None, Result, Option}
use Rattle.errors.specs.declared.Refusal.TheVariants.{InvalidType, TypeMismatch, MultiplicationOverflowed, MSliceParamOverflow}
use Rattle.values.specs.declared.FatPointer.{FatPointer}
use Rattle.values.specs.declared.ValueType.{ValueType}
use Rattle.values.specs.declared.ValueType.TheVariants.{U32, String, CallData, Boolean, VecU32, Null}
use Rattle.errors.specs.declared.Refusal.{Refusal}

-- where each field begins, and how wide it is
abbrev pub SIGN_BEGIN : ℕ
SIGN_BEGIN = 2 ^ 63

abbrev pub QNAN_BEGIN : ℕ
QNAN_BEGIN = 2 ^ 50

abbrev pub QNAN_WIDTH : ℕ
QNAN_WIDTH = 2 ^ 13

abbrev pub PAYLOAD_BEGIN : ℕ
PAYLOAD_BEGIN = 2 ^ 18

abbrev pub PAYLOAD_WIDTH : ℕ
PAYLOAD_WIDTH = 2 ^ 32

abbrev pub OFFSET_BEGIN : ℕ
OFFSET_BEGIN = 2 ^ 25

abbrev pub OFFSET_WIDTH : ℕ
OFFSET_WIDTH = 2 ^ 25

abbrev pub SIZE_BEGIN : ℕ
SIZE_BEGIN = 2 ^ 9

abbrev pub SIZE_WIDTH : ℕ
SIZE_WIDTH = 2 ^ 16

abbrev pub TAG_BEGIN : ℕ
TAG_BEGIN = 2 ^ 0

abbrev pub TAG_WIDTH : ℕ
TAG_WIDTH = 2 ^ 3

-- the QNAN bits, all ones
abbrev pub QNAN : ℕ
QNAN = QNAN_WIDTH - 1

-- what the tag of a value can be
abbrev pub TAG_NULL : ℕ
TAG_NULL = 1

abbrev pub TAG_FALSE : ℕ
TAG_FALSE = 2

abbrev pub TAG_TRUE : ℕ
TAG_TRUE = 3

abbrev pub TAG_STRING : ℕ
TAG_STRING = 4

abbrev pub TAG_CALLDATA : ℕ
TAG_CALLDATA = 5

abbrev pub TAG_U32 : ℕ
TAG_U32 = 6

-- a scalar: sign 0, QNAN, payload, tag
unfoldable pub make_scalar_tagged : ℕ → ℕ → ℕ
make_scalar_tagged tag payload =
    0 * SIGN_BEGIN
    + QNAN * QNAN_BEGIN
    + payload % PAYLOAD_WIDTH * PAYLOAD_BEGIN
    + tag % TAG_WIDTH * TAG_BEGIN

-- a vector: sign 1, QNAN, offset, size, tag
unfoldable pub make_vec_tagged : ℕ → ℕ → ℕ → ℕ
make_vec_tagged offset size tag =
    1 * SIGN_BEGIN
    + QNAN * QNAN_BEGIN
    + offset % OFFSET_WIDTH * OFFSET_BEGIN
    + size % SIZE_WIDTH * SIZE_BEGIN
    + tag % TAG_WIDTH * TAG_BEGIN

-- a vector, whose offset must fit its field
unfoldable pub to_vec_val : ℕ → ℕ → ℕ → Result ℕ Refusal
to_vec_val offset size tag = cond (ltb offset OFFSET_WIDTH) (Ok (make_vec_tagged offset size tag)) (Err MSliceParamOverflow)

-- a number
abbrev pub to_u32_val : ℕ → ℕ
to_u32_val number = make_scalar_tagged TAG_U32 number

-- a reference to an entry of the pool
abbrev pub to_calldata_val : ℕ → ℕ
to_calldata_val index = make_scalar_tagged TAG_CALLDATA index

-- TRUE and FALSE
unfoldable pub to_bool_val : Bool → ℕ
to_bool_val true = make_scalar_tagged TAG_TRUE 0
to_bool_val false = make_scalar_tagged TAG_FALSE 0

-- the sign and the QNAN bits
abbrev pub head : ℕ → ℕ
head v = v / QNAN_BEGIN

-- boxed: the QNAN bits are ones
unfoldable pub is_qnan : ℕ → Bool
is_qnan v = eqb (head v % QNAN_WIDTH) QNAN

-- a scalar: sign 0, and behind it QNAN
unfoldable pub is_scalar : ℕ → Bool
is_scalar v = eqb (head v) (0 * QNAN_WIDTH + QNAN)

-- a vector: sign 1, and behind it QNAN
unfoldable pub is_vec : ℕ → Bool
is_vec v = eqb (head v) (1 * QNAN_WIDTH + QNAN)

-- the tag in any word
unfoldable pub raw_tag : ℕ → ℕ
raw_tag v = v / TAG_BEGIN % TAG_WIDTH

-- the tag of a boxed value
unfoldable pub tag_of : ℕ → Result ℕ Refusal
tag_of v = cond (is_qnan v) (Ok (raw_tag v)) (Err InvalidType)

-- a number, by its box
unfoldable pub is_u32_val : ℕ → Bool
is_u32_val v = cond (is_scalar v) (eqb (raw_tag v) TAG_U32) false

-- any value read as a number: the payload of a scalar, 128·offset + size div 512 of a vector
unfoldable pub to_u32 : ℕ → ℕ
to_u32 v = v / PAYLOAD_BEGIN % PAYLOAD_WIDTH

-- the offset and the size of a vector
unfoldable pub fat_pointer : ℕ → FatPointer
fat_pointer v = record { offset = v / OFFSET_BEGIN % OFFSET_WIDTH; size = v / SIZE_BEGIN % SIZE_WIDTH }

-- the same, where the value is a vector
unfoldable pub to_fat_pointer : ℕ → Result FatPointer Refusal
to_fat_pointer v = cond (is_vec v) (Ok (fat_pointer v)) (Err InvalidType)

-- the lowest bit turned: TRUE for FALSE and FALSE for TRUE
unfoldable pub bool_not : ℕ → ℕ
bool_not v = cond (eqb (v % 2) 0) (v + 1) (v - 1)

-- a product of two numbers, which must be below 2^32
unfoldable pub product : ℕ → ℕ → Result ℕ Refusal
product left right = cond (ltb (left * right) (2 ^ 32)) (Ok (to_u32_val (left * right))) (Err MultiplicationOverflowed)

-- MUL
unfoldable pub mul_checked : ℕ → ℕ → Result ℕ Refusal
mul_checked lhs rhs =
    cond (is_u32_val lhs)
    (cond (is_u32_val rhs) (product (to_u32 lhs) (to_u32 rhs)) (Err InvalidType))
    (Err InvalidType)

-- MULI
unfoldable pub mul_checked_i : ℕ → ℕ → Result ℕ Refusal
mul_checked_i lhs rhs = cond (is_u32_val lhs) (product (to_u32 lhs) rhs) (Err InvalidType)

-- TRUE or FALSE, by its box
unfoldable pub is_bool : ℕ → Bool
is_bool v = cond (is_scalar v) (cond (eqb (raw_tag v) TAG_TRUE) true (eqb (raw_tag v) TAG_FALSE)) false

-- exactly one side is a vector
unfoldable pub one_vector : ℕ → ℕ → Bool
one_vector left right = cond (is_vec left) (not (is_vec right)) (is_vec right)

-- of one tag, or two bools
unfoldable pub of_one_kind : ℕ → ℕ → Bool
of_one_kind left right = cond (eqb (raw_tag left) (raw_tag right)) true (cond (is_bool left) (is_bool right) false)

-- two values of one kind, by the left one's tag: numbers and references by what they read as, bools by the whole word
unfoldable pub alike : ℕ → ℕ → ℕ → Result ℕ Refusal
alike tag left right =
    cond (eqb tag TAG_U32) (Ok (to_bool_val (eqb (to_u32 left) (to_u32 right))))
    (cond (eqb tag TAG_CALLDATA) (Ok (to_bool_val (eqb (to_u32 left) (to_u32 right))))
    (cond (eqb tag TAG_TRUE) (Ok (to_bool_val (eqb left right)))
    (cond (eqb tag TAG_FALSE) (Ok (to_bool_val (eqb left right))) (Err InvalidType))))

-- EQ of two values, not both vectors: 5 for a word that is no box; 6 for a vector with a scalar, then for different tags, but TRUE and FALSE are compared
unfoldable pub value_eq : ℕ → ℕ → Result ℕ Refusal
value_eq left right =
    cond (is_qnan left)
    (cond (is_qnan right)
    (cond (one_vector left right) (Err TypeMismatch)
    (cond (of_one_kind left right) (alike (raw_tag left) left right) (Err TypeMismatch)))
    (Err InvalidType))
    (Err InvalidType)

-- an answer turned round
unfoldable pub turned : Result ℕ Refusal → Result ℕ Refusal
turned (Ok v) = Ok (bool_not v)
turned (Err refusal) = Err refusal

-- NEQ of them
unfoldable pub value_neq : ℕ → ℕ → Result ℕ Refusal
value_neq left right = turned (value_eq left right)

-- LT, and GT where is_lt is false
unfoldable pub value_cmp : ℕ → ℕ → Bool → Result ℕ Refusal
value_cmp left right is_lt =
    cond (is_u32_val left)
    (cond (is_u32_val right)
    (Ok (to_bool_val (cond is_lt (ltb (to_u32 left) (to_u32 right)) (ltb (to_u32 right) (to_u32 left)))))
    (Err InvalidType))
    (Err InvalidType)

-- the type of a vector by its tag
unfoldable pub vec_type : ℕ → Option ValueType
vec_type tag = cond (eqb tag TAG_U32) (Some VecU32) (cond (eqb tag TAG_STRING) (Some String) None)

-- the type of a scalar by its tag
unfoldable pub scalar_type : ℕ → Option ValueType
scalar_type tag =
    cond (eqb tag TAG_U32) (Some U32)
    (cond (eqb tag TAG_CALLDATA) (Some CallData)
    (cond (eqb tag TAG_STRING) (Some String)
    (cond (eqb tag TAG_TRUE) (Some Boolean)
    (cond (eqb tag TAG_FALSE) (Some Boolean)
    (cond (eqb tag TAG_NULL) (Some Null) None)))))

-- the type of a value, if it has one
unfoldable pub get_value_type : ℕ → Option ValueType
get_value_type v = cond (is_vec v) (vec_type (raw_tag v)) (cond (is_scalar v) (scalar_type (raw_tag v)) None)
