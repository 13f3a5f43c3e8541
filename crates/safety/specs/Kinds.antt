-- What it means that a value has a kind, and that a machine's values have the listed kinds.
use Rattle.std.specs.Prelude.{ℕ, ◌<◌, ◌≡◌, Bool, true, List, length, get_or, Option, Some}
use Rattle.values.specs.Values.{is_scalar, is_vec, raw_tag, to_bool_val}
use Rattle.values.specs.declared.ValueType.{ValueType}
use Rattle.values.specs.declared.ValueType.TheVariants as types
use Rattle.labels.specs.declared.Kind.{Kind}
use Rattle.labels.specs.declared.Kind.TheVariants.{Number, Calldata, Boolean, Text, Numbers}
use Rattle.machine.specs.World.{World}

-- N: a scalar of tag 6; C: a scalar of tag 5; B: TRUE or FALSE; S: a vector of tag 4; V: a vector of tag 6
abbrev pub HasKind : Kind → ℕ → Type 0
HasKind Number value = (is_scalar value ≡ true) × (raw_tag value ≡ 6)
HasKind Calldata value = (is_scalar value ≡ true) × (raw_tag value ≡ 5)
HasKind Boolean value = (b : Bool) × (value ≡ to_bool_val b)
HasKind Text value = (is_vec value ≡ true) × (raw_tag value ≡ 4)
HasKind Numbers value = (is_vec value ≡ true) × (raw_tag value ≡ 6)

-- the type that a read finds in a value of a kind
abbrev pub type_of : Kind → Option ValueType
type_of Number = Some types.U32
type_of Calldata = Some types.CallData
type_of Boolean = Some types.Boolean
type_of Text = Some types.String
type_of Numbers = Some types.VecU32

-- as many values as kinds, and at each position from the bottom a value of the kind listed there
pub record Listed (kinds : List Kind) (w : World) : Type 0 where
  pub as_many : w.machine.height ≡ length kinds
  pub of_kind : (position : ℕ) → position < length kinds → HasKind (get_or kinds position Number) (get_or w.stack position 0)
