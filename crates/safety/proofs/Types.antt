-- A read finds in each listed value the type of its kind.
use Prim.Native.Nat.{ℕ, ◌<◌}
use mathlib.Core.Path.{◌≡◌, ap, ◌∙◌}
use mathlib.Core.List.{List}
use lib.ListN.{length, get_or}
use Rattle.values.specs.Values.{get_value_type, scalar_type, vec_type}
use Rattle.values.proofs.Laws.{scalar_no_vec, bool_type}
use Rattle.labels.specs.declared.Kind.{Kind}
use Rattle.labels.specs.declared.Kind.TheVariants.{Number, Calldata, Boolean, Text, Numbers}
use Rattle.machine.specs.World.{World}
use Rattle.safety.specs.Kinds.{HasKind, type_of, Listed}

pub kind_type : (kind : Kind) (value : ℕ) → HasKind kind value → get_value_type value ≡ type_of kind
unfolding get_value_type scalar_type vec_type
kind_type Number value has = simp (scalar_no_vec value has.0, has.0, has.1)
kind_type Calldata value has = simp (scalar_no_vec value has.0, has.0, has.1)
kind_type Boolean value has = ap get_value_type has.1 ∙ bool_type has.0
kind_type Text value has = simp (has.0, has.1)
kind_type Numbers value has = simp (has.0, has.1)

-- the value at each position, from the bottom, has the type of the kind that is listed there
pub listed_types : (kinds : List Kind) (w : World) → Listed kinds w → (position : ℕ) → position < length kinds → get_value_type (get_or w.stack position 0) ≡ type_of (get_or kinds position Number)
listed_types kinds w listed position less = kind_type (get_or kinds position Number) (get_or w.stack position 0) (listed.of_kind position less)
