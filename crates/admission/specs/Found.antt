-- The element at a place and the place behind it, or that the code's end cuts it.
use Rattle.std.specs.Prelude.{ℕ, ◌+◌, cond, List, leb, length, get_or, Some, None, Option}
use Rattle.std.specs.Coded.{Π_prop, Coded-set, coded_ℕ}
use Rattle.bytecode.specs.Operands.{extent_by, Follows}
use Rattle.labels.specs.Elements.{joined, element_end, whole_element}
use Rattle.labels.specs.declared.Element.{Element}

-- an element, and the place behind it
abbrev pub whole : Element → ℕ → Option (Element × ℕ)
whole element next = Some (element, next)

unfoldable pub found : List ℕ → ℕ → Option (Element × ℕ)
found code at = cond (leb (element_end code at) (length code)) (whole (whole_element code at (get_or code at 0)) (element_end code at)) None

-- the same by how far the instruction reaches, and by a table of operand sizes
unfoldable pub found_extent : List ℕ → ℕ → Option ℕ → Option (Element × ℕ)
found_extent code at (Some next) = whole (whole_element code at (get_or code at 0)) next
found_extent code at None = None

unfoldable pub found_by : List ℕ → List ℕ → ℕ → Option (Element × ℕ)
found_by sizes code at = cond (joined code at) (whole (whole_element code at (get_or code at 0)) (at + 3)) (found_extent code at (extent_by sizes code at))

-- a table follows the rule in one way
pub Follows-prop : (sizes : List ℕ) → IsProp (Follows sizes)
Follows-prop sizes a b i = record { rule = Π_prop (λ op. Π_prop λ _. Coded-set coded_ℕ _ _) a.rule b.rule i }
