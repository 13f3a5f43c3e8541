-- What the code keeps while it goes through the octets: how many are due, and the range of the first of them.
use Rattle.std.specs.Prelude.{ℕ, zero, suc, List, [], ◌∷◌, Bool, false, Some, None, Option}
use Rattle.utf8.specs.Grammar.{Range, %x, UTF8_tail}
use Rattle.utf8.specs.Utf8.{from}

-- the ranges of the octets due: low to high, and then tails
unfoldable pub due : ℕ → ℕ → ℕ → List Range
due zero low high = []
due (suc more) low high = %x low high ∷ due more UTF8_tail.low UTF8_tail.high

-- the octets are those due after the step, and then characters
unfoldable pub valid_after : Option (ℕ × ℕ × ℕ) → List ℕ → Bool
valid_after None s = false
valid_after (Some (more, low, high)) s = from s (due more low high)
