-- UTF-8 as a test that goes through the octets once.
use Rattle.std.specs.Prelude.{ℕ, List, [], ◌∷◌, Bool, true, false, cond, ◌&&◌, leb}
use Rattle.utf8.specs.Grammar.{Range, Rule, UTF8_char}

-- the octet lies in the range
unfoldable pub holds : Range → ℕ → Bool
holds r b = leb r.low b && leb b r.high

-- b begins an alternative of the rule, and what the first such asks for after b passes `rest`
unfoldable pub lead : Rule → ℕ → (List Range → Bool) → Bool
lead [] b rest = false
lead ([] ∷ rule) b rest = lead rule b rest
lead ((r ∷ due) ∷ rule) b rest = cond (holds r b) (rest due) (lead rule b rest)

-- the octets are those due, and then characters
unfoldable pub from : List ℕ → List Range → Bool
from [] [] = true
from [] (r ∷ due) = false
from (b ∷ s) [] = lead UTF8_char b (from s)
from (b ∷ s) (r ∷ due) = holds r b && from s due

-- the octets are UTF-8
unfoldable pub valid : List ℕ → Bool
valid s = from s []
