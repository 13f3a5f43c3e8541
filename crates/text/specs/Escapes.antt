-- Bytes as a reader of the listing sees them: one that could be taken for more than itself is a backslash and two hex digits.
use Rattle.std.specs.Prelude.{ℕ, ◌+◌, ◌/◌, ◌%◌, Bool, cond, ◌&&◌, ◌||◌, List, [], ◌∷◌, ◌++◌, eqb, leb, ltb}

-- the character of a hex digit, capitals: 0 to 9, then A to F
unfoldable pub capital : ℕ → ℕ
capital n = cond (ltb n 10) (48 + n) (55 + n)

-- a byte that is escaped: each below 32, 127 and the backslash; among bytes that are not UTF-8 each from 128 up, too
unfoldable pub is_escaped : Bool → ℕ → Bool
is_escaped high byte = ltb byte 32 || eqb byte 127 || eqb byte 92 || (high && leb 128 byte)

-- a backslash and two hex digits
abbrev pub escape : ℕ → List ℕ
escape byte = 92 ∷ capital (byte / 16) ∷ capital (byte % 16) ∷ []

-- a byte, escaped or as it is
unfoldable pub shown : Bool → ℕ → List ℕ
shown high byte = cond (is_escaped high byte) (escape byte) (byte ∷ [])

-- bytes, one after the other
unfoldable pub escaped : Bool → List ℕ → List ℕ
escaped high [] = []
escaped high (byte ∷ more) = shown high byte ++ escaped high more
