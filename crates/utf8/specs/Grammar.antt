-- RFC 3629, section 4: the grammar of UTF-8, in the RFC's names and order.
use Rattle.std.specs.Prelude.{ℕ, ◌≤◌}
use mathlib.Core.List.{List, [], ◌∷◌, ◌++◌, Memᴰ}

-- octets from low to high
pub record Range : Type 0 where
  pub low : ℕ
  pub high : ℕ

-- %xLOW-HIGH
abbrev pub %x : ℕ → ℕ → Range
%x low high = record { low = low; high = high }

-- the alternatives of a rule, each a range for each of its octets
abbrev pub Rule : Type 0
Rule = List (List Range)

-- UTF8-tail = %x80-BF
abbrev pub UTF8_tail : Range
UTF8_tail = %x 0x80 0xBF

-- UTF8-1 = %x00-7F
abbrev pub UTF8_1 : Rule
UTF8_1 = (%x 0x00 0x7F ∷ []) ∷ []

-- UTF8-2 = %xC2-DF UTF8-tail
abbrev pub UTF8_2 : Rule
UTF8_2 = (%x 0xC2 0xDF ∷ UTF8_tail ∷ []) ∷ []

-- UTF8-3 = %xE0 %xA0-BF UTF8-tail / %xE1-EC 2( UTF8-tail ) / %xED %x80-9F UTF8-tail / %xEE-EF 2( UTF8-tail )
abbrev pub UTF8_3 : Rule
UTF8_3 =
    (%x 0xE0 0xE0 ∷ %x 0xA0 0xBF ∷ UTF8_tail ∷ [])
    ∷ (%x 0xE1 0xEC ∷ UTF8_tail ∷ UTF8_tail ∷ [])
    ∷ (%x 0xED 0xED ∷ %x 0x80 0x9F ∷ UTF8_tail ∷ [])
    ∷ (%x 0xEE 0xEF ∷ UTF8_tail ∷ UTF8_tail ∷ [])
    ∷ []

-- UTF8-4 = %xF0 %x90-BF 2( UTF8-tail ) / %xF1-F3 3( UTF8-tail ) / %xF4 %x80-8F 2( UTF8-tail )
abbrev pub UTF8_4 : Rule
UTF8_4 =
    (%x 0xF0 0xF0 ∷ %x 0x90 0xBF ∷ UTF8_tail ∷ UTF8_tail ∷ [])
    ∷ (%x 0xF1 0xF3 ∷ UTF8_tail ∷ UTF8_tail ∷ UTF8_tail ∷ [])
    ∷ (%x 0xF4 0xF4 ∷ %x 0x80 0x8F ∷ UTF8_tail ∷ UTF8_tail ∷ [])
    ∷ []

-- UTF8-char = UTF8-1 / UTF8-2 / UTF8-3 / UTF8-4
unfoldable pub UTF8_char : Rule
UTF8_char = UTF8_1 ++ UTF8_2 ++ UTF8_3 ++ UTF8_4

-- the octet lies in the range
pub record In (r : Range) (b : ℕ) : Type 0 where
  pub at_least : r.low ≤ b
  pub at_most : b ≤ r.high

-- the octets lie in the ranges, one in each
pub data Fits : List Range → List ℕ → Type 0 where
  end : Fits [] []
  octet : {r : Range} {b : ℕ} {due : List Range} {s : List ℕ} → In r b → Fits due s → Fits (r ∷ due) (b ∷ s)

-- the octets fit an alternative of the rule
pub data Word (rule : Rule) : List ℕ → Type 0 where
  word : {ranges : List Range} {s : List ℕ} → Memᴰ ranges rule → Fits ranges s → Word rule s

-- UTF8-octets = *( UTF8-char )
pub data UTF8_octets : List ℕ → Type 0 where
  none : UTF8_octets []
  char : {c s : List ℕ} → Word UTF8_char c → UTF8_octets s → UTF8_octets (c ++ s)
