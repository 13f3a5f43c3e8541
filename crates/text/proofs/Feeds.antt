-- Where a text ends: texts that lack a byte, and a text cut at the first such byte.
use Prim.Native.Nat.{ℕ, zero, suc, ◌+◌, ◌/◌, ◌%◌, ◌≤◌, ◌<◌}
use mathlib.Core.Bool.{Bool, true, false, cond, not, ◌&&◌, and_assoc, true≢false}
use mathlib.Core.List.{List, [], ◌∷◌, ◌++◌}
use mathlib.Core.Path.{◌≡◌, refl, sym, ap, ◌∙◌}
use native.Mathlib.Omega.{arith}
use lib.Dec.{eqb, ltb}
use borrow.Author.Tests.{eq-eqb, ne_eqb}
use Rattle.text.specs.Numbers.{digit, digits, decimal, hex, spaced}
use Rattle.text.specs.Escapes.{capital, is_escaped, shown, escaped}

-- none of the bytes is this one
unfoldable pub lacks : ℕ → List ℕ → Bool
lacks byte [] = true
lacks byte (first ∷ more) = not (eqb first byte) && lacks byte more

-- one text behind another
pub lacks_append : (byte : ℕ) (a b : List ℕ) → lacks byte (a ++ b) ≡ (lacks byte a && lacks byte b)
unfolding lacks
lacks_append byte [] b = refl
lacks_append byte (first ∷ a) b = rw (lacks_append byte a b) (sym (and_assoc (not (eqb first byte)) (lacks byte a) (lacks byte b)))

-- ---- numbers and bytes as text

-- the character of a digit: `digit` counts the letters from 87, `capital` from 55
abbrev pub character : ℕ → ℕ → ℕ
character letters n = cond (ltb n 10) (48 + n) (letters + n)

-- no character of a digit is below 48
character_high : (letters n : ℕ) → 48 ≤ letters → 48 ≤ character letters n
character_high letters n above = by (ltb n 10)
  where
    by : (small : Bool) → 48 ≤ cond small (48 + n) (letters + n)
    by true = omega arith
    by false = omega arith

-- a digit in front
digit_lacks : (byte letters n : ℕ) (more : List ℕ) → byte < 48 → 48 ≤ letters → lacks byte (character letters n ∷ more) ≡ lacks byte more
unfolding lacks
digit_lacks byte letters n more low above = rw (ne_eqb (character letters n) byte (λ same. omega (arith, character_high letters n above)))

-- the digits of a number
digits_lack : (byte most : ℕ) (has_one : Bool) (n : ℕ) → byte < 48 → lacks byte (digits most has_one n) ≡ true
unfolding lacks digits digit
digits_lack byte zero has_one n low = digit_lacks byte 87 n [] low (omega arith)
digits_lack byte (suc most) true n low = digit_lacks byte 87 n [] low (omega arith)
digits_lack byte (suc most) false n low =
    lacks_append byte (digits most (ltb (n / 10) 10) (n / 10)) (digit (n % 10) ∷ [])
    ∙ rw (digits_lack byte most (ltb (n / 10) 10) (n / 10) low, digit_lacks byte 87 (n % 10) [] low (omega arith))

-- a number in decimal
pub decimal_lacks : (byte n : ℕ) → byte < 48 → lacks byte (decimal n) ≡ true
unfolding decimal
decimal_lacks byte n = digits_lack byte n (ltb n 10) n

-- a number in front
pub decimal_then : (n : ℕ) (rest : List ℕ) → lacks 10 (decimal n ++ rest) ≡ lacks 10 rest
decimal_then n rest = lacks_append 10 (decimal n) rest ∙ rw (decimal_lacks 10 n (omega arith))

-- numbers in decimal, a space before each
pub spaced_lacks : (numbers : List ℕ) → lacks 10 (spaced numbers) ≡ true
unfolding lacks spaced
spaced_lacks [] = refl
spaced_lacks (n ∷ more) = decimal_then n (spaced more) ∙ spaced_lacks more

-- bytes in hex
pub hex_lacks : (bytes : List ℕ) → lacks 10 (hex bytes) ≡ true
unfolding lacks hex digit
hex_lacks [] = refl
hex_lacks (byte ∷ more) =
    digit_lacks 10 87 (byte / 16) (digit (byte % 16) ∷ hex more) (omega arith) (omega arith)
    ∙ digit_lacks 10 87 (byte % 16) (hex more) (omega arith) (omega arith)
    ∙ hex_lacks more

-- a byte that is not escaped is none that is
pub not_escaped : (high : Bool) (byte other : ℕ) → is_escaped high byte ≡ false → is_escaped high other ≡ true → eqb byte other ≡ false
not_escaped high byte other plain escapes = ne_eqb byte other (λ same. true≢false (sym escapes ∙ ap (is_escaped high) (sym same) ∙ plain))

-- a byte as it is shown
shown_lacks : (high : Bool) (byte : ℕ) → lacks 10 (shown high byte) ≡ true
unfolding lacks shown is_escaped capital
shown_lacks high byte = by (is_escaped high byte) refl
  where
    by : (test : Bool) → is_escaped high byte ≡ test → lacks 10 (shown high byte) ≡ true
    by true test =
        rw test
        (digit_lacks 10 55 (byte / 16) (capital (byte % 16) ∷ []) (omega arith) (omega arith)
        ∙ digit_lacks 10 55 (byte % 16) [] (omega arith) (omega arith))
    by false test = rw (test, not_escaped high byte 10 test refl)

-- escaped bytes
pub escaped_lacks : (high : Bool) (bytes : List ℕ) → lacks 10 (escaped high bytes) ≡ true
unfolding lacks escaped
escaped_lacks high [] = refl
escaped_lacks high (byte ∷ more) = lacks_append 10 (shown high byte) (escaped high more) ∙ rw (shown_lacks high byte, escaped_lacks high more)

-- ---- cut at a byte

-- what stands before the first such byte, and what behind it
unfoldable pub cut_at : ℕ → List ℕ → List ℕ × List ℕ
cut_at byte [] = ([], [])
cut_at byte (first ∷ more) = cond (eqb first byte) ([], more) (first ∷ (cut_at byte more).0, (cut_at byte more).1)

-- a text that lacks the byte stands before it
pub cut_at_first : (byte : ℕ) (before behind : List ℕ) → lacks byte before ≡ true → cut_at byte (before ++ byte ∷ behind) ≡ (before, behind)
unfolding lacks cut_at
cut_at_first byte [] behind plain = rw (eq-eqb byte byte refl)
cut_at_first byte (first ∷ before) behind plain = by (eqb first byte) refl (cut_at_first byte before behind)
  where
    by : (test : Bool) → eqb first byte ≡ test → (lacks byte before ≡ true → cut_at byte (before ++ byte ∷ behind) ≡ (before, behind))
        → cut_at byte (first ∷ before ++ byte ∷ behind) ≡ (first ∷ before, behind)
    by true test more = absurd (true≢false (sym plain ∙ rw test))
    by false test more = rw (test, more (rw test at plain))

-- two such texts that are the same have the same before the byte, and the same behind it
pub cut_same : (byte : ℕ) {before behind other others : List ℕ} → lacks byte before ≡ true → lacks byte other ≡ true
    → before ++ byte ∷ behind ≡ other ++ byte ∷ others → (before ≡ other) × (behind ≡ others)
cut_same byte {before} {behind} {other} {others} plain plain-too same =
    let parts = sym (cut_at_first byte before behind plain) ∙ ap (cut_at byte) same ∙ cut_at_first byte other others plain-too in
    (ap (λ (l : List ℕ × List ℕ). l.0) parts, ap (λ (l : List ℕ × List ℕ). l.1) parts)
