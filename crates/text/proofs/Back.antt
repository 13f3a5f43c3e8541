-- Numbers and bytes read back from a text: each form is read back as what it was written of.
use Prim.Native.Nat.{ℕ, zero, suc, ◌+◌, ◌-◌, ◌*◌, ◌/◌, ◌%◌, ◌≤◌, ◌<◌}
use mathlib.Core.Bool.{Bool, true, false, cond, ◌&&◌}
use mathlib.Core.List.{List, [], ◌∷◌, ◌++◌, append_assoc}
use mathlib.Core.Path.{◌≡◌, refl, ap, ◌∙◌}
use native.Mathlib.Omega.{arith}
use lib.Dec.{eqb, ltb}
use lib.ListN.{get_or}
use borrow.Author.Tests.{lt-ltb, le-ltb, ltb-true, ltb-false}
use Rattle.text.specs.Numbers.{digit, digits, decimal, hex, spaced}
use Rattle.text.specs.Escapes.{capital, is_escaped, shown, escaped}
use Rattle.text.proofs.Feeds.{character, not_escaped}

-- a text begins with a word
unfoldable pub begins : List ℕ → List ℕ → Bool
begins [] text = true
begins (byte ∷ word) [] = false
begins (byte ∷ word) (first ∷ more) = eqb byte first && begins word more

-- ---- decimal numbers

-- the numbers of a text behind the one that is being read, if there is one; a byte below 48 ends it
unfoldable pub read_numbers : List ℕ → List ℕ → List ℕ
read_numbers pending [] = pending
read_numbers pending (byte ∷ more) =
    cond (ltb byte 48) (pending ++ read_numbers [] more) (read_numbers ((10 * get_or pending 0 0 + (byte - 48)) ∷ []) more)

-- one digit more
digit_back : {whole : ℕ} (n : ℕ) (pending rest : List ℕ) → n < 10 → 10 * get_or pending 0 0 + n ≡ whole
    → read_numbers pending (digit n ∷ rest) ≡ read_numbers (whole ∷ []) rest
unfolding read_numbers digit
digit_back {whole} n pending rest small is =
    let above : 48 ≤ 48 + n = omega arith in
    let more : 10 * get_or pending 0 0 + (48 + n - 48) ≡ whole = omega arith in
    rw (lt-ltb n 10 small, le-ltb (48 + n) 48 above, more)

-- the digits of a number
digits_back : (most : ℕ) (has_one : Bool) (n : ℕ) (rest : List ℕ) → ltb n 10 ≡ has_one → n ≤ most
    → read_numbers [] (digits most has_one n ++ rest) ≡ read_numbers (n ∷ []) rest
unfolding digits
digits_back zero has_one n rest test few = digit_back n [] rest (omega arith) (omega arith)
digits_back (suc most) true n rest test few = digit_back n [] rest (ltb-true n 10 test) (omega arith)
digits_back (suc most) false n rest test few =
    let long : 10 ≤ n = ltb-false n 10 test in
    ap (read_numbers []) (append_assoc (digits most (ltb (n / 10) 10) (n / 10)) (digit (n % 10) ∷ []) rest)
    ∙ digits_back most (ltb (n / 10) 10) (n / 10) (digit (n % 10) ∷ rest) refl (omega arith)
    ∙ digit_back (n % 10) (n / 10 ∷ []) rest (omega arith) (omega arith)

-- a number in decimal
pub decimal_back : (n : ℕ) (rest : List ℕ) → read_numbers [] (decimal n ++ rest) ≡ read_numbers (n ∷ []) rest
unfolding decimal
decimal_back n rest = digits_back n (ltb n 10) n rest refl (omega arith)

-- numbers in decimal, a space before each, up to a line feed
pub spaced_back : (pending numbers : List ℕ) → read_numbers pending (spaced numbers ++ 10 ∷ []) ≡ pending ++ numbers
unfolding read_numbers spaced
spaced_back pending [] = refl
spaced_back pending (n ∷ more) =
    ap (λ (l : List ℕ). pending ++ l)
    (ap (read_numbers []) (append_assoc (decimal n) (spaced more) (10 ∷ [])) ∙ decimal_back n (spaced more ++ 10 ∷ []) ∙ spaced_back (n ∷ []) more)

-- ---- bytes as two digits

-- a digit by its character
digit_of : ℕ → ℕ → ℕ
digit_of letters byte = cond (ltb byte 58) (byte - 48) (byte - letters)

-- the byte of two digits
pair_of : ℕ → ℕ → ℕ → ℕ
pair_of letters high low = 16 * digit_of letters high + digit_of letters low

-- the character of a digit
character_back : (letters n : ℕ) → 48 ≤ letters → digit_of letters (character letters n) ≡ n
unfolding digit_of
character_back letters n above = by (ltb n 10) refl
  where
    by : (small : Bool) → ltb n 10 ≡ small → digit_of letters (cond small (48 + n) (letters + n)) ≡ n
    by true test =
        let low : 48 + n < 58 = omega (arith, ltb-true n 10 test) in
        rw (lt-ltb (48 + n) 58 low) (omega arith)
    by false test =
        let high : 58 ≤ letters + n = omega (arith, ltb-false n 10 test) in
        rw (le-ltb (letters + n) 58 high) (omega arith)

-- the two digits of a byte
pair_back : (letters byte : ℕ) → 48 ≤ letters → pair_of letters (character letters (byte / 16)) (character letters (byte % 16)) ≡ byte
unfolding pair_of
pair_back letters byte above = rw (character_back letters (byte / 16) above, character_back letters (byte % 16) above) (omega arith)

-- the bytes of a text in hex, with a line feed or another byte at its end
pub read_hex : List ℕ → List ℕ
read_hex [] = []
read_hex (last ∷ []) = []
read_hex (high ∷ low ∷ more) = pair_of 87 high low ∷ read_hex more

-- bytes in hex
pub hex_back : (bytes : List ℕ) → read_hex (hex bytes ++ 10 ∷ []) ≡ bytes
unfolding read_hex hex digit
hex_back [] = refl
hex_back (byte ∷ more) = cc (pair_back 87 byte (omega arith), hex_back more)

-- ---- escaped bytes

-- the bytes of a text up to a line feed, behind so many that are passed over; a backslash and two digits are one byte
pub read_escaped : ℕ → List ℕ → List ℕ
read_escaped passed [] = []
read_escaped (suc passed) (byte ∷ more) = read_escaped passed more
read_escaped zero (byte ∷ more) =
    cond (eqb byte 10) []
    (cond (eqb byte 92) (pair_of 55 (get_or more 0 0) (get_or more 1 0) ∷ read_escaped 2 more) (byte ∷ read_escaped 0 more))

-- a byte as it is shown
shown_back : (high : Bool) (byte : ℕ) (rest : List ℕ) → read_escaped 0 (shown high byte ++ rest) ≡ byte ∷ read_escaped 0 rest
unfolding read_escaped shown is_escaped capital
shown_back high byte rest = by (is_escaped high byte) refl
  where
    by : (test : Bool) → is_escaped high byte ≡ test → read_escaped 0 (shown high byte ++ rest) ≡ byte ∷ read_escaped 0 rest
    by true test = rw test (ap (λ (b : ℕ). b ∷ read_escaped 0 rest) (pair_back 55 byte (omega arith)))
    by false test = rw (test, not_escaped high byte 10 test refl, not_escaped high byte 92 test refl)

-- escaped bytes, for both kinds of text
pub escaped_back : (high : Bool) (bytes : List ℕ) → read_escaped 0 (escaped high bytes ++ 10 ∷ []) ≡ bytes
unfolding read_escaped escaped
escaped_back high [] = refl
escaped_back high (byte ∷ more) =
    ap (read_escaped 0) (append_assoc (shown high byte) (escaped high more) (10 ∷ []))
    ∙ shown_back high byte (escaped high more ++ 10 ∷ [])
    ∙ ap (λ (l : List ℕ). byte ∷ l) (escaped_back high more)
