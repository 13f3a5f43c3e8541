-- A line of text, and a lent buffer after it was put there.
use Rattle.std.specs.Prelude.{ℕ, ◌+◌, ◌-◌, ◌*◌, ◌/◌, min, Bool, true, false, cond, List, [], ◌∷◌, ◌++◌, length, take, drop, leb, Ok, Err, Result}
use Rattle.std.proofs.lemmas.List.Edits.{sets}
use Rattle.errors.specs.declared.Refusal.TheVariants.{SaveBufferTooShort}
use Rattle.text.specs.declared.Form.{Form}
use Rattle.text.specs.declared.Form.TheVariants.{Plain, Hex, Spaced, Filled, Escaped, Ascii}
use Rattle.text.specs.declared.HexPart.{HexPart}
use Rattle.text.specs.Numbers.{hex, spaced, words, filled}
use Rattle.text.specs.Escapes.{escaped}
use Rattle.errors.specs.declared.Refusal.{Refusal}

-- bytes in a form
unfoldable pub formed : Form → List ℕ → List ℕ → List ℕ
formed Plain bytes numbers = bytes
formed Hex bytes numbers = hex bytes
formed Spaced bytes numbers = spaced (words bytes)
formed Filled bytes numbers = filled bytes numbers
formed Escaped bytes numbers = escaped false bytes
formed Ascii bytes numbers = escaped true bytes

-- a line: a template with its numbers, then bytes in a form, then one line feed
unfoldable pub line : List ℕ → List ℕ → Form → List ℕ → List ℕ
line template numbers form bytes = filled template numbers ++ (formed form bytes numbers ++ 10 ∷ [])

-- a line of a template and its numbers, and of nothing more
unfoldable pub said : List ℕ → List ℕ → List ℕ
said template numbers = line template numbers Plain []

-- an answer, and the lent buffer after it
pub record Lined : Type 0 where
  pub answer : Result ℕ Refusal
  pub out : List ℕ

abbrev pub lined : Result ℕ Refusal → List ℕ → Lined
lined answer out = record { answer = answer; out = out }

-- a line put at a buffer's start where the buffer holds it; else 24, and the buffer as it was
unfoldable pub put_line : List ℕ → List ℕ → Lined
put_line out text =
    cond (leb (length text) (length out)) (lined (Ok (length text)) (sets out 0 text)) (lined (Err SaveBufferTooShort) out)

-- a line measured: its length, where a number of 64 bits holds it; else 24
unfoldable pub measure_line : List ℕ → Result ℕ Refusal
measure_line text = cond (leb (length text) 18446744073709551615) (Ok (length text)) (Err SaveBufferTooShort)

-- a line put at a buffer's start, or only measured
unfoldable pub tell_line : Bool → List ℕ → List ℕ → Lined
tell_line true out text = put_line out text
tell_line false out text = lined (measure_line text) out

-- how many bytes from a place on a buffer holds in hex
unfoldable pub hex_count : List ℕ → List ℕ → ℕ → ℕ
hex_count out bytes from = min (length out / 2) (length bytes - from)

-- an answer to the question for a part in hex, and the lent buffer after it
pub record Parted : Type 0 where
  pub answer : HexPart
  pub out : List ℕ

abbrev pub parted : HexPart → List ℕ → Parted
parted answer out = record { answer = answer; out = out }

-- as many bytes from a place on as the buffer holds in hex, put at its start
unfoldable pub hex_part : List ℕ → List ℕ → ℕ → Parted
hex_part out bytes from =
    parted (record { length = 2 * hex_count out bytes from; next = from + hex_count out bytes from })
    (sets out 0 (hex (take (hex_count out bytes from) (drop from bytes))))
