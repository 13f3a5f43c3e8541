-- Pieces of a text: what each is, and what of the text is left behind it.
use Rattle.std.specs.Prelude.{ℕ, ◌-◌, ◌≤◌, ◌<◌, true, false, cond, List, [], ◌∷◌, ◌++◌, ◌≡◌, length, drop, leb, Some, None, Option}
use Rattle.text.specs.declared.Cut.{Cut}
use Rattle.text.specs.declared.Cut.TheVariants as cut
use Rattle.text.specs.declared.Piece.{Piece}
use Rattle.text.specs.declared.Piece.TheVariants.{Byte, Escape, Number, Spaced}
use Rattle.text.specs.declared.Turn.{Turn}
use Rattle.text.specs.Numbers.{decimal, spaced, words, filled}
use Rattle.text.specs.Escapes.{escape, escaped}

-- a text in pieces: numbers of 4 bytes, a template with its numbers, or bytes that are escaped
unfoldable pub pieces : Cut → List ℕ → List ℕ → List ℕ
pieces cut.Spaced bytes numbers = spaced (words bytes)
pieces cut.Filled bytes numbers = filled bytes numbers
pieces cut.Escaped bytes numbers = escaped false bytes
pieces cut.Ascii bytes numbers = escaped true bytes

-- how many bytes a piece takes
unfoldable pub width : Cut → ℕ
width cut.Spaced = 4
width cut.Filled = 1
width cut.Escaped = 1
width cut.Ascii = 1

-- a piece as text
unfoldable pub text_of : Piece → List ℕ
text_of (Byte byte) = byte ∷ []
text_of (Escape byte) = escape byte
text_of (Number number) = decimal number
text_of (Spaced number) = 32 ∷ decimal number

-- a piece is the front of a text; the rest stands behind it
pub record Front (cut : Cut) (bytes numbers : List ℕ) (place used : ℕ) (turn : Turn) : Type 0 where
  pub splits : pieces cut (drop place bytes) (drop used numbers) ≡ text_of turn.piece ++ pieces cut (drop turn.place bytes) (drop turn.used numbers)
  pub on : place < turn.place
  pub within : turn.place ≤ length bytes

-- the room that is left behind so many bytes
unfoldable pub room_after : ℕ → ℕ → Option ℕ
room_after room size = cond (leb size room) (Some (room - size)) None
