-- Little-endian numbers in a list of bytes.
use Rattle.std.specs.Prelude.{ℕ, zero, suc, ◌+◌, ◌*◌, ◌/◌, ◌%◌, ◌<◌, List, [], ◌∷◌, get_or}

-- the low `width` bytes of a number, the lowest first
unfoldable pub little_endian : ℕ → ℕ → List ℕ
little_endian zero number = []
little_endian (suc width) number = number % 256 ∷ little_endian width (number / 256)

-- the number in the `width` bytes from a place on; there are zeros past the end
unfoldable pub number_at : ℕ → List ℕ → ℕ → ℕ
number_at zero bytes place = 0
number_at (suc width) bytes place = get_or bytes place 0 + 256 * number_at width bytes (place + 1)

-- each element is a byte
pub data Bytes : List ℕ → Type 0 where
  none : Bytes []
  byte : {b : ℕ} {bytes : List ℕ} → b < 256 → Bytes bytes → Bytes (b ∷ bytes)
