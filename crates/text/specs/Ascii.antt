-- The bytes of a quoted text.
use Rattle.std.specs.Prelude.{ℕ, List, [], ◌∷◌}
use Prim.Native.Char.{code}
use Prim.Native.String.{String, [] as no_text, ◌∷◌ as ◌before◌}

-- the code of each character: a byte, where the text is ASCII
unfoldable pub ascii : String → List ℕ
ascii no_text = []
ascii (character before more) = code character ∷ ascii more
