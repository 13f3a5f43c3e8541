-- What a save writes when it is the first thing that happens to a machine.
use Rattle.std.specs.Prelude.{ℕ, List, [], ◌∷◌}
use Rattle.image.specs.Image.{header}

-- the image that the machine was created from; after a zero-length one, a lone header of zeros
unfoldable pub saved_first : List ℕ → List ℕ
saved_first [] = header 0 0
saved_first (byte ∷ bytes) = byte ∷ bytes
