-- Image I1 (docs/REFERENCE.md, 'The task image'), and the task in it.
use Rattle.std.specs.Prelude.{ℕ, List, [], ◌∷◌}
use Rattle.image.specs.Image.{Image}

-- 08 00 00 00 01 00 01 00 00 00 01 00 00 00 0A 00 00 00 02 00 00 00 00 00 03 00 02 00 41 62
abbrev pub I1 : List ℕ
I1 = 0x08 ∷ 0 ∷ 0 ∷ 0 ∷ 0x01 ∷ 0 ∷ 0x01 ∷ 0 ∷ 0 ∷ 0 ∷ 0x01 ∷ 0 ∷ 0 ∷ 0 ∷ 0x0A ∷ 0 ∷ 0 ∷ 0 ∷ 0x02 ∷ 0 ∷ 0 ∷ 0 ∷ 0 ∷ 0 ∷ 0x03 ∷ 0 ∷ 0x02 ∷ 0 ∷ 0x41 ∷ 0x62 ∷ []

-- next id 1, task 0 "Ab", 3 states, no instructions
abbrev pub Ab : Image
Ab = record { next_id = 1; tasks = record { id = 0; count = 3; state = 0; title = 0x41 ∷ 0x62 ∷ []; instructions = [] } ∷ [] }
