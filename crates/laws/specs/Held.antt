-- The ids that a machine has held since creation, and what S_LEN counts of them.
use Rattle.std.specs.Prelude.{ℕ, ◌+◌, ◌<◌, max, cond, List, [], ◌∷◌, ◌++◌, map, ◌≡◌, eqb, length, get_or}
use Rattle.bytecode.specs.Opcodes.{T_CREATE}
use Rattle.image.specs.Image.{ImageTask, Image, Parsed, sound, bad_at, read_image}
use Rattle.machine.specs.World.{World, op}
use Rattle.machine.specs.History.{HostCall}
use Rattle.laws.specs.Counted.{history_finished}

-- the ids of an image's tasks; an image that is not sound has none
unfoldable pub loaded_ids : Parsed Image → List ℕ
loaded_ids (sound image) = map (λ (task : ImageTask). task.id) image.tasks
loaded_ids (bad_at place) = []

-- the ids that the T_CREATEs among finished instructions gave: the next id before each
unfoldable pub given_ids : List World → List ℕ
given_ids [] = []
given_ids (w ∷ others) = cond (eqb (op w) T_CREATE) (w.machine.next_id.0 ∷ given_ids others) (given_ids others)

-- every id held since creation: those loaded, then those of the finished T_CREATEs in their order
abbrev pub held_ids : List ℕ → List HostCall → World → List ℕ
held_ids image calls first = loaded_ids (read_image image) ++ given_ids (history_finished calls first)

-- the greatest of some ids plus 1; 0 if there is none
unfoldable pub past_greatest : List ℕ → ℕ
past_greatest [] = 0
past_greatest (id ∷ ids) = max (id + 1) (past_greatest ids)

-- no two ids are one, since each is above those before it; all are below the next id; the S_LEN count is the greatest plus 1
pub record Held (ids : List ℕ) (w : World) : Type 0 where
  pub rising : (i j : ℕ) → i < j → j < length ids → get_or ids i 0 < get_or ids j 0
  pub below : (i : ℕ) → i < length ids → get_or ids i 0 < w.machine.next_id.0
  pub counted : w.machine.count ≡ past_greatest ids
