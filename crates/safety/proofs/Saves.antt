-- S_SAVE is refused with 12, 15 or 24 only.
use Prim.Native.Nat.{ℕ, min}
use mathlib.Core.Path.{refl}
use mathlib.Core.List.{List, [], ◌∷◌}
use mathlib.Core.Option.{Option, none, some}
use lib.Dec.{ltb, leb}
use lib.ListN.{length}
use Rattle.errors.specs.declared.Refusal.{Refusal}
use Rattle.utf8.specs.Utf8.{valid}
use Rattle.pools.specs.Pool.{bounds}
use Rattle.storage.specs.declared.Task.{Task}
use Rattle.image.specs.Image.{written}
use Rattle.image.specs.Slots.{title_in}
use Rattle.image.specs.Table.{living_tasks, refusal_by, task_refusal, or_else, first_refusal, image_of_tasks, SavedTable, saved_over, saved_unless, save_tasks, save_table}
use Rattle.mechanism.proofs.Either.{either}
use Rattle.safety.proofs.Holds.{May}
use Rattle.std.specs.Prelude.{Ok, Err, Result}

data Refuses : Option Refusal → Type 0 where
  no_refusal : Refuses none
  refusal_may : {refusal : Refusal} → May refusal → Refuses (some refusal)

task_refuses : (ends : List ℕ) (entries : ℕ) (task : Task) → Refuses (task_refusal ends entries task)
unfolding task_refusal refusal_by bounds
task_refuses ends entries task =
    either (λ (r : Result (ℕ × ℕ) Refusal). Refuses (refusal_by (title_in task) r)) (ltb task.instructions_ref.0 (min entries 1024)) _ _
    (either Refuses (valid (title_in task)) _ _ no_refusal (refusal_may refl))
    (refusal_may refl)

or_refuses : {first later : Option Refusal} → Refuses first → Refuses later → Refuses (or_else first later)
unfolding or_else
or_refuses no_refusal later = later
or_refuses (refusal_may may) later = refusal_may may

all_refuse : (ends : List ℕ) (entries : ℕ) (tasks : List Task) → Refuses (first_refusal ends entries tasks)
unfolding first_refusal
all_refuse ends entries [] = no_refusal
all_refuse ends entries (task ∷ tasks) = or_refuses (task_refuses ends entries task) (all_refuse ends entries tasks)

pub data SavesAs : Result ℕ Refusal → Type 0 where
  is_saved : {size : ℕ} → SavesAs (Ok size)
  not_saved : {refusal : Refusal} → May refusal → SavesAs (Err refusal)

saved_saves : {refusal : Option Refusal} (image save : List ℕ) → Refuses refusal → SavesAs (saved_unless refusal image save).answer
unfolding saved_unless saved_over
saved_saves image save no_refusal = either (λ (s : SavedTable). SavesAs s.answer) (leb (length image) (length save)) _ _ is_saved (not_saved refl)
saved_saves image save (refusal_may may) = not_saved may

pub table_saves : (next_id : ℕ) (table : List Task) (pool ends : List ℕ) (entries : ℕ) (save : List ℕ) → SavesAs (save_table next_id table pool ends entries save).answer
unfolding save_table save_tasks
table_saves next_id table pool ends entries save = saved_saves (written (image_of_tasks next_id (living_tasks table) pool ends)) save (all_refuse ends entries (living_tasks table))
