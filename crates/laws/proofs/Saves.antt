-- A save leaves the save buffer as long as it was, with an image that lies in it; one that is refused leaves it as it was.
use Prim.Native.Nat.{ℕ, ◌≤◌}
use mathlib.Core.List.{List}
use mathlib.Core.Option.{Option, none, some}
use mathlib.Core.Path.{◌≡◌}
use lib.Dec.{leb}
use lib.ListN.{length}
use lib.Seq.{length-sets}
use borrow.Author.Tests.{leb-true}
use Rattle.errors.specs.declared.Refusal.{Refusal}
use Rattle.storage.specs.declared.Task.{Task}
use Rattle.image.specs.Image.{written}
use Rattle.image.specs.Table.{living_tasks, first_refusal, image_of_tasks, SavedTable, saved_table, saved_over, saved_unless, save_tasks, save_table}
use Rattle.machine.specs.declared.Machine.{Machine}
use Rattle.machine.specs.Machines.{with_saved}
use Rattle.laws.proofs.Either.{either}
use Rattle.laws.proofs.Parts.{Machined}
use Rattle.std.specs.Prelude.{Ok, Err}

-- an image that lies in the buffer, which is as long as before; or a refusal, and the buffer as it was
pub data Saves (save : List ℕ) : SavedTable → Type 0 where
  saves : (size : ℕ) (after : List ℕ) → size ≤ length save → length after ≡ length save → Saves save (saved_table (Ok size) after)
  not_saves : (refusal : Refusal) → Saves save (saved_table (Err refusal) save)

saved_over_keeps : (image save : List ℕ) → Saves save (saved_over image save)
unfolding saved_over
saved_over_keeps image save = either (Saves save) (leb (length image) (length save)) _ _ (λ fits. saves (length image) _ (leb-true _ _ fits) (length-sets save 0 image)) (λ _. not_saves _)

saved_keeps : (refusal : Option Refusal) (image save : List ℕ) → Saves save (saved_unless refusal image save)
unfolding saved_unless
saved_keeps (some refusal) image save = not_saves refusal
saved_keeps none image save = saved_over_keeps image save

pub save_keeps : (next_id : ℕ) (table : List Task) (pool ends : List ℕ) (entries : ℕ) (save : List ℕ) → Saves save (save_table next_id table pool ends entries save)
unfolding save_table save_tasks
save_keeps next_id table pool ends entries save = saved_keeps (first_refusal ends entries (living_tasks table)) (written (image_of_tasks next_id (living_tasks table) pool ends)) save

-- the length of that image kept in the machine
pub image_sound : {asked : Type 0} {memory pool save new : ℕ} {stack ends : List ℕ} {machine : Machine} (size : ℕ) → Machined asked memory pool save stack ends machine → size ≤ new → Machined asked memory pool new stack ends (with_saved machine size)
image_sound size m fits = record { values = m.values; entries = m.entries; frames = m.frames; kept = fits }
