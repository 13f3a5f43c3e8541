-- A table whose living slots hold some tasks is saved as the image of these tasks.
use Prim.Native.Nat.{ℕ, suc, ◌+◌, ◌<◌, ◌≤◌, min}
use mathlib.Core.Bool.{true, false}
use mathlib.Core.List.{List, [], ◌∷◌, map}
use mathlib.Core.Option.{none as not-refused}
use mathlib.Core.Path.{◌≡◌, refl, ap, ◌∙◌}
use native.Mathlib.Numerals.{add-one}
use native.Mathlib.Omega.{arith}
use lib.ListN.{length, get_or, take, drop, drop_of_length-le}
use lib.Seq.{sets, sets-eq, drop-cons, take-append_seam}
use borrow.Author.Tests.{lt-ltb, le-leb, lt-leb}
use Rattle.errors.specs.declared.Refusal.TheVariants.{SaveBufferTooShort}
use Rattle.roundtrips.proofs.SaveLoad.{save_load}
use Rattle.image.specs.Image.{ImageTask, Image, written, SoundImage, sound, read_image}
use Rattle.image.specs.Slots.{saved_task, title_in, task_in}
use Rattle.image.specs.Table.{living_tasks, refusal_by, task_refusal, or_else, first_refusal, image_of_tasks, saved_table, saved_over, saved_unless, save_tasks, save_table}
use Rattle.pools.specs.Pool.{bounds}
use Rattle.storage.specs.Tasks.{blank}
use Rattle.storage.specs.declared.Task.{Task}
use Rattle.table_image.proofs.Saves.{living_more, living_less}
use Rattle.utf8.specs.Utf8.{valid}
use Rattle.std.specs.Prelude.{Ok, Err}

-- a living slot that holds a task: its reference names an entry, its title is UTF-8
pub record Holds (pool ends : List ℕ) (entries : ℕ) (slot : Task) (task : ImageTask) : Type 0 where
  pub living : slot.living ≡ true
  pub task_is : task_in pool ends slot ≡ task
  pub named : slot.instructions_ref.0 < min entries 1024
  pub text : valid task.title ≡ true

-- the living slots among n from the i-th on hold these tasks
pub data Lists (table : List Task) (pool ends : List ℕ) (entries : ℕ) : ℕ → ℕ → List ImageTask → Type 0 where
  end : {i : ℕ} → Lists table pool ends entries 0 i []
  dead : {n i : ℕ} {tasks : List ImageTask} → (get_or table i blank).living ≡ false → Lists table pool ends entries n (i + 1) tasks → Lists table pool ends entries (suc n) i tasks
  alive : {n i : ℕ} {task : ImageTask} {tasks : List ImageTask} → Holds pool ends entries (get_or table i blank) task → Lists table pool ends entries n (i + 1) tasks → Lists table pool ends entries (suc n) i (task ∷ tasks)

-- the living tasks of some slots are these, and none is refused
record Keeps (pool ends : List ℕ) (entries : ℕ) (slots : List Task) (tasks : List ImageTask) : Type 0 where
  none_refused : first_refusal ends entries (living_tasks slots) ≡ not-refused
  tasks_are : map (task_in pool ends) (living_tasks slots) ≡ tasks

module _ {pool ends : List ℕ} {entries : ℕ} where
  -- a task that a slot holds is not refused
  holds_allowed : (slot : Task) (task : ImageTask) → Holds pool ends entries slot task → task_refusal ends entries slot ≡ not-refused
  unfolding task_refusal refusal_by bounds task_in saved_task
  holds_allowed slot task h =
      let title : title_in slot ≡ task.title = ap (λ (t : ImageTask). t.title) h.task_is in
      rw (lt-ltb slot.instructions_ref.0 (min entries 1024) h.named, title, h.text)

  keeps_none : Keeps pool ends entries [] []
  unfolding living_tasks first_refusal
  keeps_none = record { none_refused = refl; tasks_are = refl }

  keeps_dead : (slot : Task) (slots : List Task) (tasks : List ImageTask) → slot.living ≡ false → Keeps pool ends entries slots tasks → Keeps pool ends entries (slot ∷ slots) tasks
  keeps_dead slot slots tasks not_living k = record { none_refused = rw (living_less slot slots not_living) k.none_refused; tasks_are = rw (living_less slot slots not_living) k.tasks_are }

  keeps_living : (slot : Task) (slots : List Task) (task : ImageTask) (tasks : List ImageTask) → Holds pool ends entries slot task → Keeps pool ends entries slots tasks → Keeps pool ends entries (slot ∷ slots) (task ∷ tasks)
  unfolding first_refusal or_else
  keeps_living slot slots task tasks h k = record {
    none_refused = rw (living_more slot slots h.living, holds_allowed slot task h) k.none_refused;
    tasks_are = rw (living_more slot slots h.living, h.task_is, k.tasks_are);
  }

slots_from : (table : List Task) (i : ℕ) → i < length table → drop i table ≡ get_or table i blank ∷ drop (i + 1) table
slots_from table i inside = drop-cons table i blank inside ∙ rw (add-one i)

module _ {table : List Task} {pool ends : List ℕ} {entries : ℕ} where
  -- the slots from the i-th on
  lists_kept : {n i : ℕ} {tasks : List ImageTask} → Lists table pool ends entries n i tasks → n + i ≡ length table → Keeps pool ends entries (drop i table) tasks
  lists_kept (end {i}) sum = rw (drop_of_length-le table {i = i} (omega arith)) keeps_none
  lists_kept (dead {n} {i} {tasks} d l) sum = rw (slots_from table i (omega arith)) (keeps_dead (get_or table i blank) (drop (i + 1) table) tasks d (lists_kept l (omega arith)))
  lists_kept (alive {n} {i} {task} {tasks} h l) sum = rw (slots_from table i (omega arith)) (keeps_living (get_or table i blank) (drop (i + 1) table) task tasks h (lists_kept l (omega arith)))

module _ {table : List Task} {pool ends : List ℕ} {entries : ℕ} (image : Image) (l : Lists table pool ends entries (length table) 0 image.tasks) (save : List ℕ) where
  -- a table that holds an image's tasks is saved as the image
  pub saved_lists : save_table image.next_id table pool ends entries save ≡ saved_over (written image) save
  unfolding save_table save_tasks saved_unless image_of_tasks
  saved_lists = let k = lists_kept l (omega arith) in rw (k.none_refused, k.tasks_are)

  -- a table that holds an image's tasks is saved as the image, where it fits, and bytes past it stay
  pub save_lists : length (written image) ≤ length save → save_table image.next_id table pool ends entries save ≡ saved_table (Ok (length (written image))) (sets save 0 (written image))
  unfolding saved_over
  save_lists fits = saved_lists ∙ rw (le-leb (length (written image)) (length save) fits)

  -- where it does not fit the answer is 24, and nothing is written
  pub too_short : length save < length (written image) → save_table image.next_id table pool ends entries save ≡ saved_table (Err SaveBufferTooShort) save
  unfolding saved_over
  too_short past = saved_lists ∙ rw (lt-leb (length (written image)) (length save) past)

-- a saved image loads to the same tasks
pub saved_loads : (image : Image) (save : List ℕ) → SoundImage image → length (written image) ≤ length save → read_image (take (length (written image)) (sets save 0 (written image))) ≡ sound image
saved_loads image save s fits =
    rw (sets-eq (written image) save 0 (omega arith), take-append_seam (written image) (drop (0 + length (written image)) save)) (save_load image s)
