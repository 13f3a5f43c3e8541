-- The tasks of a table saved as an image, and the tasks of an image loaded into a table.
use Rattle.std.specs.Prelude.{ℕ, ◌+◌, min, cond, List, [], ◌∷◌, map, length, set, replicate, leb, Ok, Err, Result}
use Rattle.std.proofs.Math.Option.{Option, none, some}
use Rattle.std.proofs.lemmas.List.Edits.{sets}
use Rattle.errors.specs.declared.Refusal.{Refusal}
use Rattle.errors.specs.declared.Refusal.TheVariants.{BytesToStringConversionError, SaveBufferTooShort}
use Rattle.pools.specs.declared.InstructionsRef.{InstructionsRef}
use Rattle.pools.specs.Pool.{bounds, interned}
use Rattle.storage.specs.declared.Task.{Task}
use Rattle.storage.specs.Tasks.{blank}
use Rattle.utf8.specs.Utf8.{valid}
use Rattle.image.specs.Image.{ImageTask, Image, Parsed, sound, bad_at, written, read_image}
use Rattle.image.specs.Slots.{loaded_task, title_in, task_in}

-- ---- saving

-- the living tasks of a table by rising id: a task stands in the slot of its id
unfoldable pub living_tasks : List Task → List Task
living_tasks [] = []
living_tasks (slot ∷ slots) = cond slot.living (slot ∷ living_tasks slots) (living_tasks slots)

-- a title that is not UTF-8 is refused, where there is an entry
unfoldable pub refusal_by : List ℕ → Result (ℕ × ℕ) Refusal → Option Refusal
refusal_by title (Err refusal) = some refusal
refusal_by title (Ok (start, end)) = cond (valid title) none (some BytesToStringConversionError)

-- the refusal of a task: 12 where its reference names no entry, then 15 where its title is not UTF-8
unfoldable pub task_refusal : List ℕ → ℕ → Task → Option Refusal
task_refusal ends entries task = refusal_by (title_in task) (bounds ends entries task.instructions_ref)

-- the first of two refusals
unfoldable pub or_else : Option Refusal → Option Refusal → Option Refusal
or_else (some refusal) later = some refusal
or_else none later = later

-- the refusal of the first task that has one
unfoldable pub first_refusal : List ℕ → ℕ → List Task → Option Refusal
first_refusal ends entries [] = none
first_refusal ends entries (task ∷ tasks) = or_else (task_refusal ends entries task) (first_refusal ends entries tasks)

-- the image of some tasks, each with its instructions
unfoldable pub image_of_tasks : ℕ → List Task → List ℕ → List ℕ → Image
image_of_tasks next_id tasks pool ends = record { next_id = next_id; tasks = map (task_in pool ends) tasks }

-- an answer, and the save buffer after it
pub record SavedTable : Type 0 where
  pub answer : Result ℕ Refusal
  pub save : List ℕ

-- these two together
abbrev pub saved_table : Result ℕ Refusal → List ℕ → SavedTable
saved_table answer save = record { answer = answer; save = save }

-- bytes written over the front of the save buffer, and their length; bytes past them stay; 24 where they do not fit
unfoldable pub saved_over : List ℕ → List ℕ → SavedTable
saved_over image save =
    cond (leb (length image) (length save)) (saved_table (Ok (length image)) (sets save 0 image))
    (saved_table (Err SaveBufferTooShort) save)

-- unless a task is refused
unfoldable pub saved_unless : Option Refusal → List ℕ → List ℕ → SavedTable
saved_unless (some refusal) image save = saved_table (Err refusal) save
saved_unless none image save = saved_over image save

-- tasks saved: 12 and 15 of the first that is refused, then 24
unfoldable pub save_tasks : ℕ → List Task → List ℕ → List ℕ → ℕ → List ℕ → SavedTable
save_tasks next_id tasks pool ends entries save = saved_unless (first_refusal ends entries tasks) (written (image_of_tasks next_id tasks pool ends)) save

-- S_SAVE: each living task by id
unfoldable pub save_table : ℕ → List Task → List ℕ → List ℕ → ℕ → List ℕ → SavedTable
save_table next_id table pool ends entries save = save_tasks next_id (living_tasks table) pool ends entries save

-- ---- loading

-- the table, and the pool
pub record Loading : Type 0 where
  pub table : List Task
  pub pool : List ℕ
  pub ends : List ℕ
  pub bytes : ℕ
  pub entries : ℕ

-- the bytes in use after interning; creation tests 22 before it, so there is room
unfoldable pub bytes_after : Result (InstructionsRef × ℕ) Refusal → ℕ → ℕ
bytes_after (Ok (entry, bytes)) before = bytes
bytes_after (Err refusal) before = before

-- the entries after interning
unfoldable pub entries_after : Result (InstructionsRef × ℕ) Refusal → ℕ → ℕ
entries_after (Ok (entry, bytes)) before = before + 1
entries_after (Err refusal) before = before

-- the reference of the next entry
unfoldable pub next_reference : ℕ → InstructionsRef
next_reference entries = record { 0 = min entries 1024 }

-- a task in its slot, its instructions interned
unfoldable pub load_slot : Task → List ℕ → Loading → Loading
load_slot task instructions l = record {
  table = set l.table task.id.0 task;
  pool = (interned l.pool l.ends l.bytes l.entries instructions).pool;
  ends = (interned l.pool l.ends l.bytes l.entries instructions).ends;
  bytes = bytes_after (interned l.pool l.ends l.bytes l.entries instructions).answer l.bytes;
  entries = entries_after (interned l.pool l.ends l.bytes l.entries instructions).answer l.entries;
}

-- the tasks by rising id, references counted on from the entries before
unfoldable pub load_tasks : List ImageTask → Loading → Loading
load_tasks [] l = l
load_tasks (task ∷ tasks) l = load_tasks tasks (load_slot (loaded_task task (next_reference l.entries)) task.instructions l)

-- every slot blank
abbrev pub cleared : Loading → Loading
cleared l = record { table = replicate (length l.table) blank; pool = l.pool; ends = l.ends; bytes = l.bytes; entries = l.entries }

-- the tasks of a sound image; creation refuses any other with 25 before it loads
unfoldable pub load_read : Parsed Image → Loading → Loading
load_read (sound image) l = load_tasks image.tasks l
load_read (bad_at place) l = l

-- creation: every slot blank, then each task of the image in its slot
unfoldable pub load_table : List ℕ → Loading → Loading
load_table image l = load_read (read_image image) (cleared l)
