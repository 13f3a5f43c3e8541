-- The records that the code loads one after another are the tasks that reading finds, loaded by rising id: for every sound image.
use Prim.Native.Nat.{ℕ, zero, suc, ◌+◌, ◌-◌}
use mathlib.Core.List.{List, [], ◌∷◌}
use mathlib.Core.Path.{◌≡◌, refl, ap, sym, ◌∙◌, subst}
use native.Mathlib.Omega.{arith}
use lib.ListN.{length, drop, replicate, length-drop}
use lib.Seq.{drop-drop}
use Rattle.image.proofs.Readings.{not_bad, read_none, Goes, at_end, goes_on, goes, loaded}
use Rattle.image.proofs.Rules.{Rules}
use Rattle.image.specs.Image.{ImageTask, Image, sound, body_length, task_count, id_in, title_length_in, task_at, read_from, read_image}
use Rattle.slices.specs.Numbers.{number_at}
use Rattle.image.specs.Walking.{on, read_record}
use Rattle.image.specs.Slots.{loaded_task}
use Rattle.image.specs.Table.{Loading, cleared, next_reference, load_slot, load_tasks, load_read, load_table}
use Rattle.pools.specs.declared.InstructionsRef.{InstructionsRef}
use Rattle.storage.specs.declared.Task.{Task}
use Rattle.storage.specs.Tasks.{blank}
use Rattle.table_image.specs.declared.InUse.{InUse}
use Rattle.table_image.specs.Loops.{instructions_of, load_record, record_placed, load_records, load_by_records}
use Rattle.table_image.specs.Tables.{loading}

pub load_more : (task : ImageTask) (tasks : List ImageTask) (l : Loading) → load_tasks (task ∷ tasks) l ≡ load_tasks tasks (load_slot (loaded_task task (next_reference l.entries)) task.instructions l)
unfolding load_tasks
load_more task tasks l = refl

pub load_none : (l : Loading) → load_tasks [] l ≡ l
unfolding load_tasks
load_none l = refl

module _ (image : List ℕ) (place : ℕ) (reference : InstructionsRef) {next_id low : ℕ} (r : Rules next_id low (drop place image)) where
  end_is : (read_record image place reference).end ≡ place + (6 + body_length (drop place image))
  unfolding read_record on
  end_is = omega (arith, r.uncut, length-drop place image)

  start_is : (read_record image place reference).start ≡ place + (14 + title_length_in (drop place image))
  unfolding read_record on
  start_is = omega (arith, r.uncut, r.inside, length-drop place image)

  task_read : (read_record image place reference).task ≡ loaded_task (task_at (drop place image)) reference
  unfolding read_record
  task_read = refl

  instructions_read : instructions_of image (read_record image place reference) ≡ (task_at (drop place image)).instructions
  unfolding task_at
  instructions_read =
      let n : place + (6 + body_length (drop place image)) - (place + (14 + title_length_in (drop place image))) ≡ body_length (drop place image) - 8 - title_length_in (drop place image) = omega (arith, r.inside) in
      rw (end_is, start_is, n, ← drop-drop, ← drop-drop)

records_more : (n : ℕ) (image : List ℕ) (place : ℕ) (l : Loading) → load_records (suc n) image place l ≡ load_records n image (read_record image place (next_reference l.entries)).end (load_slot (read_record image place (next_reference l.entries)).task (instructions_of image (read_record image place (next_reference l.entries))) l)
unfolding load_records load_record record_placed load_slot
records_more n image place l = refl

records_none : (image : List ℕ) (place : ℕ) (l : Loading) → load_records 0 image place l ≡ l
unfolding load_records
records_none image place l = refl

-- records one after another load the tasks that they hold
pub records_tasks : (bound next_id low place : ℕ) (image : List ℕ) (tasks : List ImageTask) (l : Loading) → read_from bound next_id low place (drop place image) ≡ sound tasks → load_records (length tasks) image place l ≡ load_tasks tasks l
records_tasks zero next_id low place image tasks l e = not_bad (sym (read_none next_id low place (drop place image)) ∙ e)
records_tasks (suc bound) next_id low place image tasks l e =
    by (records_tasks bound next_id (id_in (drop place image) + 1) (place + (6 + body_length (drop place image))) image) (goes bound next_id low place (drop place image) tasks e)
  where
    by : ((rest : List ImageTask) (k : Loading) → read_from bound next_id (id_in (drop place image) + 1) (place + (6 + body_length (drop place image))) (drop (place + (6 + body_length (drop place image))) image) ≡ sound rest → load_records (length rest) image (place + (6 + body_length (drop place image))) k ≡ load_tasks rest k) → Goes bound next_id low place (drop place image) tasks → load_records (length tasks) image place l ≡ load_tasks tasks l
    by later (at_end empty none_left) =
        let n : [] ≡ tasks = cc in
        subst (λ (ts : List ImageTask). load_records (length ts) image place l ≡ load_tasks ts l) n (records_none image place l ∙ sym (load_none l))
    by later (goes_on some s) =
        subst (λ (ts : List ImageTask). load_records (length ts) image place l ≡ load_tasks ts l) s.all
        (records_more (length s.rest) image place l
        ∙ rw (instructions_read image place (next_reference l.entries) s.rules, end_is image place (next_reference l.entries) s.rules, task_read image place (next_reference l.entries) s.rules, load_more (task_at (drop place image)) s.rest l)
        (later s.rest _ (rw drop-drop at s.later)))

-- loading a sound image is loading its tasks by rising id into a blank table
pub load_table_tasks : (bytes : List ℕ) (image : Image) (l : Loading) → read_image bytes ≡ sound image → load_table bytes l ≡ load_tasks image.tasks (cleared l)
unfolding load_table load_read
load_table_tasks bytes image l e = rw e

-- an image without bytes
no_tasks : (image : Image) → read_image [] ≡ sound image → [] ≡ image.tasks
unfolding read_image
no_tasks image e =
    let n : record { next_id = 0; tasks = [] } ≡ image = cc in
    ap (λ (i : Image). i.tasks) n

none_counted : task_count [] ≡ 0
unfolding number_at
none_counted = refl

-- a sound image counts its tasks
pub count_is : (bytes : List ℕ) (image : Image) → read_image bytes ≡ sound image → task_count bytes ≡ length image.tasks
count_is [] image e = none_counted ∙ ap length (no_tasks image e)
count_is (byte ∷ bytes) image e = sym (loaded (byte ∷ bytes) image (omega arith) e).count_is

-- as many records as it counts are its tasks
all_records : (bytes : List ℕ) (image : Image) (l : Loading) → read_image bytes ≡ sound image → load_records (length image.tasks) bytes 14 l ≡ load_tasks image.tasks l
all_records [] image l e = subst (λ (tasks : List ImageTask). load_records (length tasks) [] 14 l ≡ load_tasks tasks l) (no_tasks image e) (records_none [] 14 l ∙ sym (load_none l))
all_records (byte ∷ bytes) image l e = records_tasks (length (byte ∷ bytes)) _ 0 14 (byte ∷ bytes) image.tasks l (loaded (byte ∷ bytes) image (omega arith) e).read

-- what the code does record after record is to load the tasks
pub load_table_is : (bytes : List ℕ) (image : Image) (l : Loading) → read_image bytes ≡ sound image → load_by_records bytes l ≡ load_table bytes l
unfolding load_by_records
load_table_is bytes image l e = rw (count_is bytes image e) (all_records bytes image (cleared l) e) ∙ sym (load_table_tasks bytes image l e)

-- what a caller that tested the image learns: as many records as the image has are the image
pub loads_all : (count : ℕ) (bytes : List ℕ) (image : Image) (table : List Task) (pool ends : List ℕ) (used : InUse) → read_image bytes ≡ sound image → count ≡ task_count bytes
    → load_records count bytes 14 (loading (replicate (length table) blank) pool ends used) ≡ load_table bytes (loading table pool ends used)
unfolding load_by_records
loads_all count bytes image table pool ends used e told =
    ap (λ (n : ℕ). load_records n bytes 14 (loading (replicate (length table) blank) pool ends used)) told ∙ load_table_is bytes image (loading table pool ends used) e
