-- The slots that the code measures and writes one after another are the living tasks, saved as their image: for every table and every buffer.
use Prim.Native.Nat.{ℕ, zero, suc, ◌+◌, ◌≤◌, ◌<◌, min}
use mathlib.Core.Bool.{Bool, true, false, cond, true≢false}
use mathlib.Core.List.{List, [], ◌∷◌, map}
use mathlib.Core.Option.{Option, none, some}
use mathlib.Core.Path.{◌≡◌, refl, ap, sym, ◌∙◌}
use native.Mathlib.Numerals.{add-one}
use native.Mathlib.Omega.{arith}
use lib.Dec.{leb}
use lib.ListN.{length, get_or, length-append}
use lib.Seq.{sets, length-sets}
use borrow.Author.Tests.{lt-leb, leb-true, leb-false}
use Rattle.errors.specs.declared.Refusal.{Refusal}
use Rattle.errors.specs.declared.Refusal.TheVariants.{BytesToStringConversionError, SaveBufferTooShort}
use Rattle.image.proofs.Puts.{puts_puts}
use Rattle.image.specs.Image.{ImageTask, Image, record_of, body, header, records, written}
use Rattle.slices.specs.Numbers.{little_endian}
use Rattle.image.specs.Walking.{on}
use Rattle.image.specs.Slots.{saved_task, title_in, task_in}
use Rattle.image.specs.Table.{living_tasks, refusal_by, task_refusal, or_else, first_refusal, image_of_tasks, saved_table, saved_over, saved_unless, save_tasks, save_table}
use Rattle.image.specs.Writing.{put, puts, size_of, sized, measure, added, measure_slot, save_slot}
use Rattle.pools.specs.Pool.{bounds}
use Rattle.slices.proofs.SlicesWrites.{sets_append}
use Rattle.storage.specs.Tasks.{blank}
use Rattle.storage.specs.declared.Task.{Task}
use Rattle.table_image.specs.Loops.{Measured, measured, refused, count_slot, grown, measures, save_slots, saved_as, save_by_slots}
use Rattle.utf8.specs.Utf8.{valid}
use Rattle.std.specs.Prelude.{Ok, Err, Result}

-- a test that holds picks the first
taken : {A : Type 0} (a b : A) (test : Bool) → test ≡ true → cond test a b ≡ a
taken a b true held = refl
taken a b false held = absurd (true≢false (sym held))

-- ---- one task

-- a size, where there is no refusal
abbrev pub size_unless : Option Refusal → ℕ → Result ℕ Refusal
size_unless none size = Ok size
size_unless (some refusal) size = Err refusal

-- a task is measured as it is refused, and its record has the size
measure_is : (pool ends : List ℕ) (entries : ℕ) (slot : Task) → measure pool ends entries slot ≡ size_unless (task_refusal ends entries slot) (length (record_of 2 (body (task_in pool ends slot))))
unfolding measure sized size_of task_refusal refusal_by task_in saved_task
measure_is pool ends entries slot = by (bounds ends entries slot.instructions_ref)
  where
    text : (test : Bool) (size : ℕ) → cond test (Ok size) (Err BytesToStringConversionError) ≡ size_unless (cond test none (some BytesToStringConversionError)) size
    text true size = refl
    text false size = refl

    by : (found : Result (ℕ × ℕ) Refusal) → sized (task_in pool ends slot) found ≡ size_unless (refusal_by (title_in slot) found) (length (record_of 2 (body (task_in pool ends slot))))
    by (Err refusal) = refl
    by (Ok (start, end)) = text (valid (title_in slot)) (length (record_of 2 (body (task_in pool ends slot))))

-- the tasks of the image
abbrev tasks_of : List ℕ → List ℕ → List Task → List ImageTask
tasks_of pool ends table = map (task_in pool ends) (living_tasks table)

-- the living tasks, with a slot before them that is living, and with one that is not
pub living_more : (slot : Task) (table : List Task) → slot.living ≡ true → living_tasks (slot ∷ table) ≡ slot ∷ living_tasks table
unfolding living_tasks
living_more slot table living = rw living

pub living_less : (slot : Task) (table : List Task) → slot.living ≡ false → living_tasks (slot ∷ table) ≡ living_tasks table
unfolding living_tasks
living_less slot table dead = rw dead

-- the length of the records, with one more task before the others
records_more : (pool ends : List ℕ) (task : Task) (tasks : List Task)
    → length (records (map (task_in pool ends) (task ∷ tasks))) ≡ length (record_of 2 (body (task_in pool ends task))) + length (records (map (task_in pool ends) tasks))
unfolding records
records_more pool ends task tasks = length-append (record_of 2 (body (task_in pool ends task))) (records (map (task_in pool ends) tasks))

-- ---- measuring

-- what measuring tells of a refusal, a number of tasks and a size: the same, and a size that is the same below the limit
data Tells (limit count whole : ℕ) : Option Refusal → Measured → Type 0 where
  tells_refusal : {refusal : Refusal} → Tells limit count whole (some refusal) (refused refusal)
  tells_size : {size number : ℕ} → number ≡ count → min size limit ≡ min whole limit → Tells limit count whole none (measured size number)

tells_same : {limit count whole number size : ℕ} {refusal : Option Refusal} {m : Measured} → count ≡ number → min whole limit ≡ min size limit → Tells limit count whole refusal m → Tells limit number size refusal m
tells_same p q tells_refusal = tells_refusal
tells_same p q (tells_size n s) = tells_size (n ∙ p) (s ∙ q)

grown_alike : (r : Result ℕ Refusal) {others more : ℕ → Measured} → ((size : ℕ) → others size ≡ more size) → grown r others ≡ grown r more
unfolding grown
grown_alike (Err refusal) same = refl
grown_alike (Ok size) same = same size

module _ (pool ends : List ℕ) (entries limit : ℕ) where
  -- a slot before the others moves each by one
  measures_on : (n i : ℕ) (slot : Task) (table : List Task) (count size : ℕ) → measures n (i + 1) (slot ∷ table) pool ends entries limit count size ≡ measures n i table pool ends entries limit count size
  unfolding measures
  measures_on zero i slot table count size = refl
  measures_on (suc n) i slot table count size =
      let e : get_or (slot ∷ table) (i + 1) blank ≡ get_or table i blank = rw (add-one i) in
      rw e
      (grown_alike (measure_slot pool ends entries limit (get_or table i blank) size) (λ (more : ℕ). measures_on n (i + 1) slot table (count_slot (get_or table i blank) count) more))

  measures_first : (slot : Task) (table : List Task) (count size : ℕ) → measures (length (slot ∷ table)) 0 (slot ∷ table) pool ends entries limit count size
      ≡ grown (measure_slot pool ends entries limit slot size) (measures (length table) 0 table pool ends entries limit (count_slot slot count))
  unfolding measures
  measures_first slot table count size =
      grown_alike (measure_slot pool ends entries limit slot size) (λ (more : ℕ). measures_on (length table) 0 slot table (count_slot slot count) more)

  abbrev Told : List Task → ℕ → ℕ → Type 0
  Told table count size =
      Tells limit (count + length (living_tasks table)) (size + length (records (tasks_of pool ends table))) (first_refusal ends entries (living_tasks table))
      (measures (length table) 0 table pool ends entries limit count size)

  none_told : (count size : ℕ) → Told [] count size
  unfolding measures living_tasks first_refusal records
  none_told count size = tells_size {size = size} {number = count} (omega arith) (ap (λ (n : ℕ). min n limit) (omega arith))

  -- a living slot is measured and counted
  pub slot_measured : (slot : Task) (size : ℕ) → slot.living ≡ true → measure_slot pool ends entries limit slot size ≡ added limit size (size_unless (task_refusal ends entries slot) (length (record_of 2 (body (task_in pool ends slot)))))
  unfolding measure_slot
  slot_measured slot size e = taken _ _ slot.living e ∙ ap (added limit size) (measure_is pool ends entries slot)

  slot_counted : (slot : Task) (count : ℕ) → slot.living ≡ true → count_slot slot count ≡ count + 1
  unfolding count_slot
  slot_counted slot count e = taken _ _ slot.living e

  -- a slot that is not living
  dead_told : (slot : Task) (table : List Task) (count size : ℕ) → slot.living ≡ false → Told table count size → Told (slot ∷ table) count size
  unfolding measure_slot count_slot grown
  dead_told slot table count size e others = rw (living_less slot table e, measures_first slot table count size, e) others

  -- a living one
  living_told : (slot : Task) (table : List Task) (count size : ℕ) (refusal : Option Refusal) → task_refusal ends entries slot ≡ refusal → slot.living ≡ true
      → ((number more : ℕ) → Told table number more) → Told (slot ∷ table) count size
  unfolding grown added on or_else first_refusal
  living_told slot table count size (some refusal) r e others = rw (living_more slot table e, measures_first slot table count size, slot_measured slot size e, r) tells_refusal
  living_told slot table count size none r e others =
      let l = records_more pool ends slot (living_tasks table) in
      rw (living_more slot table e, measures_first slot table count size, slot_measured slot size e, slot_counted slot count e, r)
      (tells_same (omega arith) (omega arith) (others (count + 1) (min (size + length (record_of 2 (body (task_in pool ends slot)))) limit)))

  -- all slots
  tells_all : (table : List Task) (count size : ℕ) → Told table count size
  tells_all [] count size = none_told count size
  tells_all (slot ∷ table) count size = by slot.living refl (tells_all table)
    where
      by : (b : Bool) → slot.living ≡ b → ((number more : ℕ) → Told table number more) → Told (slot ∷ table) count size
      by true e others = living_told slot table count size (task_refusal ends entries slot) refl e others
      by false e others = dead_told slot table count size e (others count size)

-- ---- writing

nothing_put : (place : ℕ) (save : List ℕ) → place ≤ length save → put place save ≡ puts save place []
unfolding puts on
nothing_put place save inside = ap (λ (k : ℕ). put k save) (omega arith)

put_inside : (place : ℕ) (save bytes : List ℕ) → (puts save place bytes).place ≤ length (puts save place bytes).save
unfolding puts on
put_inside place save bytes = omega (arith, length-sets save place bytes)

module _ (pool ends : List ℕ) where
  saves_on : (n i : ℕ) (slot : Task) (table : List Task) (place : ℕ) (save : List ℕ) → save_slots n (i + 1) (slot ∷ table) pool ends place save ≡ save_slots n i table pool ends place save
  unfolding save_slots
  saves_on zero i slot table place save = refl
  saves_on (suc n) i slot table place save =
      let e : get_or (slot ∷ table) (i + 1) blank ≡ get_or table i blank = rw (add-one i) in
      rw e (saves_on n (i + 1) slot table (save_slot pool ends (get_or table i blank) place save).place (save_slot pool ends (get_or table i blank) place save).save)

  saves_first : (slot : Task) (table : List Task) (place : ℕ) (save : List ℕ) → save_slots (length (slot ∷ table)) 0 (slot ∷ table) pool ends place save
      ≡ save_slots (length table) 0 table pool ends (save_slot pool ends slot place save).place (save_slot pool ends slot place save).save
  unfolding save_slots
  saves_first slot table place save = saves_on (length table) 0 slot table (save_slot pool ends slot place save).place (save_slot pool ends slot place save).save

  abbrev Written : List Task → Type 0
  Written table = (place : ℕ) (save : List ℕ) → place ≤ length save → save_slots (length table) 0 table pool ends place save ≡ puts save place (records (tasks_of pool ends table))

  none_written : Written []
  unfolding save_slots living_tasks records
  none_written place save inside = nothing_put place save inside

  dead_written : (slot : Task) (table : List Task) → slot.living ≡ false → Written table → Written (slot ∷ table)
  unfolding save_slot
  dead_written slot table e others place save inside = rw (living_less slot table e, saves_first slot table place save, e) (others place save inside)

  slot_written : (slot : Task) (place : ℕ) (save : List ℕ) → slot.living ≡ true → save_slot pool ends slot place save ≡ puts save place (record_of 2 (body (task_in pool ends slot)))
  unfolding save_slot
  slot_written slot place save e = taken _ _ slot.living e

  living_written : (slot : Task) (table : List Task) → slot.living ≡ true → Written table → Written (slot ∷ table)
  unfolding records
  living_written slot table e others place save inside =
      rw (living_more slot table e, saves_first slot table place save, slot_written slot place save e)
      (others (puts save place (record_of 2 (body (task_in pool ends slot)))).place (puts save place (record_of 2 (body (task_in pool ends slot)))).save (put_inside place save (record_of 2 (body (task_in pool ends slot))))
      ∙ puts_puts save place (record_of 2 (body (task_in pool ends slot))) (records (tasks_of pool ends table)))

  -- one record after another
  saves_all : (table : List Task) → Written table
  saves_all [] = none_written
  saves_all (slot ∷ table) = by slot.living refl (saves_all table)
    where
      by : (b : Bool) → slot.living ≡ b → Written table → Written (slot ∷ table)
      by true e others = living_written slot table e others
      by false e others = dead_written slot table e others

pub header_length : (next_id count : ℕ) → length (header next_id count) ≡ 14
unfolding header record_of little_endian
header_length next_id count = refl

pub written_length : (image : Image) → length (written image) ≡ 14 + length (records image.tasks)
unfolding written
written_length image =
    length-append (header image.next_id (length image.tasks)) (records image.tasks)
    ∙ ap (λ (k : ℕ). k + length (records image.tasks)) (header_length image.next_id (length image.tasks))

puts_save : (save : List ℕ) (place : ℕ) (bytes : List ℕ) → (puts save place bytes).save ≡ sets save place bytes
unfolding puts
puts_save save place bytes = refl

-- the header and the records are the image
whole_saved : (save : List ℕ) (image : Image) → (puts (puts save 0 (header image.next_id (length image.tasks))).save 14 (records image.tasks)).save ≡ sets save 0 (written image)
unfolding written
whole_saved save image =
    puts_save _ 14 (records image.tasks)
    ∙ ap (λ (s : List ℕ). sets s 14 (records image.tasks)) (puts_save save 0 (header image.next_id (length image.tasks)))
    ∙ sym (sets_append save 0 (header image.next_id (length image.tasks)) (records image.tasks)
    ∙ ap (λ (k : ℕ). sets (sets save 0 (header image.next_id (length image.tasks))) (0 + k) (records image.tasks)) (header_length image.next_id (length image.tasks)))

-- ---- the whole

map_length : (pool ends : List ℕ) (tasks : List Task) → length (map (task_in pool ends) tasks) ≡ length tasks
map_length pool ends [] = refl
map_length pool ends (task ∷ tasks) = ap suc (map_length pool ends tasks)

module _ (next_id : ℕ) (table : List Task) (pool ends save : List ℕ) where
  abbrev image : Image
  image = record { next_id = next_id; tasks = tasks_of pool ends table }

  fitting : (size : ℕ) → min size (length save + 1) ≡ min (14 + length (records (tasks_of pool ends table))) (length save + 1) → (fits : Bool) → leb size (length save) ≡ fits
      → cond fits (saved_table (Ok size) (save_slots (length table) 0 table pool ends 14 (puts save 0 (header next_id (length (living_tasks table)))).save).save) (saved_table (Err SaveBufferTooShort) save)
      ≡ saved_over (written image) save
  unfolding saved_over
  fitting size near true e =
      let n = written_length image in
      let short : size ≤ length save = leb-true _ _ e in
      let same : size ≡ length (written image) = omega arith in
      let inside : 14 ≤ length (puts save 0 (header next_id (length (living_tasks table)))).save = rw (puts_save save 0 (header next_id (length (living_tasks table))), length-sets save 0 (header next_id (length (living_tasks table)))) (omega arith) in
      rw (← same, e, saves_all pool ends table 14 _ inside, ← map_length pool ends (living_tasks table), whole_saved save image)
  fitting size near false e =
      let n = written_length image in
      let past : length save < size = leb-false _ _ e in
      let long : length save < length (written image) = omega arith in
      rw (lt-leb (length (written image)) (length save) long)

  saved_is : {count : ℕ} {refusal : Option Refusal} {m : Measured} → count ≡ length (living_tasks table) → Tells (length save + 1) count (14 + length (records (tasks_of pool ends table))) refusal m → saved_as next_id table pool ends save m ≡ saved_unless refusal (written image) save
  unfolding saved_as saved_unless
  saved_is c tells_refusal = refl
  saved_is c (tells_size {size} {number} n near) = rw (n, c) (fitting size near (leb size (length save)) refl)

-- what the code does slot after slot is to save the living tasks
pub save_table_is : (next_id : ℕ) (table : List Task) (pool ends : List ℕ) (entries : ℕ) (save : List ℕ) → save_by_slots next_id table pool ends entries save ≡ save_table next_id table pool ends entries save
unfolding save_by_slots save_table save_tasks image_of_tasks
save_table_is next_id table pool ends entries save = saved_is next_id table pool ends save (omega arith) (tells_all pool ends entries (length save + 1) table 0 14)
