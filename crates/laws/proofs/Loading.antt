-- The tasks of an image loaded one after another: the table and the pool are sound, and each task is one more living slot.
use Prim.Native.Nat.{ℕ, zero, suc, ◌+◌, ◌≤◌, ◌<◌}
use mathlib.Core.Bool.{true}
use mathlib.Core.List.{List, [], ◌∷◌}
use mathlib.Core.Path.{◌≡◌, refl, sym, ap, ◌∙◌, subst}
use native.Mathlib.Omega.{arith}
use lib.ListN.{length, get_or, set, drop, length-set}
use lib.Seq.{get_or-set_other}
use Rattle.pools.specs.Pool.{Pooled}
use Rattle.pools.specs.declared.InstructionsRef.{InstructionsRef}
use Rattle.storage.specs.declared.Task.{Task}
use Rattle.storage.specs.Table.{lives, living_of, sound_slots}
use Rattle.storage.specs.Tasks.{blank, new_task}
use Rattle.storage.proofs.Laws.{lives_blank, living_more, length_title}
use Rattle.storage.proofs.Soundness.{Living, living_sound, sound_set}
use Rattle.image.specs.Image.{ImageTask, sound, id_in, body_length, task_at, read_from}
use Rattle.image.specs.Reading.{s_len_of}
use Rattle.image.specs.Slots.{loaded_task}
use Rattle.image.specs.Table.{Loading, bytes_after, entries_after, next_reference, load_slot, load_tasks}
use Rattle.image.proofs.Readings.{not_bad, Goes, at_end, goes_on, goes, read_none}
use Rattle.laws.proofs.Parts.{Entries}
use Rattle.laws.proofs.Pool.{Interns, interns, not_interns, intern_keeps}
use Rattle.laws.proofs.Tables.{titles_set}
use Rattle.std.specs.Prelude.{Ok, Err, Result}
use Rattle.errors.specs.declared.Refusal.{Refusal}

-- ---- the tasks of a sound image

-- ids rising and below the next id, states below their counts
pub data Orderly (next_id : ℕ) : ℕ → List ImageTask → Type 0 where
  none : {low : ℕ} → Orderly next_id low []
  more : {low : ℕ} {task : ImageTask} {tasks : List ImageTask} → low ≤ task.id → task.id < next_id → task.state < task.count → Orderly next_id (task.id + 1) tasks
      → Orderly next_id low (task ∷ tasks)

one_task : (next_id low : ℕ) (bytes : List ℕ) (tasks : List ImageTask) → low ≤ id_in bytes → id_in bytes < next_id → get_or bytes 11 0 < get_or bytes 10 0
    → Orderly next_id (id_in bytes + 1) tasks → Orderly next_id low (task_at bytes ∷ tasks)
unfolding task_at
one_task next_id low bytes tasks rising below states rest = more rising below states rest

-- what is read is so
pub orderly : (bound next_id low place : ℕ) (bytes : List ℕ) (tasks : List ImageTask) → read_from bound next_id low place bytes ≡ sound tasks → Orderly next_id low tasks
orderly zero next_id low place bytes tasks e = not_bad (sym (read_none next_id low place bytes) ∙ e)
orderly (suc bound) next_id low place bytes tasks e =
    by (orderly bound next_id (id_in bytes + 1) (place + (6 + body_length bytes)) (drop (6 + body_length bytes) bytes)) (goes bound next_id low place bytes tasks e)
  where
    by : ((rest : List ImageTask) → read_from bound next_id (id_in bytes + 1) (place + (6 + body_length bytes)) (drop (6 + body_length bytes) bytes) ≡ sound rest
        → Orderly next_id (id_in bytes + 1) rest) → Goes bound next_id low place bytes tasks → Orderly next_id low tasks
    by later (at_end empty none_left) = let n : [] ≡ tasks = cc in subst (Orderly next_id low) n none
    by later (goes_on some s) =
        subst (Orderly next_id low) s.all (one_task next_id low bytes s.rest s.rules.rising s.rules.below s.rules.states (later s.rest s.later))

-- S_LEN is at most the next id
pub s_len_below : {next_id low : ℕ} {tasks : List ImageTask} → Orderly next_id low tasks → s_len_of tasks ≤ next_id
unfolding s_len_of
s_len_below none = omega arith
s_len_below (more rising below states rest) = omega (arith, below, s_len_below rest)

-- ---- one task

-- the table and the pool, with an S_LEN count
pub record Loads (l : Loading) (count : ℕ) : Type 0 where
  pub long : length l.table ≡ 256
  pub slots : sound_slots l.table 0 count ≡ true
  pub titles : (slot : ℕ) → length (get_or l.table slot blank).title ≡ 128
  pub pool : Entries (length l.pool) l.ends l.bytes l.entries
  pub some : 0 < l.entries

entries_by : (pool ends : List ℕ) (bytes entries : ℕ) (p : Pooled) → Entries (length pool) ends bytes entries → Interns pool ends entries p
    → Entries (length p.pool) p.ends (bytes_after p.answer bytes) (entries_after p.answer entries)
unfolding bytes_after entries_after
entries_by pool ends bytes entries _ s (interns used new_pool new_ends new grows) = new
entries_by pool ends bytes entries _ s (not_interns refusal) = s

some_by : (entries : ℕ) (result : Result (InstructionsRef × ℕ) Refusal) → 0 < entries → 0 < entries_after result entries
unfolding entries_after
some_by entries (Ok (entry, bytes)) some = omega arith
some_by entries (Err refusal) some = some

loaded_rules : (task : ImageTask) (reference : InstructionsRef) (count : ℕ) → task.id < count → task.state < task.count → Living (loaded_task task reference) (0 + task.id) count
unfolding loaded_task new_task
loaded_rules task reference count held below = record { place = omega arith; held = held; title = omega arith; state = below }

loaded_long : (task : ImageTask) (reference : InstructionsRef) → length (loaded_task task reference).title ≡ 128
unfolding loaded_task new_task
loaded_long task reference = length_title task.title

loaded_lives : (task : ImageTask) (reference : InstructionsRef) → lives (loaded_task task reference) ≡ 1
unfolding loaded_task new_task lives
loaded_lives task reference = refl

-- the table after one task
table_after : (l : Loading) (task : ImageTask) (reference : InstructionsRef) → (load_slot (loaded_task task reference) task.instructions l).table ≡ set l.table task.id (loaded_task task reference)
unfolding load_slot loaded_task new_task
table_after l task reference = refl

pool_after : (l : Loading) (task : Task) (instructions : List ℕ) → Entries (length l.pool) l.ends l.bytes l.entries
    → Entries (length (load_slot task instructions l).pool) (load_slot task instructions l).ends (load_slot task instructions l).bytes (load_slot task instructions l).entries
unfolding load_slot
pool_after l task instructions s =
    entries_by l.pool l.ends l.bytes l.entries _ s (intern_keeps l.pool l.ends l.bytes l.entries instructions s.ends_long s.joined)

some_after : (l : Loading) (task : Task) (instructions : List ℕ) → 0 < l.entries → 0 < (load_slot task instructions l).entries
unfolding load_slot
some_after l task instructions some = some_by l.entries _ some

-- from a place on every slot is blank
abbrev pub Empty : List Task → ℕ → Type 0
Empty table low = (j : ℕ) → low ≤ j → get_or table j blank ≡ blank

module _ (l : Loading) (count : ℕ) (task : ImageTask) (s : Loads l count) where
  abbrev task_there : Task
  task_there = loaded_task task (next_reference l.entries)

  abbrev one_loaded : Loading
  one_loaded = load_slot task_there task.instructions l

  abbrev written : List Task
  written = set l.table task.id task_there

  load_one : task.id < count → task.state < task.count → Loads one_loaded count
  load_one held below =
      let e : written ≡ one_loaded.table = sym (table_after l task (next_reference l.entries)) in
      record {
        long = subst (λ (t : List Task). length t ≡ 256) e (length-set l.table task.id task_there ∙ s.long);
        slots = subst (λ (t : List Task). sound_slots t 0 count ≡ true) e
            (sound_set l.table 0 task.id count task_there (living_sound (loaded_rules task (next_reference l.entries) count held below)) s.slots);
        titles = subst (λ (t : List Task). (slot : ℕ) → length (get_or t slot blank).title ≡ 128) e
            (titles_set l.table task.id task_there s.titles (loaded_long task (next_reference l.entries)));
        pool = pool_after l task_there task.instructions s.pool;
        some = some_after l task_there task.instructions s.some;
      }

  still_empty : (low : ℕ) → low ≤ task.id → Empty l.table low → Empty one_loaded.table (task.id + 1)
  still_empty low rising empty =
      subst (λ (t : List Task). Empty t (task.id + 1)) (sym (table_after l task (next_reference l.entries)))
      (λ j above. get_or-set_other l.table task.id j task_there blank (λ e. omega arith) ∙ empty j (omega arith))

  one_lives : (low : ℕ) → low ≤ task.id → task.id < 256 → Empty l.table low → living_of one_loaded.table ≡ living_of l.table + 1
  one_lives low rising below empty =
      ap living_of (table_after l task (next_reference l.entries))
      ∙ living_more l.table task.id task_there (omega (arith, s.long)) (ap lives (empty task.id rising) ∙ lives_blank) (loaded_lives task (next_reference l.entries))

-- ---- all tasks

-- so many more living
pub record Loaded (l after : Loading) (count tasks : ℕ) : Type 0 where
  pub loads : Loads after count
  pub living : living_of after.table ≡ living_of l.table + tasks

pub load_all : {next_id low : ℕ} {tasks : List ImageTask} → Orderly next_id low tasks → (l : Loading) (count : ℕ) → s_len_of tasks ≤ count → next_id ≤ 256 → Loads l count → Empty l.table low
    → Loaded l (load_tasks tasks l) count (length tasks)
unfolding load_tasks s_len_of
load_all none l count most few s empty = record { loads = s; living = omega arith }
load_all {low = low} (more {task = task} {tasks = tasks} rising below states rest) l count most few s empty =
    let d = load_all rest (one_loaded l count task s) count (omega arith) few (load_one l count task s (omega arith) states) (still_empty l count task s low rising empty) in
    let n = one_lives l count task s low rising (omega arith) empty in
    record { loads = d.loads; living = omega (arith, d.living, n) }
