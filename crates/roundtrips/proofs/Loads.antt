-- An image that is loaded into a table: its tasks stand in the living slots, and saving gives the same bytes.
use Prim.Native.Nat.{ℕ, zero, suc, ◌+◌, ◌-◌, ◌<◌, ◌≤◌, min}
use mathlib.Core.Bool.{true, false}
use mathlib.Core.List.{List, [], ◌∷◌, append-nil}
use mathlib.Core.Path.{◌≡◌, refl, ap, ◌∙◌, subst}
use native.Mathlib.Omega.{arith}
use lib.ListN.{length, get_or, set, replicate, length-set, length-replicate}
use lib.Seq.{get_or-set_same, get_or-set_other}
use Rattle.roundtrips.proofs.LoadSave.{load_sound, load_save}
use Rattle.image.proofs.Records.{saved_again}
use Rattle.roundtrips.proofs.Saves.{Holds, Lists, end, dead, alive, saved_lists}
use Rattle.table_image.proofs.Loads.{load_more, load_none, load_table_tasks}
use Rattle.roundtrips.proofs.Stores.{Pool, Stored, stored}
use Rattle.image.specs.Image.{ImageTask, Image, header, records, written, Fine, Rising, none, more, sound, read_image}
use Rattle.slices.specs.Numbers.{Bytes}
use Rattle.image.specs.Reading.{instruction_bytes}
use Rattle.image.specs.Slots.{loaded_task, saved_task, task_in}
use Rattle.image.specs.Table.{Loading, cleared, next_reference, load_slot, load_tasks, load_read, load_table, saved_over, save_table}
use Rattle.pools.proofs.Ends.{stands}
use Rattle.pools.specs.Pool.{entry_of}
use Rattle.pools.specs.declared.InstructionsRef.{InstructionsRef}
use Rattle.storage.specs.Tasks.{blank, new_task}
use Rattle.storage.specs.declared.Task.{Task}

-- ---- the slots of a table that is loaded

-- from a place on every slot is blank
abbrev Empty : List Task → ℕ → Type 0
Empty table low = (j : ℕ) → low ≤ j → get_or table j blank ≡ blank

blank_dead : blank.living ≡ false
unfolding blank
blank_dead = refl

-- slots that are blank hold no tasks
all_dead : {pool ends : List ℕ} {entries : ℕ} (table : List Task) (n low : ℕ) → Empty table low → Lists table pool ends entries n low []
all_dead table zero low empty = end
all_dead table (suc n) low empty = dead {i = low} (rw (empty low (omega arith)) blank_dead) (all_dead table n (low + 1) (λ j h. empty j (omega arith)))

-- blank slots before others
dead_run : {table : List Task} {pool ends : List ℕ} {entries : ℕ} {tasks : List ImageTask} (d m n low i : ℕ) → d + n ≡ m → low + d ≡ i → ((j : ℕ) → low ≤ j → j < i → get_or table j blank ≡ blank) → Lists table pool ends entries n i tasks → Lists table pool ends entries m low tasks
dead_run {table} {pool} {ends} {entries} {tasks} zero m n low i e k empty l =
    let p : n ≡ m = omega arith in
    let q : i ≡ low = omega arith in
    subst (λ (x : ℕ). Lists table pool ends entries x low tasks) p (subst (λ (x : ℕ). Lists table pool ends entries n x tasks) q l)
dead_run (suc d) zero n low i e k empty l = absurd (omega arith)
dead_run (suc d) (suc m) n low i e k empty l =
    dead {i = low} (rw (empty low (omega arith) (omega arith)) blank_dead) (dead_run d m n (low + 1) i (omega arith) (omega arith) (λ j h g. empty j (omega arith) g) l)

-- the pool has room for the tasks
pub record Room (l : Loading) (tasks : List ImageTask) : Type 0 where
  pub few : l.entries + length tasks ≤ 1024
  pub small : l.bytes + instruction_bytes tasks ≤ min 65536 (length l.pool)

-- what loading tasks with ids from `low` on keeps, and where they are then
pub record Done (low : ℕ) (l f : Loading) (tasks : List ImageTask) : Type 0 where
  pub slots : (j : ℕ) → j < low → get_or f.table j blank ≡ get_or l.table j blank
  pub entries : (i : ℕ) → i < l.entries → entry_of f.pool f.ends i ≡ entry_of l.pool l.ends i
  pub count : l.entries + length tasks ≡ f.entries
  pub long : length f.table ≡ length l.table
  pub pool : Pool f
  pub lists : (n : ℕ) → n + low ≡ length f.table → Lists f.table f.pool f.ends f.entries n low tasks

loaded_id : (task : ImageTask) (reference : InstructionsRef) → (loaded_task task reference).id.0 ≡ task.id
unfolding loaded_task new_task
loaded_id task reference = refl

loaded_living : (task : ImageTask) (reference : InstructionsRef) → (loaded_task task reference).living ≡ true
unfolding loaded_task new_task
loaded_living task reference = refl

loaded_reference : (task : ImageTask) (reference : InstructionsRef) → (loaded_task task reference).instructions_ref ≡ reference
unfolding loaded_task new_task
loaded_reference task reference = refl

-- the next reference names the next entry
reference_is : (n : ℕ) → n ≤ 1024 → (next_reference n).0 ≡ n
unfolding next_reference
reference_is n few = omega arith

-- a task in a slot, its entry being its instructions
holds : (pool ends : List ℕ) (entries n next_id low : ℕ) (task : ImageTask) (reference : InstructionsRef) → reference.0 ≡ n → Fine next_id low task → n < min entries 1024 → entry_of pool ends n ≡ task.instructions → Holds pool ends entries (loaded_task task reference) task
unfolding task_in
holds pool ends entries n next_id low task reference is fine named entry =
    record {
      living = loaded_living task reference;
      task_is =
          ap (saved_task (loaded_task task reference)) (ap (λ (r : InstructionsRef). entry_of pool ends r.0) (loaded_reference task reference) ∙ ap (entry_of pool ends) is ∙ entry)
          ∙ saved_again task reference fine.short;
      named = rw (loaded_reference task reference, is) named;
      text = fine.text;
    }

bytes_of_more : (task : ImageTask) (tasks : List ImageTask) → instruction_bytes (task ∷ tasks) ≡ length task.instructions + instruction_bytes tasks
unfolding instruction_bytes
bytes_of_more task tasks = refl

-- the table after one task
slots_set : (l : Loading) (task : ImageTask) {s : Loading} → Stored l s (loaded_task task (next_reference l.entries)) task.instructions → s.table ≡ set l.table task.id (loaded_task task (next_reference l.entries))
slots_set l task t = t.slots ∙ ap (λ (k : ℕ). set l.table k (loaded_task task (next_reference l.entries))) (loaded_id task (next_reference l.entries))

-- one task, and then the others
module _ {next_id low : ℕ} {task : ImageTask} {tasks : List ImageTask} {l s f : Loading} (fine : Fine next_id low task) (inside : next_id ≤ length l.table) (empty : Empty l.table low)
    (t : Stored l s (loaded_task task (next_reference l.entries)) task.instructions) (d : Done (task.id + 1) s f tasks) where
  slot_is : get_or f.table task.id blank ≡ loaded_task task (next_reference l.entries)
  slot_is = d.slots task.id (omega arith) ∙ rw (slots_set l task t) (get_or-set_same l.table task.id (loaded_task task (next_reference l.entries)) blank (omega (arith, fine.below)))

  slot_before : (j : ℕ) → j < task.id → get_or f.table j blank ≡ get_or l.table j blank
  slot_before j less = d.slots j (omega arith) ∙ rw (slots_set l task t) (get_or-set_other l.table task.id j (loaded_task task (next_reference l.entries)) blank (λ e. omega arith))

  long_is : length f.table ≡ length l.table
  long_is = d.long ∙ rw (slots_set l task t) (length-set l.table task.id (loaded_task task (next_reference l.entries)))

  held : Holds f.pool f.ends f.entries (get_or f.table task.id blank) task
  held =
      let n = stands f.ends f.bytes f.entries d.pool.sound in
      rw slot_is
      (holds f.pool f.ends f.entries l.entries next_id low task (next_reference l.entries) (reference_is l.entries (omega (arith, d.count, t.one_more, n.few))) fine (omega (arith, d.count, t.one_more, n.few))
      (d.entries l.entries (omega (arith, t.one_more)) ∙ t.new))

  done_more : Done low l f (task ∷ tasks)
  done_more =
      record {
        slots = λ j less. slot_before j (omega (arith, fine.rising));
        entries = λ i less. d.entries i (omega (arith, t.one_more)) ∙ t.old i less;
        count = omega (arith, d.count, t.one_more);
        long = long_is;
        pool = d.pool;
        lists = λ n e. dead_run (task.id - low) n (suc (length f.table - (task.id + 1))) low task.id (omega (arith, fine.rising, fine.below, long_is)) (omega (arith, fine.rising))
            (λ j h g. slot_before j g ∙ empty j h)
            (alive held (d.lists (length f.table - (task.id + 1)) (omega (arith, fine.below, long_is))));
      }

-- the tasks loaded into a table that is blank from their first id on
pub load_done : {next_id low : ℕ} {tasks : List ImageTask} → Rising next_id low tasks → (l : Loading) → next_id ≤ length l.table → Empty l.table low → Pool l → Room l tasks → Done low l (load_tasks tasks l) tasks
load_done none l inside empty p room =
    rw (load_none l)
    (record {
      slots = λ j less. refl;
      entries = λ i less. refl;
      count = omega arith;
      long = refl;
      pool = p;
      lists = λ n e. all_dead l.table n _ empty;
    })
load_done (more {low} {task} {tasks} fine r) l inside empty p room =
    let b = bytes_of_more task tasks in
    let t = stored l (loaded_task task (next_reference l.entries)) task.instructions p (omega (arith, room.few)) (omega (arith, room.small)) in
    let k : length (load_slot (loaded_task task (next_reference l.entries)) task.instructions l).table ≡ length l.table = ap length (slots_set l task t) ∙ length-set l.table task.id (loaded_task task (next_reference l.entries)) in
    rw (load_more task tasks l)
    (done_more fine inside empty t
    (load_done r _ (omega arith)
    (λ j h. rw (slots_set l task t) (get_or-set_other l.table task.id j (loaded_task task (next_reference l.entries)) blank (λ e. omega arith) ∙ empty j (omega (arith, fine.rising))))
    t.still
    (record { few = omega (arith, room.few, t.one_more); small = omega (arith, room.small, t.bytes_more, t.same_pool) })))

-- ---- the whole

blanks : (n j : ℕ) → get_or (replicate n blank) j blank ≡ blank
blanks zero j = refl
blanks (suc n) zero = refl
blanks (suc n) (suc j) = blanks n j

module _ (bytes : List ℕ) (image : Image) (l : Loading) (b : Bytes bytes) (some : 0 < length bytes) (e : read_image bytes ≡ sound image) (wide : 256 ≤ length l.table) (p : Pool l) (room : Room l image.tasks) where
  -- after loading, the living slots hold the image's tasks, each with its own entry, and the pool is end to end
  pub load_holds : Done 0 (cleared l) (load_table bytes l) image.tasks
  load_holds =
      let z = load_sound bytes image some e b in
      let n : length (replicate (length l.table) blank) ≡ length l.table = length-replicate (length l.table) blank in
      rw (load_table_tasks bytes image l e)
      (load_done z.tasks (cleared l) (omega (arith, z.few)) (λ j h. blanks (length l.table) j) (record { lent = p.lent; sound = p.sound }) (record { few = room.few; small = room.small }))

  -- saving after loading a non-empty image gives the same bytes, 24 where they do not fit
  pub reload : (save : List ℕ)
      → save_table image.next_id (load_table bytes l).table (load_table bytes l).pool (load_table bytes l).ends (load_table bytes l).entries save ≡ saved_over bytes save
  reload save =
      saved_lists image (load_holds.lists (length (load_table bytes l).table) (omega arith)) save
      ∙ ap (λ (written : List ℕ). saved_over written save) (load_save bytes image some e b)

none_written : written (record { next_id = 0; tasks = [] }) ≡ header 0 0
unfolding written records
none_written = append-nil (header 0 0)

-- a zero-length image means none, and saving after it gives a lone kind 1 of zeros
pub reload_none : (l : Loading) (save : List ℕ)
    → save_table 0 (load_table [] l).table (load_table [] l).pool (load_table [] l).ends (load_table [] l).entries save ≡ saved_over (header 0 0) save
unfolding load_table load_read load_tasks read_image
reload_none l save =
    saved_lists (record { next_id = 0; tasks = [] }) (all_dead (replicate (length l.table) blank) (length (replicate (length l.table) blank)) 0 (λ j h. blanks (length l.table) j)) save
    ∙ ap (λ (written : List ℕ). saved_over written save) none_written
