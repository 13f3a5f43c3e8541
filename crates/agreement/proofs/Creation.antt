-- A created machine is the Rust's VM of the same program and tasks, and may start; a refused creation beside the Rust's init.
use Prim.Native.Nat.{ℕ, zero, suc, ◌+◌, ◌-◌, ◌≤◌, ◌<◌, min, max}
use mathlib.Core.Bool.{Bool, true, false, cond}
use mathlib.Core.Path.{◌≡◌, refl, sym, ap, subst, ◌∙◌}
use mathlib.Core.List.{List, [], ◌∷◌, ◌++◌, map}
use mathlib.Core.Option.{Option}
use native.Mathlib.Omega.{arith}
use native.Mathlib.Numerals.{add-one}
use lib.ListN.{length, get_or, take, set, replicate, length-set, length-replicate}
use lib.Seq.{sets, length-sets, get_or-set_other}
use borrow.Author.Tests.{le-leb, eq-eqb, ne_eqb}
use Rattle.errors.specs.declared.Refusal.{Refusal}
use Rattle.errors.specs.declared.Refusal.TheVariants.{PoolFull}
use Rattle.slices.specs.Numbers.{Bytes}
use Rattle.image.proofs.Endian.{bytes_drop}
use Rattle.image.specs.Image as image
use Rattle.image.specs.Image.{ImageTask, Image, Fine, Rising, sound, read_image}
use Rattle.image.specs.Reading.{s_len_of, instruction_bytes}
use Rattle.image.specs.Walking.{read_record}
use Rattle.image.specs.Slots.{loaded_task}
use Rattle.image.specs.Table.{Loading, load_slot, load_tasks, next_reference}
use Rattle.table_image.specs.Loops.{load_record, load_records, record_placed, instructions_of}
use Rattle.table_image.specs.Tables.{loading, in_use}
use Rattle.pools.specs.Pool.{Pooled, pooled, new_entry, has_room, interned, entry_of, entries_of}
use Rattle.pools.proofs.Laws.{length_entries, joined, still_sound, same_entries}
use Rattle.storage.specs.declared.Task.{Task}
use Rattle.storage.specs.Tasks.{blank, new_task}
use Rattle.roundtrips.proofs.Stores.{Pool, Stored, stored}
use Rattle.roundtrips.proofs.Loads.{Room}
use Rattle.roundtrips.proofs.LoadSave.{load_sound}
use Rattle.table_image.proofs.Fits.{Fits, fits, records_told}
use Rattle.table_image.specs.Creation.{creation_tests}
use Rattle.machine.specs.declared.Machine.{Machine}
use Rattle.inlinevec.specs.Stacks.{two_of, last_two}
use Rattle.machine.specs.Machines.{current, with_pool}
use Rattle.machine.specs.World.{World, world, place}
use Rattle.machine.specs.Calls.{may_start}
use Rattle.machine.specs.Creation.{new_machine, create, Made, made}
use Rattle.machine.specs.History.{new_world}
use Rattle.mechanism.specs.Creating.{with_program, prepare_fit, prepare, create_as, loaded_from, create_by_parts, create_ready}
use Rattle.mechanism.proofs.Creates.{create_is}
use Rattle.laws.specs.Creatable.{pool_bytes, NotCreatable, other_slots, no_program, long_program, bad_image}
use Rattle.laws.specs.Creatable as not-creatable
use Rattle.laws.proofs.Creation.{none_joined, create_sound, create_new}
use Rattle.laws.proofs.Creates.{refuses_exactly}
use Rattle.table_image.proofs.Loads.{load_table_tasks}
use Rattle.rust.specs.Errors.{Out, ok, err, EmptyInstructions}
use Rattle.rust.specs.InlineVec as inlinevec
use Rattle.rust.specs.Instructions as instructions
use Rattle.rust.specs.TaskTypes.{TaskVM}
use Rattle.rust.specs.Storage as storage
use Rattle.rust.specs.Vm.{VM}
use Rattle.rust.specs.Run.{init}
use Rattle.agreement.specs.View.{callers, held, task_in_slot, storage_of, view}
use Rattle.agreement.specs.Runs.{at_rest}
use Rattle.agreement.specs.Agreement.{total_length}
use Rattle.agreement.specs.Creation as rust
use Rattle.agreement.specs.Creation.{Creations, both_refuse, too_long, no_room, both_make}
use Rattle.agreement.proofs.Store.{bytes_taken}
use Rattle.agreement.proofs.Frames.{total_more, bytes_sets, when_room}
use Rattle.agreement.proofs.Slots.{Beyond, more_in, blank_none, new_held, new_living}
use Rattle.agreement.proofs.Calls.{Ready}
use Rattle.std.specs.Prelude.{Ok, Err, Result}
use Rattle.table_image.specs.declared.creation.Fit.{Fit}

-- ---- the tasks, one after another

last_joined : (pool ends : List ℕ) (n : ℕ) → entries_of pool ends (suc n) ≡ entries_of pool ends n ++ (entry_of pool ends n ∷ [])
unfolding entries_of
last_joined pool ends n = refl

-- the entries after one more
one_more : (l s : Loading) (task : Task) (instructions : List ℕ) → Stored l s task instructions → entries_of s.pool s.ends s.entries ≡ entries_of l.pool l.ends l.entries ++ (instructions ∷ [])
one_more l s task instructions t =
    rw (t.one_more, add-one l.entries) (last_joined s.pool s.ends l.entries ∙ (let a = same_entries s.pool s.ends l.pool l.ends l.entries t.old in let b = t.new in cc))

-- a task as its slot holds it
loaded_held : (task : ImageTask) (entries : ℕ) → length task.title ≤ 128 → entries ≤ 1024
    → held (loaded_task task (next_reference entries)) ≡ record { id = task.id; title = task.title; state = record { len = task.count; state = task.state }; instructions_ref = entries }
unfolding loaded_task next_reference
loaded_held task entries short few =
    let z : min entries 1024 ≡ entries = omega arith in
    new_held (record { 0 = task.id }) task.title (record { len = task.count; state = task.state }) (record { 0 = min entries 1024 }) short ∙ rw z

loaded_living : (task : ImageTask) (entries : ℕ) → (loaded_task task (next_reference entries)).living ≡ true
unfolding loaded_task
loaded_living task entries = new_living _ task.title _ _

loaded_id : (task : ImageTask) (entries : ℕ) → (loaded_task task (next_reference entries)).id.0 ≡ task.id
unfolding loaded_task new_task
loaded_id task entries = refl

-- what is shown of a loading, up to a count
abbrev shown_tasks : ℕ → Loading → List (Option TaskVM)
shown_tasks count l = take count (map task_in_slot l.table)

abbrev shown_pool : Loading → List (List ℕ)
shown_pool l = entries_of l.pool l.ends l.entries

-- a table whose slots from a count on are blank
record Blank (count : ℕ) (l : Loading) : Type 0 where
  long : length l.table ≡ 256
  empty : (i : ℕ) → count ≤ i → get_or l.table i blank ≡ blank

blank_beyond : (count : ℕ) (l : Loading) → count ≤ 256 → Blank count l → Beyond l.table count
blank_beyond count l few b = record { long = b.long; few = few; none_there = λ i past. ap task_in_slot (b.empty i past) ∙ blank_none }

bytes_of_more : (task : ImageTask) (tasks : List ImageTask) → instruction_bytes (task ∷ tasks) ≡ length task.instructions + instruction_bytes tasks
unfolding instruction_bytes
bytes_of_more task tasks = refl

len_of_more : (task : ImageTask) (tasks : List ImageTask) → s_len_of (task ∷ tasks) ≡ max (task.id + 1) (s_len_of tasks)
unfolding s_len_of
len_of_more task tasks = refl

len_of_none : s_len_of [] ≡ 0
unfolding s_len_of
len_of_none = refl

load_more : (task : ImageTask) (tasks : List ImageTask) (l : Loading) → load_tasks (task ∷ tasks) l ≡ load_tasks tasks (load_slot (loaded_task task (next_reference l.entries)) task.instructions l)
unfolding load_tasks
load_more task tasks l = refl

load_none : (l : Loading) → load_tasks [] l ≡ l
unfolding load_tasks
load_none l = refl

module _ {B : Type 0} (onward : List (Option TaskVM) → List (List ℕ) → Out B) where
  load_one : {next_id low : ℕ} (task : ImageTask) (l s : Loading) (count : ℕ) → Fine next_id low task → next_id ≤ 256 → count ≤ low → l.entries ≤ 1024 → Blank count l
      → Stored l s (loaded_task task (next_reference l.entries)) task.instructions → (tasks : List ImageTask)
      → storage.from_tasks (map rust.stored_task (task ∷ tasks)) (shown_tasks count l) (shown_pool l) onward ≡ storage.from_tasks (map rust.stored_task tasks) (shown_tasks (task.id + 1) s) (shown_pool s) onward
  unfolding storage.from_tasks instructions.intern_instructions
  load_one task l s count fine few before entries b t tasks =
      let slot = loaded_task task (next_reference l.entries) in
      let table_is : s.table ≡ set l.table task.id slot = t.slots ∙ ap (λ (k : ℕ). set l.table k slot) (loaded_id task l.entries) in
      let tasks_are : shown_tasks (task.id + 1) s ≡ storage.put (shown_tasks count l) task.id (held slot) =
      ap (λ (x : List Task). take (task.id + 1) (map task_in_slot x)) table_is
      ∙ more_in l.table count (blank_beyond count l (omega (arith, fine.rising, fine.below)) b) task.id slot (loaded_living task l.entries) (omega (arith, fine.rising)) (omega (arith, fine.below)) in
      rw (length_entries l.pool l.ends l.entries, one_more l s slot task.instructions t, tasks_are, loaded_held task l.entries fine.short entries)

  slots_blank : (task : ImageTask) (l s : Loading) (count : ℕ) → count ≤ task.id → Blank count l → Stored l s (loaded_task task (next_reference l.entries)) task.instructions → Blank (task.id + 1) s
  slots_blank task l s count before b t =
      let slot = loaded_task task (next_reference l.entries) in
      let table_is : s.table ≡ set l.table task.id slot = t.slots ∙ ap (λ (k : ℕ). set l.table k slot) (loaded_id task l.entries) in
      record {
        long = ap length table_is ∙ length-set l.table task.id slot ∙ b.long;
        empty = λ i past. ap (λ (x : List Task). get_or x i blank) table_is ∙ get_or-set_other l.table task.id i slot blank (λ (e : i ≡ task.id). omega arith) ∙ b.empty i (omega arith);
      }

  -- the Rust's loop of load, and ours
  loads : {next_id low : ℕ} {tasks : List ImageTask} → Rising next_id low tasks → (l : Loading) (count : ℕ) → next_id ≤ 256 → count ≤ low → Blank count l → Pool l → Room l tasks
      → storage.from_tasks (map rust.stored_task tasks) (shown_tasks count l) (shown_pool l) onward ≡ onward (shown_tasks (max count (s_len_of tasks)) (load_tasks tasks l)) (shown_pool (load_tasks tasks l))
  unfolding storage.from_tasks
  loads image.none l count few before b p room = let z : max count 0 ≡ count = omega arith in rw (load_none l, len_of_none, z)
  loads {next_id} {low} (image.more {task = task} {tasks = tasks} fine r) l count few before b p room =
      let bytes = bytes_of_more task tasks in
      let slot = loaded_task task (next_reference l.entries) in
      let t = stored l slot task.instructions p (omega (arith, room.few)) (omega (arith, room.small)) in
      let s = load_slot slot task.instructions l in
      let z : max count (max (task.id + 1) (s_len_of tasks)) ≡ max (task.id + 1) (s_len_of tasks) = omega (arith, fine.rising) in
      load_one task l s count fine few before (omega (arith, room.few)) b t tasks
      ∙ loads r s (task.id + 1) few (omega arith) (slots_blank task l s count (omega (arith, fine.rising)) b t) t.still (record { few = omega (arith, room.few, t.one_more); small = omega (arith, room.small, t.bytes_more, t.same_pool) })
      ∙ rw (load_more task tasks l, len_of_more task tasks, z)

-- ---- the pool's bytes

bytes_interned : (pool ends : List ℕ) (bytes entries : ℕ) (calldata : List ℕ) → Bytes pool → Bytes calldata → Bytes (interned pool ends bytes entries calldata).pool
unfolding interned
bytes_interned pool ends bytes entries calldata all new = by (has_room (length pool) bytes entries (length calldata))
  where
    by : (b : Bool) → Bytes (cond b (pooled (new_entry entries (bytes + length calldata)) (sets pool bytes calldata) (set ends entries (bytes + length calldata))) (pooled (Err PoolFull) pool ends)).pool
    by true = bytes_sets bytes all new
    by false = all

bytes_records : (n : ℕ) (image : List ℕ) (place : ℕ) (l : Loading) → Bytes image → Bytes l.pool → Bytes (load_records n image place l).pool
unfolding load_records load_record record_placed
bytes_records zero image place l from all = all
bytes_records (suc n) image place l from all =
    let r = read_record image place (next_reference l.entries) in
    bytes_records n image _ (record_placed (load_record l.pool l.ends image place l.bytes l.entries) l) from
    (bytes_interned l.pool l.ends l.bytes l.entries (instructions_of image r) all (bytes_taken (r.end - r.start) (bytes_drop r.start from)))

-- ---- creation, taken apart

-- where the program is the first entry
abbrev with_first : List Task → List ℕ → List ℕ → List ℕ → Loading
with_first table pool ends program = loading (replicate (length table) blank) (sets pool 0 program) (set ends 0 (0 + length program)) (in_use (0 + length program) 1)

abbrev loaded_all : List Task → List ℕ → List ℕ → List ℕ → List ℕ → ℕ → Loading
loaded_all table pool ends image program count = load_records count image 14 (with_first table pool ends program)

data Creates (table : List Task) (pool ends image program : List ℕ) : Made → Type 0 where
  creates : (next_id count len : ℕ) → Fits (length table) (length pool) (length program) image next_id count len
      → Creates table pool ends image program (loaded_from (new_machine (0 + length program) 1 next_id len) (loaded_all table pool ends image program count))
  not_creates : (number : Refusal) (t : List Task) (p e : List ℕ) → Creates table pool ends image program (made (Err number) t p e)

module _ (table : List Task) (pool ends image program : List ℕ) where
  first_room : (next_id count len : ℕ) → Fits (length table) (length pool) (length program) image next_id count len → has_room (length pool) 0 0 (length program) ≡ true
  unfolding has_room
  first_room next_id count len f = rw (le-leb (0 + length program) (min 65536 (length pool)) (omega (arith, f.room.small, f.room.there)))

  by_tests : (result : Result Fit Refusal) → creation_tests (length table) (length pool) (length program) image ≡ result → Creates table pool ends image program (create_as table image (prepare_fit pool ends program result))
  unfolding create_ready prepare_fit with_program
  by_tests (Ok fit) e =
      let f = fits (length table) (length pool) (length program) image fit.next_id.0 fit.count fit.s_len e in
      rw (when_room pool ends 0 0 program (first_room fit.next_id.0 fit.count fit.s_len f)) (creates fit.next_id.0 fit.count fit.s_len f)
  by_tests (Err number) e = not_creates number table pool ends

  creating : Creates table pool ends image program (create table pool ends image program)
  unfolding create_by_parts prepare
  creating = subst (Creates table pool ends image program) (create_is table pool ends image program) (by_tests _ refl)

-- ---- what was created, beside init

cleared_blank : (n i : ℕ) → get_or (replicate n blank) i blank ≡ blank
cleared_blank zero i = refl
cleared_blank (suc n) zero = refl
cleared_blank (suc n) (suc i) = cleared_blank n i

-- the tasks of an image that was read
record Orders (image : Image) : Type 0 where
  few : image.next_id ≤ 256
  tasks : Rising image.next_id 0 image.tasks

none_read : (image : Image) → read_image [] ≡ sound image → record { next_id = 0; tasks = [] } ≡ image
unfolding read_image
none_read image e = cc

orders : (bytes : List ℕ) (image : Image) → Bytes bytes → read_image bytes ≡ sound image → Orders image
orders [] found all e = subst Orders (none_read found e) (record { few = omega arith; tasks = image.none })
orders (byte ∷ bytes) found all e = let s = load_sound (byte ∷ bytes) found (omega arith) e all in record { few = s.few; tasks = s.tasks }

none_listed : (pool ends : List ℕ) → entries_of pool ends 0 ≡ []
unfolding entries_of
none_listed pool ends = refl

module _ (table : List Task) (pool ends bytes program : List ℕ) (next_id count len : ℕ) (f : Fits (length table) (length pool) (length program) bytes next_id count len)
    (lent : length ends ≡ 1024) (all : Bytes bytes) where
  abbrev first : Loading
  first = with_first table pool ends program

  abbrev whole : Loading
  whole = loaded_all table pool ends bytes program count

  abbrev found : Image
  found = f.image.image

  said : interned pool ends 0 0 program ≡ pooled (new_entry 0 (0 + length program)) (sets pool 0 program) (set ends 0 (0 + length program))
  said = when_room pool ends 0 0 program (first_room table pool ends bytes program next_id count len f)

  first_pool : Pool first
  first_pool = record {
    lent = length-set ends 0 (0 + length program) ∙ lent;
    sound = rw said at (still_sound pool ends 0 0 program lent (none_joined ends) (record { 0 = 0 }) (0 + length program) (ap (λ (x : Pooled). x.answer) said));
  }

  first_entry : shown_pool first ≡ program ∷ []
  first_entry = (rw said at (joined pool ends 0 0 program lent (none_joined ends) (record { 0 = 0 }) (0 + length program) (ap (λ (x : Pooled). x.answer) said))) ∙ ap (λ (x : List (List ℕ)). x ++ (program ∷ [])) (none_listed pool ends)

  first_blank : Blank 0 first
  first_blank = record { long = length-replicate (length table) blank ∙ f.table; empty = λ i past. cleared_blank (length table) i }

  first_room_for : Room first found.tasks
  first_room_for = record {
    few = omega (arith, f.room.few, f.image.count_is);
    small = omega (arith, f.room.small, f.room.there, f.image.bytes_are, length-sets pool 0 program);
  }

  whole_is : whole ≡ load_tasks found.tasks first
  whole_is = records_told f table (sets pool 0 program) (set ends 0 (0 + length program)) (in_use (0 + length program) 1) ∙ load_table_tasks bytes found (loading table (sets pool 0 program) (set ends 0 (0 + length program)) (in_use (0 + length program) 1)) f.image.read

  from_tasks_is : {B : Type 0} (onward : List (Option TaskVM) → List (List ℕ) → Out B)
      → storage.from_tasks (map rust.stored_task found.tasks) [] (program ∷ []) onward ≡ onward (shown_tasks len whole) (shown_pool whole)
  from_tasks_is onward =
      let o = orders bytes found all f.image.read in
      let z : max 0 (s_len_of found.tasks) ≡ len = omega (arith, f.image.s_len_is) in
      ap (λ (x : List (List ℕ)). storage.from_tasks (map rust.stored_task found.tasks) [] x onward) (sym first_entry)
      ∙ loads onward o.tasks first 0 o.few (omega arith) first_blank first_pool first_room_for
      ∙ rw (z, ← whole_is)

  abbrev made_world : List ℕ → List ℕ → List ℕ → World
  made_world stack memory save = world (with_pool (new_machine (0 + length program) 1 next_id len) whole.bytes whole.entries) whole.table stack memory whole.pool whole.ends save

  init_made : (stack memory save : List ℕ) → init program (rust.stored found) ≡ ok (at_rest (made_world stack memory save))
  unfolding init storage.load instructions.intern_instructions inlinevec.push view current last_two callers storage_of two_of
  init_made stack memory save =
      rw (ne_eqb (length program) 0 (λ (z : length program ≡ 0). omega (arith, f.some)))
      (from_tasks_is _ ∙ rw f.image.next_id_is)

-- ---- from creation on

-- a world that is the Rust's VM of a program and of the tasks that an image holds, and may start
pub record FromCreation (bytes program : List ℕ) (w : World) : Type 0 where
  pub found : Image
  pub read : read_image bytes ≡ sound found
  pub init_is : init program (rust.stored found) ≡ ok (at_rest w)
  pub ready : Ready w

record Core (bytes program : List ℕ) (w : World) : Type 0 where
  found : Image
  read : read_image bytes ≡ sound found
  init_is : init program (rust.stored found) ≡ ok (at_rest w)
  pool_bytes : Bytes w.pool

machine_of : Machine → Result Machine Refusal → Machine
machine_of other (Ok machine) = machine
machine_of other (Err number) = other

is_created : Result Machine Refusal → ℕ
is_created (Ok machine) = 1
is_created (Err number) = 0

module _ (table : List Task) (pool ends bytes program : List ℕ) (lent : length ends ≡ 1024) (pool-all : Bytes pool) (image-all : Bytes bytes) (program-all : Bytes program) (stack memory save : List ℕ) where
  core : (machine : Machine) (m : Made) → Creates table pool ends bytes program m → m.answer ≡ Ok machine → Core bytes program (world machine m.table stack memory m.pool m.ends save)
  unfolding machine_of is_created
  core machine _ (creates next_id count len f) e =
      subst (λ (x : Machine). Core bytes program (world x (loaded_all table pool ends bytes program count).table stack memory (loaded_all table pool ends bytes program count).pool (loaded_all table pool ends bytes program count).ends save))
      (ap (machine_of machine) e)
      (record {
        found = f.image.image;
        read = f.image.read;
        init_is = init_made table pool ends bytes program next_id count len f lent image-all stack memory save;
        pool_bytes = bytes_records count bytes 14 (with_first table pool ends program) image-all (bytes_sets 0 pool-all program-all);
      })
  core machine _ (not_creates number t p e) is = absurd (let z : ◌≡◌ {A = ℕ} 0 1 = ap is_created is in omega arith)

  -- a created machine, with any stack of 1,000 words, any memory and any save buffer
  pub created_agrees : (machine : Machine) → (create table pool ends bytes program).answer ≡ Ok machine → length stack ≡ 1000
      → FromCreation bytes program (world machine (create table pool ends bytes program).table stack memory (create table pool ends bytes program).pool (create table pool ends bytes program).ends save)
  unfolding may_start
  created_agrees machine is long =
      let c = core machine (create table pool ends bytes program) (creating table pool ends bytes program) is in
      record {
        found = c.found;
        read = c.read;
        init_is = c.init_is;
        ready = record {
          is_sound = create_sound table pool ends bytes program machine lent is stack memory save long;
          bytes = c.pool_bytes;
          phase = ap may_start (create_new table pool ends bytes program machine lent is);
        };
      }

-- ---- creation beside init

pub sound_is : {a b : Image} → sound a ≡ sound b → a ≡ b
sound_is e = cc

pub ok_is : {a b : VM} → ok a ≡ ok b → a ≡ b
ok_is e = cc

-- the Rust's loop of load never errs, and interns the bytes of all instructions
interns_all : {B : Type 0} (onward : List (Option TaskVM) → List (List ℕ) → Out B) (tasks : List ImageTask) (before : List (Option TaskVM)) (entries : List (List ℕ))
    → (after : List (Option TaskVM)) × (new : List (List ℕ)) × (storage.from_tasks (map rust.stored_task tasks) before entries onward ≡ onward after new) × (total_length new ≡ total_length entries + instruction_bytes tasks)
unfolding storage.from_tasks instructions.intern_instructions instruction_bytes
interns_all onward [] before entries = (before, entries, refl, omega arith)
interns_all onward (task ∷ tasks) before entries =
    let later = interns_all onward tasks _ (entries ++ (task.instructions ∷ [])) in
    let more = total_more entries task.instructions in
    (later.0, later.1, later.2, (let q = later.3 in omega (arith, q, more)))

-- the Rust's new machine, with these tasks and this pool
abbrev new_vm : ℕ → List (Option TaskVM) → List (List ℕ) → VM
new_vm next_id tasks entries = record {
  stack = [];
  control_stack = [];
  storage = record { tasks_vm = tasks; next_id = next_id };
  instructions_pool = entries;
  call_stack = record { instructions_ref = 0; pc = 0 } ∷ [];
  memory = [];
  instructions_ref = 0;
  pc = 0;
}

-- a program that is not empty goes on in the Rust, with the bytes of program and instructions in its pool
init_goes_on : (program : List ℕ) (found : Image) → 1 ≤ length program → (vm : VM) × (init program (rust.stored found) ≡ ok vm) × (total_length vm.instructions_pool ≡ pool_bytes program found)
unfolding init storage.load instructions.intern_instructions inlinevec.push total_length
init_goes_on program found not_empty =
    let all = interns_all (λ tasks entries. ok (new_vm found.next_id tasks entries)) found.tasks [] (program ∷ []) in
    (new_vm found.next_id all.0 all.1, rw (ne_eqb (length program) 0 (λ (z : length program ≡ 0). omega (arith, not_empty))) all.2, (let q = all.3 in omega (arith, q)))

init_empty : (program : List ℕ) (found : Image) → length program ≡ 0 → init program (rust.stored found) ≡ err EmptyInstructions
unfolding init
init_empty program found empty = rw (eq-eqb (length program) 0 empty)

module _ (table : List Task) (pool ends image program : List ℕ) (lent : length ends ≡ 1024) (pool-all : Bytes pool) (image-all : Bytes image) (program-all : Bytes program)
    (slots : length table ≡ 256) (found : Image) (read : read_image image ≡ sound found) where
  abbrev creation : Made
  creation = create table pool ends image program

  refused_alike : (number : Refusal) → creation.answer ≡ Err number → NotCreatable table pool image program number → Creations pool program creation (init program (rust.stored found))
  refused_alike _ e (other_slots other) = absurd (other slots)
  refused_alike _ e (no_program is empty) = rw (init_empty program found empty) (both_refuse e)
  refused_alike _ e (long_program is long) = let goes = init_goes_on program found (omega (arith, long)) in rw goes.1 (too_long e long)
  refused_alike _ e (bad_image place is not_empty short bad) = absurd (let z : ◌≡◌ {A = ℕ} 0 1 = (let q = sym read ∙ bad in cc) in omega arith)
  refused_alike _ e (not-creatable.no_room other is not_empty short is_sound past) =
      let goes = init_goes_on program found (omega (arith, not_empty)) in
      let same : pool_bytes program other ≡ pool_bytes program found = ap (pool_bytes program) (sound_is (sym is_sound ∙ read)) in
      let over : min 65536 (length pool) < total_length goes.0.instructions_pool = (let q = goes.2 in omega (arith, q, same, past)) in
      rw goes.1 (no_room e over)

  shown_alike : (machine : Machine) → creation.answer ≡ Ok machine → (stack memory save : List ℕ) → init program (rust.stored found) ≡ ok (at_rest (new_world machine creation stack memory save))
  shown_alike machine e stack memory save =
      let c = core table pool ends image program lent pool-all image-all program-all stack memory save machine creation (creating table pool ends image program) e in
      ap (λ (i : Image). init program (rust.stored i)) (sound_is (sym read ∙ c.read)) ∙ c.init_is

  alike : (answer : Result Machine Refusal) → creation.answer ≡ answer → Creations pool program creation (init program (rust.stored found))
  alike (Ok machine) e =
      rw (shown_alike machine e [] [] []) (both_make machine e (λ stack memory save. ok_is (sym (shown_alike machine e stack memory save) ∙ shown_alike machine e [] [] [])))
  alike (Err number) e = refused_alike number e ((refuses_exactly table pool ends image program number).0 e)

  -- over a table of 256 slots and a sound image: 1 where the Rust's init errs with EmptyInstructions, 28 and 22 only where it goes on, and else the same machine
  pub creation_agrees : Creations pool program creation (init program (rust.stored found))
  creation_agrees = alike creation.answer refl
