-- A machine that was created is sound beside any stack, memory and save buffer, and its living tasks are those of the image.
use Prim.Native.Nat.{ℕ, zero, suc, ◌≤◌, ◌<◌}
use mathlib.Core.Bool.{true}
use mathlib.Core.List.{List, [], ◌∷◌}
use mathlib.Core.Path.{◌≡◌, refl, sym, ap, ◌∙◌, subst}
use native.Mathlib.Omega.{arith}
use lib.ListN.{length, get_or, replicate, length-replicate}
use borrow.Author.Tests.{lt-ltb}
use Rattle.errors.specs.declared.Refusal.{Refusal}
use Rattle.pools.specs.Pool.{Pooled, start_of, never_fall, end_to_end}
use Rattle.storage.specs.declared.Task.{Task}
use Rattle.storage.specs.Table.{living_of, sound_table}
use Rattle.storage.specs.Tasks.{blank}
use Rattle.storage.proofs.Laws.{living_cleared}
use Rattle.storage.proofs.Soundness.{Counts, counts_sound, sound_cleared}
use Rattle.image.specs.Image.{Image, sound, task_count, read_image}
use Rattle.image.specs.Reading.{s_len_of}
use Rattle.image.specs.Table.{Loading}
use Rattle.table_image.specs.Loops.{load_records}
use Rattle.table_image.specs.Tables.{in_use, loading}
use Rattle.table_image.specs.declared.InUse.{InUse}
use Rattle.table_image.specs.Creation.{creation_tests}
use Rattle.table_image.proofs.Fits.{Fits, fits, count_told, records_told}
use Rattle.table_image.proofs.Loads.{load_table_tasks}
use Rattle.image.proofs.Readings as readings
use Rattle.machine.specs.declared.Machine.{Machine}
use Rattle.machine.specs.declared.Phase.TheVariants.{New}
use Rattle.machine.specs.Machines.{with_pool}
use Rattle.machine.specs.World.{World, world}
use Rattle.machine.specs.Sound.{sound_frames}
use Rattle.machine.specs.History.{FreshWorld, is_created as is-created-by}
use Rattle.machine.specs.Creation.{new_machine, Made, made, create}
use Rattle.mechanism.specs.Creating.{with_program, interned_program, prepare_fit, prepare, create_as, create_by_parts, create_ready}
use Rattle.mechanism.proofs.Creates.{create_is}
use Rattle.laws.specs.Sound.{Passes, Sound}
use Rattle.laws.proofs.Parts.{Entries, Machined, Tabled, kept_sound}
use Rattle.laws.proofs.Pool.{Interns, interns, not_interns, intern_keeps}
use Rattle.laws.proofs.Tables.{blank_title}
use Rattle.laws.proofs.Loading.{Orderly, none, orderly, s_len_below, Loads, Loaded, load_all}
use Rattle.std.specs.Prelude.{Ok, Err, Result}
use Rattle.table_image.specs.declared.creation.Fit.{Fit}

-- ---- the image

-- what a sound image holds
pub record Images (image : Image) : Type 0 where
  pub few : image.next_id ≤ 256
  pub tasks : Orderly image.next_id 0 image.tasks

pub none_image : (image : Image) → read_image [] ≡ sound image → record { next_id = 0; tasks = [] } ≡ image
unfolding read_image
none_image image e = cc

pub images : (bytes : List ℕ) (image : Image) → read_image bytes ≡ sound image → Images image
images [] image e = subst Images (none_image image e) (record { few = omega arith; tasks = none })
images (byte ∷ bytes) image e =
    let h = readings.loaded (byte ∷ bytes) image (omega arith) e in
    record {
      few = subst (λ (n : ℕ). n ≤ 256) (sym h.next_id_is) h.head.few;
      tasks = subst (λ (n : ℕ). Orderly n 0 image.tasks) (sym h.next_id_is) (orderly (length (byte ∷ bytes)) _ 0 14 _ image.tasks h.read);
    }

cleared_blank : (n j : ℕ) → get_or (replicate n blank) j blank ≡ blank
cleared_blank zero j = refl
cleared_blank (suc n) zero = refl
cleared_blank (suc n) (suc j) = cleared_blank n j

-- a table that was cleared, beside a sound pool
begins : (slots count : ℕ) (pool ends : List ℕ) (used : InUse) → slots ≡ 256 → Entries (length pool) ends used.bytes used.entries → 0 < used.entries → Loads (loading (replicate slots blank) pool ends used) count
begins slots count pool ends used all p some = record {
  long = length-replicate slots blank ∙ all;
  slots = sound_cleared slots 0 count;
  titles = λ slot. subst (λ (t : Task). length t.title ≡ 128) (sym (cleared_blank slots slot)) blank_title;
  pool = p;
  some = some;
}

module _ (table : List Task) (lent size : ℕ) (bytes : List ℕ) (next_id count len : ℕ) (f : Fits (length table) lent size bytes next_id count len) (pool ends : List ℕ) (used : InUse)
    (p : Entries (length pool) ends used.bytes used.entries) (some : 0 < used.entries) where
  abbrev start : Loading
  start = loading (replicate (length table) blank) pool ends used

  abbrev all : Loading
  all = load_records count bytes 14 start

  -- the next id and the S_LEN count
  numbers : (next_id ≤ 256) × (len ≤ next_id)
  numbers =
      let i = images bytes f.image.image f.image.read in
      let s = s_len_below i.tasks in
      (omega (arith, i.few, f.image.next_id_is), omega (arith, s, f.image.next_id_is, f.image.s_len_is))

  loaded : Loaded start all len count
  loaded =
      let i = images bytes f.image.image f.image.read in
      let d = load_all i.tasks start len (omega (arith, f.image.s_len_is)) i.few (begins (length table) len pool ends used f.table p some) (λ j h. cleared_blank (length table) j) in
      let e = records_told f table pool ends used ∙ load_table_tasks bytes f.image.image (loading table pool ends used) f.image.read in
      subst (λ (n : ℕ). Loaded start all len n) f.image.count_is (subst (λ (l : Loading). Loaded start l len (length f.image.image.tasks)) (sym e) d)

  all_tabled : Tabled (Unit {0}) all.table next_id len
  unfolding sound_table
  all_tabled =
      let n = numbers in
      let c : Counts (length all.table) next_id len = record { slots_are = loaded.loads.long; next_most = n.0; count_most = omega (arith, n.0, n.1); count_below = n.1 } in
      let s = loaded.loads.slots in
      record { sound = simp (counts_sound c, s); titles = λ _. loaded.loads.titles }

  all_living : living_of all.table ≡ task_count bytes
  all_living = let n = living_cleared (length table) in let c = count_told bytes f in omega (arith, loaded.living, n, c)

-- ---- the machine

new_frames : (bytes next_id count entries : ℕ) → 0 < entries → sound_frames (new_machine bytes 1 next_id count).frames entries ≡ true
unfolding sound_frames
new_frames bytes next_id count entries some = lt-ltb 0 entries some

new_machined : (memory pool save : ℕ) (stack ends : List ℕ) (before bytes entries next_id count : ℕ) → length stack ≡ 1000 → Entries pool ends bytes entries → 0 < entries
    → Machined (Unit {0}) memory pool save stack ends (with_pool (new_machine before 1 next_id count) bytes entries)
new_machined memory pool save stack ends before bytes entries next_id count long p some = record {
  values = record { high = omega arith; few = omega arith; there = omega arith; stack_long = λ _. long; inside = λ _ i less. absurd (omega arith) };
  entries = p;
  frames = new_frames before next_id count entries some;
  kept = omega arith;
}

-- ---- creation

-- a machine's numbers are those of a sound image
pub record Begins (bytes : List ℕ) (machine : Machine) : Type 0 where
  pub image : Image
  pub read : read_image bytes ≡ sound image
  pub tasks : Orderly image.next_id 0 image.tasks
  pub next_id : machine.next_id.0 ≡ image.next_id
  pub count : machine.count ≡ s_len_of image.tasks

begins_with : (table : List Task) (lent size : ℕ) (bytes : List ℕ) (next_id count len : ℕ) → Fits (length table) lent size bytes next_id count len → (machine : Machine)
    → machine.next_id.0 ≡ next_id → machine.count ≡ len → Begins bytes machine
begins_with table lent size bytes next_id count len f machine id_is count_is = record {
  image = f.image.image;
  read = f.image.read;
  tasks = (images bytes f.image.image f.image.read).tasks;
  next_id = omega (arith, id_is, f.image.next_id_is);
  count = omega (arith, count_is, f.image.s_len_is);
}

-- sound beside any stack, memory and save buffer, with the image's tasks living, not yet run
record Fresh (image : List ℕ) (machine : Machine) (table : List Task) (pool ends : List ℕ) : Type 0 where
  is_sound : (stack memory save : List ℕ) → length stack ≡ 1000 → Sound (world machine table stack memory pool ends save)
  living : living_of table ≡ task_count image
  new : machine.phase ≡ New
  ids : Begins image machine

data Creates (image : List ℕ) : Made → Type 0 where
  creates : (machine : Machine) (table : List Task) (pool ends : List ℕ) → Fresh image machine table pool ends → Creates image (made (Ok machine) table pool ends)
  not_creates : (refusal : Refusal) (table : List Task) (pool ends : List ℕ) → Creates image (made (Err refusal) table pool ends)

-- no entry yet
pub none_joined : (ends : List ℕ) → end_to_end ends 0 0 ≡ true
unfolding end_to_end never_fall start_of
none_joined ends = refl

module _ (table : List Task) (pool ends image program : List ℕ) (lent : length ends ≡ 1024) where
  with_entry : (next_id count len : ℕ) (p : Pooled) → Fits (length table) (length pool) (length program) image next_id count len → Interns pool ends 0 p
      → Creates image (create_as table image (interned_program next_id count len p))
  unfolding create_ready with_program
  with_entry next_id count len _ f (interns used new_pool new_ends s grows) =
      let some : 0 < 1 = omega arith in
      let l : Loaded _ _ len count = loaded table (length pool) (length program) image next_id count len f new_pool new_ends (in_use used 1) s some in
      creates _ _ _ _ (record {
        is_sound = λ stack memory save stack_long. kept_sound _ (record {
          machine_kept = new_machined (length memory) _ (length save) stack _ used _ _ next_id len stack_long l.loads.pool l.loads.some;
          table_kept = all_tabled table (length pool) (length program) image next_id count len f new_pool new_ends (in_use used 1) s some;
        });
        living = all_living table (length pool) (length program) image next_id count len f new_pool new_ends (in_use used 1) s some;
        new = refl;
        ids = begins_with table (length pool) (length program) image next_id count len f _ refl refl;
      })
  with_entry next_id count len _ f (not_interns refusal) = not_creates refusal table pool ends

  by_tests : (result : Result Fit Refusal) → creation_tests (length table) (length pool) (length program) image ≡ result → Creates image (create_as table image (prepare_fit pool ends program result))
  unfolding create_ready prepare_fit
  by_tests (Ok fit) e =
      with_entry fit.next_id.0 fit.count fit.s_len _ (fits (length table) (length pool) (length program) image fit.next_id.0 fit.count fit.s_len e) (intern_keeps pool ends 0 0 program lent (none_joined ends))
  by_tests (Err refusal) e = not_creates refusal table pool ends

  creating : Creates image (create table pool ends image program)
  unfolding create_by_parts prepare
  creating = subst (Creates image) (create_is table pool ends image program) (by_tests _ refl)

machine_of : Machine → Result Machine Refusal → Machine
machine_of other (Ok machine) = machine
machine_of other (Err refusal) = other

is_created : Result Machine Refusal → ℕ
is_created (Ok machine) = 1
is_created (Err refusal) = 0

fresh_by : (image : List ℕ) (machine : Machine) (m : Made) → Creates image m → m.answer ≡ Ok machine → Fresh image machine m.table m.pool m.ends
unfolding machine_of is_created
fresh_by image machine _ (creates other table pool ends fresh) e = subst (λ (c : Machine). Fresh image c table pool ends) (ap (machine_of machine) e) fresh
fresh_by image machine _ (not_creates refusal table pool ends) e = absurd (let z : ◌≡◌ {A = ℕ} 0 1 = ap is_created e in omega arith)

module _ (table : List Task) (pool ends image program : List ℕ) (machine : Machine) (lent : length ends ≡ 1024) (is : (create table pool ends image program).answer ≡ Ok machine) where
  abbrev after : Made
  after = create table pool ends image program

  fresh : Fresh image machine after.table after.pool after.ends
  fresh = fresh_by image machine after (creating table pool ends image program lent) is

  -- a machine that was created is sound beside any stack of 1,000 words, any memory and any save buffer
  pub create_sound : (stack memory save : List ℕ) → length stack ≡ 1000 → Sound (world machine after.table stack memory after.pool after.ends save)
  create_sound = fresh.is_sound

  -- its living tasks are as many as the image counts
  pub create_living : living_of after.table ≡ task_count image
  create_living = fresh.living

  -- and it has not run
  pub create_new : machine.phase ≡ New
  create_new = fresh.new

  -- its numbers are those of the image
  pub create_ids : Begins image machine
  create_ids = fresh.ids

-- ---- a fresh machine

-- it is sound
pub fresh_sound : (program image : List ℕ) (first : World) → FreshWorld program image first → Sound first
fresh_sound program image _ (is-created-by table pool ends machine stack memory save lent long e) = create_sound table pool ends image program machine lent e stack memory save long

-- so it passes the test of 26
pub fresh_passes : (program image : List ℕ) (first : World) → FreshWorld program image first → Passes first
fresh_passes program image first fresh = let s = fresh_sound program image first fresh in record { tested = s.tested; ends_lent = s.ends_lent }

-- it has not run
pub fresh_new : (program image : List ℕ) (first : World) → FreshWorld program image first → first.machine.phase ≡ New
fresh_new program image _ (is-created-by table pool ends machine stack memory save lent long e) = create_new table pool ends image program machine lent e

-- as many tasks live as the image counts
pub fresh_living : (program image : List ℕ) (first : World) → FreshWorld program image first → living_of first.table ≡ task_count image
fresh_living program image _ (is-created-by table pool ends machine stack memory save lent long e) = create_living table pool ends image program machine lent e

-- its numbers are those of the image
pub fresh_ids : (program image : List ℕ) (first : World) → FreshWorld program image first → Begins image first.machine
fresh_ids program image _ (is-created-by table pool ends machine stack memory save lent long e) = create_ids table pool ends image program machine lent e
