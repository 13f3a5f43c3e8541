-- Save after load, at the calls: a machine that was created and has done nothing is saved as the image that it was created from.
use Prim.Native.Nat.{ℕ, suc, ◌+◌, ◌-◌, ◌≤◌, ◌<◌}
use mathlib.Core.Bool.{Bool, true, false, cond}
use mathlib.Core.List.{List, [], ◌∷◌}
use mathlib.Core.Path.{◌≡◌, refl, sym, ap, subst, ◌∙◌}
use native.Mathlib.Omega.{arith}
use lib.ListN.{length, drop, set, length-set}
use lib.Seq.{sets, sets-eq, length-sets, get_or-set_same, take-append_seam}
use borrow.Author.Tests.{le-leb, lt-leb}
use Rattle.errors.specs.declared.Refusal.TheVariants.{SaveBufferTooShort}
use Rattle.bytecode.specs.Opcodes.{S_SAVE}
use Rattle.pools.specs.Pool.{end_of, start_of, entry_of, interned}
use Rattle.pools.proofs.Laws.{still_sound}
use Rattle.storage.specs.declared.Task.{Task}
use Rattle.slices.specs.Numbers.{Bytes}
use Rattle.image.specs.Image.{Image}
use Rattle.image.specs.Table.{load_table, saved_over, save_table}
use Rattle.roundtrips.proofs.Stores.{Pool}
use Rattle.roundtrips.proofs.Loads.{Room, load_holds, reload, reload_none}
use Rattle.roundtrips.proofs.Created.{load_none}
use Rattle.inlinevec.specs.Stacks.{last_two}
use Rattle.machine.specs.declared.Verb.TheVariants.{Start}
use Rattle.machine.specs.declared.Outcome.TheVariants.{Done, Paused, Refused}
use Rattle.machine.specs.Machines.{current, code_of, op_at, placed, rewound, at_main, with_saved}
use Rattle.machine.specs.World.{World, code, place, op, at_end, with_machine, with_save}
use Rattle.machine.specs.Step.{execute, step}
use Rattle.machine.specs.Run.{end_at, follow, run}
use Rattle.machine.specs.Words.{StepResult, next, refused, saved}
use Rattle.machine.specs.Opcodes.{onward, saving, s_save}
use Rattle.machine.specs.Calls.{fresh, allowing, allowed, may_start, ended, report, Reported, is_sound, call_with, call, start}
use Rattle.machine.specs.Calls.{reported_end as reported_end}
use Rattle.machine.specs.Creation.{Made}
use Rattle.machine.specs.Reads.{saved_to, host_saved, host_save_as, host_save}
use Rattle.machine.specs.History.{FreshWorld, is_created}
use Rattle.laws.specs.Creatable.{Creatable}
use Rattle.laws.specs.Saved.{saved_first}
use Rattle.laws.proofs.Finished.{steps_to}
use Rattle.laws.proofs.Creation.{none_image, none_joined, create_sound, fresh_new}
use Rattle.laws.proofs.Main.{fresh_main}
use Rattle.laws.proofs.Creates.{first_room, few, with_first, created_as, created_is, creates_exactly}
use Rattle.std.specs.Prelude.{Ok, Err}

module _ (table : List Task) (pool ends program : List ℕ) (lent : length ends ≡ 1024) where
  first_pool : (image : List ℕ) → Creatable table pool image program → Pool (with_first table pool ends image program)
  unfolding interned
  first_pool image c = record {
    lent = length-set ends 0 (0 + length program) ∙ lent;
    sound = rw (first_room table pool ends image program c) at (still_sound pool ends 0 0 program lent (none_joined ends) (record { 0 = 0 }) (0 + length program) (rw (first_room table pool ends image program c)));
  }

  first_has_room : (image : List ℕ) (c : Creatable table pool image program) → Room (with_first table pool ends image program) c.found.tasks
  first_has_room image c = record { few = omega (arith, few image c.found c.is_sound); small = omega (arith, c.room, length-sets pool 0 program) }

  -- the table that creation leaves is saved as the image
  table_saved : (image : List ℕ) → Bytes image → (c : Creatable table pool image program) (save : List ℕ)
      → (let l = load_table image (with_first table pool ends image program) in save_table c.found.next_id l.table l.pool l.ends l.entries save) ≡ saved_over (saved_first image) save
  unfolding saved_first
  table_saved [] all c save =
      let l = load_table [] (with_first table pool ends [] program) in
      ap (λ (n : ℕ). save_table n l.table l.pool l.ends l.entries save) (sym (ap (λ (i : Image). i.next_id) (none_image c.found c.is_sound)))
      ∙ reload_none (with_first table pool ends [] program) save
  table_saved (byte ∷ bytes) all c save =
      reload (byte ∷ bytes) c.found (with_first table pool ends (byte ∷ bytes) program) all (omega arith) c.is_sound (omega (arith, c.slots)) (first_pool (byte ∷ bytes) c)
      (first_has_room (byte ∷ bytes) c) save

module _ {program image : List ℕ} (all : Bytes image) where
  -- what S_SAVE and the host's save find
  finds : {w : World} → FreshWorld program image w → saving w ≡ saved_over (saved_first image) w.save
  finds (is_created table pool ends machine stack memory save lent long e) =
      let c = (creates_exactly table pool ends image program).0 (machine, e) in
      let m = created_is (sym e ∙ ap (λ (x : Made). x.answer) (created_as table pool ends image program c)) in
      rw (created_as table pool ends image program c, m) (table_saved table pool ends program lent image all c save)

  passes : {w : World} → FreshWorld program image w → is_sound w ≡ true
  passes (is_created table pool ends machine stack memory save lent long e) = (create_sound table pool ends image program machine lent e stack memory save long).tested

  host_finds : {w : World} → FreshWorld program image w → host_save w ≡ host_save_as w (saved_over (saved_first image) w.save)
  unfolding host_save
  host_finds {w} fresh = rw (passes fresh, finds fresh)

-- ---- the program is the code that runs

-- entry 0 of a pool in which the program is the first entry
first_entry : (pool ends program : List ℕ) → length program ≤ length pool → length ends ≡ 1024 → entry_of (sets pool 0 program) (set ends 0 (0 + length program)) 0 ≡ program
unfolding entry_of end_of start_of
first_entry pool ends program fits lent =
    let n : 0 + length program - 0 ≡ length program = omega arith in
    rw (get_or-set_same ends 0 (0 + length program) 0 (omega (arith, lent)), n, sets-eq program pool 0 (omega (arith, fits))) (take-append_seam program (drop (0 + length program) pool))

module _ (table : List Task) (pool ends program : List ℕ) (lent : length ends ≡ 1024) where
  code_loaded : (image : List ℕ) → Bytes image → (c : Creatable table pool image program) → (let l = load_table image (with_first table pool ends image program) in entry_of l.pool l.ends 0) ≡ program
  code_loaded [] all c = rw (load_none (with_first table pool ends [] program)) (first_entry pool ends program (omega (arith, c.room)) lent)
  code_loaded (byte ∷ bytes) all c =
      (load_holds (byte ∷ bytes) c.found (with_first table pool ends (byte ∷ bytes) program) all (omega arith) c.is_sound (omega (arith, c.slots)) (first_pool table pool ends program lent (byte ∷ bytes) c)
      (first_has_room table pool ends program lent (byte ∷ bytes) c)).entries 0 (omega arith)
      ∙ first_entry pool ends program (omega (arith, c.room)) lent

module _ {program image : List ℕ} (all : Bytes image) where
  code_is : {w : World} → FreshWorld program image w → entry_of w.pool w.ends 0 ≡ program
  code_is (is_created table pool ends machine stack memory save lent long e) =
      let c = (creates_exactly table pool ends image program).0 (machine, e) in
      rw (created_as table pool ends image program c) (code_loaded table pool ends program lent image all c)

-- ---- S_SAVE as the first instruction

-- a machine as a start begins with it
abbrev begun : World → World
begun w = with_machine w (fresh (at_main w.machine))

module _ {rest image : List ℕ} {w : World} (all : Bytes image) (fresh-one : FreshWorld (S_SAVE ∷ rest) image w) where
  code_first : code (begun w) ≡ S_SAVE ∷ rest
  unfolding code_of current last_two
  code_first = rw (fresh_main fresh-one) (code_is all fresh-one)

  place_first : place (begun w) ≡ 0
  unfolding current last_two
  place_first = refl

  goes_in : at_end (begun w) ≡ false
  unfolding at_end
  goes_in = rw (code_first, place_first) (lt-leb (length (S_SAVE ∷ rest)) 0 (omega arith))

  op_first : op (begun w) ≡ S_SAVE
  unfolding op_at
  op_first = rw (code_first, place_first)

  step_first : step (begun w) ≡ s_save (begun w)
  unfolding step execute
  step_first = rw (goes_in, op_first)

  permitted : allowed w.machine (is_sound w) Start ≡ allowing true (fresh (at_main w.machine))
  unfolding allowed may_start
  permitted = rw (passes all fresh-one) (ap (λ (b : Bool). allowing b (fresh (at_main w.machine))) (ap may_start (fresh_new (S_SAVE ∷ rest) image w fresh-one)))

  start_first : (fuel : ℕ) → start (suc fuel) w ≡ reported_end (suc fuel) (follow (λ v. run fuel v) (begun w) (suc fuel) (s_save (begun w)))
  unfolding call call_with
  start_first fuel =
      ap (call_with (suc fuel) w) permitted
      ∙ ap (reported_end (suc fuel)) (steps_to fuel (begun w) goes_in ∙ ap (follow (λ v. run fuel v) (begun w) (suc fuel)) step_first)

  save_goes : length (saved_first image) ≤ length w.save → s_save (begun w) ≡ next (with_save (onward (begun w) 0) (sets w.save 0 (saved_first image)) (length (saved_first image)))
  unfolding s_save saved saved_over
  save_goes fits = rw (finds all fresh-one, le-leb (length (saved_first image)) (length w.save) fits)

  save_stops : length w.save < length (saved_first image) → s_save (begun w) ≡ refused SaveBufferTooShort
  unfolding s_save saved saved_over
  save_stops past = rw (finds all fresh-one, lt-leb (length (saved_first image)) (length w.save) past)

-- the buffer and the kept length after an instruction are those of the call that ends behind it
abbrev SavedBy : List ℕ → ℕ → Reported → Type 0
SavedBy save size r = (r.save ≡ save) × (r.report.machine.saved ≡ size) × (r.report.finished ≡ 1)

ends_behind : (v : World) → SavedBy v.save v.machine.saved (reported_end 1 (run 0 v))
unfolding run report ended rewound placed
ends_behind v = by (at_end v)
  where
    by : (b : Bool) → SavedBy v.save v.machine.saved (reported_end 1 (cond b (end_at v 0 Done) (end_at v 0 Paused)))
    by true = (refl, refl, refl)
    by false = (refl, refl, refl)

-- ---- the statements

module _ {program image : List ℕ} {w : World} (all : Bytes image) (fresh : FreshWorld program image w) where
  -- docs/REFERENCE.md, 'The task image': saving after loading a non-empty image gives the same bytes, after a zero-length one a lone kind 1 of zeros; the machine keeps their length
  pub host_saves_first : length (saved_first image) ≤ length w.save
      → host_save w ≡ saved_to (record { machine = with_saved w.machine (length (saved_first image)); result = Ok (length (saved_first image)) })
      w.table w.stack w.memory w.pool w.ends (sets w.save 0 (saved_first image))
  unfolding saved_over host_saved
  host_saves_first fits = host_finds all fresh ∙ rw (le-leb (length (saved_first image)) (length w.save) fits)

  -- 24 if the save buffer is shorter
  pub host_save_short : length w.save < length (saved_first image)
      → host_save w ≡ saved_to (record { machine = w.machine; result = Err SaveBufferTooShort }) w.table w.stack w.memory w.pool w.ends w.save
  unfolding saved_over host_saved
  host_save_short past = host_finds all fresh ∙ rw (lt-leb (length (saved_first image)) (length w.save) past)

-- the same for S_SAVE as the first instruction
module _ {rest image : List ℕ} {w : World} (all : Bytes image) (fresh-one : FreshWorld (S_SAVE ∷ rest) image w) where
  pub s_saves_first : length (saved_first image) ≤ length w.save
      → ((start 1 w).save ≡ sets w.save 0 (saved_first image)) × ((start 1 w).report.machine.saved ≡ length (saved_first image)) × ((start 1 w).report.finished ≡ 1)
  unfolding follow
  s_saves_first fits =
      subst (SavedBy (sets w.save 0 (saved_first image)) (length (saved_first image)))
      (sym (start_first all fresh-one 0 ∙ ap (λ (r : StepResult). reported_end 1 (follow (λ v. run 0 v) (begun w) 1 r)) (save_goes all fresh-one fits)))
      (ends_behind (with_save (onward (begun w) 0) (sets w.save 0 (saved_first image)) (length (saved_first image))))

  pub s_save_short : (fuel : ℕ) → length w.save < length (saved_first image)
      → ((start (suc fuel) w).report.outcome ≡ Refused SaveBufferTooShort) × ((start (suc fuel) w).save ≡ w.save)
  unfolding follow report
  s_save_short fuel past =
      let e = start_first all fresh-one fuel ∙ ap (λ (r : StepResult). reported_end (suc fuel) (follow (λ v. run fuel v) (begun w) (suc fuel) r)) (save_stops all fresh-one past) in
      (ap (λ (r : Reported). r.report.outcome) e, ap (λ (r : Reported). r.save) e)
