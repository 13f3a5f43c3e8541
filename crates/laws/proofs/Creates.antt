-- When creation makes a machine, and which refusal it gives otherwise.
use Prim.Native.Nat.{ℕ, ◌+◌, ◌≤◌, ◌<◌, min}
use mathlib.Core.Bool.{Bool, true, false, cond}
use mathlib.Core.List.{List}
use mathlib.Core.Logic.{◌↔◌}
use mathlib.Core.Path.{◌≡◌, refl, sym, ap, subst, ◌∙◌}
use native.Mathlib.Omega.{arith}
use lib.Dec.{eqb, ltb, leb}
use lib.ListN.{length, set}
use lib.Seq.{sets}
use borrow.Author.Tests.{eq-eqb, ne_eqb, eqb-true, eqb-false, lt-ltb, le-ltb, ltb-true, ltb-false, le-leb, lt-leb, leb-true, leb-false}
use Rattle.errors.specs.declared.Refusal.{Refusal}
use Rattle.errors.specs.declared.Refusal.TheVariants.{WrongPhaseOrUnsound, EmptyInstructions, ProgramTooLong, PoolFull}
use Rattle.pools.specs.Pool.{has_room, interned}
use Rattle.storage.specs.declared.Task.{Task}
use Rattle.storage.specs.declared.TaskId.{TaskId}
use Rattle.image.specs.Image.{ImageTask, Image, Parsed, sound, bad_at, read_image}
use Rattle.image.specs.Reading.{s_len_of, instruction_bytes, image_result}
use Rattle.image.specs.Table.{Loading, load_table}
use Rattle.table_image.specs.Creation.{image_tests, creation_tests}
use Rattle.machine.specs.declared.Machine.{Machine}
use Rattle.machine.specs.Creation.{program_first, loaded, create_behind, create_fit, create}
use Rattle.laws.specs.Creatable.{pool_bytes, Creatable, NotCreatable, other_slots, no_program, long_program, bad_image, no_room}
use Rattle.laws.proofs.Loading.{Orderly, none, more}
use Rattle.laws.proofs.Creation.{images}
use Rattle.std.specs.Prelude.{Ok, Err, Result}
use Rattle.table_image.specs.declared.creation.Fit.{Fit}

-- ---- the entries of a sound image are never too many

few_orderly : {next_id low : ℕ} {tasks : List ImageTask} → Orderly next_id low tasks → low ≤ next_id → length tasks + low ≤ next_id
few_orderly none less = omega (arith, less)
few_orderly (more {low} {task} {tasks} rising below states rest) less = let ih = few_orderly rest (omega (arith, below)) in omega (arith, rising, ih)

pub few : (image : List ℕ) (found : Image) → read_image image ≡ sound found → length found.tasks < 1024
few image found e = let i = images image found e in let n = few_orderly i.tasks (omega arith) in omega (arith, i.few, n)

-- the test of 22 is for the bytes alone
roomy : (image : List ℕ) (found : Image) (lent size : ℕ) → read_image image ≡ sound found → has_room lent size (length found.tasks) (instruction_bytes found.tasks) ≡ leb (size + instruction_bytes found.tasks) (min 65536 lent)
unfolding has_room
roomy image found lent size e = rw (lt-ltb (length found.tasks) 1024 (few image found e))

-- a creation answers one machine
pub created_is : {a b : Machine} → ◌≡◌ {A = Result Machine Refusal} (Ok a) (Ok b) → a ≡ b
created_is e = cc

module _ (table : List Task) (pool ends image program : List ℕ) where
  -- ---- what the tests find

  data Tests : Result Fit Refusal → Type 0 where
    fit : (next_id : TaskId) (count len : ℕ) → Creatable table pool image program → Tests (Ok (record { next_id = next_id; count = count; s_len = len }))
    unfit : (refusal : Refusal) → NotCreatable table pool image program refusal → Tests (Err refusal)

  image_part : length table ≡ 256 → 1 ≤ length program → length program ≤ 65535 → (r : Parsed Image) → read_image image ≡ r → Tests (image_tests (length pool) (length program) (image_result r))
  unfolding image_tests image_result
  image_part slots some short (sound found) e = by (leb (pool_bytes program found) (min 65536 (length pool))) refl
    where
      by : (test : Bool) → leb (pool_bytes program found) (min 65536 (length pool)) ≡ test
          → Tests (cond (has_room (length pool) (length program) (length found.tasks) (instruction_bytes found.tasks)) (Ok (record { next_id = record { 0 = found.next_id }; count = length found.tasks; s_len = s_len_of found.tasks })) (Err PoolFull))
      by true is = rw (roomy image found (length pool) (length program) e, is) (fit _ _ _ (record { slots = slots; some = omega (arith, some); short = omega (arith, short); found = found; is_sound = e; room = (let held = leb-true (pool_bytes program found) (min 65536 (length pool)) is in omega (arith, held)) }))
      by false is = rw (roomy image found (length pool) (length program) e, is) (unfit _ (no_room found slots some short e (leb-false _ _ is)))
  image_part slots some short (bad_at place) e = unfit _ (bad_image place slots some (omega (arith, short)) e)

  tests : Tests (creation_tests (length table) (length pool) (length program) image)
  unfolding creation_tests
  tests = by (eqb (length table) 256) refl (eqb (length program) 0) refl (ltb 65535 (length program)) refl
    where
      by : (a : Bool) → eqb (length table) 256 ≡ a → (b : Bool) → eqb (length program) 0 ≡ b → (c : Bool) → ltb 65535 (length program) ≡ c
          → Tests (cond a (cond b (Err EmptyInstructions) (cond c (Err ProgramTooLong) (image_tests (length pool) (length program) (image_result (read_image image))))) (Err WrongPhaseOrUnsound))
      by true slots false some false short = image_part (eqb-true _ _ slots) (let z = eqb-false (length program) 0 some in omega (arith, z)) (ltb-false _ _ short) (read_image image) refl
      by true slots false some true long = unfit _ (long_program (eqb-true _ _ slots) (ltb-true _ _ long))
      by true slots true empty c is = let all : length table ≡ 256 = eqb-true _ _ slots in unfit _ (no_program (omega (arith, all)) (eqb-true _ _ empty))
      by false other b is c too = unfit _ (other_slots (eqb-false _ _ other))

  -- ---- what creation answers

  data Answered : Result Machine Refusal → Type 0 where
    made : (machine : Machine) → Creatable table pool image program → Answered (Ok machine)
    not_made : (refusal : Refusal) → NotCreatable table pool image program refusal → Answered (Err refusal)

  pub first_room : Creatable table pool image program → has_room (length pool) 0 0 (length program) ≡ true
  unfolding has_room
  first_room c = rw (le-leb (0 + length program) (min 65536 (length pool)) (omega (arith, c.room)))

  -- what passes them is created: the program is entry 0, and behind it come the image's tasks
  tests_fit : (c : Creatable table pool image program)
      → creation_tests (length table) (length pool) (length program) image ≡ Ok (record { next_id = record { 0 = c.found.next_id }; count = length c.found.tasks; s_len = s_len_of c.found.tasks })
  unfolding creation_tests image_tests image_result
  tests_fit c =
      rw (eq-eqb (length table) 256 c.slots, ne_eqb (length program) 0 (λ (z : length program ≡ 0). omega (arith, c.some)), le-ltb 65535 (length program) c.short, c.is_sound)
      (rw (roomy image c.found (length pool) (length program) c.is_sound, le-leb (pool_bytes program c.found) (min 65536 (length pool)) c.room))

  abbrev pub with_first : Loading
  with_first = program_first table (sets pool 0 program) (set ends 0 (0 + length program)) (0 + length program)

  pub created_as : (c : Creatable table pool image program) → create table pool ends image program ≡ loaded c.found.next_id (s_len_of c.found.tasks) (load_table image with_first)
  unfolding create create_fit create_behind interned
  created_as c = rw (tests_fit c, first_room c)

  answered_by : (r : Result Fit Refusal) → Tests r → Answered (create_fit table pool ends image program r).answer
  unfolding create_fit create_behind interned
  answered_by _ (fit next_id count len c) = rw (first_room c) (made _ c)
  answered_by _ (unfit refusal n) = not_made refusal n

  answered : Answered (create table pool ends image program).answer
  unfolding create
  answered = answered_by _ tests

  -- ---- one or the other

  sound_is : {a b : Image} → sound a ≡ sound b → a ≡ b
  sound_is e = cc

  not_both : (refusal : Refusal) → Creatable table pool image program → NotCreatable table pool image program refusal → ⊥
  not_both _ c (other_slots other) = other c.slots
  not_both _ c (no_program slots empty) = omega (arith, c.some, empty)
  not_both _ c (long_program slots long) = omega (arith, c.short, long)
  not_both _ c (bad_image place slots some short bad) = absurd (let z : ◌≡◌ {A = ℕ} 0 1 = (let q = sym c.is_sound ∙ bad in cc) in omega arith)
  not_both _ c (no_room found slots some short is_sound past) =
      let e : found ≡ c.found = sound_is (sym is_sound ∙ c.is_sound) in
      let k : pool_bytes program found ≡ pool_bytes program c.found = ap (pool_bytes program) e in
      omega (arith, c.room, past, k)

  of_created : (machine : Machine) → Answered (Ok machine) → Creatable table pool image program
  of_created machine (made _ c) = c

  of_refused : (refusal : Refusal) → Answered (Err refusal) → NotCreatable table pool image program refusal
  of_refused refusal (not_made _ n) = n

  makes : Creatable table pool image program → (answer : Result Machine Refusal) → Answered answer → (machine : Machine) × (answer ≡ Ok machine)
  makes c _ (made machine also) = (machine, refl)
  makes c _ (not_made refusal n) = absurd (not_both refusal c n)

  -- docs/REFERENCE.md, 'Creation': a machine is created exactly if the table has 256 slots, the program 1 to 65,535 bytes, the image is sound and program and instructions have room
  pub creates_exactly : ((machine : Machine) × ((create table pool ends image program).answer ≡ Ok machine)) ↔ Creatable table pool image program
  creates_exactly = (
    (λ m. of_created m.0 (subst Answered m.1 answered)),
    (λ c. makes c _ answered),
  )

  refusals_tested : (refusal : Refusal) → NotCreatable table pool image program refusal → creation_tests (length table) (length pool) (length program) image ≡ Err refusal
  unfolding creation_tests image_tests image_result
  refusals_tested _ (other_slots other) = rw (ne_eqb (length table) 256 other)
  refusals_tested _ (no_program slots empty) = rw (eq-eqb (length table) 256 slots, eq-eqb (length program) 0 empty)
  refusals_tested _ (long_program slots long) = rw (eq-eqb (length table) 256 slots, ne_eqb (length program) 0 (λ (z : length program ≡ 0). omega (arith, long)), lt-ltb 65535 (length program) long)
  refusals_tested _ (bad_image place slots some short bad) =
      rw (eq-eqb (length table) 256 slots, ne_eqb (length program) 0 (λ (z : length program ≡ 0). omega (arith, some)), le-ltb 65535 (length program) short, bad)
  refusals_tested _ (no_room found slots some short is_sound past) =
      rw (eq-eqb (length table) 256 slots, ne_eqb (length program) 0 (λ (z : length program ≡ 0). omega (arith, some)), le-ltb 65535 (length program) short, is_sound)
      (rw (roomy image found (length pool) (length program) is_sound, lt-leb (pool_bytes program found) (min 65536 (length pool)) past))

  -- and else the first of 26, 1, 28, 25 with its place and 22 that is met
  pub refuses_exactly : (refusal : Refusal) → ((create table pool ends image program).answer ≡ Err refusal) ↔ NotCreatable table pool image program refusal
  unfolding create create_fit
  refuses_exactly refusal = (
    (λ e. of_refused refusal (subst Answered e answered)),
    (λ n. rw (refusals_tested refusal n)),
  )
