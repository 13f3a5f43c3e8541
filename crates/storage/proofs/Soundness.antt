-- What keeps a table sound: clearing, deleting, setting a state, and creating a task in the next slot.
use Rattle.std.proofs.Common.{◌≡◌, ℕ, zero, suc, ◌+◌, ◌<◌, ◌≤◌, min, max, Bool, true, false, cond, ◌&&◌, eqb, ltb, leb, List, [], ◌∷◌, length, get_or, set, replicate, refl, ap, ◌∙◌, arith, length-set, ltb-false, ltb-true, lt-ltb, eq-eqb, eqb-true, le-leb, leb-false, leb-true}
use lib.ListN.{length-replicate}
use lib.Seq.{set_out}
use Rattle.pools.specs.declared.InstructionsRef.{InstructionsRef}
use Rattle.storage.specs.Storage.{len_after}
use Rattle.storage.specs.Table.{set_state_at, sound_slot, sound_slots, sound_counts, sound_table}
use Rattle.storage.specs.Tasks.{blank, stated, no_such_state, with_state, new_task, set_state}
use Rattle.storage.specs.declared.StateChange.{StateChange}
use Rattle.storage.specs.declared.Task.{Task}
use Rattle.storage.specs.declared.TaskId.{TaskId}
use Rattle.storage.specs.declared.TaskState.{TaskState}
use Rattle.storage.proofs.Laws.{len_after_max}
use Rattle.std.specs.Prelude.{Ok}

-- ---- one slot after another

-- two tests that hold together hold
both : (a b : Bool) → (a && b) ≡ true → (a ≡ true) × (b ≡ true)
both true b p = (refl, p)
both false b p = absurd (let z : ◌≡◌ {A = ℕ} 0 1 = cc in omega arith)

-- slots are sound if the first is and the others are
parted : (first : Task) (rest : List Task) (from count : ℕ) → sound_slots (first ∷ rest) from count ≡ true
    → (sound_slot first from count ≡ true) × (sound_slots rest (from + 1) count ≡ true)
unfolding sound_slots
parted first rest from count sound = both (sound_slot first from count) (sound_slots rest (from + 1) count) sound

joined : (first : Task) (rest : List Task) (from count : ℕ) → sound_slot first from count ≡ true → sound_slots rest (from + 1) count ≡ true
    → sound_slots (first ∷ rest) from count ≡ true
unfolding sound_slots
joined first rest from count one others = simp (one, others)

-- the same slot, counted from the first or from the next
moved : (task : Task) (count i j : ℕ) → i ≡ j → sound_slot task j count ≡ true → sound_slot task i count ≡ true
moved task count i j same sound = ap (λ (k : ℕ). sound_slot task k count) same ∙ sound

-- the blank record is sound in every slot
pub sound_blank : (slot count : ℕ) → sound_slot blank slot count ≡ true
unfolding sound_slot blank
sound_blank slot count = refl

-- a sound table has a sound record in each slot
pub sound_at : (table : List Task) (from slot count : ℕ) → slot < length table → sound_slots table from count ≡ true
    → sound_slot (get_or table slot blank) (from + slot) count ≡ true
sound_at [] from slot count inside sound = absurd (omega arith)
sound_at (first ∷ rest) from zero count inside sound = moved first count (from + 0) from (omega arith) (parted first rest from count sound).0
sound_at (first ∷ rest) from (suc slot) count inside sound =
    moved (get_or rest slot blank) count (from + suc slot) (from + 1 + slot) (omega arith)
    (sound_at rest (from + 1) slot count (omega arith) (parted first rest from count sound).1)

-- a sound record written to its slot keeps a table sound
pub sound_set : (table : List Task) (from slot count : ℕ) (task : Task) → sound_slot task (from + slot) count ≡ true → sound_slots table from count ≡ true
    → sound_slots (set table slot task) from count ≡ true
sound_set [] from slot count task new sound = sound
sound_set (first ∷ rest) from zero count task new sound =
    joined task rest from count (moved task count from (from + 0) (omega arith) new) (parted first rest from count sound).1
sound_set (first ∷ rest) from (suc slot) count task new sound =
    joined first (set rest slot task) from count (parted first rest from count sound).0
    (sound_set rest (from + 1) slot count task (moved task count (from + 1 + slot) (from + suc slot) (omega arith) new) (parted first rest from count sound).1)

-- a table that was cleared is sound
pub sound_cleared : (n from count : ℕ) → sound_slots (replicate n blank) from count ≡ true
unfolding sound_slots
sound_cleared zero from count = refl
sound_cleared (suc n) from count = joined blank (replicate n blank) from count (sound_blank from count) (sound_cleared n (from + 1) count)

min_le : (a b : ℕ) → min a b ≤ a
min_le a b = omega arith

max_is : {count next_id : ℕ} → count ≤ next_id → max count (next_id + 1) ≡ next_id + 1
max_is below = omega arith

-- ---- the rules of a living record, and of the numbers beside the table

-- what a living record keeps to
pub record Living (task : Task) (slot count : ℕ) : Type 0 where
  pub place : task.id.0 ≡ slot
  pub held : task.id.0 < count
  pub title : task.title_len ≤ 128
  pub state : task.state.state < task.state.len

-- a record that keeps to it is sound
pub living_sound : {task : Task} {slot count : ℕ} → Living task slot count → sound_slot task slot count ≡ true
unfolding sound_slot
living_sound {task} {slot} {count} rules = by task.living
  where
    by : (living : Bool) → cond living (eqb task.id.0 slot && ltb task.id.0 count && leb task.title_len 128 && ltb task.state.state task.state.len) true ≡ true
    by true = simp (eq-eqb _ _ rules.place, lt-ltb _ _ rules.held, le-leb _ _ rules.title, lt-ltb _ _ rules.state)
    by false = refl

-- a record that is not living is sound
pub dead_sound : (task : Task) (slot count : ℕ) → task.living ≡ false → sound_slot task slot count ≡ true
unfolding sound_slot
dead_sound task slot count dead = simp dead

-- a sound record that is living follows the rules
pub sound_living : (task : Task) (slot count : ℕ) → task.living ≡ true → sound_slot task slot count ≡ true → Living task slot count
unfolding sound_slot
sound_living task slot count living sound =
    let all = simp living at sound in
    let three = both (eqb task.id.0 slot && ltb task.id.0 count && leb task.title_len 128) _ all in
    let two = both (eqb task.id.0 slot && ltb task.id.0 count) _ three.0 in
    let one = both (eqb task.id.0 slot) _ two.0 in
    record { place = eqb-true _ _ one.0; held = ltb-true _ _ one.1; title = leb-true _ _ two.1; state = ltb-true _ _ three.1 }

-- what the numbers keep to
pub record Counts (slots next_id count : ℕ) : Type 0 where
  pub slots_are : slots ≡ 256
  pub next_most : next_id ≤ 256
  pub count_most : count ≤ 256
  pub count_below : count ≤ next_id

-- numbers that keep to it are sound
pub counts_sound : {slots next_id count : ℕ} → Counts slots next_id count → sound_counts slots next_id count ≡ true
unfolding sound_counts
counts_sound rules = simp (eq-eqb _ _ rules.slots_are, le-leb _ _ rules.next_most, le-leb _ _ rules.count_most, le-leb _ _ rules.count_below)

-- and sound ones keep to it
pub sound_counted : (slots next_id count : ℕ) → sound_counts slots next_id count ≡ true → Counts slots next_id count
unfolding sound_counts
sound_counted slots next_id count sound =
    let three = both (eqb slots 256 && leb next_id 256 && leb count 256) (leb count next_id) sound in
    let two = both (eqb slots 256 && leb next_id 256) (leb count 256) three.0 in
    let one = both (eqb slots 256) (leb next_id 256) two.0 in
    record { slots_are = eqb-true _ _ one.0; next_most = leb-true _ _ one.1; count_most = leb-true _ _ two.1; count_below = leb-true _ _ three.1 }

-- a table is sound if the numbers are and its slots are
table_parts : (table : List Task) (next_id count : ℕ) → sound_table table next_id count ≡ true
    → Counts (length table) next_id count × (sound_slots table 0 count ≡ true)
unfolding sound_table
table_parts table next_id count sound =
    let parts = both (sound_counts (length table) next_id count) (sound_slots table 0 count) sound in
    (sound_counted (length table) next_id count parts.0, parts.1)

-- and the other way
table_sound : (table : List Task) (next_id count : ℕ) → Counts (length table) next_id count → sound_slots table 0 count ≡ true
    → sound_table table next_id count ≡ true
unfolding sound_table
table_sound table next_id count numbers slots = simp (counts_sound numbers, slots)

-- ---- one record

-- setting a state keeps it below the count of states
state_below : (state : TaskState) (new_state : ℕ) → state.state < state.len → (with_state state new_state).state < state.len
unfolding with_state
state_below state new_state below = by (leb state.len new_state) (leb 255 new_state) refl
  where
    refused : StateChange
    refused = stated state.state (no_such_state new_state)

    by : (none large : Bool) → leb state.len new_state ≡ none → (cond none refused (cond large refused (stated new_state (Ok tt)))).state < state.len
    by true large test = below
    by false true test = below
    by false false test = leb-false _ _ test

-- a record that was put into a state is as sound as before
pub sound_state : (task : Task) (slot count new_state : ℕ) → sound_slot task slot count ≡ true → sound_slot (set_state task new_state).lent slot count ≡ true
unfolding set_state
sound_state task slot count new_state sound = by task.living refl
  where
    by : (living : Bool) → task.living ≡ living → sound_slot (set_state task new_state).lent slot count ≡ true
    by true is =
        let rules = sound_living task slot count is sound in
        living_sound (record { place = rules.place; held = rules.held; title = rules.title; state = state_below task.state new_state rules.state })
    by false is = dead_sound (set_state task new_state).lent slot count is

-- a new task is sound in the slot of its id
pub sound_new : (id : TaskId) (title : List ℕ) (state : TaskState) (instructions : InstructionsRef) (count : ℕ) → id.0 < count → state.state < state.len
    → sound_slot (new_task id title state instructions) id.0 count ≡ true
unfolding new_task
sound_new id title state instructions count held below = living_sound (record { place = refl; held = held; title = min_le 128 (length title); state = below })

-- a greater count keeps a record sound
sound_later : (task : Task) (slot count more : ℕ) → count ≤ more → sound_slot task slot count ≡ true → sound_slot task slot more ≡ true
sound_later task slot count more grown sound = by task.living refl
  where
    by : (living : Bool) → task.living ≡ living → sound_slot task slot more ≡ true
    by true is =
        let rules = sound_living task slot count is sound in
        living_sound (record { place = rules.place; held = omega (arith, rules.held); title = rules.title; state = rules.state })
    by false is = dead_sound task slot more is

-- in all slots
all_later : (table : List Task) (from count more : ℕ) → count ≤ more → sound_slots table from count ≡ true → sound_slots table from more ≡ true
unfolding sound_slots
all_later [] from count more grown sound = refl
all_later (first ∷ rest) from count more grown sound =
    let parts = parted first rest from count sound in
    joined first rest from more (sound_later first from count more grown parts.0) (all_later rest (from + 1) count more grown parts.1)

-- ---- the table

-- the numbers, with another table as long
same_counts : {slots others next_id count : ℕ} → Counts slots next_id count → others ≡ slots → Counts others next_id count
same_counts numbers same = record { slots_are = same ∙ numbers.slots_are; next_most = numbers.next_most; count_most = numbers.count_most; count_below = numbers.count_below }

-- deleting a task, or clearing any slot
pub table_deleted : (table : List Task) (slot next_id count : ℕ) → sound_table table next_id count ≡ true → sound_table (set table slot blank) next_id count ≡ true
table_deleted table slot next_id count sound =
    let parts = table_parts table next_id count sound in
    table_sound (set table slot blank) next_id count (same_counts parts.0 (length-set table slot blank))
    (sound_set table 0 slot count blank (sound_blank (0 + slot) count) parts.1)

-- setting a state
pub table_state : (table : List Task) (slot next_id count new_state : ℕ) → sound_table table next_id count ≡ true
    → sound_table (set_state_at table slot new_state).lent next_id count ≡ true
unfolding set_state_at
table_state table slot next_id count new_state sound = by (ltb slot (length table)) refl
  where
    by : (inside : Bool) → ltb slot (length table) ≡ inside → sound_table (set_state_at table slot new_state).lent next_id count ≡ true
    by true test =
        let parts = table_parts table next_id count sound in
        table_sound (set table slot (set_state (get_or table slot blank) new_state).lent) next_id count (same_counts parts.0 (length-set table slot _))
        (sound_set table 0 slot count _ (sound_state (get_or table slot blank) (0 + slot) count new_state (sound_at table 0 slot count (ltb-true _ _ test) parts.1)) parts.1)
    by false test = ap (λ (l : List Task). sound_table l next_id count) (set_out table slot _ (ltb-false _ _ test)) ∙ sound

-- creating a task in the next slot, where there is one
pub table_created : (table : List Task) (next_id count : ℕ) (title : List ℕ) (state : TaskState) (instructions : InstructionsRef)
    → sound_table table next_id count ≡ true → next_id < 256 → state.state < state.len
    → sound_table (set table next_id (new_task (record { 0 = next_id }) title state instructions)) (next_id + 1) (len_after count next_id) ≡ true
table_created table next_id count title state instructions sound room below =
    let parts = table_parts table next_id count sound in
    let numbers : Counts (length table) next_id count = parts.0 in
    let task = new_task (record { 0 = next_id }) title state instructions in
    let held : len_after count next_id ≡ next_id + 1 = len_after_max count next_id (omega arith) ∙ max_is numbers.count_below in
    table_sound (set table next_id task) (next_id + 1) (len_after count next_id)
    (record { slots_are = length-set table next_id task ∙ numbers.slots_are; next_most = omega arith; count_most = omega arith; count_below = omega arith })
    (sound_set table 0 next_id (len_after count next_id) task
    (moved task (len_after count next_id) (0 + next_id) next_id (omega arith) (sound_new (record { 0 = next_id }) title state instructions (len_after count next_id) (omega arith) below))
    (all_later table 0 count (len_after count next_id) (omega (arith, numbers.count_below)) parts.1))

-- a cleared table of 256 slots, with nothing held
pub table_cleared : (slots : ℕ) → slots ≡ 256 → sound_table (replicate slots blank) 0 0 ≡ true
table_cleared slots all =
    table_sound (replicate slots blank) 0 0
    (record { slots_are = length-replicate slots blank ∙ all; next_most = omega arith; count_most = omega arith; count_below = omega arith })
    (sound_cleared slots 0 0)
