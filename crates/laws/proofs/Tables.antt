-- A table after a task was put into a slot, or a state set there: sound, its titles 128 bytes each, and how many slots are living.
use Prim.Native.Nat.{ℕ, ◌+◌, ◌%◌, ◌^◌, ◌<◌}
use mathlib.Core.Bool.{Bool, true, false, false≢true, and-eq-true_iff}
use mathlib.Core.List.{List}
use mathlib.Core.Path.{◌≡◌, refl, sym, ap, ◌∙◌, subst}
use native.Mathlib.Decide.{ℕ_discrete}
use native.Mathlib.Omega.{arith}
use lib.Dec.{ltb}
use lib.ListN.{length, get_or, set, length-set, get_or-eq_default}
use lib.Seq.{get_or-set_same, get_or-set_other, set_out}
use borrow.Author.Tests.{ltb-true, ltb-false}
use Rattle.pools.specs.declared.InstructionsRef.{InstructionsRef}
use Rattle.storage.specs.declared.Task.{Task}
use Rattle.storage.specs.declared.TaskId.{TaskId}
use Rattle.storage.specs.declared.TaskState.{TaskState}
use Rattle.storage.specs.Storage.{len_after}
use Rattle.storage.specs.Table.{set_state_at, lives, living_of, sound_slot, sound_slots, sound_counts, sound_table}
use Rattle.storage.specs.Tasks.{no_title, blank, new_task, set_state}
use Rattle.storage.proofs.Laws.{living_more, living_less, living_same, living_state, length_title}
use Rattle.storage.proofs.Soundness.{Counts, Living, living_sound, sound_living, sound_counted, sound_at, sound_set, table_deleted, table_state, table_created}
use Rattle.laws.proofs.Parts.{Tabled}

-- so many made and so many deleted lead from one table to another
abbrev pub Lived : List Task → List Task → ℕ → ℕ → Type 0
Lived before after created deleted = living_of after + deleted ≡ living_of before + created

pub none_lived : (table : List Task) → Lived table table 0 0
none_lived table = refl

-- ---- titles

pub blank_title : length blank.title ≡ 128
unfolding blank no_title
blank_title = refl

blank_dead : blank.living ≡ false
unfolding blank
blank_dead = refl

abbrev Long : Task → Type 0
Long task = length task.title ≡ 128

pub titles_set : (table : List Task) (slot : ℕ) (task : Task) → ((k : ℕ) → length (get_or table k blank).title ≡ 128) → length task.title ≡ 128
    → (k : ℕ) → length (get_or (set table slot task) k blank).title ≡ 128
titles_set table slot task old new k = by (ℕ_discrete k slot) (ltb slot (length table)) refl
  where
    by : Dec (k ≡ slot) → (inside : Bool) → ltb slot (length table) ≡ inside → Long (get_or (set table slot task) k blank)
    by (no other) inside test = subst Long (sym (get_or-set_other table slot k task blank other)) (old k)
    by (yes e) true test = subst (λ (i : ℕ). Long (get_or (set table slot task) i blank)) (sym e) (subst Long (sym (get_or-set_same table slot task blank (ltb-true _ _ test))) new)
    by (yes e) false test = subst (λ (l : List Task). Long (get_or l k blank)) (sym (set_out table slot task (ltb-false _ _ test))) (old k)

new_title : (id : TaskId) (title : List ℕ) (state : TaskState) (reference : InstructionsRef) → length (new_task id title state reference).title ≡ 128
unfolding new_task
new_title id title state reference = length_title title

-- ---- the parts of a sound table

pub table_counts : (table : List Task) (next_id count : ℕ) → sound_table table next_id count ≡ true → Counts (length table) next_id count
unfolding sound_table
table_counts table next_id count sound = sound_counted (length table) next_id count ((and-eq-true_iff (sound_counts (length table) next_id count) _).0 sound).0

table_slots : (table : List Task) (next_id count : ℕ) → sound_table table next_id count ≡ true → sound_slots table 0 count ≡ true
unfolding sound_table
table_slots table next_id count sound = ((and-eq-true_iff (sound_counts (length table) next_id count) _).0 sound).1

put_sound : (table : List Task) (slot next_id count : ℕ) (task : Task) → sound_table table next_id count ≡ true → sound_slot task (0 + slot) count ≡ true
    → sound_table (set table slot task) next_id count ≡ true
unfolding sound_table
put_sound table slot next_id count task sound new =
    let a = (and-eq-true_iff (sound_counts (length table) next_id count) (sound_slots table 0 count)).0 sound in
    let slots = sound_set table 0 slot count task new a.1 in
    let long = length-set table slot task in
    simp (long, a.0, slots)

-- a slot past the last holds no task
inside_by : (table : List Task) (slot : ℕ) (inside : Bool) → ltb slot (length table) ≡ inside → (get_or table slot blank).living ≡ true → slot < length table
inside_by table slot true test living = ltb-true _ _ test
inside_by table slot false test living =
    absurd (false≢true (sym blank_dead ∙ ap (λ (t : Task). t.living) (sym (get_or-eq_default table blank (ltb-false slot (length table) test))) ∙ living))

living_there : (table : List Task) (slot : ℕ) → (get_or table slot blank).living ≡ true → slot < length table
living_there table slot living = inside_by table slot (ltb slot (length table)) refl living

-- a living slot keeps to the rules
living_rules : (table : List Task) (slot next_id count : ℕ) → sound_table table next_id count ≡ true → (get_or table slot blank).living ≡ true → Living (get_or table slot blank) (0 + slot) count
living_rules table slot next_id count sound living =
    sound_living (get_or table slot blank) (0 + slot) count living (sound_at table 0 slot count (living_there table slot living) (table_slots table next_id count sound))

lives_one : (task : Task) → task.living ≡ true → lives task ≡ 1
unfolding lives
lives_one task living = simp living

-- a state leaves the title
set_title_long : (task : Task) (state : ℕ) → length task.title ≡ 128 → length (set_state task state).lent.title ≡ 128
unfolding set_state
set_title_long task state long = long

state_table : (table : List Task) (slot state : ℕ) → (set_state_at table slot state).lent ≡ set table slot (set_state (get_or table slot blank) state).lent
unfolding set_state_at
state_table table slot state = refl

-- ---- the changes

module _ {asked : Type 0} (table : List Task) (slot next_id count : ℕ) (t : Tabled asked table next_id count) where
  -- another living task over a living one
  pub put_living : (task : Task) → (get_or table slot blank).living ≡ true → task.living ≡ true → (Living (get_or table slot blank) (0 + slot) count → Living task (0 + slot) count)
      → (asked → length task.title ≡ 128) → Tabled asked (set table slot task) next_id count
  put_living task old new rules long = record {
    sound = put_sound table slot next_id count task t.sound (living_sound (rules (living_rules table slot next_id count t.sound old)));
    titles = λ it. titles_set table slot task (t.titles it) (long it);
  }

  pub put_lived : (task : Task) → (get_or table slot blank).living ≡ true → task.living ≡ true → Lived table (set table slot task) 0 0
  put_lived task old new =
      let e = living_same table slot task (lives_one task new ∙ sym (lives_one (get_or table slot blank) old)) in omega (arith, e)

  -- the blank record
  pub deleted : Tabled asked (set table slot blank) next_id count
  deleted = record { sound = table_deleted table slot next_id count t.sound; titles = λ it. titles_set table slot blank (t.titles it) blank_title }

  pub deleted_lived : (get_or table slot blank).living ≡ true → Lived table (set table slot blank) 0 1
  deleted_lived living =
      let e = living_less table slot (living_there table slot living) (lives_one (get_or table slot blank) living) in omega (arith, e)

  -- a state
  pub stated : (state : ℕ) → Tabled asked (set_state_at table slot state).lent next_id count
  stated state = record { sound = table_state table slot next_id count state t.sound; titles = state_titles }
    where
      same_title : asked → length (set_state (get_or table slot blank) state).lent.title ≡ 128
      same_title it = set_title_long (get_or table slot blank) state (t.titles it slot)

      state_titles : asked → (k : ℕ) → length (get_or (set_state_at table slot state).lent k blank).title ≡ 128
      state_titles it k = subst (λ (l : List Task). length (get_or l k blank).title ≡ 128) (sym (state_table table slot state)) (titles_set table slot _ (t.titles it) (same_title it) k)

  pub stated_lived : (state : ℕ) → Lived table (set_state_at table slot state).lent 0 0
  stated_lived state = let e = living_state table slot state in omega (arith, e)

-- a new task in the next slot
module _ {asked : Type 0} (table : List Task) (next_id count : ℕ) (t : Tabled asked table next_id count) (title : List ℕ) (state : TaskState) (reference : InstructionsRef) (room : next_id < 256) where
  abbrev made : Task
  made = new_task (record { 0 = next_id }) title state reference

  wrapped : next_id + 1 ≡ (next_id + 1) % 2 ^ 32
  wrapped = omega arith

  pub created : state.state < state.len → Tabled asked (set table next_id made) ((next_id + 1) % 2 ^ 32) (len_after count next_id)
  created below = record {
    sound = subst (λ (n : ℕ). sound_table (set table next_id made) n (len_after count next_id) ≡ true) wrapped (table_created table next_id count title state reference t.sound room below);
    titles = λ it. titles_set table next_id made (t.titles it) (new_title (record { 0 = next_id }) title state reference);
  }

  -- no living task has an id that was not given out
  free_by : (living : Bool) → (get_or table next_id blank).living ≡ living → lives (get_or table next_id blank) ≡ 0
  unfolding lives
  free_by true e =
      let rules = living_rules table next_id next_id count t.sound e in
      let counts = table_counts table next_id count t.sound in
      absurd (omega (arith, rules.place, rules.held, counts.count_below))
  free_by false e = simp e

  made_lives : lives made ≡ 1
  unfolding lives new_task
  made_lives = refl

  pub created_lived : Lived table (set table next_id made) 1 0
  created_lived =
      let counts = table_counts table next_id count t.sound in
      let e = living_more table next_id made (omega (arith, counts.slots_are)) (free_by (get_or table next_id blank).living refl) made_lives in omega (arith, e)
