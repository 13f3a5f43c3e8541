-- The tasks of the view: one found, one changed, one more.
use Prim.Native.Nat.{ℕ, zero, suc, ◌+◌, ◌-◌, ◌≤◌, ◌<◌, min}
use mathlib.Core.Bool.{Bool, true, false}
use mathlib.Core.Path.{◌≡◌, refl, sym, ap, ◌∙◌}
use mathlib.Core.List.{List, [], ◌∷◌, ◌++◌, map, append_assoc}
use mathlib.Core.Option.{Option, none, some}
use native.Mathlib.Omega.{arith}
use native.Mathlib.Numerals.{add-one}
use native.Mathlib.Decide.{dec_lt}
use lib.ListN.{length, get_or, take, drop, set, replicate, length-append, length-replicate, length-drop, get_or-replicate, replicate-append-replicate, length-set, length-map, get_or-map, get_or-eq_default}
use lib.Seq.{get_or_at, ext_get_or, get_or-drop, take-add, set_at, take-suc-set, length-take-le, get_or-take, take-set-lt}
use Rattle.storage.specs.declared.Task.{Task}
use Rattle.storage.specs.declared.TaskId.{TaskId}
use Rattle.storage.specs.declared.TaskState.{TaskState}
use Rattle.storage.specs.Tasks.{blank, new_task}
use Rattle.storage.proofs.Laws.{title_taken}
use Rattle.pools.specs.declared.InstructionsRef.{InstructionsRef}
use Rattle.machine.specs.World.{World}
use Rattle.rust.specs.TaskTypes.{TaskVM}
use Rattle.rust.specs.Storage.{resize, put}
use Rattle.agreement.specs.View.{held, task_in_slot}
use Rattle.agreement.proofs.Facts.{Facts}

pub no_task : (task : Task) → task.living ≡ false → task_in_slot task ≡ none
unfolding task_in_slot
no_task task dead = rw dead

pub a_task : (task : Task) → task.living ≡ true → task_in_slot task ≡ some (held task)
unfolding task_in_slot
a_task task living = rw living

pub blank_none : task_in_slot blank ≡ none
unfolding task_in_slot blank
blank_none = refl

pub map_set : (l : List Task) (i : ℕ) (task : Task) → map task_in_slot (set l i task) ≡ set (map task_in_slot l) i (task_in_slot task)
map_set [] i task = refl
map_set (first ∷ l) zero task = refl
map_set (first ∷ l) (suc i) task = ap (λ (r : List (Option TaskVM)). task_in_slot first ∷ r) (map_set l i task)

-- a table of 256 slots, of which those from a count on hold no task
pub record Beyond (table : List Task) (count : ℕ) : Type 0 where
  pub long : length table ≡ 256
  pub few : count ≤ 256
  pub none_there : (i : ℕ) → count ≤ i → task_in_slot (get_or table i blank) ≡ none

module _ (table : List Task) (count : ℕ) (beyond : Beyond table count) where
  abbrev all : List (Option TaskVM)
  all = map task_in_slot table

  all_length : length all ≡ 256
  all_length = length-map table task_in_slot ∙ beyond.long

  front_length : length (take count all) ≡ count
  front_length = length-take-le count all (let z = all_length in omega (arith, beyond.few))

  gap : (k : ℕ) → count + k ≤ 256 → take k (drop count all) ≡ replicate k none
  gap k few =
      let z = all_length in
      let long : k ≤ length (drop count all) = rw (length-drop count all) (omega arith) in
      let e = length-take-le k (drop count all) long in
      ext_get_or none _ _ (e ∙ sym (length-replicate k none))
      (λ i q. let less : i < k = omega (arith, e) in
      get_or-take k (drop count all) i none less ∙ get_or-drop count all i none ∙ ap (get_or all (count + i)) (sym blank_none) ∙ get_or-map task_in_slot table (count + i) blank
      ∙ beyond.none_there (count + i) (omega arith) ∙ sym (get_or-replicate k i none none less))

  -- the list grown by gaps up to an id, and a task at its end
  resized_in : (i : ℕ) (task : TaskVM) → count ≤ i → i < 256 → put (take count all) i task ≡ take i all ++ (some task ∷ [])
  unfolding put resize
  resized_in i task past less =
      let k = i - count in
      let z = all_length in
      let a : i + 1 - count ≡ k + 1 = omega arith in
      let b : i ≡ count + k = omega arith in
      let g : take i all ≡ take count all ++ replicate k none = ap (λ (n : ℕ). take n all) b ∙ take-add count k all ∙ ap (λ (r : List (Option TaskVM)). take count all ++ r) (gap k (omega arith)) in
      rw (front_length, a, ← replicate-append-replicate {A = Option TaskVM} k 1 none, ← append_assoc (take count all) (replicate k none) (none ∷ []), ← g)
      (set_at (take i all) none [] (some task) i (length-take-le i all (omega arith)))

  -- one task more, at or past the count
  pub more_in : (i : ℕ) (task : Task) → task.living ≡ true → count ≤ i → i < 256 → take (i + 1) (map task_in_slot (set table i task)) ≡ put (take count all) i (held task)
  more_in i task living past less =
      let z = all_length in
      ap (λ (n : ℕ). take n (map task_in_slot (set table i task))) (add-one i)
      ∙ ap (take (suc i)) (map_set table i task)
      ∙ take-suc-set all i (task_in_slot task) (omega arith)
      ∙ ap (λ (o : Option TaskVM). take i all ++ (o ∷ [])) (a_task task living)
      ∙ sym (resized_in i (held task) past less)

module _ (w : World) (h : Facts w) where
  abbrev tasks : List (Option TaskVM)
  tasks = map task_in_slot w.table

  abbrev count : ℕ
  count = w.machine.count

  tasks_length : length tasks ≡ 256
  tasks_length = length-map w.table task_in_slot ∙ h.counts.slots_are

  pub count_length : length (take count tasks) ≡ count
  count_length = length-take-le count tasks (let z = tasks_length in omega (arith, h.counts.count_most))

  -- a slot at or past the count is no task
  past_none : (i : ℕ) → count ≤ i → task_in_slot (get_or w.table i blank) ≡ none
  past_none i past = by (get_or w.table i blank).living refl
    where
      by : (b : Bool) → (get_or w.table i blank).living ≡ b → task_in_slot (get_or w.table i blank) ≡ none
      by true e = let l = h.living i e in absurd (let z : (get_or w.table i blank).id.0 ≡ i = l.place in let y : (get_or w.table i blank).id.0 < count = l.held in omega arith)
      by false e = no_task _ e

  -- the task of an id is the slot's
  pub get_is : (i : ℕ) → get_or (take count tasks) i none ≡ task_in_slot (get_or w.table i blank)
  get_is i = by (dec_lt i count)
    where
      by : Dec (i < count) → get_or (take count tasks) i none ≡ task_in_slot (get_or w.table i blank)
      by (yes less) = get_or-take count tasks i none less ∙ ap (get_or tasks i) (sym blank_none) ∙ get_or-map task_in_slot w.table i blank
      by (no more) = get_or-eq_default (take count tasks) none {n = i} (let z = count_length in omega arith) ∙ sym (past_none i (omega arith))

  -- a slot written anew
  pub put_is : (i : ℕ) (task : Task) → i < count → take count (map task_in_slot (set w.table i task)) ≡ set (take count tasks) i (task_in_slot task)
  put_is i task less = ap (take count) (map_set w.table i task) ∙ take-set-lt count tasks i (task_in_slot task) less

  -- the tasks from the count on are none, as a table
  beyond : Beyond w.table count
  beyond = record { long = h.counts.slots_are; few = h.counts.count_most; none_there = past_none }

  resized : (i : ℕ) (task : TaskVM) → count ≤ i → i < 256 → put (take count tasks) i task ≡ take i tasks ++ (some task ∷ [])
  resized = resized_in w.table count beyond

  -- one task more, at or past the count
  pub more_is : (i : ℕ) (task : Task) → task.living ≡ true → count ≤ i → i < 256 → take (i + 1) (map task_in_slot (set w.table i task)) ≡ put (take count tasks) i (held task)
  more_is = more_in w.table count beyond

  -- and it is found there
  pub found_new : (i : ℕ) (task : TaskVM) → count ≤ i → i < 256 → get_or (put (take count tasks) i task) i none ≡ some task
  found_new i task past less =
      let z = tasks_length in
      ap (λ (l : List (Option TaskVM)). get_or l i none) (resized i task past less) ∙ get_or_at (take i tasks) (some task) [] none i (length-take-le i tasks (omega arith))

  -- past the last slot there is no room
  pub no_room : (i : ℕ) (task : TaskVM) → count ≤ i → 256 ≤ i → 256 < length (put (take count tasks) i task)
  unfolding put resize
  no_room i task past full =
      rw (length-set (take count tasks ++ replicate (i + 1 - length (take count tasks)) none) i (some task), length-append (take count tasks) (replicate (i + 1 - length (take count tasks)) none), count_length, length-replicate {A = Option TaskVM} (i + 1 - count) none)
      (omega arith)

-- a new task with a title that fits is held with it
pub new_held : (id : TaskId) (title : List ℕ) (state : TaskState) (reference : InstructionsRef) → length title ≤ 128
    → held (new_task id title state reference) ≡ record { id = id.0; title = title; state = record { len = state.len; state = state.state }; instructions_ref = reference.0 }
unfolding new_task
new_held id title state reference short =
    let z : min 128 (length title) ≡ length title = omega arith in
    rw (z, title_taken title short)

pub new_living : (id : TaskId) (title : List ℕ) (state : TaskState) (reference : InstructionsRef) → (new_task id title state reference).living ≡ true
unfolding new_task
new_living id title state reference = refl
