-- What stands in the bytes where reading finds a sound image.
use Prim.Native.Nat.{ℕ, suc, ◌+◌, ◌<◌}
use mathlib.Core.Bool.{Bool, true, false, cond}
use mathlib.Core.List.{List, [], ◌∷◌}
use mathlib.Core.Path.{◌≡◌, refl, sym, ◌∙◌, subst}
use native.Mathlib.Omega.{arith}
use lib.Dec.{eqb}
use lib.ListN.{length, drop}
use borrow.Author.Tests.{eqb-true, eqb-false}
use Rattle.image.proofs.Rules.{Rules, good_rules, Head, headed_head}
use Rattle.image.proofs.Walks.{read_next, read_some}
use Rattle.image.specs.Image.{ImageTask, Image, Parsed, sound, bad_at, body_length, next_id_in, task_count, id_in, task_at, headed, good, task_before, read_from, with_count, read_image}

-- what was found is not a place
pub not_bad : {A B : Type 0} {place : ℕ} {found : A} → bad_at place ≡ sound found → B
not_bad e = absurd (let z : ◌≡◌ {A = ℕ} 0 1 = cc in omega arith)

pub read_none : (next_id low place : ℕ) (bytes : List ℕ) → read_from 0 next_id low place bytes ≡ bad_at place
unfolding read_from
read_none next_id low place bytes = refl

pub joined_sound : (task : ImageTask) (tasks : List ImageTask) → task_before task (sound tasks) ≡ sound (task ∷ tasks)
unfolding task_before
joined_sound task tasks = refl

pub joined_bad : (task : ImageTask) (place : ℕ) → task_before task (bad_at place) ≡ bad_at place
unfolding task_before
joined_bad task place = refl

-- how reading goes on from a record, where it finds tasks
pub record Step (bound next_id low place : ℕ) (bytes : List ℕ) (tasks : List ImageTask) : Type 0 where
  pub rules : Rules next_id low bytes
  pub rest : List ImageTask
  pub all : task_at bytes ∷ rest ≡ tasks
  pub later : read_from bound next_id (id_in bytes + 1) (place + (6 + body_length bytes)) (drop (6 + body_length bytes) bytes) ≡ sound rest

-- reading ends at the bytes' end or goes on from a record
pub data Goes (bound next_id low place : ℕ) (bytes : List ℕ) (tasks : List ImageTask) : Type 0 where
  at_end : length bytes ≡ 0 → sound [] ≡ sound tasks → Goes bound next_id low place bytes tasks
  goes_on : 0 < length bytes → Step bound next_id low place bytes tasks → Goes bound next_id low place bytes tasks

pub goes : (bound next_id low place : ℕ) (bytes : List ℕ) (tasks : List ImageTask) → read_from (suc bound) next_id low place bytes ≡ sound tasks → Goes bound next_id low place bytes tasks
goes bound next_id low place bytes tasks e = by_end (eqb (length bytes) 0) refl (sym (read_next bound next_id low place bytes) ∙ e)
  where
    rest : Parsed (List ImageTask)
    rest = read_from bound next_id (id_in bytes + 1) (place + (6 + body_length bytes)) (drop (6 + body_length bytes) bytes)

    by_found : (r : Parsed (List ImageTask)) → rest ≡ r → good next_id low bytes ≡ true → task_before (task_at bytes) r ≡ sound tasks → Step bound next_id low place bytes tasks
    by_found (bad_at p) q g j = not_bad (sym (joined_bad (task_at bytes) p) ∙ j)
    by_found (sound us) q g j =
        let n : sound (task_at bytes ∷ us) ≡ sound tasks = sym (joined_sound (task_at bytes) us) ∙ j in
        record { rules = good_rules next_id low bytes g; rest = us; all = cc; later = q }

    by_good : (c : Bool) → good next_id low bytes ≡ c → cond c (task_before (task_at bytes) rest) (bad_at place) ≡ sound tasks → Step bound next_id low place bytes tasks
    by_good true g j = by_found rest refl g j
    by_good false g j = not_bad j

    by_end : (c : Bool) → eqb (length bytes) 0 ≡ c → cond c (sound []) (cond (good next_id low bytes) (task_before (task_at bytes) rest) (bad_at place)) ≡ sound tasks → Goes bound next_id low place bytes tasks
    by_end true q j = at_end (eqb-true (length bytes) 0 q) j
    by_end false q j =
        let some : length bytes ≡ 0 → ⊥ = eqb-false (length bytes) 0 q in
        goes_on (omega arith) (by_good (good next_id low bytes) refl j)

-- what a sound image that is not empty holds: sound tasks, that are written as these bytes
pub record Loaded (bytes : List ℕ) (image : Image) : Type 0 where
  pub head : Head bytes
  pub next_id_is : image.next_id ≡ next_id_in bytes
  pub count_is : length image.tasks ≡ task_count bytes
  pub read : read_from (length bytes) (next_id_in bytes) 0 14 (drop 14 bytes) ≡ sound image.tasks

-- the header and the records of what was read
pub loaded : (bytes : List ℕ) (image : Image) → 0 < length bytes → read_image bytes ≡ sound image → Loaded bytes image
unfolding with_count
loaded bytes image some e = by_head (headed bytes) refl (sym (read_some bytes some) ∙ e)
  where
    rest : Parsed (List ImageTask)
    rest = read_from (length bytes) (next_id_in bytes) 0 14 (drop 14 bytes)

    by_count : (tasks : List ImageTask) (c : Bool) → eqb (length tasks) (task_count bytes) ≡ c → rest ≡ sound tasks → headed bytes ≡ true → cond c (sound (record { next_id = next_id_in bytes; tasks = tasks })) (bad_at 0) ≡ sound image → Loaded bytes image
    by_count tasks false c q g j = not_bad j
    by_count tasks true c q g j =
        let n : record { next_id = next_id_in bytes; tasks = tasks } ≡ image = cc in
        subst (λ (i : Image). Loaded bytes i) n (record { head = headed_head bytes g; next_id_is = refl; count_is = eqb-true _ _ c; read = q })

    by_found : (r : Parsed (List ImageTask)) → rest ≡ r → headed bytes ≡ true → with_count (next_id_in bytes) (task_count bytes) r ≡ sound image → Loaded bytes image
    by_found (bad_at p) q g j = not_bad j
    by_found (sound tasks) q g j = by_count tasks (eqb (length tasks) (task_count bytes)) refl q g j

    by_head : (c : Bool) → headed bytes ≡ c → cond c (with_count (next_id_in bytes) (task_count bytes) rest) (bad_at 0) ≡ sound image → Loaded bytes image
    by_head true g j = by_found rest refl g j
    by_head false g j = not_bad j
