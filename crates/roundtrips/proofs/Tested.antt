-- What a caller of the test learns: the tasks of a sound image, and the reason for 25.
use Prim.Native.Nat.{ℕ, ◌+◌, ◌<◌, ◌≤◌, max}
use mathlib.Core.Bool.{Bool, true, false, cond}
use mathlib.Core.List.{List}
use mathlib.Core.Path.{◌≡◌, refl, ap, sym, ◌∙◌, subst}
use native.Mathlib.Omega.{arith}
use lib.Dec.{eqb}
use lib.ListN.{length, drop, length-drop}
use borrow.Author.Tests.{eqb-false}
use Rattle.image.proofs.Endian.{bytes_drop}
use Rattle.image.proofs.Walks.{read_some}
use Rattle.roundtrips.proofs.Places.{Breaks, bad_place}
use Rattle.image.proofs.Rules.{Head, headed_head, head_headed, clash}
use Rattle.image.specs.Image.{ImageTask, Image, Rising, none, more, Parsed, sound, bad_at, next_id_in, task_count, headed, read_from, with_count, read_image}
use Rattle.slices.specs.Numbers.{Bytes}
use Rattle.image.specs.Reading.{s_len_of}

-- ---- a sound image

-- S_LEN is at most the next id
pub s_len_most : {next_id low : ℕ} {tasks : List ImageTask} → Rising next_id low tasks → s_len_of tasks ≤ next_id
unfolding s_len_of
s_len_most none = omega arith
s_len_most (more fine r) = omega (arith, fine.below, s_len_most r)

-- there are at most as many tasks as S_LEN
pub s_len_least : {next_id low : ℕ} {tasks : List ImageTask} → Rising next_id low tasks → low + length tasks ≤ max low (s_len_of tasks)
unfolding s_len_of
s_len_least none = omega arith
s_len_least (more fine r) = omega (arith, fine.rising, s_len_least r)

-- ---- a bad one

-- why an image is bad, and where: no right kind 1 first; a record cut or against a rule; else the count
pub data Bad (bytes : List ℕ) : ℕ → Type 0 where
  bad_header : (Head bytes → ⊥) → Bad bytes 0
  bad_record : {place : ℕ} → Head bytes → Breaks (next_id_in bytes) 0 14 (drop 14 bytes) place → Bad bytes place
  bad_count : {tasks : List ImageTask} → Head bytes → read_from (length bytes) (next_id_in bytes) 0 14 (drop 14 bytes) ≡ sound tasks → (length tasks ≡ task_count bytes → ⊥) → Bad bytes 0

-- docs/REFERENCE.md, 'The task image': the place in 25 is the start of the first record that is cut or breaks a rule; a wrong next id and a wrong count are at 0
pub bad_image : (bytes : List ℕ) (place : ℕ) → Bytes bytes → 0 < length bytes → read_image bytes ≡ bad_at place → Bad bytes place
unfolding with_count
bad_image bytes place b some e = by_head (headed bytes) refl (sym (read_some bytes some) ∙ e)
  where
    rest : Parsed (List ImageTask)
    rest = read_from (length bytes) (next_id_in bytes) 0 14 (drop 14 bytes)

    here : 0 ≡ place → Bad bytes 0 → Bad bytes place
    here n w = subst (λ (k : ℕ). Bad bytes k) n w

    by_count : (tasks : List ImageTask) (c : Bool) → eqb (length tasks) (task_count bytes) ≡ c → rest ≡ sound tasks → Head bytes → cond {A = Parsed Image} c (sound (record { next_id = next_id_in bytes; tasks = tasks })) (bad_at 0) ≡ bad_at place → Bad bytes place
    by_count tasks true c q h j = absurd (let z : ◌≡◌ {A = ℕ} 0 1 = cc in omega arith)
    by_count tasks false c q h j = let n : 0 ≡ place = cc in here n (bad_count h q (eqb-false (length tasks) (task_count bytes) c))

    by_found : (r : Parsed (List ImageTask)) → rest ≡ r → Head bytes → with_count (next_id_in bytes) (task_count bytes) r ≡ bad_at place → Bad bytes place
    by_found (sound tasks) q h j = by_count tasks (eqb (length tasks) (task_count bytes)) refl q h j
    by_found (bad_at p) q h j =
        let n : p ≡ place = cc in
        bad_record h (bad_place (length bytes) (next_id_in bytes) 0 14 place (drop 14 bytes) (bytes_drop 14 b) (omega (arith, length-drop 14 bytes)) (q ∙ ap bad_at n))

    by_head : (c : Bool) → headed bytes ≡ c → cond c (with_count (next_id_in bytes) (task_count bytes) rest) (bad_at 0) ≡ bad_at place → Bad bytes place
    by_head true g j = by_found rest refl (headed_head bytes g) j
    by_head false g j = let n : 0 ≡ place = cc in here n (bad_header (λ h. clash (head_headed h) g))
