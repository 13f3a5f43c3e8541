-- How the test goes through an image: the record at the front, the records one after another, and the count last.
use Prim.Native.Nat.{ℕ, suc, ◌+◌, ◌-◌, ◌*◌, ◌<◌, ◌≤◌, max}
use mathlib.Core.Bool.{Bool, true, false, cond}
use mathlib.Core.List.{List, []}
use mathlib.Core.Path.{◌≡◌, refl, ap, sym, ◌∙◌}
use native.Mathlib.Nat.{sub-zero}
use native.Mathlib.Omega.{arith}
use lib.Dec.{eqb}
use lib.ListN.{length, take, drop, length-take, length-drop}
use lib.Seq.{drop-drop, take_all}
use borrow.Author.Tests.{ne_eqb, eq-eqb}
use Rattle.errors.specs.declared.Refusal.TheVariants.{BadImage}
use Rattle.storage.specs.declared.TaskId.{TaskId}
use Rattle.image.proofs.Rules.{Rules, rules_good, good_rules, Head, head_headed, headed_head}
use Rattle.image.specs.Image.{ImageTask, Parsed, sound, bad_at, body_length, next_id_in, task_count, id_in, title_length_in, task_at, headed, good, task_before, read_from, with_count, read_image}
use Rattle.image.specs.Reading.{s_len_of, instruction_bytes, image_result}
use Rattle.image.specs.Walking.{front, walked}
use Rattle.std.specs.Prelude.{Ok, Err, Some, None, Result, Option}

-- ---- the records, one after another

-- one record more
pub read_next : (bound next_id low place : ℕ) (bytes : List ℕ)
    → read_from (suc bound) next_id low place bytes
    ≡ cond (eqb (length bytes) 0) (sound [])
    (cond (good next_id low bytes)
    (task_before (task_at bytes) (read_from bound next_id (id_in bytes + 1) (place + (6 + body_length bytes)) (drop (6 + body_length bytes) bytes)))
    (bad_at place))
unfolding read_from
read_next bound next_id low place bytes = refl

-- an image that is not empty
pub read_some : (bytes : List ℕ) → 0 < length bytes → read_image bytes ≡ cond (headed bytes) (with_count (next_id_in bytes) (task_count bytes) (read_from (length bytes) (next_id_in bytes) 0 14 (drop 14 bytes))) (bad_at 0)
unfolding read_image
read_some bytes some = rw (ne_eqb (length bytes) 0 (omega arith))

-- the lengths of a record's title and instructions
module _ {next_id low : ℕ} {bytes : List ℕ} (r : Rules next_id low bytes) where
  pub title_length_is : length (task_at bytes).title ≡ title_length_in bytes
  unfolding task_at
  title_length_is = simp (length-take, length-drop) (omega (arith, r.uncut, r.inside))

  pub instructions_length : length (task_at bytes).instructions ≡ body_length bytes - 8 - title_length_in bytes
  unfolding task_at
  instructions_length = simp (length-take, length-drop) (omega (arith, r.uncut, r.inside))

-- what a whole front tells
record Turned (next_id low : ℕ) (bytes : List ℕ) (id size instructions : ℕ) : Type 0 where
  rules : Rules next_id low bytes
  id_is : id ≡ id_in bytes
  size_is : size ≡ 6 + body_length bytes
  rest_is : instructions ≡ body_length bytes - 8 - title_length_in bytes

-- the id, the size and the bytes of instructions of the record at the front
abbrev found : List ℕ → TaskId × ℕ × ℕ
found bytes = (record { 0 = id_in bytes }, 6 + body_length bytes, body_length bytes - 8 - title_length_in bytes)

front_whole : (next_id low : ℕ) (bytes : List ℕ) (id : TaskId) (size instructions : ℕ) → front next_id low bytes ≡ Some (id, size, instructions) → Turned next_id low bytes id.0 size instructions
unfolding front
front_whole next_id low bytes id size instructions e = by (good next_id low bytes) refl e
  where
    by : (t : Bool) → good next_id low bytes ≡ t → cond t (Some (found bytes)) None ≡ Some (id, size, instructions) → Turned next_id low bytes id.0 size instructions
    by true g q =
        let same : (id, size, instructions) ≡ found bytes = cc in
        record { rules = good_rules next_id low bytes g; id_is = ap (λ (f : TaskId × ℕ × ℕ). f.0.0) same; size_is = ap (λ (f : TaskId × ℕ × ℕ). f.1) same; rest_is = ap (λ (f : TaskId × ℕ × ℕ). f.2) same }
    by false g q = absurd (let z : ◌≡◌ {A = ℕ} 0 1 = cc in omega arith)

front_broken : (next_id low : ℕ) (bytes : List ℕ) → front next_id low bytes ≡ None → good next_id low bytes ≡ false
unfolding front
front_broken next_id low bytes e = by (good next_id low bytes) refl e
  where
    by : (t : Bool) → good next_id low bytes ≡ t → cond t (Some (found bytes)) None ≡ None → good next_id low bytes ≡ false
    by true g q = absurd (let z : ◌≡◌ {A = ℕ} 0 1 = cc in omega arith)
    by false g q = g

-- the tail that the code lends
tail_is : (image : List ℕ) (at : ℕ) → take (length image - at) (drop at image) ≡ drop at image
tail_is image at = take_all (length image - at) (drop at image) (omega (arith, length-drop at image))

-- one task more
walked_joined : (count low instructions : ℕ) (task : ImageTask) (r : Parsed (List ImageTask)) → low ≤ task.id → walked count low instructions (task_before task r) ≡ walked (count + 1) (task.id + 1) (instructions + length task.instructions) r
unfolding walked task_before s_len_of instruction_bytes
walked_joined count low instructions task (bad_at place) h = refl
walked_joined count low instructions task (sound tasks) h =
    let a : count + suc (length tasks) ≡ count + 1 + length tasks = omega arith in
    let b : max low (max (task.id + 1) (s_len_of tasks)) ≡ max (task.id + 1) (s_len_of tasks) = omega arith in
    let c : instructions + (length task.instructions + instruction_bytes tasks) ≡ instructions + length task.instructions + instruction_bytes tasks = omega arith in
    cc

-- what holds between two records
pub record Inv (image : List ℕ) (next_id at low count sum : ℕ) : Type 0 where
  pub inside : at ≤ length image
  pub moved : 14 * count + 14 ≤ at
  pub summed : sum ≤ at
  pub same : walked count low sum (read_from (length image - count) next_id low at (drop at image)) ≡ walked 0 0 0 (read_from (length image) next_id 0 14 (drop 14 image))

-- the bound at a turn
bound_left : (image : List ℕ) (next_id at low count : ℕ) → at < length image → 14 * count + 14 ≤ at
    → read_from (length image - count) next_id low at (drop at image)
    ≡ cond (good next_id low (drop at image))
    (task_before (task_at (drop at image)) (read_from (length image - (count + 1)) next_id (id_in (drop at image) + 1) (at + (6 + body_length (drop at image))) (drop (6 + body_length (drop at image)) (drop at image))))
    (bad_at at)
bound_left image next_id at low count h m =
    let f : length image - count ≡ suc (length image - (count + 1)) = omega arith in
    rw (f, read_next (length image - (count + 1)) next_id low at (drop at image), ne_eqb (length (drop at image)) 0 (omega (arith, length-drop at image)))

-- one record more
walked_record : (count low instructions : ℕ) (bytes : List ℕ) (r : Parsed (List ImageTask)) → low ≤ id_in bytes → walked count low instructions (task_before (task_at bytes) r) ≡ walked (count + 1) (id_in bytes + 1) (instructions + length (task_at bytes).instructions) r
unfolding task_at
walked_record count low instructions bytes r h = walked_joined count low instructions (task_at bytes) r h

module _ {image : List ℕ} {next_id at low count sum : ℕ} (i : Inv image next_id at low count sum) (h : at < length image) where
  turned : {r : Option (TaskId × ℕ × ℕ)} {id : TaskId} {size instructions : ℕ} → r ≡ front next_id low (take (length image - at) (drop at image)) → r ≡ Some (id, size, instructions) → Turned next_id low (drop at image) id.0 size instructions
  turned {r} {id} {size} {instructions} p q = front_whole next_id low (drop at image) id size instructions (rw (tail_is image at) at (sym p ∙ q))

  -- a turn
  pub turn : {r : Option (TaskId × ℕ × ℕ)} {id : TaskId} {size instructions : ℕ} → r ≡ front next_id low (take (length image - at) (drop at image)) → r ≡ Some (id, size, instructions) → Inv image next_id (at + size) (id.0 + 1) (count + 1) (sum + instructions)
  turn {r} {id} {size} {instructions} p q =
      let t = turned p q in
      let l = instructions_length t.rules in
      let e : instructions ≡ length (task_at (drop at image)).instructions = t.rest_is ∙ sym l in
      record {
        inside = omega (arith, t.size_is, t.rules.uncut, length-drop at image);
        moved = omega (arith, t.size_is, t.rules.large, i.moved);
        summed = omega (arith, t.size_is, t.rest_is, i.summed);
        same =
            rw (t.id_is, t.size_is, e, ← drop-drop, ← walked_record count low sum (drop at image) _ t.rules.rising)
            (rw (bound_left image next_id at low count h i.moved, rules_good t.rules) at i.same);
      }

  -- what a turn keeps within bounds
  pub fits : {r : Option (TaskId × ℕ × ℕ)} {id : TaskId} {size instructions : ℕ} → r ≡ front next_id low (take (length image - at) (drop at image)) → r ≡ Some (id, size, instructions) → (id.0 < next_id) × ((14 ≤ size) × ((at + size ≤ length image) × (instructions ≤ size)))
  fits {r} {id} {size} {instructions} p q =
      let t = turned p q in
      (omega (arith, t.id_is, t.rules.below), (omega (arith, t.size_is, t.rules.large), (omega (arith, t.size_is, t.rules.uncut, length-drop at image), omega (arith, t.size_is, t.rest_is))))

  -- the first bad record
  pub stuck : {r : Option (TaskId × ℕ × ℕ)} → r ≡ front next_id low (take (length image - at) (drop at image)) → r ≡ None → Err at ≡ walked 0 0 0 (read_from (length image) next_id 0 14 (drop 14 image))
  unfolding walked
  stuck {r} p q = rw (bound_left image next_id at low count h i.moved, front_broken next_id low (drop at image) (rw (tail_is image at) at (sym p ∙ q))) at i.same

-- nothing left over
pub ended : {image : List ℕ} {next_id at low count sum : ℕ} → Inv image next_id at low count sum → length image ≤ at → Ok (count, low, sum) ≡ walked 0 0 0 (read_from (length image) next_id 0 14 (drop 14 image))
unfolding walked s_len_of instruction_bytes
ended {image} {next_id} {at} {low} {count} {sum} i h =
    let f : length image - count ≡ suc (length image - (count + 1)) = omega (arith, i.inside, i.moved) in
    let none_left : length (drop at image) ≡ 0 = omega (arith, length-drop at image) in
    let a : count ≡ count + 0 = omega arith in
    let b : low ≡ max low 0 = omega arith in
    let c : sum ≡ sum + 0 = omega arith in
    let d : Ok (count, low, sum) ≡ Ok (count + 0, max low 0, sum + 0) = cc in
    d ∙ rw (f, read_next (length image - (count + 1)) next_id low at (drop at image), eq-eqb (length (drop at image)) 0 none_left) at i.same

-- before the first record
pub begun : (image : List ℕ) (next_id : ℕ) → 14 ≤ length image → Inv image next_id 14 0 0 0
begun image next_id h = record { inside = h; moved = omega arith; summed = omega arith; same = rw (sub-zero (length image)) }

-- ---- the whole test

settles_stuck : (next_id count place : ℕ) (r : Parsed (List ImageTask)) → Err place ≡ walked 0 0 0 r → Err (BadImage place) ≡ image_result (with_count next_id count r)
unfolding walked image_result with_count
settles_stuck next_id count place (sound tasks) e = absurd (let z : ◌≡◌ {A = ℕ} 0 1 = cc in omega arith)
settles_stuck next_id count place (bad_at p) e = let z : place ≡ p = cc in ap (λ (k : ℕ). Err (BadImage k)) z

settles_all : (next_id count n low sum : ℕ) (r : Parsed (List ImageTask)) → Ok (n, low, sum) ≡ walked 0 0 0 r → n ≡ count → Ok (record { next_id = record { 0 = next_id }; count = n; s_len = low; instructions = sum }) ≡ image_result (with_count next_id count r)
unfolding walked image_result with_count
settles_all next_id count n low sum (bad_at p) e h = absurd (let z : ◌≡◌ {A = ℕ} 0 1 = cc in omega arith)
settles_all next_id count n low sum (sound tasks) e h =
    let same : ◌≡◌ {A = ℕ × ℕ × ℕ} (n, low, sum) (0 + length tasks, max 0 (s_len_of tasks), 0 + instruction_bytes tasks) = cc in
    let x : n ≡ 0 + length tasks = ap (λ (f : ℕ × ℕ × ℕ). f.0) same in
    let y : low ≡ max 0 (s_len_of tasks) = ap (λ (f : ℕ × ℕ × ℕ). f.1) same in
    let z : sum ≡ 0 + instruction_bytes tasks = ap (λ (f : ℕ × ℕ × ℕ). f.2) same in
    let x' : n ≡ length tasks = omega arith in
    let y' : low ≡ s_len_of tasks = omega arith in
    let z' : sum ≡ instruction_bytes tasks = omega arith in
    rw (eq-eqb (length tasks) count (sym x' ∙ h), ← x', ← y', ← z')

settles_wrong : (next_id count n low sum : ℕ) (r : Parsed (List ImageTask)) → Ok (n, low, sum) ≡ walked 0 0 0 r → (n ≡ count → ⊥) → Err (BadImage 0) ≡ image_result (with_count next_id count r)
unfolding walked image_result with_count
settles_wrong next_id count n low sum (bad_at p) e h = absurd (let z : ◌≡◌ {A = ℕ} 0 1 = cc in omega arith)
settles_wrong next_id count n low sum (sound tasks) e h =
    let same : ◌≡◌ {A = ℕ × ℕ × ℕ} (n, low, sum) (0 + length tasks, max 0 (s_len_of tasks), 0 + instruction_bytes tasks) = cc in
    let x : n ≡ 0 + length tasks = ap (λ (f : ℕ × ℕ × ℕ). f.0) same in
    let x' : n ≡ length tasks = omega arith in
    rw (ne_eqb (length tasks) count (λ q. h (x' ∙ q)))

-- no image
pub test_none : (image : List ℕ) → length image ≡ 0 → Ok (record { next_id = record { 0 = 0 }; count = 0; s_len = 0; instructions = 0 }) ≡ image_result (read_image image)
unfolding read_image image_result s_len_of instruction_bytes
test_none image e = rw (eq-eqb (length image) 0 e)

-- a wrong header
pub test_head : (image : List ℕ) {r : Bool} → (length image ≡ 0 → ⊥) → r ≡ headed image → r ≡ false → Err (BadImage 0) ≡ image_result (read_image image)
unfolding image_result
test_head image h p q = rw (read_some image (omega arith), sym p ∙ q)

-- a right one
pub head_of : (image : List ℕ) {r : Bool} → r ≡ headed image → r ≡ true → Head image
head_of image p q = headed_head image (sym p ∙ q)

-- what the walk answers
abbrev pub Walk : List ℕ → ℕ → Result (ℕ × ℕ × ℕ) ℕ → Type 0
Walk image next_id w = w ≡ walked 0 0 0 (read_from (length image) next_id 0 14 (drop 14 image))

module _ (image : List ℕ) {next_id : ℕ} (h : Head image) (n : next_id ≡ next_id_in image) where
  image_is : read_image image ≡ with_count next_id (task_count image) (read_from (length image) next_id 0 14 (drop 14 image))
  image_is = rw (read_some image (omega (arith, h.uncut)), head_headed h, n)

  pub test_stuck : {w : Result (ℕ × ℕ × ℕ) ℕ} {place : ℕ} → Walk image next_id w → w ≡ Err place → Err (BadImage place) ≡ image_result (read_image image)
  test_stuck {w} {place} e q = rw image_is (settles_stuck next_id (task_count image) place _ (sym q ∙ e))

  pub test_all : {w : Result (ℕ × ℕ × ℕ) ℕ} {count low sum : ℕ} → Walk image next_id w → w ≡ Ok (count, low, sum) → count ≡ task_count image → Ok (record { next_id = record { 0 = next_id }; count = count; s_len = low; instructions = sum }) ≡ image_result (read_image image)
  test_all {w} {count} {low} {sum} e q k = rw image_is (settles_all next_id (task_count image) count low sum _ (sym q ∙ e) k)

  pub test_wrong : {w : Result (ℕ × ℕ × ℕ) ℕ} {count low sum : ℕ} → Walk image next_id w → w ≡ Ok (count, low, sum) → (count ≡ task_count image → ⊥) → Err (BadImage 0) ≡ image_result (read_image image)
  test_wrong {w} {count} {low} {sum} e q k = rw image_is (settles_wrong next_id (task_count image) count low sum _ (sym q ∙ e) k)
