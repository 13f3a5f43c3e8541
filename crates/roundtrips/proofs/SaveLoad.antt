-- Tasks that are written and read back: sound tasks that are saved load again.
use Prim.Native.Nat.{ℕ, zero, suc, ◌+◌, ◌-◌, ◌<◌, ◌≤◌}
use mathlib.Core.List.{List, ◌++◌, append_assoc}
use mathlib.Core.Path.{◌≡◌, refl}
use native.Mathlib.Omega.{arith}
use lib.ListN.{length, get_or, take, drop, length-append}
use lib.Seq.{drop-drop, take-append_seam, drop-append_seam}
use borrow.Author.Tests.{ne_eqb, eq-eqb}
use Rattle.image.proofs.Endian.{number_back}
use Rattle.image.proofs.Puts.{body_size, framed_open}
use Rattle.image.proofs.Rules.{Rules, rules_good, Head, head_headed}
use Rattle.image.specs.Image.{ImageTask, Image, record_of, header, body, records, written, Fine, Rising, none, more, SoundImage, sound, body_length, kind, next_id_in, task_count, id_in, title_length_in, task_at, task_before, read_from, with_count, read_image}
use Rattle.slices.specs.Numbers.{little_endian, number_at}

-- ---- one record, written and read back

-- a record at the front of some bytes
abbrev pub front_of : ImageTask → List ℕ → List ℕ
front_of task rest = record_of 2 (body task) ++ rest

module _ (task : ImageTask) (rest : List ℕ) where
  size_is : 8 + length task.title + length task.instructions < 4294967296 → body_length (front_of task rest) ≡ 8 + (length task.title + length task.instructions)
  size_is fits =
      rw (framed_open (body task) rest 2 (8 + (length task.title + length task.instructions)) (body_size task))
      (number_back 4 (8 + (length task.title + length task.instructions)) _ (omega arith))

  kind_is : kind (front_of task rest) ≡ 2
  unfolding record_of body little_endian number_at
  kind_is = refl

  id_is : task.id < 4294967296 → id_in (front_of task rest) ≡ task.id
  unfolding record_of body little_endian number_at
  id_is fits = omega arith

  title_size : length task.title ≤ 128 → title_length_in (front_of task rest) ≡ length task.title
  unfolding record_of body little_endian number_at
  title_size short = omega arith

  count_is : get_or (front_of task rest) 10 0 ≡ task.count
  unfolding record_of body little_endian
  count_is = refl

  state_is : get_or (front_of task rest) 11 0 ≡ task.state
  unfolding record_of body little_endian
  state_is = refl

  past_14 : drop 14 (front_of task rest) ≡ task.title ++ (task.instructions ++ rest)
  unfolding record_of body little_endian
  past_14 = append_assoc task.title task.instructions rest

  length_is : length (front_of task rest) ≡ 14 + (length task.title + length task.instructions) + length rest
  unfolding record_of body little_endian
  length_is = omega (arith, length-append (task.title ++ task.instructions) rest, length-append task.title task.instructions)

  title_is : length task.title ≤ 128 → take (title_length_in (front_of task rest)) (drop 14 (front_of task rest)) ≡ task.title
  title_is short = rw (title_size short, past_14) (take-append_seam task.title (task.instructions ++ rest))

module _ {next_id low : ℕ} (task : ImageTask) (rest : List ℕ) (fine : Fine next_id low task) (few : next_id ≤ 256) where
  front_rules : Rules next_id low (front_of task rest)
  front_rules =
      let i = id_is task rest (omega (arith, fine.below)) in
      let n = size_is task rest fine.fits in
      let k = title_size task rest fine.short in
      let l = length_is task rest in
      record {
        uncut = omega arith;
        kind_2 = kind_is task rest;
        large = omega arith;
        rising = omega (arith, fine.rising);
        below = omega (arith, fine.below);
        states = rw (count_is task rest, state_is task rest) fine.states;
        short = omega (arith, fine.short);
        inside = omega arith;
        text = rw (title_is task rest fine.short) fine.text;
      }

  instructions_are : take (body_length (front_of task rest) - 8 - title_length_in (front_of task rest)) (drop (title_length_in (front_of task rest)) (drop 14 (front_of task rest))) ≡ task.instructions
  instructions_are =
      let n : body_length (front_of task rest) - 8 - length task.title ≡ length task.instructions = omega (arith, size_is task rest fine.fits) in
      rw (title_size task rest fine.short, past_14 task rest, n, drop-append_seam) (take-append_seam task.instructions rest)

  pub task_is : task_at (front_of task rest) ≡ task
  unfolding task_at
  task_is = rw (instructions_are, title_is task rest fine.short, id_is task rest (omega (arith, fine.below)), count_is task rest, state_is task rest)

  past_is : drop (6 + body_length (front_of task rest)) (front_of task rest) ≡ rest
  past_is =
      let n : 6 + body_length (front_of task rest) ≡ 14 + (length task.title + length task.instructions) = omega (arith, size_is task rest fine.fits) in
      rw (n, ← drop-drop, past_14 task rest, ← drop-drop, drop-append_seam, drop-append_seam)

-- ---- the records, written and read back

read_back : {next_id low : ℕ} {tasks : List ImageTask} → Rising next_id low tasks → next_id ≤ 256 → (bound place : ℕ) → length (records tasks) < bound → read_from bound next_id low place (records tasks) ≡ sound tasks
unfolding read_from records task_before
read_back r few zero place h = absurd (omega arith)
read_back none few (suc bound) place h = refl
read_back {low = low} (more {task = task} {tasks = tasks} fine r) few (suc bound) place h =
    let l = length_is task (records tasks) in
    let i = id_is task (records tasks) (omega (arith, fine.below)) in
    rw (
      ne_eqb (length (front_of task (records tasks))) 0 (omega arith),
      rules_good (front_rules task (records tasks) fine few),
      past_is task (records tasks) fine few,
      i,
      task_is task (records tasks) fine few,
      read_back {low = task.id + 1} r few bound _ (omega arith),
    )

-- ids that rise below the next id are at most so many
pub few_tasks : {next_id low : ℕ} {tasks : List ImageTask} → Rising next_id low tasks → low ≤ next_id → low + length tasks ≤ next_id
few_tasks none h = omega arith
few_tasks (more fine r) h = omega (arith, fine.rising, fine.below, few_tasks r (omega (arith, fine.below)))

-- ---- the image, written and read back

module _ (image : Image) where
  head_length : length (written image) ≡ 14 + length (records image.tasks)
  unfolding written header record_of little_endian
  head_length = omega arith

  head_next : image.next_id < 4294967296 → next_id_in (written image) ≡ image.next_id
  unfolding written header record_of little_endian number_at
  head_next h = omega arith

  head_count : length image.tasks < 4294967296 → task_count (written image) ≡ length image.tasks
  unfolding written header record_of little_endian number_at
  head_count h = omega arith

  head_past : drop 14 (written image) ≡ records image.tasks
  unfolding written header record_of little_endian
  head_past = refl

  head_size : body_length (written image) ≡ 8
  unfolding written header record_of little_endian number_at
  head_size = refl

  head_kind : kind (written image) ≡ 1
  unfolding written header record_of little_endian number_at
  head_kind = refl

-- docs/REFERENCE.md, 'The task image': sound tasks that are saved load again
pub save_load : (image : Image) → SoundImage image → read_image (written image) ≡ sound image
unfolding read_image with_count
save_load image s =
    let l = head_length image in
    let n = head_next image (omega (arith, s.few)) in
    let k = head_count image (omega (arith, s.few, few_tasks s.tasks (omega arith))) in
    let z = head_size image in
    let h : Head (written image) = record { uncut = omega arith; kind_1 = head_kind image; size = z; few = omega (arith, s.few) } in
    rw (
      ne_eqb (length (written image)) 0 (omega arith),
      head_headed h,
      n,
      k,
      head_past image,
      read_back s.tasks s.few (length (written image)) 14 (omega arith),
      eq-eqb (length image.tasks) (length image.tasks) refl,
    )
