-- An image that is read and written again: saving after loading gives the same bytes.
use Prim.Native.Nat.{ℕ, zero, suc, ◌+◌, ◌-◌, ◌<◌, ◌≤◌}
use mathlib.Core.List.{List, [], ◌∷◌, ◌++◌, append_assoc, append-nil}
use mathlib.Core.Path.{◌≡◌, refl, ap, sym, ◌∙◌, subst}
use native.Mathlib.Omega.{arith}
use lib.ListN.{length, get_or, take, drop, length-drop, take-append-drop}
use lib.Seq.{drop-cons, drop-drop}
use Rattle.image.proofs.Endian.{number_again, number_drop, number_fits, bytes_drop}
use Rattle.image.proofs.Puts.{body_size, framed_open, body_open}
use Rattle.image.proofs.Rules.{Rules, Head}
use Rattle.image.proofs.Walks.{title_length_is, instructions_length}
use Rattle.image.proofs.Readings.{not_bad, read_none, Goes, at_end, goes_on, goes, loaded}
use Rattle.roundtrips.proofs.SaveLoad.{front_of}
use Rattle.image.specs.Image.{ImageTask, Image, header, body, records, written, Fine, Rising, none, more, SoundImage, sound, body_length, kind, next_id_in, task_count, id_in, title_length_in, task_at, read_from, read_image}
use Rattle.slices.specs.Numbers.{little_endian, number_at, Bytes}

-- ---- one record, read and written again

-- the number at the front, written again with what follows it
number_first : (width : ℕ) {bytes : List ℕ} → Bytes bytes → width ≤ length bytes → little_endian width (number_at width bytes 0) ++ drop width bytes ≡ bytes
number_first width {bytes} b long = rw (number_again width b long) (take-append-drop width bytes)

-- a number inside, written again with what follows it
pub number_here : (width place next : ℕ) {bytes : List ℕ} → Bytes bytes → next ≡ place + width → next ≤ length bytes → little_endian width (number_at width bytes place) ++ drop next bytes ≡ drop place bytes
number_here width place next {bytes} b e long =
    rw (number_drop width bytes place, e, ← drop-drop width place bytes)
    (number_first width (bytes_drop place b) (omega (arith, length-drop place bytes)))

module _ {next_id low : ℕ} {bytes : List ℕ} (r : Rules next_id low bytes) where
  pub whole_length : 8 + (length (task_at bytes).title + length (task_at bytes).instructions) ≡ body_length bytes
  whole_length = omega (arith, title_length_is r, instructions_length r, r.inside)

  -- title, instructions and what follows are what stood behind the 14 bytes
  tail_is : (task_at bytes).title ++ ((task_at bytes).instructions ++ drop (6 + body_length bytes) bytes) ≡ drop 14 bytes
  unfolding task_at
  tail_is =
      let e : 6 + body_length bytes ≡ 14 + (title_length_in bytes + (body_length bytes - 8 - title_length_in bytes)) = omega (arith, r.inside) in
      rw (e, ← drop-drop, ← drop-drop, take-append-drop, take-append-drop)

-- two bytes and what follows them
two_here : (bytes : List ℕ) → 12 ≤ length bytes → get_or bytes 10 0 ∷ get_or bytes 11 0 ∷ drop 12 bytes ≡ drop 10 bytes
two_here bytes long = sym (drop-cons bytes 10 0 (omega arith) ∙ ap (λ (l : List ℕ). get_or bytes 10 0 ∷ l) (drop-cons bytes 11 0 (omega arith)))

-- the fields of a record, written again
fields_again : {bytes : List ℕ} → Bytes bytes → 14 ≤ length bytes
    → little_endian 4 (body_length bytes) ++ (little_endian 2 (kind bytes) ++ (little_endian 4 (id_in bytes) ++ (get_or bytes 10 0 ∷ get_or bytes 11 0 ∷ (little_endian 2 (title_length_in bytes) ++ drop 14 bytes)))) ≡ bytes
fields_again {bytes} b long =
    rw (
      number_here 2 12 14 b refl long,
      two_here bytes (omega arith),
      number_here 4 6 10 b refl (omega arith),
      number_here 2 4 6 b refl (omega arith),
    )
    (number_here 4 0 4 b refl (omega arith))

-- a record that is written, field by field
front_open : (task : ImageTask) (rest : List ℕ) → front_of task rest ≡ little_endian 4 (8 + (length task.title + length task.instructions)) ++ (little_endian 2 2 ++ (little_endian 4 task.id ++ (task.count ∷ task.state ∷ (little_endian 2 (length task.title) ++ (task.title ++ (task.instructions ++ rest))))))
front_open task rest =
    framed_open (body task) rest 2 _ (body_size task)
    ∙ ap (λ (l : List ℕ). little_endian 4 (8 + (length task.title + length task.instructions)) ++ (little_endian 2 2 ++ l)) (body_open task rest)

module _ (bytes : List ℕ) where
  pub task_id : (task_at bytes).id ≡ id_in bytes
  unfolding task_at
  task_id = refl

  task_count_is : (task_at bytes).count ≡ get_or bytes 10 0
  unfolding task_at
  task_count_is = refl

  task_state_is : (task_at bytes).state ≡ get_or bytes 11 0
  unfolding task_at
  task_state_is = refl

  task_title_is : (task_at bytes).title ≡ take (title_length_in bytes) (drop 14 bytes)
  unfolding task_at
  task_title_is = refl

-- a record that keeps the rules is what its task is written as
pub record_again : {next_id low : ℕ} {bytes : List ℕ} → Bytes bytes → Rules next_id low bytes → bytes ≡ front_of (task_at bytes) (drop (6 + body_length bytes) bytes)
record_again {bytes = bytes} b r =
    let k : little_endian 2 2 ≡ little_endian 2 (kind bytes) = ap (little_endian 2) (sym r.kind_2) in
    sym
    (front_open (task_at bytes) (drop (6 + body_length bytes) bytes)
    ∙ rw (whole_length r, title_length_is r, tail_is r, task_id bytes, task_count_is bytes, task_state_is bytes, k)
    (fields_again b (omega (arith, r.uncut, r.inside))))

-- and its task is fine
pub fine_is : {next_id low : ℕ} {bytes : List ℕ} → Bytes bytes → Rules next_id low bytes → Fine next_id low (task_at bytes)
fine_is {bytes = bytes} b r =
    record {
      rising = rw (task_id bytes) r.rising;
      below = rw (task_id bytes) r.below;
      states = rw (task_count_is bytes, task_state_is bytes) r.states;
      short = omega (arith, title_length_is r, r.short);
      text = rw (task_title_is bytes) r.text;
      fits = omega (arith, whole_length r, number_fits 4 b 0);
    }

-- ---- the records, read and written again

-- the bytes are the records of fine tasks with rising ids
pub record Again (next_id low : ℕ) (bytes : List ℕ) (tasks : List ImageTask) : Type 0 where
  pub same : bytes ≡ records tasks
  pub rises : Rising next_id low tasks

pub no_bytes : (bytes : List ℕ) → length bytes ≡ 0 → bytes ≡ []
no_bytes [] e = refl
no_bytes (b ∷ bytes) e = absurd (omega arith)

no_records : {next_id low : ℕ} {bytes : List ℕ} {tasks : List ImageTask} → bytes ≡ [] → sound [] ≡ sound tasks → Again next_id low bytes tasks
unfolding records
no_records {next_id} {low} {bytes} {tasks} e q =
    let n : [] ≡ tasks = cc in
    subst (λ (l : List ImageTask). Again next_id low bytes l) n (record { same = e; rises = none })

one_more : {next_id low : ℕ} {bytes : List ℕ} {tasks : List ImageTask} → Bytes bytes → Rules next_id low bytes → Again next_id (id_in bytes + 1) (drop (6 + body_length bytes) bytes) tasks → Again next_id low bytes (task_at bytes ∷ tasks)
unfolding records
one_more {next_id} {low} {bytes} {tasks} b r a =
    record {
      same = record_again b r ∙ ap (λ (l : List ℕ). front_of (task_at bytes) l) a.same;
      rises = more {tasks = tasks} (fine_is b r) (rw (task_id bytes) a.rises);
    }

pub read_again : (bound next_id low place : ℕ) (bytes : List ℕ) (tasks : List ImageTask) → Bytes bytes → read_from bound next_id low place bytes ≡ sound tasks → Again next_id low bytes tasks
read_again zero next_id low place bytes tasks b e = not_bad (sym (read_none next_id low place bytes) ∙ e)
read_again (suc bound) next_id low place bytes tasks b e =
    by (λ us q. read_again bound next_id (id_in bytes + 1) (place + (6 + body_length bytes)) (drop (6 + body_length bytes) bytes) us (bytes_drop (6 + body_length bytes) b) q)
    (goes bound next_id low place bytes tasks e)
  where
    by : ((us : List ImageTask) → read_from bound next_id (id_in bytes + 1) (place + (6 + body_length bytes)) (drop (6 + body_length bytes) bytes) ≡ sound us → Again next_id (id_in bytes + 1) (drop (6 + body_length bytes) bytes) us) → Goes bound next_id low place bytes tasks → Again next_id low bytes tasks
    by later (at_end empty none_left) = no_records (no_bytes bytes empty) none_left
    by later (goes_on some s) = subst (λ (l : List ImageTask). Again next_id low bytes l) s.all (one_more b s.rules (later s.rest s.later))

-- ---- the image, read and written again

two_fours : (next_id count : ℕ) → length (little_endian 4 next_id ++ little_endian 4 count) ≡ 8
unfolding little_endian
two_fours next_id count = refl

head_again : {bytes : List ℕ} → Bytes bytes → Head bytes → bytes ≡ header (next_id_in bytes) (task_count bytes) ++ drop 14 bytes
unfolding header
head_again {bytes} b h =
    let k : little_endian 2 1 ≡ little_endian 2 (kind bytes) = ap (little_endian 2) (sym h.kind_1) in
    let n : little_endian 4 8 ≡ little_endian 4 (body_length bytes) = ap (little_endian 4) (sym h.size) in
    sym
    (framed_open (little_endian 4 (next_id_in bytes) ++ little_endian 4 (task_count bytes)) (drop 14 bytes) 1 8 (two_fours (next_id_in bytes) (task_count bytes))
    ∙ rw (
      append_assoc,
      number_here 4 10 14 b refl (omega (arith, h.uncut, h.size)),
      number_here 4 6 10 b refl (omega (arith, h.uncut, h.size)),
      k,
      number_here 2 4 6 b refl (omega (arith, h.uncut, h.size)),
      n,
    )
    (number_here 4 0 4 b refl (omega (arith, h.uncut, h.size))))

module _ (bytes : List ℕ) (image : Image) (some : 0 < length bytes) (e : read_image bytes ≡ sound image) where
  -- the number of tasks read is the header's count
  pub count_read : length image.tasks ≡ task_count bytes
  count_read = (loaded bytes image some e).count_is

  module _ (b : Bytes bytes) where
    again : Again (next_id_in bytes) 0 (drop 14 bytes) image.tasks
    again = read_again (length bytes) (next_id_in bytes) 0 14 (drop 14 bytes) image.tasks (bytes_drop 14 b) (loaded bytes image some e).read

    -- what reads as sound is sound
    pub load_sound : SoundImage image
    load_sound =
        let l = loaded bytes image some e in
        record { few = rw l.next_id_is l.head.few; tasks = rw l.next_id_is again.rises }

    -- docs/REFERENCE.md, 'The task image': saving after loading a non-empty image gives the same bytes
    pub load_save : written image ≡ bytes
    unfolding written
    load_save =
        let l = loaded bytes image some e in
        sym (head_again b l.head ∙ rw (l.next_id_is, l.count_is, ← again.same))

-- docs/REFERENCE.md, 'The task image': after a zero-length image, a save is a lone kind 1 of zeros
pub save_none : (image : Image) → read_image [] ≡ sound image → written image ≡ header 0 0
unfolding read_image written records
save_none image e =
    let n : record { next_id = 0; tasks = [] } ≡ image = cc in
    subst (λ (i : Image). written i ≡ header 0 0) n (append-nil (header 0 0))
