-- The task image: the bytes of a set of tasks, and which bytes are a sound image of which tasks.
use Rattle.std.specs.Prelude.{ℕ, zero, suc, ◌+◌, ◌-◌, ◌<◌, ◌≤◌, Bool, true, cond, ◌&&◌, List, [], ◌∷◌, ◌++◌, ◌≡◌, length, get_or, take, drop, ltb, leb, eqb}
use Rattle.utf8.specs.Utf8.{valid}
use Rattle.slices.specs.Numbers.{little_endian, number_at}

-- a task as the image holds it
pub record ImageTask : Type 0 where
  pub id : ℕ
  pub count : ℕ
  pub state : ℕ
  pub title : List ℕ
  pub instructions : List ℕ

-- the next id, and the living tasks by rising id
pub record Image : Type 0 where
  pub next_id : ℕ
  pub tasks : List ImageTask

-- ---- the bytes

-- a record: 4-byte body length, 2-byte kind, body
unfoldable pub record_of : ℕ → List ℕ → List ℕ
record_of kind body = little_endian 4 (length body) ++ little_endian 2 kind ++ body

-- kind 1: next id, task count (4 bytes each)
unfoldable pub header : ℕ → ℕ → List ℕ
header next_id count = record_of 1 (little_endian 4 next_id ++ little_endian 4 count)

-- the body of kind 2: id (4), state count (1), state (1), title length (2), title, instructions
unfoldable pub body : ImageTask → List ℕ
body task =
    little_endian 4 task.id ++ task.count ∷ task.state ∷ little_endian 2 (length task.title) ++ task.title ++ task.instructions

-- kind 2 per living task
unfoldable pub records : List ImageTask → List ℕ
records [] = []
records (task ∷ tasks) = record_of 2 (body task) ++ records tasks

-- the image: first kind 1, then kind 2 per living task
unfoldable pub written : Image → List ℕ
written image = header image.next_id (length image.tasks) ++ records image.tasks

-- ---- what is sound

-- a task whose id is at least `low` and below the next id: state below count, title UTF-8 and within 128, a body length of 4 bytes
pub record Fine (next_id low : ℕ) (task : ImageTask) : Type 0 where
  pub rising : low ≤ task.id
  pub below : task.id < next_id
  pub states : task.state < task.count
  pub short : length task.title ≤ 128
  pub text : valid task.title ≡ true
  pub fits : 8 + length task.title + length task.instructions < 4294967296

-- ids rising, from `low` on
pub data Rising (next_id : ℕ) : ℕ → List ImageTask → Type 0 where
  none : {low : ℕ} → Rising next_id low []
  more : {low : ℕ} {task : ImageTask} {tasks : List ImageTask} → Fine next_id low task → Rising next_id (task.id + 1) tasks → Rising next_id low (task ∷ tasks)

-- next id at most 256, and each task fine
pub record SoundImage (image : Image) : Type 0 where
  pub few : image.next_id ≤ 256
  pub tasks : Rising image.next_id 0 image.tasks

-- ---- reading

-- what reading finds, or the place of the first record that is cut or breaks a rule
pub data Parsed (A : Type 0) : Type 0 where
  sound : A → Parsed A
  bad_at : ℕ → Parsed A

-- the body length of a record at the front of some bytes
abbrev pub body_length : List ℕ → ℕ
body_length bytes = number_at 4 bytes 0

-- its kind
abbrev pub kind : List ℕ → ℕ
kind bytes = number_at 2 bytes 4

-- the next id of a kind 1
abbrev pub next_id_in : List ℕ → ℕ
next_id_in bytes = number_at 4 bytes 6

-- its task count
abbrev pub task_count : List ℕ → ℕ
task_count bytes = number_at 4 bytes 10

-- the id of a kind 2
abbrev pub id_in : List ℕ → ℕ
id_in bytes = number_at 4 bytes 6

-- its title length
abbrev pub title_length_in : List ℕ → ℕ
title_length_in bytes = number_at 2 bytes 12

-- the task of a kind 2 record
unfoldable pub task_at : List ℕ → ImageTask
task_at bytes = record {
  id = id_in bytes;
  count = get_or bytes 10 0;
  state = get_or bytes 11 0;
  title = take (title_length_in bytes) (drop 14 bytes);
  instructions = take (body_length bytes - 8 - title_length_in bytes) (drop (title_length_in bytes) (drop 14 bytes));
}

-- the first record is not cut, is a kind 1 of 8 bytes, and its next id is at most 256
unfoldable pub headed : List ℕ → Bool
headed bytes =
    leb (6 + body_length bytes) (length bytes)
    && (eqb (kind bytes) 1 && (eqb (body_length bytes) 8 && leb (next_id_in bytes) 256))

-- the rules of a kind 2 record: not cut, its title inside its body, and its task fine
unfoldable pub good : ℕ → ℕ → List ℕ → Bool
good next_id low bytes =
    leb (6 + body_length bytes) (length bytes)
    && (eqb (kind bytes) 2
    && (leb 8 (body_length bytes)
    && (leb low (id_in bytes)
    && (ltb (id_in bytes) next_id
    && (ltb (get_or bytes 11 0) (get_or bytes 10 0)
    && (leb (title_length_in bytes) 128
    && (leb (8 + title_length_in bytes) (body_length bytes)
    && valid (take (title_length_in bytes) (drop 14 bytes)))))))))

-- a task before those found
unfoldable pub task_before : ImageTask → Parsed (List ImageTask) → Parsed (List ImageTask)
task_before task (sound tasks) = sound (task ∷ tasks)
task_before task (bad_at place) = bad_at place

-- the records from a place on, ids from `low` on; the first number bounds how many there can be
unfoldable pub read_from : ℕ → ℕ → ℕ → ℕ → List ℕ → Parsed (List ImageTask)
read_from zero next_id low place bytes = bad_at place
read_from (suc bound) next_id low place bytes =
    cond (eqb (length bytes) 0) (sound [])
    (cond (good next_id low bytes)
    (task_before (task_at bytes) (read_from bound next_id (id_in bytes + 1) (place + (6 + body_length bytes)) (drop (6 + body_length bytes) bytes)))
    (bad_at place))

-- a wrong count is at 0, and is tested last
unfoldable pub with_count : ℕ → ℕ → Parsed (List ImageTask) → Parsed Image
with_count next_id count (sound tasks) = cond (eqb (length tasks) count) (sound (record { next_id = next_id; tasks = tasks })) (bad_at 0)
with_count next_id count (bad_at place) = bad_at place

-- a zero-length image means none; else a header, and the records behind it with nothing left over
unfoldable pub read_image : List ℕ → Parsed Image
read_image bytes =
    cond (eqb (length bytes) 0) (sound (record { next_id = 0; tasks = [] }))
    (cond (headed bytes)
    (with_count (next_id_in bytes) (task_count bytes) (read_from (length bytes) (next_id_in bytes) 0 14 (drop 14 bytes)))
    (bad_at 0))
