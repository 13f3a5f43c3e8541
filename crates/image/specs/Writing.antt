-- How the code measures and writes the record of a slot. Nobody has to believe it: what is saved is said in Table, and table_image proves that it is this.
use Rattle.std.specs.Prelude.{ℕ, cond, List, length, Ok, Err, Result}
use Rattle.std.proofs.lemmas.List.Edits.{sets}
use Rattle.errors.specs.declared.Refusal.TheVariants.{BytesToStringConversionError}
use Rattle.pools.specs.Pool.{bounds}
use Rattle.storage.specs.declared.Task.{Task}
use Rattle.utf8.specs.Utf8.{valid}
use Rattle.image.specs.Image.{ImageTask, record_of, body}
use Rattle.image.specs.Slots.{task_in}
use Rattle.image.specs.Walking.{on}
use Rattle.errors.specs.declared.Refusal.{Refusal}

-- an answer, and the pool and its ends after it
pub record Stepped (A : Type 0) : Type 0 where
  pub answer : A
  pub pool : List ℕ
  pub ends : List ℕ

-- these three together
abbrev pub stepped : {A : Type 0} → A → List ℕ → List ℕ → Stepped A
stepped answer pool ends = record { answer = answer; pool = pool; ends = ends }

-- the place behind what was written, and the buffer after it
pub record Put : Type 0 where
  pub place : ℕ
  pub save : List ℕ

-- these two together
abbrev pub put : ℕ → List ℕ → Put
put place save = record { place = place; save = save }

-- bytes written from a place on, as far as the buffer reaches
unfoldable pub puts : List ℕ → ℕ → List ℕ → Put
puts save place bytes = put (on (length save) place (length bytes)) (sets save place bytes)

-- the size of a task's record, where its title is UTF-8
unfoldable pub size_of : ImageTask → Result ℕ Refusal
size_of task = cond (valid task.title) (Ok (length (record_of 2 (body task)))) (Err BytesToStringConversionError)

-- the same, where there is an entry
unfoldable pub sized : ImageTask → Result (ℕ × ℕ) Refusal → Result ℕ Refusal
sized task (Err refusal) = Err refusal
sized task (Ok (start, end)) = size_of task

-- S_SAVE tests each task: 12, then 15
unfoldable pub measure : List ℕ → List ℕ → ℕ → Task → Result ℕ Refusal
measure pool ends entries slot = sized (task_in pool ends slot) (bounds ends entries slot.instructions_ref)

-- one record more, counted no further than a limit
unfoldable pub added : ℕ → ℕ → Result ℕ Refusal → Result ℕ Refusal
added limit size (Err refusal) = Err refusal
added limit size (Ok more) = Ok (on limit size more)

-- a living slot is measured
unfoldable pub measure_slot : List ℕ → List ℕ → ℕ → ℕ → Task → ℕ → Result ℕ Refusal
measure_slot pool ends entries limit slot size = cond slot.living (added limit size (measure pool ends entries slot)) (Ok size)

-- a living slot's record from a place on
unfoldable pub save_slot : List ℕ → List ℕ → Task → ℕ → List ℕ → Put
save_slot pool ends slot place save = cond slot.living (puts save place (record_of 2 (body (task_in pool ends slot)))) (put place save)
