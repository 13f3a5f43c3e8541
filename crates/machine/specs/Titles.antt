-- Fields of a task: a title as memory and a record hold it, and a record with another title or other instructions.
use Rattle.std.specs.Prelude.{ℕ, min, cond, List, take, Ok, Err, Result, ⊤}
use Rattle.values.specs.declared.FatPointer.{FatPointer}
use Rattle.memory.specs.Change.{inside}
use Rattle.memory.specs.Reads.{outside}
use Rattle.pools.specs.declared.InstructionsRef.{InstructionsRef}
use Rattle.storage.specs.declared.Task.{Task}
use Rattle.storage.specs.Tasks.{new_task}
use Rattle.errors.specs.declared.Refusal.{Refusal}

-- a vector lies in the memory in use, or 14 with its offset and size
unfoldable pub within : List ℕ → FatPointer → Result ⊤ Refusal
within memory pointer = cond (inside memory pointer) (Ok tt) (Err (outside pointer))

-- the length and the bytes of a record's title
abbrev pub title_length : Task → ℕ
title_length task = min 128 task.title_len

unfoldable pub title_bytes : Task → List ℕ
title_bytes task = take (title_length task) task.title

-- the task with another title
abbrev pub retitled : Task → List ℕ → Task
retitled task title = new_task task.id title task.state task.instructions_ref

-- the task with other instructions
abbrev pub retargeted : Task → InstructionsRef → Task
retargeted task reference = record {
  living = task.living;
  id = task.id;
  state = task.state;
  instructions_ref = reference;
  title_len = task.title_len;
  title = task.title;
}
