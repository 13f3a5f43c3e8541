-- A task of the image as a slot of the table holds it, and back.
use Rattle.std.specs.Prelude.{ℕ, List, take}
use Rattle.pools.specs.Pool.{entry_of}
use Rattle.pools.specs.declared.InstructionsRef.{InstructionsRef}
use Rattle.storage.specs.declared.Task.{Task}
use Rattle.storage.specs.Tasks.{new_task}
use Rattle.image.specs.Image.{ImageTask}

-- a living slot with the task, its instructions named by a reference
unfoldable pub loaded_task : ImageTask → InstructionsRef → Task
loaded_task task reference =
    new_task (record { 0 = task.id }) task.title (record { len = task.count; state = task.state }) reference

-- the title of a slot
abbrev pub title_in : Task → List ℕ
title_in slot = take slot.title_len slot.title

-- the task of a slot, with its instructions
unfoldable pub saved_task : Task → List ℕ → ImageTask
saved_task slot instructions = record {
  id = slot.id.0;
  count = slot.state.len;
  state = slot.state.state;
  title = title_in slot;
  instructions = instructions;
}

-- the task of a slot, its instructions being its entry of the pool
unfoldable pub task_in : List ℕ → List ℕ → Task → ImageTask
task_in pool ends slot = saved_task slot (entry_of pool ends slot.instructions_ref.0)
