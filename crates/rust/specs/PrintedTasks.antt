-- What print_task answers after a first run of a program without tasks, within 20 turns: every answer was taken from the Rust itself, run unchanged on the same bytes.
use Rattle.std.specs.Prelude.{ℕ, List, [], ◌∷◌, ◌≡◌}
use Rattle.std.proofs.Math.Option.{Option, none, some}
use Rattle.rust.specs.Errors.{Out, ok, err, panic, TaskNotFound, InvalidInstructionsIndex, BytesToStringConversionError}
use Rattle.rust.specs.TaskTypes.{Task}
use Rattle.rust.specs.Vm.{VM}
use Rattle.rust.specs.Run.{init, Ran, returned, running, failed, panicked, run}
use Rattle.rust.specs.Unbox.{print_task}

-- after a run that returned
unfoldable pub printed_after : ℕ → Ran → Option (Out Task)
printed_after id (returned values after) = some (print_task after id)
printed_after id (running after) = none
printed_after id (failed error before) = none
printed_after id panicked = none

-- of a machine, where init makes one
unfoldable pub printed_by : ℕ → Out VM → Option (Out Task)
printed_by id (ok vm) = printed_after id (run 20 vm)
printed_by id (err error) = none
printed_by id panic = none

unfoldable pub printed : List ℕ → ℕ → Option (Out Task)
printed program id = printed_by id (init program (record { tasks = []; next_id = 0 }))

pub record PrintedTasks : Type 0 where
  -- a title, a state that was set, of three, and instructions
  pub whole : printed (0x1b ∷ 0x00 ∷ 0x02 ∷ 0x04 ∷ 0x01 ∷ 0x41 ∷ 0x62 ∷ 0x06 ∷ 0x03 ∷ 0x04 ∷ 0x00 ∷ 0x02 ∷ 0x03 ∷ 0x05 ∷ 0x07 ∷ 0x06 ∷ 0x02 ∷ 0x03 ∷ 0x00 ∷ 0x05 ∷ 0x01 ∷ 0x09 ∷ []) 0 ≡ some (ok (record { id = 0; title = 0x41 ∷ 0x62 ∷ []; state = record { len = 3; state = 2 }; instructions = 0x03 ∷ 0x05 ∷ [] }))
  -- no title, and instructions of one byte
  pub one_byte : printed (0x1b ∷ 0x00 ∷ 0x00 ∷ 0x04 ∷ 0x00 ∷ 0x03 ∷ 0x01 ∷ 0x04 ∷ 0x00 ∷ 0x01 ∷ 0x12 ∷ 0x07 ∷ []) 0 ≡ some (ok (record { id = 0; title = []; state = record { len = 1; state = 0 }; instructions = 0x12 ∷ [] }))
  -- no such id
  pub not_there : printed (0x1b ∷ 0x00 ∷ 0x00 ∷ 0x04 ∷ 0x00 ∷ 0x03 ∷ 0x01 ∷ 0x04 ∷ 0x00 ∷ 0x01 ∷ 0x12 ∷ 0x07 ∷ []) 1 ≡ some (err (TaskNotFound 1))
  -- a task that was deleted
  pub deleted : printed (0x1b ∷ 0x00 ∷ 0x00 ∷ 0x04 ∷ 0x00 ∷ 0x03 ∷ 0x01 ∷ 0x04 ∷ 0x00 ∷ 0x00 ∷ 0x07 ∷ 0x03 ∷ 0x00 ∷ 0x0a ∷ []) 0 ≡ some (err (TaskNotFound 0))
  -- a reference that names no entry is told before a title that is not UTF-8
  pub no_entry : printed (0x1b ∷ 0x00 ∷ 0x01 ∷ 0x04 ∷ 0x01 ∷ 0xff ∷ 0x03 ∷ 0x01 ∷ 0x03 ∷ 0x09 ∷ 0x07 ∷ []) 0 ≡ some (err (InvalidInstructionsIndex 9))
  -- a title that is not UTF-8
  pub no_text : printed (0x1b ∷ 0x00 ∷ 0x01 ∷ 0x04 ∷ 0x01 ∷ 0xff ∷ 0x03 ∷ 0x01 ∷ 0x04 ∷ 0x00 ∷ 0x00 ∷ 0x07 ∷ []) 0 ≡ some (err BytesToStringConversionError)
