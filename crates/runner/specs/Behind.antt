-- The place behind an instruction without operands, and a machine there after a save.
use Rattle.std.specs.Prelude.{ℕ, ◌+◌, ◌%◌, ◌^◌, Ok, Err, Result}
use Rattle.machine.specs.declared.Machine.{Machine}
use Rattle.machine.specs.Machines.{current, with_saved}
use Rattle.mechanism.specs.Registers.{machine_at}
use Rattle.mechanism.specs.Turns.{turned}
use Rattle.mechanism.specs.declared.Progress.{Progress}
use Rattle.errors.specs.declared.Refusal.{Refusal}

unfoldable pub next_of : Machine → ℕ
next_of machine = ((current machine.frames).place + 1) % 2 ^ 64

-- what S_SAVE answers: the length of the image is kept
unfoldable pub save_answered : Machine → Result ℕ Refusal → Result Machine Refusal
save_answered machine (Ok length) = Ok (with_saved (machine_at machine (next_of machine) machine.height) length)
save_answered machine (Err refusal) = Err refusal

unfoldable pub saved : Machine → ℕ → Result ℕ Refusal → Progress
saved machine left result = turned machine left (save_answered machine result)
