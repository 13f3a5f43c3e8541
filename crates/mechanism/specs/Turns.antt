-- What an instruction that needs a task, a frame or the pool makes of a machine on its way.
use Rattle.std.specs.Prelude.{ℕ, ◌+◌, ◌-◌, Ok, Err, Result}
use Rattle.machine.specs.declared.Machine.{Machine}
use Rattle.machine.specs.Machines.{with_saved}
use Rattle.mechanism.specs.Registers.{registers_of}
use Rattle.mechanism.specs.Registers.{machine_at}
use Rattle.mechanism.specs.Advance.{ended}
use Rattle.mechanism.specs.declared.Progress.{Progress}
use Rattle.mechanism.specs.declared.Standing.TheVariants.{Going}
use Rattle.machine.specs.declared.Outcome.TheVariants as outcome
use Rattle.errors.specs.declared.Refusal.{Refusal}

-- a run that goes on, as at its beginning
abbrev pub going_on : Machine → ℕ → Progress
going_on machine left = record { machine = machine; left = left; standing = Going }

-- one unit of fuel to a finished instruction
abbrev pub spent : ℕ → ℕ
spent left = left - 1

-- it goes on, or is refused with the machine as before
unfoldable pub turned : Machine → ℕ → Result Machine Refusal → Progress
turned machine left (Ok after) = going_on after (spent left)
turned machine left (Err refusal) = ended machine left (outcome.Refused refusal)

-- what S_SAVE answers: the length of the image is kept
unfoldable pub save_result : Machine → Result ℕ Refusal → Result Machine Refusal
save_result machine (Ok length) =
    Ok (with_saved (machine_at machine ((registers_of machine).place + 1) machine.height) length)
save_result machine (Err refusal) = Err refusal
