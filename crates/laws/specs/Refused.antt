-- A call of a host that is refused outside an instruction.
use Rattle.std.specs.Prelude.{ℕ, ◌≡◌, Err}
use Rattle.errors.specs.declared.Refusal.{Refusal}
use Rattle.errors.specs.declared.Refusal.TheVariants.{WrongPhaseOrUnsound}
use Rattle.storage.specs.declared.TaskId.{TaskId}
use Rattle.machine.specs.declared.Verb.{Verb}
use Rattle.machine.specs.declared.Outcome.TheVariants.{Refused}
use Rattle.machine.specs.World.{World}
use Rattle.machine.specs.Calls.{call}
use Rattle.machine.specs.Reads.{host_save, value_read, task_read}
use Rattle.machine.specs.History.{HostCall, runs, saves, reads_value, reads_task}

-- a start or a continue that answers 26; a save or a read that answers a refusal
pub data RefusedOutside (w : World) : HostCall → Type 0 where
  not_run : (verb : Verb) (fuel : ℕ) → (call verb fuel w).report.outcome ≡ Refused WrongPhaseOrUnsound → RefusedOutside w (runs verb fuel)
  not_saved : (refusal : Refusal) → (host_save w).report.result ≡ Err refusal → RefusedOutside w saves
  no_value : (position : ℕ) (refusal : Refusal) → (value_read position w).answer ≡ Err refusal → RefusedOutside w (reads_value position)
  no_task : (id : TaskId) (refusal : Refusal) → (task_read id w).answer.result ≡ Err refusal → RefusedOutside w (reads_task id)
