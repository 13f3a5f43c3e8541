-- The run of the current code, up to an instruction that needs a task, a frame or the pool.
use Rattle.std.specs.Prelude.{ℕ, ◌-◌, cond, List, eqb, get_or, Ok, Err, Result}
use Rattle.bytecode.specs.Opcodes.{T_CREATE, T_GET_FIELD, T_SET_FIELD}
use Rattle.inlinevec.specs.Stacks.{pop}
use Rattle.values.specs.Values.{to_u32}
use Rattle.mechanism.specs.Steps.{Halted, steps}
use Rattle.machine.specs.declared.Machine.{Machine}
use Rattle.mechanism.specs.declared.Halt.{Halt}
use Rattle.mechanism.specs.declared.Halt.TheVariants as halt
use Rattle.machine.specs.Machines.{code_of}
use Rattle.mechanism.specs.Registers.{registers_of, settled}
use Rattle.mechanism.specs.declared.Progress.{Progress}
use Rattle.mechanism.specs.declared.Standing.TheVariants.{AtHand, Ended}
use Rattle.machine.specs.declared.Outcome.{Outcome}
use Rattle.machine.specs.declared.Outcome.TheVariants.{Done, Paused, Refused}
use Rattle.errors.specs.declared.Refusal.{Refusal}

-- the slot that the last value names; past the last slot where there is none
unfoldable pub named_by : Result (ℕ × ℕ) Refusal → ℕ
named_by (Ok (value, height)) = to_u32 value
named_by (Err refusal) = 256

unfoldable pub named : List ℕ → ℕ → ℕ
named stack height = named_by (pop stack height)

-- the slot that an instruction names: the next id's, that of the value below the field, that of the value on top
unfoldable pub wanted : List ℕ → Machine → ℕ → ℕ
wanted stack machine op =
    cond (eqb op T_CREATE) machine.next_id.0
    (cond (eqb machine.height 0) 256
    (cond (eqb op T_GET_FIELD) (named stack (machine.height - 1))
    (cond (eqb op T_SET_FIELD) (named stack (machine.height - 1)) (named stack machine.height))))

-- at an outcome
abbrev pub ended : Machine → ℕ → Outcome → Progress
ended machine left outcome = record { machine = machine; left = left; standing = Ended outcome }

-- before an instruction of this opcode
abbrev pub at_hand : Machine → ℕ → ℕ → Progress
at_hand machine left op = record { machine = machine; left = left; standing = AtHand op }

-- why the steps halted, and what is at hand
unfoldable pub halted_at : Machine → ℕ → ℕ → Halt → Progress
halted_at machine op left halt.AtEnd = ended machine left Done
halted_at machine op left halt.OutOfFuel = ended machine left Paused
halted_at machine op left (halt.Refused refusal) = ended machine left (Refused refusal)
halted_at machine op left halt.Outer = at_hand machine left op

-- a machine on its way, the stack, memory, pool and ends then
pub record ProgressOn : Type 0 where
  pub progress : Progress
  pub stack : List ℕ
  pub memory : List ℕ
  pub pool : List ℕ
  pub ends : List ℕ

-- these five together
abbrev pub progress_on : Progress → List ℕ → List ℕ → List ℕ → List ℕ → ProgressOn
progress_on progress stack memory pool ends = record { progress = progress; stack = stack; memory = memory; pool = pool; ends = ends }

-- where the steps of the current code halted
unfoldable pub after_steps : List ℕ → List ℕ → Machine → Halted → ProgressOn
after_steps pool ends machine h =
    progress_on
    (halted_at (settled machine h.at.registers) (get_or (code_of pool ends machine) h.at.registers.place 0) h.at.left h.at.halt)
    h.stack h.memory pool ends

-- the run of the current code from the machine's place on
unfoldable pub advance : List ℕ → List ℕ → List ℕ → List ℕ → Machine → ℕ → ProgressOn
advance stack memory pool ends machine fuel =
    after_steps pool ends machine (steps fuel stack memory (code_of pool ends machine) (registers_of machine) machine.count)
