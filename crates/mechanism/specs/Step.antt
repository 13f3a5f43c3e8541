-- One instruction, as the code goes about it: one on the registers alone, one on the record of the slot that it names, or a save.
use Rattle.std.specs.Prelude.{ℕ, Bool, cond, List, eqb, get_or, Ok, Err, Result}
use Rattle.bytecode.specs.Opcodes.{S_SAVE}
use Rattle.storage.specs.Tasks.{blank}
use Rattle.mechanism.specs.Changes.{applied}
use Rattle.mechanism.specs.Registers.{OnMemory}
use Rattle.mechanism.specs.Execute.{instruct}
use Rattle.mechanism.specs.Steps.{is_outer}
use Rattle.mechanism.specs.Registers.{registers_of, settled}
use Rattle.mechanism.specs.Act.{OnAll, act}
use Rattle.mechanism.specs.Advance.{wanted}
use Rattle.mechanism.specs.Turns.{save_result}
use Rattle.machine.specs.World.{World, world, code, op}
use Rattle.machine.specs.Words.{StepResult, next, refused}
use Rattle.machine.specs.Opcodes.{saving}
use Rattle.errors.specs.declared.Refusal.{Refusal}
use Rattle.mechanism.specs.declared.Change.{Change}
use Rattle.mechanism.specs.declared.Registers.{Registers}
use Rattle.machine.specs.declared.Machine.{Machine}

-- ---- an instruction that needs no task, frame or pool

unfoldable pub inner_result : World → List ℕ → List ℕ → Result Registers Refusal → StepResult
inner_result w stack memory (Ok registers) =
    next (world (settled w.machine registers) w.table stack memory w.pool w.ends w.save)
inner_result w stack memory (Err refusal) = refused refusal

-- what such an instruction answers, as a step
abbrev pub on_registers : World → OnMemory → StepResult
on_registers w after = inner_result w after.stack after.memory after.result

unfoldable pub inner : World → StepResult
inner w = on_registers w (instruct w.stack w.memory (code w) (registers_of w.machine) w.machine.count)

-- ---- one that needs a task, a frame or the pool: it works on the record of the slot that it names

unfoldable pub acts_result : World → ℕ → OnAll → Result (Machine × Change) Refusal → StepResult
acts_result w slot after (Ok (machine, change)) =
    next (world machine (applied w.table slot change) after.stack after.memory after.pool after.ends w.save)
acts_result w slot after (Err refusal) = refused refusal

-- what such an instruction answers, as a step
abbrev pub on_record : World → ℕ → OnAll → StepResult
on_record w slot after = acts_result w slot after after.acted

abbrev pub acted_at : World → ℕ → OnAll
acted_at w slot = act w.stack w.memory w.pool w.ends w.machine (get_or w.table slot blank)

unfoldable pub acts : World → ℕ → StepResult
acts w slot = on_record w slot (acted_at w slot)

-- ---- S_SAVE

unfoldable pub saves_result : World → List ℕ → Result Machine Refusal → StepResult
saves_result w save (Ok machine) = next (world machine w.table w.stack w.memory w.pool w.ends save)
saves_result w save (Err refusal) = refused refusal

unfoldable pub saves : World → StepResult
saves w = saves_result w (saving w).save (save_result w.machine (saving w).answer)

-- ---- an instruction

-- one that saves, or names a slot
unfoldable pub outer : World → Bool → ℕ → StepResult
outer w is-save slot = cond is-save (saves w) (acts w slot)

-- the instruction at the place
unfoldable pub step_by_parts : World → StepResult
step_by_parts w = cond (is_outer (op w)) (outer w (eqb (op w) S_SAVE) (wanted w.stack w.machine (op w))) (inner w)
