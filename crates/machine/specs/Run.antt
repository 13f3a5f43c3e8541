-- The run of a machine: instructions one after the other, up to the code's end, the fuel's end, or a refusal.
use Rattle.std.specs.Prelude.{ℕ, zero, suc, cond, List}
use Rattle.storage.specs.declared.Task.{Task}
use Rattle.machine.specs.declared.RunEnd.{RunEnd}
use Rattle.machine.specs.declared.Outcome.{Outcome}
use Rattle.machine.specs.declared.Outcome.TheVariants.{Done, Paused, Refused}
use Rattle.machine.specs.World.{World, world, at_end}
use Rattle.machine.specs.Words.{StepResult, next, refused}
use Rattle.machine.specs.Step.{step}

-- where a run ended, the fuel that is left, and how it ended
pub record End : Type 0 where
  pub world : World
  pub left : ℕ
  pub outcome : Outcome

-- these three together
abbrev pub end_at : World → ℕ → Outcome → End
end_at w left outcome = record { world = w; left = left; outcome = outcome }

-- the same as the code answers it
abbrev pub ran_to : RunEnd → List Task → List ℕ → List ℕ → List ℕ → List ℕ → List ℕ → End
ran_to ran table stack memory pool ends save =
    end_at (world ran.machine table stack memory pool ends save) ran.left ran.outcome

-- on after an instruction, or stopped before a refused one
unfoldable pub follow : (World → End) → World → ℕ → StepResult → End
follow others w left (next v) = others v
follow others w left (refused refusal) = end_at w left (Refused refusal)

-- before each instruction: at the code's end the run is done, else with no fuel it is paused
unfoldable pub run : ℕ → World → End
run zero w = cond (at_end w) (end_at w 0 Done) (end_at w 0 Paused)
run (suc fuel) w = cond (at_end w) (end_at w (suc fuel) Done) (follow (λ v. run fuel v) w (suc fuel) (step w))
