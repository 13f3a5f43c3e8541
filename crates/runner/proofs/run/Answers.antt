-- `runner::run`: the loop begins at the run's start, comes to the same end with fewer turns to come, and ends there.
use Rattle.std.proofs.Common.{arith, sym, ◌∙◌}
use Rattle.runner.specs.Going.{going}
use Rattle.runner.proofs.Runs.{ended}
use Rattle.runner.proofs.Turns.{begins_same, goes_at, goes_same, goes_fewer}
use Rattle.runner.proofs.run.Goals as goal

pub loop-progress-init : goal.loop-progress-init
loop-progress-init c = begins_same _ _ _ _ _ _ _ _ c.going_on-progress.ensures

pub returns-in-Ended : goal.returns-in-Ended
returns-in-Ended c =
    sym
    (ended (going c.loop-progress.progress c.loop-progress.table c.loop-progress.stack c.loop-progress.memory c.loop-progress.pool c.loop-progress.ends c.loop-progress.save) c.in-Ended.is)
    ∙ c.loop-progress.invariant

pub loop-progress-smaller : goal.loop-progress-smaller
loop-progress-smaller c =
    goes_fewer (going c.loop-progress.progress c.loop-progress.table c.loop-progress.stack c.loop-progress.memory c.loop-progress.pool c.loop-progress.ends c.loop-progress.save)
    (omega (arith, c.loop-progress.auto.pool)) (goes_at _ c.advance-progress.ensures c.turn-progress.ensures) c.in_default.not-Ended

pub loop-progress-preserved : goal.loop-progress-preserved
loop-progress-preserved c =
    goes_same (going c.loop-progress.progress c.loop-progress.table c.loop-progress.stack c.loop-progress.memory c.loop-progress.pool c.loop-progress.ends c.loop-progress.save)
    (omega (arith, c.loop-progress.auto.pool)) (goes_at _ c.advance-progress.ensures c.turn-progress.ensures) c.in_default.not-Ended c.loop-progress.invariant
