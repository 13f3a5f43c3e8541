-- What the run's loop keeps: it comes to the same end; and how many turns there are left.
use Rattle.std.proofs.Common.{◌≡◌}
use Rattle.machine.specs.World.{world}
use Rattle.machine.specs.Run as runs
use Rattle.runner.specs.Going.{going}
use Rattle.runner.proofs.Runs.{comes_to, turns_left}
use Rattle.runner.proofs.run.Given as goal

abbrev pub invariant-loop-progress : goal.invariant-loop-progress
invariant-loop-progress l =
    comes_to (going l.progress l.table l.stack l.memory l.pool l.ends l.save)
    ≡ runs.run l.fuel (world l.fn.machine l.initial.table l.initial.stack l.initial.memory l.initial.pool l.initial.ends l.initial.save)

abbrev pub decreases-loop-progress : goal.decreases-loop-progress
decreases-loop-progress l = turns_left (going l.progress l.table l.stack l.memory l.pool l.ends l.save)
