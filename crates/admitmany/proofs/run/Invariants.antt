-- `run` ends, since each turn leaves less of the input.
use Rattle.std.proofs.Common.{length}
use Rattle.admitmany.proofs.run.Given as goal

abbrev pub decreases-loop-size : goal.decreases-loop-size
decreases-loop-size l = length l.rest
