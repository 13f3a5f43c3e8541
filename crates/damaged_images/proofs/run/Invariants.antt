-- `run` ends, since each turn leaves less of the input.
use Rattle.std.proofs.Common.{length}
use Rattle.damaged_images.proofs.run.Given as goal

abbrev pub decreases-loop-first : goal.decreases-loop-first
decreases-loop-first l = length l.rest
