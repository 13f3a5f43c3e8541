-- The cells keep their stacks, and the jumps before the place are right.
use Rattle.std.proofs.Common.{◌-◌, length}
use Rattle.admission.specs.Nodes.{Kept}
use Rattle.admission.proofs.Landings.{Looking}
use Rattle.admission.proofs.jumps.wrong_jump.Given as goal

abbrev pub invariant-loop-at : goal.invariant-loop-at
invariant-loop-at l = Kept l.initial.cells l.cells × Looking l.code l.at

abbrev pub decreases-loop-at : goal.decreases-loop-at
decreases-loop-at l = length l.code - l.at
