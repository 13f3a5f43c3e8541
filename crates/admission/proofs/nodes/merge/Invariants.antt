-- The cells keep their stacks, and those of the two places are the same.
use Rattle.std.proofs.Common.{◌≡◌}
use Rattle.admission.specs.Nodes.{stacked, Kept}
use Rattle.admission.proofs.nodes.merge.Given as goal

abbrev pub invariant-loop-left : goal.invariant-loop-left
invariant-loop-left l = Kept l.initial.cells l.cells × (stacked l.cells l.left ≡ stacked l.cells l.right)

abbrev pub decreases-loop-left : goal.decreases-loop-left
decreases-loop-left l = l.left
