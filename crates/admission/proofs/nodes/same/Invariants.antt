-- The stacks from the two places on are the same exactly if the two stacks are.
use Rattle.std.proofs.Common.{◌≡◌}
use Rattle.slices.specs.Same.{same}
use Rattle.admission.specs.Nodes.{stacked}
use Rattle.admission.proofs.nodes.same.Given as goal

abbrev pub invariant-loop-left : goal.invariant-loop-left
invariant-loop-left l = same (stacked l.cells l.left) (stacked l.cells l.right) ≡ same (stacked l.cells l.one) (stacked l.cells l.other)

abbrev pub decreases-loop-left : goal.decreases-loop-left
decreases-loop-left l = l.left
