-- What the loop of `stepper::steps` keeps.
use mathlib.Core.Path.{◌≡◌}
use lib.ListN.{length}
use Rattle.mechanism.specs.Steps.{steps}
use Rattle.stepper.proofs.steps.Given as goal

abbrev pub invariant-loop-at : goal.invariant-loop-at
invariant-loop-at l =
    (length l.memory ≡ length l.initial.memory) × (steps l.left l.stack l.memory l.code l.at l.count ≡ steps l.fuel l.initial.stack l.initial.memory l.code l.initial.at l.count)

abbrev pub decreases-loop-at : goal.decreases-loop-at
decreases-loop-at l = l.left
