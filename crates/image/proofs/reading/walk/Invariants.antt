-- What the loop of `image::reading::walk` keeps.
use Rattle.std.proofs.Common.{◌-◌, length}
use Rattle.image.proofs.Walks.{Inv}
use Rattle.image.proofs.reading.walk.Given as goal

abbrev pub invariant-loop-at : goal.invariant-loop-at
invariant-loop-at l =
    Inv l.image l.next_id.0 l.at l.low l.count l.sum

abbrev pub decreases-loop-at : goal.decreases-loop-at
decreases-loop-at l =
    length l.image - l.at
