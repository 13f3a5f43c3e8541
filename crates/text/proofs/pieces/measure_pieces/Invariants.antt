-- What the loop of `text::pieces::measure_pieces` keeps.
use Prim.Native.Nat.{◌-◌}
use lib.ListN.{length}
use Rattle.text.proofs.Loops.{Measured}
use Rattle.text.proofs.pieces.measure_pieces.Given as goal

abbrev pub invariant-loop-place : goal.invariant-loop-place
invariant-loop-place l = Measured l.cut l.bytes l.numbers l.room l.left l.place l.used

abbrev pub decreases-loop-place : goal.decreases-loop-place
decreases-loop-place l = length l.bytes - l.place
