-- What the loop of `text::pieces::put_pieces` keeps.
use Prim.Native.Nat.{◌-◌}
use lib.ListN.{length}
use Rattle.text.proofs.Loops.{Putting}
use Rattle.text.proofs.pieces.put_pieces.Given as goal

abbrev pub invariant-loop-place : goal.invariant-loop-place
invariant-loop-place l = Putting l.cut l.bytes l.numbers l.initial.out l.at l.out l.behind l.place l.used

abbrev pub decreases-loop-place : goal.decreases-loop-place
decreases-loop-place l = length l.bytes - l.place
