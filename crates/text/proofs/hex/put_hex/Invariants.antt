-- What the loop of `text::hex::put_hex` keeps.
use Rattle.text.proofs.Hexes.{Hexing}
use Rattle.text.proofs.hex.put_hex.Given as goal

abbrev pub invariant-loop-i : goal.invariant-loop-i
invariant-loop-i l = Hexing l.initial.out l.at l.bytes l.out l.i
