-- `text::pieces::measure_pieces` meets its contract.
use Rattle.text.proofs.Loops.{measured_turn, measured_short}
use Rattle.text.proofs.pieces.measure_pieces.Goals as goal

pub returns-then-left-size : goal.returns-then-left-size
returns-then-left-size c =
    measured_short _ _ _ c.turn-front.ensures c.size_of-size.ensures c.loop-place.invariant c.if-left-size.true

pub loop-place-preserved : goal.loop-place-preserved
loop-place-preserved c =
    measured_turn _ _ _ c.turn-front.ensures c.size_of-size.ensures c.loop-place.invariant c.if-left-size.false
