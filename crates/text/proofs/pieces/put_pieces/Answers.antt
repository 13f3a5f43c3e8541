-- `text::pieces::put_pieces` meets its contract.
use Rattle.text.proofs.Loops.{putting_turn}
use Rattle.text.proofs.pieces.put_pieces.Goals as goal

pub loop-place-preserved : goal.loop-place-preserved
loop-place-preserved c =
    putting_turn _ _ _ c.turn-front.ensures c.loop-place.invariant c.put_piece-behind.ensures.0 c.put_piece-behind.ensures.1
