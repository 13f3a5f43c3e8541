-- A turn of the loop writes one kind.
use Rattle.admission.proofs.Ending.{written_turn, written_end}
use Rattle.admission.proofs.decision.write_kinds.Goals as goal

pub loop-place-preserved : goal.loop-place-preserved
loop-place-preserved c = written_turn _ _ _ _ _ _ c.loop-place-test.true c.top.ensures c.below-at.ensures c.loop-place.invariant

pub returns : goal.returns
returns c = written_end _ _ _ _ c.loop-place-test.false c.loop-place.invariant
