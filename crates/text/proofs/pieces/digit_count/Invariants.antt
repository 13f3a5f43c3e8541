-- What the loop of `text::pieces::digit_count` keeps.
use Rattle.text.proofs.Decimals.{Counting}
use Rattle.text.proofs.pieces.digit_count.Given as goal

abbrev pub invariant-loop-rest : goal.invariant-loop-rest
invariant-loop-rest l = Counting l.number l.count l.rest

abbrev pub decreases-loop-rest : goal.decreases-loop-rest
decreases-loop-rest l = l.rest
