-- What the loop of `text::pieces::put_decimal` keeps.
use Rattle.text.proofs.Decimals.{Putting}
use Rattle.text.proofs.pieces.put_decimal.Given as goal

abbrev pub invariant-loop-rest : goal.invariant-loop-rest
invariant-loop-rest l = Putting l.initial.out l.at l.number l.out l.last l.rest

abbrev pub decreases-loop-rest : goal.decreases-loop-rest
decreases-loop-rest l = l.rest
