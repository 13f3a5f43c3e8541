-- What is still to be written makes the whole.
use Rattle.std.proofs.Common.{◌≡◌}
use Rattle.admission.specs.Answer.{written}
use Rattle.admission.proofs.decision.write_kinds.Given as goal

abbrev pub invariant-loop-place : goal.invariant-loop-place
invariant-loop-place l = written l.place l.cells l.at l.kinds ≡ written l.height l.cells l.node l.initial.kinds
