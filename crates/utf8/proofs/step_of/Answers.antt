-- `utf8::step_of` meets its contract: a first octet is `lead_of`'s, and any other is due or not.
use native.Mathlib.Omega.{arith}
use Rattle.utf8.specs.Steps.{due}
use Rattle.utf8.proofs.Laws.{due_in, due_out}
use Rattle.utf8.proofs.step_of.Goals as goal

pub returns-then-more-eq0 : goal.returns-then-more-eq0
unfolding due
returns-then-more-eq0 c s = rw c.if-more-eq0.true (c.lead_of.ensures s)

pub returns-then-b-low : goal.returns-then-b-low
returns-then-b-low c s = due_out _ _ _ _ s (omega arith) (omega arith)

pub returns-then-high-b : goal.returns-then-high-b
returns-then-high-b c s = due_out _ _ _ _ s (omega arith) (omega arith)

pub returns : goal.returns
returns c s = due_in _ _ _ _ s (omega arith) (omega arith)
