-- `utf8::follows_rules` meets its contract.
use mathlib.Core.Path.{refl, ◌∙◌}
use Rattle.utf8.specs.Utf8.{valid}
use Rattle.utf8.specs.Steps.{due, valid_after}
use Rattle.utf8.proofs.Laws.{turn, ended}
use Rattle.utf8.proofs.follows_rules.Goals as goal

pub loop-b-init : goal.loop-b-init
unfolding valid due
loop-b-init c = refl

pub returns-in_default : goal.returns-in_default
unfolding valid_after
returns-in_default c = turn _ _ _ _ _ c.loop-b-test.true c.loop-b.invariant c.step_of.ensures c.in_default.is

pub loop-b-preserved : goal.loop-b-preserved
unfolding valid_after
loop-b-preserved c = turn _ _ _ _ _ c.loop-b-test.true c.loop-b.invariant c.step_of.ensures c.in-Some.is

pub returns : goal.returns
returns c = ended _ _ _ _ _ c.loop-b-test.false ∙ c.loop-b.invariant
