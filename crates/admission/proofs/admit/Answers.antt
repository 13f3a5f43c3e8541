-- An empty program, and one that is too long, are refused before their elements are looked at.
use Rattle.std.proofs.Common.{sym, ap, ◌∙◌}
use borrow.Author.Tests.{eqb-true}
use Rattle.labels.proofs.Refused.{empty_refused, long_refused}
use Rattle.admission.specs.Answer.{answered}
use Rattle.admission.proofs.admit.Goals as goal

pub returns-then-is_empty : goal.returns-then-is_empty
unfolding answered
returns-then-is_empty c = sym (ap (λ v. answered v c.args.kinds.now) (empty_refused _ (eqb-true _ _ (sym c.is_empty.ensures ∙ c.if-is_empty.true))))

pub returns-then-program-gt65535 : goal.returns-then-program-gt65535
unfolding answered
returns-then-program-gt65535 c = sym (ap (λ v. answered v c.args.kinds.now) (long_refused _ c.if-program-gt65535.true))
