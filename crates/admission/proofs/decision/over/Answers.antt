-- The answer by what the sweep says.
use Rattle.std.proofs.Common.{◌≡◌, rules}
use Rattle.std.proofs.lemmas.Result.{err_from_is_err_and}
use Rattle.errors.specs.declared.Refusal.TheVariants.{NotAdmitted}
use Rattle.admission.proofs.Ending.{error_was, stuck_answer}
use Rattle.admission.proofs.decision.over.Goals as goal

pub returns-in_err-height : goal.returns-in_err-height
returns-in_err-height c =
    let p = err_from_is_err_and c.from_residual.result c.from_residual.ensures.1 in
    let q = error_was _ _ _ _ c.map_err.ensures.cases c.in_err-height.was in
    let w : c.in_err-height.field-0.0 ≡ NotAdmitted q.0 = search rules in
    rw (p.1, p.2, w) (stuck_answer _ c.args.program.some c.args.program.short _ c.sweep.ensures q.1)
