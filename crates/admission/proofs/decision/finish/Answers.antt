-- The answer by what the jumps' test and the open loops say.
use Rattle.std.proofs.Common.{◌≡◌, rules}
use Rattle.std.proofs.lemmas.Result.{err_from_is_err_and}
use Rattle.errors.specs.declared.Refusal.TheVariants.{NotAdmitted}
use Rattle.admission.proofs.Ending.{error_was, value_was, ended_of, tells_of, swept_kept, open_answer, wrong_answer, admitted_answer}
use Rattle.admission.proofs.decision.finish.Goals as goal

pub wrong_jump-requires : goal.wrong_jump-requires
wrong_jump-requires c = (ended_of c.requires, tells_of c.requires)

pub returns-in_err-map_err : goal.returns-in_err-map_err
returns-in_err-map_err c =
    let p = err_from_is_err_and c.from_residual.result c.from_residual.ensures.1 in
    let q = error_was _ _ _ _ c.map_err.ensures.cases c.in_err-map_err.was in
    let w : c.in_err-map_err.field-0.0 ≡ NotAdmitted q.0 = search rules in
    rw (p.1, p.2, w) (wrong_answer _ c.args.program.some c.args.program.short _ c.requires c.wrong_jump.ensures.0 q.1)

pub returns-then-loops_at-ne0 : goal.returns-then-loops_at-ne0
returns-then-loops_at-ne0 c =
    let right = value_was _ _ _ _ c.map_err.ensures.cases c.in_ok-map_err.was in
    open_answer _ c.args.program.some c.args.program.short _ c.requires c.wrong_jump.ensures.0 right c.loops_at.ensures c.if-loops_at-ne0.true

pub returns : goal.returns
returns c =
    let right = value_was _ _ _ _ c.map_err.ensures.cases c.in_ok-map_err.was in
    admitted_answer _ c.args.program.some c.args.program.short _ (swept_kept c.wrong_jump.ensures.1 c.requires) c.wrong_jump.ensures.0 right c.loops_at.ensures c.if-loops_at-ne0.false c.node_at.ensures c.write_kinds.ensures
