-- The line tells what the check answers.
use Rattle.std.proofs.Common.{◌∙◌, ap}
use Rattle.text.specs.Lines.{put_line, tell_line}
use Rattle.verdict.specs.Verdicts.{line_of_kinds}
use Rattle.verdict.proofs.Told.{told_kinds, told_refusal}
use Rattle.verdict.proofs.verdict_line.Goals as goal

pub returns-in-Ok : goal.returns-in-Ok
returns-in-Ok c =
    c.kinds_line.ensures
    ∙ ap (λ kinds. put_line c.args.out.now (line_of_kinds kinds)) c.part.ensures
    ∙ ap (put_line c.args.out.now) (told_kinds _ _ _ _ c.in-Ok.is c.admit.ensures)

pub returns-in-Err : goal.returns-in-Err
unfolding tell_line
returns-in-Err c = c.head_line.ensures ∙ ap (put_line c.args.out.now) (told_refusal _ _ _ _ c.in-Err.is c.admit.ensures)
