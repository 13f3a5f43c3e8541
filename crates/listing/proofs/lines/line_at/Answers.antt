-- `listing::lines::line_at` meets its contract.
use Rattle.std.proofs.Common.{ap, ◌∙◌}
use Rattle.text.specs.Lines.{put_line, tell_line}
use Rattle.listing.proofs.LineByLine.{past_two, past_all, by_first, by_second, by_value, by_count, by_task}
use Rattle.listing.proofs.lines.line_at.Goals as goal

pub returns-then-number-eq0 : goal.returns-then-number-eq0
unfolding tell_line
returns-then-number-eq0 c =
    c.head_line.ensures
    ∙ ap (put_line _) (by_first _ _ _ _ _ _ _ _ _ c.if-number-eq0.true)

pub returns-then-number-eq1 : goal.returns-then-number-eq1
unfolding tell_line
returns-then-number-eq1 c =
    c.count_line.ensures
    ∙ ap (put_line _) (by_second _ _ _ _ _ _ _ _ _ c.if-number-eq1.true)

pub returns-then-position-words : goal.returns-then-position-words
unfolding tell_line
returns-then-position-words c =
    c.value_line.ensures
    ∙ ap (put_line _) (by_value _ _ _ _ _ _ _ _ _ (past_two c.if-number-eq0.false c.if-number-eq1.false) c.if-position-words.true c.unbox_value-kind.ensures)

pub returns-then-position-words-2 : goal.returns-then-position-words-2
unfolding tell_line
returns-then-position-words-2 c =
    c.count_line-then-position-words-2.ensures
    ∙ ap (put_line _) (by_count _ _ _ _ _ _ _ _ _ (past_two c.if-number-eq0.false c.if-number-eq1.false) c.if-position-words-2.true)

pub returns : goal.returns
unfolding tell_line
returns c =
    c.task_line.ensures
    ∙ ap (put_line _) (by_task _ _ _ _ _ _ _ _ _ (past_two c.if-number-eq0.false c.if-number-eq1.false) (past_all c.if-position-words.false c.if-position-words-2.false))
