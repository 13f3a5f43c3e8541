-- `host::lines::tell_task` meets its contract.
use native.Mathlib.Omega.{arith}
use Rattle.std.proofs.lemmas.Bool.{not-true, not-false}
use Rattle.host.proofs.Behind.{one_more, no_more}
use Rattle.host.proofs.Passes.{one_task, no_task}
use Rattle.host.proofs.lines.tell_task.Goals as goal

pub returns-then-not-task : goal.returns-then-not-task
returns-then-not-task c = no_task _ _ _ _ (not-true _ c.if-not-task.true)

pub returns-then-out-start : goal.returns-then-out-start
returns-then-out-start c = one_task _ _ _ _ (not-false _ c.if-not-task.false) (no_more _ _ _ _ c.line_start-start.ensures c.if-out-start.true)

pub returns : goal.returns
returns c = one_task _ _ _ _ (not-false _ c.if-not-task.false) (one_more _ _ _ _ c.line_start-start.ensures c.if-out-start.false (omega arith) c.task_line.ensures c.counted.ensures)
