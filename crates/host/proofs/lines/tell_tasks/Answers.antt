-- `host::lines::tell_tasks` meets its contract.
use Rattle.std.proofs.Common.{◌≡◌, rules}
use Rattle.std.specs.Prelude.{Err}
use Rattle.host.proofs.Passes.{no_slot, no_count, one_slot, last_slot, all_slots, beside_table}
use Rattle.host.proofs.lines.tell_tasks.Goals as goal

pub returns-in_err-at : goal.returns-in_err-at
returns-in_err-at c =
    let r : c.from_residual.result ≡ Err c.in_err-at.field-0.0 = search rules in
    rw r (beside_table c.living-count.ensures (no_count _ _ _ _ _ c.living-count.ensures c.tell_count.ensures c.in_err-at.was))

pub loop-task-init : goal.loop-task-init
loop-task-init c = no_slot _ _ _ _ _ c.living-count.ensures c.tell_count.ensures c.in_ok-at.was

pub returns-in_err-at-2 : goal.returns-in_err-at-2
returns-in_err-at-2 c =
    let r : c.from_residual-in_err-at-2.result ≡ Err c.in_err-at-2.field-0.0 = search rules in
    rw r (beside_table c.living-count.ensures (last_slot _ _ _ _ _ _ c.loop-task-test.true c.tell_task.ensures c.loop-task.invariant c.in_err-at-2.was))

pub loop-task-preserved : goal.loop-task-preserved
loop-task-preserved c = one_slot _ _ _ _ _ _ c.loop-task-test.true c.tell_task.ensures c.loop-task.invariant c.in_ok-at-2.was

pub returns : goal.returns
returns c = beside_table c.living-count.ensures (all_slots _ _ _ _ _ c.loop-task-test.false c.loop-task.invariant)
