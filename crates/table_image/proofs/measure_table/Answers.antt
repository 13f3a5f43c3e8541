-- `table_image::measure_table` meets its contract.
use Rattle.std.proofs.Common.{rules, arith, ◌≡◌, ◌≤◌, ◌∙◌}
use Rattle.std.specs.Prelude.{Err}
use Rattle.table_image.specs.Tables.{measured_as}
use Rattle.table_image.proofs.Turns.{step_is, counted_once, measure_turn, measure_stops, measure_ends}
use Rattle.table_image.proofs.measure_table.Goals as goal

pub returns-in_err-size : goal.returns-in_err-size
unfolding measured_as
returns-in_err-size c =
    let i = c.loop-task.invariant in
    let step = step_is c.measure_slot.ensures in
    let r : c.from_residual.result ≡ Err c.in_err-size.field-0.0 = search rules in
    simp (
      r,
      measure_stops c.args.table.now c.args.pool.now c.args.ends.now c.args.entries c.args.limit _ c.loop-task.count c.loop-task.size _ c.loop-task-test.true i.pool_is i.ends_is i.so_far step.0 c.in_err-size.was,
      step.1.0,
      step.1.1,
      i.pool_is,
      i.ends_is,
    )

pub loop-task-preserved : goal.loop-task-preserved
loop-task-preserved c =
    let i = c.loop-task.invariant in
    let step = step_is c.measure_slot.ensures in
    let one : c.from-count.result ≤ 1 = rw c.from-count.ensures (counted_once _) in
    record {
      few = omega (arith, one, i.few);
      pool_is = step.1.0 ∙ i.pool_is;
      ends_is = step.1.1 ∙ i.ends_is;
      so_far =
          measure_turn c.args.table.now c.args.pool.now c.args.ends.now c.args.entries c.args.limit _ c.loop-task.count c.loop-task.size _ c.loop-task-test.true i.pool_is i.ends_is i.so_far step.0
          c.in_ok-size.was c.from-count.ensures;
    }

pub returns : goal.returns
unfolding measured_as
returns c =
    let i = c.loop-task.invariant in
    simp (measure_ends c.args.table.now c.args.pool.now c.args.ends.now c.args.entries c.args.limit _ c.loop-task.count c.loop-task.size c.loop-task-test.false i.so_far, i.pool_is, i.ends_is)
