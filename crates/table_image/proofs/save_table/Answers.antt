-- `table_image::save_table` meets its contract.
use Rattle.std.proofs.Common.{List, ℕ, Err, rules, ap, ◌≡◌, ◌∙◌}
use Rattle.std.specs.Prelude.{Ok}
use Rattle.image.specs.Table.{saved_table}
use Rattle.table_image.proofs.Turns.{step_is, held_is, save_refused, save_short, save_begins, save_turn, save_ends}
use Rattle.table_image.proofs.save_table.Goals as goal

pub returns-in_err-size : goal.returns-in_err-size
returns-in_err-size c =
    let h = held_is c.measure_table.ensures in
    let r : c.from_residual.result ≡ Err c.in_err-size.field-0.0 = search rules in
    simp (r, save_refused c.args.table.now c.args.pool.now c.args.ends.now c.args.next_id.0 c.args.entries c.args.save.now _ h.0 c.in_err-size.was, h.1.0, h.1.1.0, h.1.1.1)

pub returns-then-save-size : goal.returns-then-save-size
returns-then-save-size c =
    let h = held_is c.measure_table.ensures in
    simp (save_short c.args.table.now c.args.pool.now c.args.ends.now c.args.next_id.0 c.args.entries c.args.save.now _ h.0 c.in_ok-size.was c.if-save-size.true, h.1.0, h.1.1.0, h.1.1.1)

pub loop-task-init : goal.loop-task-init
loop-task-init c =
    let h = held_is c.measure_table.ensures in
    record {
      pool_is = h.1.1.0;
      ends_is = h.1.1.1;
      so_far =
          save_begins c.args.table.now c.args.pool.now c.args.ends.now c.args.next_id.0 c.args.entries c.args.save.now _ h.0 c.in_ok-size.was c.if-save-size.false
          c.write_header.ensures;
    }

pub loop-task-preserved : goal.loop-task-preserved
loop-task-preserved c =
    let i = c.loop-task.invariant in
    let h = held_is c.measure_table.ensures in
    let step = step_is c.save_slot-at.ensures in
    record {
      pool_is = step.1.0 ∙ i.pool_is;
      ends_is = step.1.1 ∙ i.ends_is;
      so_far =
          ap (λ (saved : List ℕ). saved_table (Ok c.in_ok-size.size) saved)
          (save_turn c.args.table.now c.args.pool.now c.args.ends.now c.loop-task.task-index c.loop-task.at c.loop-task.save _ h.1.0 i.pool_is i.ends_is c.loop-task-test.true step.0)
          ∙ i.so_far;
    }

pub returns : goal.returns
returns c =
    let i = c.loop-task.invariant in
    let h = held_is c.measure_table.ensures in
    let last = save_ends c.args.table.now c.args.pool.now c.args.ends.now c.loop-task.task-index c.loop-task.at c.loop-task.save h.1.0 c.loop-task-test.false in
    simp (ap (λ (saved : List ℕ). saved_table (Ok c.in_ok-size.size) saved) last ∙ i.so_far, h.1.0, i.pool_is, i.ends_is)
