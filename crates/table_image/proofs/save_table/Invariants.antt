-- What the loop of `table_image::save_table` keeps: what is only read as it was, and what is left to save.
use Rattle.std.proofs.Common.{length, ◌-◌, ◌≡◌}
use Rattle.std.specs.Prelude.{Ok}
use Rattle.image.specs.Table.{saved_table, save_table}
use Rattle.table_image.specs.Loops.{save_slots}
use Rattle.table_image.proofs.save_table.Given as goal

abbrev pub invariant-loop-task : goal.invariant-loop-task
invariant-loop-task l = record {
  pool_is : l.pool ≡ l.fn.pool;
  ends_is : l.ends ≡ l.fn.ends;
  so_far :
      saved_table (Ok l.size) (save_slots (length l.fn.table - l.task-index) l.task-index l.fn.table l.fn.pool l.fn.ends l.at l.save).save
      ≡ save_table l.fn.next_id.0 l.fn.table l.fn.pool l.fn.ends l.fn.entries l.fn.save;
}
