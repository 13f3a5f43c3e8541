-- What the loop of `table_image::measure_table` keeps: what is only read as it was, and what is left to measure.
use Rattle.std.proofs.Common.{length, ◌-◌, ◌≡◌, ◌≤◌}
use Rattle.table_image.specs.Loops.{measures}
use Rattle.table_image.proofs.measure_table.Given as goal

abbrev pub invariant-loop-task : goal.invariant-loop-task
invariant-loop-task l = record {
  few : l.count ≤ l.task-index;
  pool_is : l.pool ≡ l.fn.pool;
  ends_is : l.ends ≡ l.fn.ends;
  so_far :
      measures (length l.fn.table - l.task-index) l.task-index l.fn.table l.fn.pool l.fn.ends l.entries l.limit l.count l.size
      ≡ measures (length l.fn.table) 0 l.fn.table l.fn.pool l.fn.ends l.entries l.limit 0 14;
}
