-- What the loop of `table_image::loading::load_table` keeps: what is left to load.
use Rattle.std.proofs.Common.{length, ◌-◌, ◌≡◌, replicate}
use Rattle.storage.specs.Tasks.{blank}
use Rattle.table_image.specs.Loops.{load_records}
use Rattle.table_image.specs.Tables.{in_use, loading}
use Rattle.table_image.proofs.loading.load_table.Given as goal

abbrev pub invariant-loop : goal.invariant-loop
invariant-loop l =
    load_records (l.count - l.counter) l.image l.at (loading l.table l.pool l.ends l.used)
    ≡ load_records l.count l.image 14 (loading (replicate (length l.fn.table) blank) l.fn.pool l.fn.ends (in_use l.fn.bytes l.fn.entries))
