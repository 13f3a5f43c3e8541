-- `table_image::loading::load_record` meets its contract.
use Rattle.std.proofs.Common.{arith}
use Rattle.table_image.proofs.Interned.{few_entries, loaded_more, loaded_not}
use Rattle.table_image.proofs.loading.load_record.Goals as goal

pub overflow_add-result : goal.overflow_add-result
overflow_add-result c =
    omega (arith, few_entries _ _ _ _ _ c.intern_instructions.ensures c.in-Ok.is)

pub returns-in-Ok : goal.returns-in-Ok
returns-in-Ok c =
    loaded_more _ _ _ _ _ _ c.min.ensures c.read_record-start.ensures c.saturating_sub.ensures c.part-instructions.ensures c.intern_instructions.ensures c.in-Ok.is

pub returns-in-Err : goal.returns-in-Err
returns-in-Err c =
    loaded_not _ _ _ _ _ _ c.min.ensures c.read_record-start.ensures c.saturating_sub.ensures c.part-instructions.ensures c.intern_instructions.ensures c.in-Err.is
