-- `table::set_state_at` meets its contract.
use Rattle.storage.proofs.Setting.{set_inside}
use Rattle.table.proofs.set_state_at.Goals as goal

pub returns-then-slot-table : goal.returns-then-slot-table
returns-then-slot-table c = set_inside _ _ _ _ _ _ c.if-slot-table.true c.set_state.ensures
