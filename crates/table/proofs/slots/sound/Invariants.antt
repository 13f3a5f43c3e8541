-- What the loop of `table::slots::sound` keeps: the table is sound exactly if the slots from this one on are.
use Rattle.std.proofs.Common.{◌≡◌, drop}
use Rattle.storage.specs.Table.{sound_slots, sound_table}
use Rattle.table.proofs.slots.sound.Given as goal

abbrev pub invariant-loop-slot : goal.invariant-loop-slot
invariant-loop-slot l = sound_slots (drop l.slot l.task-items) l.slot l.count ≡ sound_table l.fn.table l.fn.next_id.0 l.count
