-- `table::slots::sound` meets its contract.
use Rattle.std.proofs.Common.{Bool, ap}
use Rattle.storage.specs.Tasks.{after}
use Rattle.table.proofs.Turns.{sound_turn, unsound_turn}
use Rattle.table.proofs.slots.sound.Goals as goal

pub returns-then-not-sound_slot : goal.returns-then-not-sound_slot
returns-then-not-sound_slot c =
    ap (λ (b : Bool). after b c.args.table.now)
    (unsound_turn c.args.table.now c.loop-slot.slot c.args.count _ c.loop-slot-test.true c.sound_slot.ensures c.loop-slot.invariant c.if-not-sound_slot.true)

pub loop-slot-preserved : goal.loop-slot-preserved
loop-slot-preserved c = sound_turn c.args.table.now c.loop-slot.slot c.args.count _ c.loop-slot-test.true c.sound_slot.ensures c.loop-slot.invariant c.if-not-sound_slot.false
