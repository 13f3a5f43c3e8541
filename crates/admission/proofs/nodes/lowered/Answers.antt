-- A turn of the walk goes one node down.
use Rattle.std.proofs.Common.{◌≡◌, ◌+◌, ◌-◌, arith}
use Rattle.admission.proofs.Stacks.{lowered_turn}
use Rattle.admission.proofs.nodes.lowered.Goals as goal

pub loop-preserved : goal.loop-preserved
loop-preserved c =
    let less : c.args.taken - (c.loop.counter + 1) ≡ c.args.taken - c.loop.counter - 1 = omega arith in
    rw less (lowered_turn _ _ _ _ (omega arith) c.below-at.ensures c.loop.invariant)
