-- `slices::writes::write` meets its contract.
use Prim.Native.Nat.{◌<◌}
use mathlib.Core.Path.{◌∙◌}
use native.Mathlib.Omega.{arith}
use lib.ListN.{length}
use Rattle.slices.proofs.SlicesWrites.{placed_fitting, sets_more}
use Rattle.slices.proofs.writes.write.Goals as goal

pub loop-i-preserved : goal.loop-i-preserved
loop-i-preserved c =
    let more : c.loop-i.i < length c.args.bytes.now = omega (arith, c.min-count.ensures) in
    simp c.loop-i.invariant (sets_more _ _ _ _ 0 more)

pub returns : goal.returns
returns c =
    c.loop-i.invariant
    ∙ placed_fitting c.args.target.now c.args.bytes.now c.args.at c.min-place.result c.loop-i.i c.min-place.ensures (omega (arith, c.min-count.ensures))
