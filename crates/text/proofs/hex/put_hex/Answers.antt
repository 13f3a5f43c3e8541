-- `text::hex::put_hex` meets its contract.
use mathlib.Core.Path.{refl}
use Rattle.text.proofs.Hexes.{turned}
use Rattle.text.proofs.hex.put_hex.Goals as goal

pub loop-i-preserved : goal.loop-i-preserved
loop-i-preserved c = turned _ _ _ refl c.digit.ensures c.digit-in-loop-i.ensures c.loop-i-test.true c.loop-i.invariant
