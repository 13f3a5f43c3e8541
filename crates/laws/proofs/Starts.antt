-- Start and rerun beside each other: a start is a rerun of the machine at main, and on a fresh machine the two are the same.
use Prim.Native.Nat.{ℕ}
use mathlib.Core.Bool.{true}
use mathlib.Core.Path.{◌≡◌}
use Rattle.machine.specs.Machines.{at_main}
use Rattle.machine.specs.World.{World, with_machine}
use Rattle.machine.specs.Calls.{may_start, allowed, call_with, call, start, rerun}
use Rattle.laws.specs.Sound.{Passes}
use Rattle.laws.proofs.SoundnessCalls.{at_main_passes}

-- a start, where it may be, is a rerun of the same machine with one frame at main, place 0, and an empty control stack
pub start_is_rerun : (fuel : ℕ) (w : World) → Passes w → may_start w.machine.phase ≡ true → start fuel w ≡ rerun fuel (with_machine w (at_main w.machine))
unfolding call call_with allowed
start_is_rerun fuel w passes may = rw (passes.tested, (at_main_passes w passes).tested, may)
