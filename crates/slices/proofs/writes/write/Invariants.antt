-- What the loop of `slices::writes::write` keeps.
use mathlib.Core.Path.{◌≡◌}
use lib.ListN.{take}
use lib.Seq.{sets}
use Rattle.slices.proofs.writes.write.Given as goal

abbrev pub invariant-loop-i : goal.invariant-loop-i
invariant-loop-i l = l.target ≡ sets l.initial.target l.place (take l.i l.bytes)
