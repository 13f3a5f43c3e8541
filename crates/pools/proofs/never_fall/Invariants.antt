-- What the loop of `pools::never_fall` keeps: up to here no end fell.
use mathlib.Core.Bool.{true}
use mathlib.Core.Path.{◌≡◌}
use Rattle.pools.specs.Pool.{never_fall}
use Rattle.pools.proofs.never_fall.Given as goal

abbrev pub invariant-loop-i : goal.invariant-loop-i
invariant-loop-i l = never_fall l.ends l.i ≡ true
