-- What the loop of `text::escapes::any_escaped` keeps.
use Prim.Native.Nat.{ℕ, ◌<◌}
use mathlib.Core.Bool.{false}
use mathlib.Core.Path.{◌≡◌}
use lib.ListN.{get_or}
use Rattle.text.specs.Escapes.{is_escaped}
use Rattle.text.proofs.escapes.any_escaped.Given as goal

abbrev pub invariant-loop-byte : goal.invariant-loop-byte
invariant-loop-byte l = l.any ≡ false → (k : ℕ) → k < l.byte-index → is_escaped false (get_or l.bytes k 0) ≡ false
