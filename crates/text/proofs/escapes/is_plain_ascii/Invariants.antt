-- What the loop of `text::escapes::is_plain_ascii` keeps.
use Prim.Native.Nat.{ℕ, ◌≤◌, ◌<◌}
use mathlib.Core.Bool.{false}
use mathlib.Core.Path.{◌≡◌}
use lib.ListN.{get_or}
use Rattle.text.proofs.escapes.is_plain_ascii.Given as goal

abbrev pub invariant-loop-byte : goal.invariant-loop-byte
invariant-loop-byte l =
    (k : ℕ) → k < l.byte-index → (l.lowest ≤ get_or l.bytes k 0) × (get_or l.bytes k 0 ≤ l.highest) × (l.slash ≡ false → get_or l.bytes k 0 ≡ 92 → ⊥)
