-- Bytes of which none is escaped are shown as they are; and how long escaped bytes are.
use Prim.Native.Nat.{ℕ, suc, ◌*◌, ◌≤◌, ◌<◌}
use mathlib.Core.Bool.{Bool, true, false, cond}
use mathlib.Core.List.{List, [], ◌∷◌}
use mathlib.Core.Path.{◌≡◌, refl, ap}
use native.Mathlib.Omega.{arith}
use lib.ListN.{length, get_or, length-append}
use borrow.Author.Tests.{le-ltb, ne_eqb}
use Rattle.text.specs.Escapes.{is_escaped, escape, shown, escaped}

-- none of the bytes is escaped
abbrev pub Plainly : Bool → List ℕ → Type 0
Plainly high bytes = (k : ℕ) → k < length bytes → is_escaped high (get_or bytes k 0) ≡ false

pub as_they_are : (high : Bool) (bytes : List ℕ) → Plainly high bytes → escaped high bytes ≡ bytes
unfolding escaped shown
as_they_are high [] plain = refl
as_they_are high (byte ∷ more) plain =
    rw (plain 0 (omega arith)) (ap (λ (l : List ℕ). byte ∷ l) (as_they_are high more (λ k inside. plain (suc k) (omega arith))))

-- a byte from 32 to 126 that is no backslash is not escaped
pub plain_byte : (byte : ℕ) → 32 ≤ byte → byte ≤ 126 → (byte ≡ 92 → ⊥) → is_escaped false byte ≡ false
unfolding is_escaped
plain_byte byte low high other =
    let not_last : byte ≡ 127 → ⊥ = λ is. omega arith in
    rw (le-ltb byte 32 low, ne_eqb byte 127 not_last, ne_eqb byte 92 other)

-- a byte takes at most three characters
shown_short : (high : Bool) (byte : ℕ) → length (shown high byte) ≤ 3
unfolding shown
shown_short high byte = by (is_escaped high byte)
  where
    by : (is : Bool) → length (cond is (escape byte) (byte ∷ [])) ≤ 3
    by true = omega arith
    by false = omega arith

pub escaped_short : (high : Bool) (bytes : List ℕ) → length (escaped high bytes) ≤ 3 * length bytes
unfolding escaped
escaped_short high [] = omega arith
escaped_short high (byte ∷ more) = omega (arith, shown_short high byte, escaped_short high more, length-append (shown high byte) (escaped high more))
