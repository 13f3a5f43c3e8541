-- Bytes in hex: two characters to a byte, put a byte at a time.
use Prim.Native.Nat.{ℕ, suc, ◌+◌, ◌*◌, ◌/◌, ◌%◌, ◌≤◌, ◌<◌}
use mathlib.Core.List.{List, [], ◌∷◌}
use mathlib.Core.Path.{◌≡◌, refl, sym, ap, ◌∙◌}
use native.Mathlib.Omega.{arith}
use lib.ListN.{length, drop, get_or, set, length-set, drop_of_length-le}
use lib.Seq.{sets}
use Rattle.text.specs.Numbers.{digit, hex}
use Rattle.text.proofs.Fronts.{first}

pub hex_length : (bytes : List ℕ) → length (hex bytes) ≡ 2 * length bytes
unfolding hex
hex_length [] = refl
hex_length (byte ∷ more) = omega (arith, hex_length more)

pub hex_twice : (bytes : List ℕ) → length (hex bytes) ≡ length bytes + length bytes
hex_twice bytes = omega (arith, hex_length bytes)

module _ (out₀ : List ℕ) (at : ℕ) (bytes : List ℕ) where
  -- the rest put is the whole put
  pub record Hexing (out : List ℕ) (i : ℕ) : Type 0 where
    pub inside : i ≤ length bytes
    pub kept : length out ≡ length out₀
    pub same : sets out (at + 2 * i) (hex (drop i bytes)) ≡ sets out₀ at (hex bytes)

  pub begun : Hexing out₀ 0
  begun =
      let start : at + 2 * 0 ≡ at = omega arith in
      record { inside = omega arith; kept = refl; same = ap (λ (k : ℕ). sets out₀ k (hex bytes)) start }

  splits : (out : List ℕ) (place i : ℕ) → i < length bytes
      → sets out place (hex (drop i bytes)) ≡ sets (set (set out place (digit (get_or bytes i 0 / 16))) (suc place) (digit (get_or bytes i 0 % 16))) (suc (suc place)) (hex (drop (i + 1) bytes))
  unfolding hex
  splits out place i inside = rw (first bytes i inside)

  pub turned : {out : List ℕ} {i byte high low : ℕ} → byte ≡ get_or bytes i 0 → high ≡ digit (byte / 16) → low ≡ digit (byte % 16) → i < length bytes → Hexing out i
      → Hexing (set (set out (at + 2 * i) high) (at + 2 * i + 1) low) (i + 1)
  turned {out} {i} {byte} {high} {low} byte-is high_is low-is more hexing =
      let next : at + 2 * i + 1 ≡ suc (at + 2 * i) = omega arith in
      let behind : at + 2 * (i + 1) ≡ suc (suc (at + 2 * i)) = omega arith in
      record {
        inside = omega arith;
        kept = simp length-set hexing.kept;
        same = rw (high_is, low-is, byte-is, next, behind) (sym (splits out (at + 2 * i) i more) ∙ hexing.same);
      }

  none : (i : ℕ) → length bytes ≤ i → hex (drop i bytes) ≡ []
  unfolding hex
  none i over = rw (drop_of_length-le bytes over)

  pub ended : {out : List ℕ} {i : ℕ} → length bytes ≤ i → Hexing out i → out ≡ sets out₀ at (hex bytes)
  ended {out} {i} over hexing = ap (sets out (at + 2 * i)) (sym (none i over)) ∙ hexing.same
