-- The test of equality is equality, and it is the library's.
use Prim.Native.Nat.{ℕ}
use mathlib.Core.Bool.{Bool, true, false, cond, ◌&&◌}
use mathlib.Core.List.{List, [], ◌∷◌}
use mathlib.Core.Path.{◌≡◌, refl}
use native.Mathlib.Omega.{arith}
use lib.Dec.{eqb}
use lib.Pointwise.{pointwise}
use borrow.Author.Tests.{eq-eqb, eqb-true}
use Rattle.slices.specs.Same.{same}

-- a list is the same as itself
pub same_refl : (l : List ℕ) → same l l ≡ true
unfolding same
same_refl [] = refl
same_refl (a ∷ l) = simp (eq-eqb a a refl) (same_refl l)

by_head : (a b : ℕ) (l r : List ℕ) (head : Bool) → eqb a b ≡ head → (same l r ≡ true → l ≡ r) → cond head (same l r) false ≡ true → a ∷ l ≡ b ∷ r
by_head a b l r true test rest passed =
    let heads : a ≡ b = eqb-true a b test in
    let tails : l ≡ r = rest passed in
    cc
by_head a b l r false test rest passed = absurd (let z : ◌≡◌ {A = ℕ} 0 1 = cc in omega arith)

-- lists that pass are equal
pub same_equal : (l r : List ℕ) → same l r ≡ true → l ≡ r
unfolding same
same_equal [] [] passed = refl
same_equal [] (b ∷ r) passed = absurd (let z : ◌≡◌ {A = ℕ} 0 1 = cc in omega arith)
same_equal (a ∷ l) [] passed = absurd (let z : ◌≡◌ {A = ℕ} 0 1 = cc in omega arith)
same_equal (a ∷ l) (b ∷ r) passed = by_head a b l r (eqb a b) refl (same_equal l r) passed

both_is : (head rest : Bool) → (head && rest) ≡ cond head rest false
both_is true rest = refl
both_is false rest = refl

-- the library's equality of two slices is this one
pub same_pointwise : (l r : List ℕ) → pointwise eqb l r ≡ same l r
unfolding same
same_pointwise [] [] = refl
same_pointwise [] (b ∷ r) = refl
same_pointwise (a ∷ l) [] = refl
same_pointwise (a ∷ l) (b ∷ r) = simp (same_pointwise l r) (both_is (eqb a b) (same l r))
