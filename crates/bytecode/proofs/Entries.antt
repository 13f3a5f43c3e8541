-- A test computed over a whole table holds at each of its entries.
use Prim.Native.Nat.{ℕ, zero, suc, ◌+◌, ◌<◌}
use mathlib.Core.Bool.{Bool, true, false, ◌&&◌}
use mathlib.Core.List.{List, [], ◌∷◌}
use mathlib.Core.Path.{◌≡◌, refl, subst}
use native.Mathlib.Omega.{arith}
use lib.ListN.{length, get_or}

-- the test of each entry and its place, the first place being `from`
abbrev pub throughout : (ℕ → ℕ → Bool) → ℕ → List ℕ → Bool
throughout test from [] = true
throughout test from (entry ∷ entries) = test from entry && throughout test (suc from) entries

left : (a b : Bool) → (a && b) ≡ true → a ≡ true
left true b passed = refl
left false b passed = passed

right : (a b : Bool) → (a && b) ≡ true → b ≡ true
right true b passed = passed
right false b passed = absurd (let z : ◌≡◌ {A = ℕ} 0 1 = cc in omega arith)

counted : (test : ℕ → ℕ → Bool) (table : List ℕ) (from : ℕ) → throughout test from table ≡ true → (i : ℕ) → i < length table → test (from + i) (get_or table i 0) ≡ true
counted test [] from passed i inside = absurd (omega arith)
counted test (entry ∷ entries) from passed zero inside =
    subst (λ (place : ℕ). test place entry ≡ true) (omega arith) (left (test from entry) _ passed)
counted test (entry ∷ entries) from passed (suc i) inside =
    subst (λ (place : ℕ). test place (get_or entries i 0) ≡ true) (omega arith)
    (counted test entries (suc from) (right (test from entry) _ passed) i (omega arith))

-- what was computed over the table holds at an entry
pub at_each : (test : ℕ → ℕ → Bool) (table : List ℕ) → throughout test 0 table ≡ true → (i : ℕ) → i < length table → test i (get_or table i 0) ≡ true
at_each test table passed i inside =
    subst (λ (place : ℕ). test place (get_or table i 0) ≡ true) (omega arith) (counted test table 0 passed i inside)
