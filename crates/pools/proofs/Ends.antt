-- The ends of the entries: what it means that they never fall, and what a new end keeps.
use Prim.Native.Nat.{ℕ, zero, suc, ◌+◌, ◌-◌, ◌<◌, ◌≤◌}
use mathlib.Core.Bool.{true, false, ◌&&◌, and-eq-true_iff, and-false}
use mathlib.Core.List.{List}
use mathlib.Core.Path.{◌≡◌, refl}
use native.Mathlib.Decide.{ℕ_discrete}
use native.Mathlib.Numerals.{add-one}
use native.Mathlib.Omega.{arith}
use lib.Dec.{eqb, leb}
use lib.ListN.{length, set}
use lib.Seq.{get_or-set_same, get_or-set_other}
use borrow.Author.Tests.{leb-true, eqb-true, le-leb, lt-leb, eq-eqb}
use Rattle.pools.specs.Pool.{end_of, start_of, never_fall, end_to_end}

-- an entry that is not the first starts at the end before it
pub start_after : (ends : List ℕ) (i : ℕ) → (i ≡ 0 → ⊥) → start_of ends i ≡ end_of ends (i - 1)
unfolding start_of
start_after ends zero some = absurd (some refl)
start_after ends (suc i) some = let e : suc i - 1 ≡ i = omega arith in rw e

-- the start after an entry is its end
pub last_end : (ends : List ℕ) (n : ℕ) → start_of ends (suc n) ≡ end_of ends n
unfolding start_of
last_end ends n = refl

-- the ends fall as soon as one does
pub falls : (ends : List ℕ) (n i : ℕ) → i < n → end_of ends i < start_of ends i → never_fall ends n ≡ false
unfolding never_fall
falls ends zero i less down = absurd (omega arith)
falls ends (suc n) i less down = by (λ l. falls ends n i l down) (ℕ_discrete i n)
  where
    by : (i < n → never_fall ends n ≡ false) → Dec (i ≡ n) → (never_fall ends n && leb (start_of ends n) (end_of ends n)) ≡ false
    by ih (yes e) = rw (lt-leb (start_of ends n) (end_of ends n) (rw e at down)) (and-false (never_fall ends n))
    by ih (no e) = rw (ih (omega arith))

-- one more end that does not fall
pub more : (ends : List ℕ) (n : ℕ) → never_fall ends n ≡ true → start_of ends n ≤ end_of ends n → never_fall ends (n + 1) ≡ true
unfolding never_fall
more ends n up next = rw (add-one n, up, le-leb (start_of ends n) (end_of ends n) next)

-- an entry whose bounds lie in order and within a number of bytes
pub record Within (ends : List ℕ) (bytes i : ℕ) : Type 0 where
  pub in_order : start_of ends i ≤ end_of ends i
  pub in_bytes : end_of ends i ≤ bytes

-- where the ends never fall, each entry lies before the next one's start
before_start : (ends : List ℕ) (n i : ℕ) → never_fall ends n ≡ true → i < n → Within ends (start_of ends n) i
unfolding never_fall start_of
before_start ends zero i up less = absurd (omega arith)
before_start ends (suc n) i up less =
    by (λ l. before_start ends n i ((and-eq-true_iff (never_fall ends n) (leb (start_of ends n) (end_of ends n))).0 up).0 l)
    (leb-true _ _ ((and-eq-true_iff (never_fall ends n) (leb (start_of ends n) (end_of ends n))).0 up).1) (ℕ_discrete i n)
  where
    by : (i < n → Within ends (start_of ends n) i) → start_of ends n ≤ end_of ends n → Dec (i ≡ n) → Within ends (end_of ends n) i
    by ih next (yes e) = rw e (record { in_order = next; in_bytes = omega arith })
    by ih next (no e) = let w = ih (omega arith) in record { in_order = w.in_order; in_bytes = omega arith }

-- what end to end means, as facts
pub record Stands (ends : List ℕ) (bytes entries : ℕ) : Type 0 where
  pub few : entries ≤ 1024
  pub up : never_fall ends entries ≡ true
  pub last : start_of ends entries ≡ bytes

-- the facts from the test
pub stands : (ends : List ℕ) (bytes entries : ℕ) → end_to_end ends bytes entries ≡ true → Stands ends bytes entries
unfolding end_to_end
stands ends bytes entries e =
    let a = (and-eq-true_iff (leb entries 1024) (never_fall ends entries && eqb (start_of ends entries) bytes)).0 e in
    let b = (and-eq-true_iff (never_fall ends entries) (eqb (start_of ends entries) bytes)).0 a.1 in
    record { few = leb-true _ _ a.0; up = b.0; last = eqb-true _ _ b.1 }

-- the test from the facts
pub stood : (ends : List ℕ) (bytes entries : ℕ) → Stands ends bytes entries → end_to_end ends bytes entries ≡ true
unfolding end_to_end
stood ends bytes entries s =
    rw (le-leb entries 1024 s.few, s.up, eq-eqb (start_of ends entries) bytes s.last)

-- each entry lies in the bytes in use
pub within : (ends : List ℕ) (bytes entries i : ℕ) → end_to_end ends bytes entries ≡ true → i < entries → Within ends bytes i
within ends bytes entries i e less =
    let s = stands ends bytes entries e in
    rw s.last at (before_start ends entries i s.up less)

-- the start of an entry up to the new one
pub start_kept : (ends : List ℕ) (n end i : ℕ) → i ≤ n → start_of (set ends n end) i ≡ start_of ends i
unfolding start_of end_of
start_kept ends n end zero less = refl
start_kept ends n end (suc i) less = get_or-set_other ends n i end 0 (omega arith)

-- the end of an entry before the new one
pub end_kept : (ends : List ℕ) (n end i : ℕ) → i < n → end_of (set ends n end) i ≡ end_of ends i
unfolding end_of
end_kept ends n end i less = get_or-set_other ends n i end 0 (omega arith)

-- the end of the new one
pub end_new : (ends : List ℕ) (n end : ℕ) → n < length ends → end_of (set ends n end) n ≡ end
unfolding end_of
end_new ends n end lent = get_or-set_same ends n end 0 lent

-- the ends up to the new one never fall if they did not
pub up_kept : (ends : List ℕ) (n end m : ℕ) → m ≤ n → never_fall (set ends n end) m ≡ never_fall ends m
unfolding never_fall
up_kept ends n end zero less = refl
up_kept ends n end (suc m) less =
    rw (up_kept ends n end m (omega arith), start_kept ends n end m (omega arith), end_kept ends n end m less)
