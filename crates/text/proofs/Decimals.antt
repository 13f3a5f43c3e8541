-- Decimal digits: how many there are, and each of them put, from the last one forwards.
use Prim.Native.Nat.{ℕ, zero, suc, ◌+◌, ◌-◌, ◌/◌, ◌%◌, ◌^◌, ◌≤◌, ◌<◌}
use mathlib.Core.Bool.{Bool, true, false}
use mathlib.Core.List.{List, [], ◌∷◌, ◌++◌}
use mathlib.Core.Path.{◌≡◌, refl, sym, ap, ◌∙◌}
use native.Mathlib.Omega.{arith}
use lib.Dec.{ltb}
use lib.ListN.{length, set, length-set, length-append}
use lib.Seq.{sets, set_comm}
use borrow.Author.Tests.{lt-ltb, le-ltb, ltb-true, ltb-false}
use Rattle.slices.proofs.SlicesWrites.{sets_append}
use Rattle.text.specs.Numbers.{digit, digits, decimal}

-- two bounds on how many digits there are give the same digits
bounds_same : (most more : ℕ) (last : Bool) (n : ℕ) → ltb n 10 ≡ last → n ≤ most → n ≤ more → digits most last n ≡ digits more last n
unfolding digits
bounds_same zero zero last n test small less = refl
bounds_same zero (suc more) true n test small less = refl
bounds_same zero (suc more) false n test small less = absurd (omega (arith, ltb-false n 10 test))
bounds_same (suc most) zero true n test small less = refl
bounds_same (suc most) zero false n test small less = absurd (omega (arith, ltb-false n 10 test))
bounds_same (suc most) (suc more) true n test small less = refl
bounds_same (suc most) (suc more) false n test small less =
    let long : 10 ≤ n = ltb-false _ _ test in
    ap (λ (l : List ℕ). l ++ (digit (n % 10) ∷ [])) (bounds_same most more (ltb (n / 10) 10) (n / 10) refl (omega arith) (omega arith))

-- one digit
pub decimal_one : (n : ℕ) → n < 10 → decimal n ≡ digit n ∷ []
unfolding decimal digits
decimal_one zero small = refl
decimal_one (suc k) small = rw (lt-ltb (suc k) 10 small)

-- the last of several digits
pub decimal_more : (n : ℕ) → 10 ≤ n → decimal n ≡ decimal (n / 10) ++ (digit (n % 10) ∷ [])
unfolding decimal digits
decimal_more zero long = absurd (omega arith)
decimal_more (suc k) long =
    rw (le-ltb (suc k) 10 long)
    (ap (λ (l : List ℕ). l ++ (digit (suc k % 10) ∷ [])) (bounds_same k (suc k / 10) (ltb (suc k / 10) 10) (suc k / 10) refl (omega arith) (omega arith)))

-- a number has a digit
pub some_digit : (n : ℕ) → 1 ≤ length (decimal n)
some_digit n = by (ltb n 10) refl
  where
    by : (one : Bool) → ltb n 10 ≡ one → 1 ≤ length (decimal n)
    by true test = omega (arith, ap length (decimal_one n (ltb-true n 10 test)))
    by false test =
        omega (arith, ap length (decimal_more n (ltb-false n 10 test)) ∙ length-append (decimal (n / 10)) (digit (n % 10) ∷ []))

-- a number below a power of ten has no more digits
pub few_digits : (k n : ℕ) (one : Bool) → ltb n 10 ≡ one → n < 10 ^ suc k → length (decimal n) ≤ suc k
few_digits zero n true test small = omega (arith, ap length (decimal_one n (ltb-true n 10 test)))
few_digits zero n false test small = absurd (omega (arith, ltb-false n 10 test))
few_digits (suc k) n true test small = omega (arith, ap length (decimal_one n (ltb-true n 10 test)))
few_digits (suc k) n false test small =
    let long : 10 ≤ n = ltb-false n 10 test in
    let first : length (decimal (n / 10)) ≤ suc k = few_digits k (n / 10) (ltb (n / 10) 10) refl (omega arith) in
    omega (arith, ap length (decimal_more n long) ∙ length-append (decimal (n / 10)) (digit (n % 10) ∷ []))

-- a number of 64 bits has at most 20
pub twenty_digits : (n : ℕ) → n < 18446744073709551616 → length (decimal n) ≤ 20
twenty_digits n small = few_digits 19 n (ltb n 10) refl (omega arith)

-- one digit less
less_one : (n : ℕ) → 10 ≤ n → length (decimal n) ≡ length (decimal (n / 10)) + 1
less_one n long = ap length (decimal_more n long) ∙ length-append (decimal (n / 10)) (digit (n % 10) ∷ [])

-- ---- counted

-- the digits that are counted and those still to come, with one counted twice
pub record Counting (number count rest : ℕ) : Type 0 where
  pub same : count + length (decimal rest) ≡ length (decimal number) + 1

pub counting_begun : (number : ℕ) → Counting number 1 number
counting_begun number = record { same = omega arith }

pub counting_turned : {number count rest : ℕ} → 10 ≤ rest → Counting number count rest → Counting number (count + 1) (rest / 10)
counting_turned {number} {count} {rest} long counting = record { same = omega (arith, counting.same, less_one rest long) }

pub counting_ended : {number count rest : ℕ} → rest < 10 → Counting number count rest → count ≡ length (decimal number)
counting_ended {number} {count} {rest} short counting = omega (arith, counting.same, ap length (decimal_one rest short))

-- ---- put from the last one forwards

-- a write behind others may come first
pub behind_first : (out : List ℕ) (at : ℕ) (text : List ℕ) (place byte : ℕ) → at + length text ≤ place → sets (set out place byte) at text ≡ set (sets out at text) place byte
behind_first out at [] place byte behind = refl
behind_first out at (a ∷ text) place byte behind =
    ap (λ (l : List ℕ). sets l (suc at) text) (set_comm out place at byte a (λ same. omega arith))
    ∙ behind_first (set out at a) (suc at) text place byte (omega arith)

-- the digits still to come, put before those that are written, are the whole number put
pub record Putting (out₀ : List ℕ) (at number : ℕ) (out : List ℕ) (last rest : ℕ) : Type 0 where
  pub kept : length out ≡ length out₀
  pub inside : last < length out₀
  pub place : last + 1 ≡ at + length (decimal rest)
  pub same : sets out at (decimal rest) ≡ sets out₀ at (decimal number)

module _ (out₀ : List ℕ) (at number : ℕ) where
  pub putting_begun : {last : ℕ} → last + 1 ≡ at + length (decimal number) → at + length (decimal number) ≤ length out₀ → Putting out₀ at number out₀ last number
  putting_begun place fits = record { kept = refl; inside = omega (arith, place); place = place; same = refl }

  module _ {out : List ℕ} {last rest : ℕ} (putting : Putting out₀ at number out last rest) where
    pub putting_above : 10 ≤ rest → 1 ≤ last
    putting_above long = omega (arith, putting.place, less_one rest long, some_digit (rest / 10))

    pub putting_turned : {character : ℕ} → character ≡ digit (rest % 10) → 10 ≤ rest → Putting out₀ at number (set out last character) (last - 1) (rest / 10)
    putting_turned {character} is long =
        let start : at + length (decimal (rest / 10)) ≡ last = omega (arith, putting.place, less_one rest long) in
        record {
          kept = length-set out last character ∙ putting.kept;
          inside = omega (arith, putting.inside);
          place = omega (arith, putting.place, putting_above long, less_one rest long);
          same =
              behind_first out at (decimal (rest / 10)) last character (omega (arith, start))
              ∙ ap (λ (c : ℕ). set (sets out at (decimal (rest / 10))) last c) is
              ∙ ap (λ (k : ℕ). set (sets out at (decimal (rest / 10))) k (digit (rest % 10))) (sym start)
              ∙ sym (sets_append out at (decimal (rest / 10)) (digit (rest % 10) ∷ []))
              ∙ ap (sets out at) (sym (decimal_more rest long))
              ∙ putting.same;
        }

    pub putting_ended : {character : ℕ} → character ≡ digit rest → rest < 10 → set out last character ≡ sets out₀ at (decimal number)
    putting_ended {character} is short =
        let here : last ≡ at = omega (arith, putting.place, ap length (decimal_one rest short)) in
        ap (set out last) is
        ∙ ap (λ (k : ℕ). set out k (digit rest)) here
        ∙ ap (sets out at) (sym (decimal_one rest short))
        ∙ putting.same
