-- The tests of equality on kinds, loops and labels are equality.
use Prim.Native.Nat.{ℕ}
use mathlib.Core.Path.{◌≡◌, refl, sym, ◌∙◌, ap}
use mathlib.Core.Bool.{Bool, true, false, cond, ◌&&◌, false≢true}
use mathlib.Core.List.{List, [], ◌∷◌, map}
use lib.Dec.{eqb}
use borrow.Author.Tests.{eq-eqb, eqb-true}
use Rattle.slices.specs.Same.{same}
use Rattle.slices.proofs.Equality.{same_refl, same_equal}
use Rattle.labels.specs.declared.Kind.{Kind}
use Rattle.labels.specs.declared.Kind.TheVariants.{Number, Calldata, Boolean, Text, Numbers}
use Rattle.labels.specs.Labels.{letter, letters, Open, opened, Label, label}
use Rattle.labels.specs.Check.{same_loops, same_label}

-- the first and the second of two tests that both pass, and back
pub and_left : (a b : Bool) → (a && b) ≡ true → a ≡ true
and_left true b passed = refl
and_left false b passed = passed

pub and_right : (a b : Bool) → (a && b) ≡ true → b ≡ true
and_right true b passed = passed
and_right false b passed = absurd (false≢true passed)

pub and_both : (a b : Bool) → a ≡ true → b ≡ true → (a && b) ≡ true
and_both true b first second = second
and_both false b first second = first

-- a letter's kind
kind_of : ℕ → Kind
kind_of n = cond (eqb n 78) Number (cond (eqb n 67) Calldata (cond (eqb n 66) Boolean (cond (eqb n 83) Text Numbers)))

kind_back : (kind : Kind) → kind_of (letter kind) ≡ kind
unfolding kind_of
kind_back Number = refl
kind_back Calldata = refl
kind_back Boolean = refl
kind_back Text = refl
kind_back Numbers = refl

kinds_back : (kinds : List Kind) → map kind_of (letters kinds) ≡ kinds
kinds_back [] = refl
kinds_back (kind ∷ kinds) =
    let head = kind_back kind in
    let tail = kinds_back kinds in
    cc

-- kinds with the same letters are the same
pub letters_equal : (x y : List Kind) → letters x ≡ letters y → x ≡ y
letters_equal x y equal = sym (kinds_back x) ∙ ap (map kind_of) equal ∙ kinds_back y

same_kinds : (x y : List Kind) → same (letters x) (letters y) ≡ true → x ≡ y
same_kinds x y passed = letters_equal x y (same_equal (letters x) (letters y) passed)

loops_refl : (loops : List Open) → same_loops loops loops ≡ true
loops_refl [] = refl
loops_refl (opened place left ∷ loops) = and_both _ _ (eq-eqb place place refl) (and_both _ _ (same_refl (letters left)) (loops_refl loops))

pub same_loops_equal : (x y : List Open) → same_loops x y ≡ true → x ≡ y
same_loops_equal [] [] passed = refl
same_loops_equal [] (b ∷ y) passed = absurd (false≢true passed)
same_loops_equal (a ∷ x) [] passed = absurd (false≢true passed)
same_loops_equal (opened place left ∷ x) (opened other kinds ∷ y) passed =
    let places : place ≡ other = eqb-true place other (and_left (eqb place other) _ passed) in
    let rest : (same (letters left) (letters kinds) && same_loops x y) ≡ true = and_right (eqb place other) _ passed in
    let lefts : left ≡ kinds = same_kinds left kinds (and_left (same (letters left) (letters kinds)) (same_loops x y) rest) in
    let tails : x ≡ y = same_loops_equal x y (and_right (same (letters left) (letters kinds)) (same_loops x y) rest) in
    cc

pub same_label_refl : (l : Label) → same_label l l ≡ true
same_label_refl (label kinds loops) = and_both _ _ (same_refl (letters kinds)) (loops_refl loops)

pub same_label_equal : (l k : Label) → same_label l k ≡ true → l ≡ k
same_label_equal (label kinds loops) (label others more) passed =
    let first : kinds ≡ others = same_kinds kinds others (and_left (same (letters kinds) (letters others)) (same_loops loops more) passed) in
    let second : loops ≡ more = same_loops_equal loops more (and_right (same (letters kinds) (letters others)) (same_loops loops more) passed) in
    cc
