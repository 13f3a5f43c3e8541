-- The rules of a record as facts, and back.
use Prim.Native.Nat.{ℕ, ◌+◌, ◌<◌, ◌≤◌}
use mathlib.Core.Bool.{Bool, true, false, ◌&&◌, and-eq-true_iff}
use mathlib.Core.List.{List}
use mathlib.Core.Path.{◌≡◌, refl}
use native.Mathlib.Omega.{arith}
use lib.Dec.{ltb, leb, eqb}
use lib.ListN.{length, get_or, take, drop}
use borrow.Author.Tests.{ltb-true, leb-true, eqb-true, lt-ltb, le-leb, eq-eqb}
use Rattle.image.specs.Image.{body_length, kind, next_id_in, id_in, title_length_in, good, headed}
use Rattle.utf8.specs.Utf8.{valid}

-- the rules of a kind 2 record
pub record Rules (next_id low : ℕ) (bytes : List ℕ) : Type 0 where
  pub uncut : 6 + body_length bytes ≤ length bytes
  pub kind_2 : kind bytes ≡ 2
  pub large : 8 ≤ body_length bytes
  pub rising : low ≤ id_in bytes
  pub below : id_in bytes < next_id
  pub states : get_or bytes 11 0 < get_or bytes 10 0
  pub short : title_length_in bytes ≤ 128
  pub inside : 8 + title_length_in bytes ≤ body_length bytes
  pub text : valid (take (title_length_in bytes) (drop 14 bytes)) ≡ true

-- two tests that hold
both : {a b : Bool} → a ≡ true → b ≡ true → (a && b) ≡ true
both {a} {b} p q = (and-eq-true_iff a b).1 (p, q)

pub rules_good : {next_id low : ℕ} {bytes : List ℕ} → Rules next_id low bytes → good next_id low bytes ≡ true
unfolding good
rules_good r =
    both (le-leb _ _ r.uncut) (both (eq-eqb _ _ r.kind_2) (both (le-leb _ _ r.large) (both (le-leb _ _ r.rising)
    (both (lt-ltb _ _ r.below) (both (lt-ltb _ _ r.states) (both (le-leb _ _ r.short) (both (le-leb _ _ r.inside) r.text)))))))

pub good_rules : (next_id low : ℕ) (bytes : List ℕ) → good next_id low bytes ≡ true → Rules next_id low bytes
unfolding good
good_rules next_id low bytes g =
    let g₁ = (and-eq-true_iff (leb (6 + body_length bytes) (length bytes)) _).0 g in
    let g₂ = (and-eq-true_iff (eqb (kind bytes) 2) _).0 g₁.1 in
    let g₃ = (and-eq-true_iff (leb 8 (body_length bytes)) _).0 g₂.1 in
    let g₄ = (and-eq-true_iff (leb low (id_in bytes)) _).0 g₃.1 in
    let g₅ = (and-eq-true_iff (ltb (id_in bytes) next_id) _).0 g₄.1 in
    let g₆ = (and-eq-true_iff (ltb (get_or bytes 11 0) (get_or bytes 10 0)) _).0 g₅.1 in
    let g₇ = (and-eq-true_iff (leb (title_length_in bytes) 128) _).0 g₆.1 in
    let g₈ = (and-eq-true_iff (leb (8 + title_length_in bytes) (body_length bytes)) _).0 g₇.1 in
    record {
      uncut = leb-true _ _ g₁.0;
      kind_2 = eqb-true _ _ g₂.0;
      large = leb-true _ _ g₃.0;
      rising = leb-true _ _ g₄.0;
      below = ltb-true _ _ g₅.0;
      states = ltb-true _ _ g₆.0;
      short = leb-true _ _ g₇.0;
      inside = leb-true _ _ g₈.0;
      text = g₈.1;
    }

-- the rules of the kind 1 record
pub record Head (bytes : List ℕ) : Type 0 where
  pub uncut : 6 + body_length bytes ≤ length bytes
  pub kind_1 : kind bytes ≡ 1
  pub size : body_length bytes ≡ 8
  pub few : next_id_in bytes ≤ 256

pub head_headed : {bytes : List ℕ} → Head bytes → headed bytes ≡ true
unfolding headed
head_headed h = both (le-leb _ _ h.uncut) (both (eq-eqb _ _ h.kind_1) (both (eq-eqb _ _ h.size) (le-leb _ _ h.few)))

pub headed_head : (bytes : List ℕ) → headed bytes ≡ true → Head bytes
unfolding headed
headed_head bytes g =
    let g₁ = (and-eq-true_iff (leb (6 + body_length bytes) (length bytes)) _).0 g in
    let g₂ = (and-eq-true_iff (eqb (kind bytes) 1) _).0 g₁.1 in
    let g₃ = (and-eq-true_iff (eqb (body_length bytes) 8) _).0 g₂.1 in
    record {
      uncut = leb-true _ _ g₁.0;
      kind_1 = eqb-true _ _ g₂.0;
      size = eqb-true _ _ g₃.0;
      few = leb-true _ _ g₃.1;
    }

-- a test is false where what it says is absurd
pub refuted : (test : Bool) → (test ≡ true → ⊥) → test ≡ false
refuted true h = absurd (h refl)
refuted false h = refl

-- a test is not both
pub clash : {A : Type 0} {test : Bool} → test ≡ true → test ≡ false → A
clash p q = absurd (let z : ◌≡◌ {A = ℕ} 0 1 = cc in omega arith)
