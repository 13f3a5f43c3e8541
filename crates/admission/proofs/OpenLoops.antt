-- The rule of each element on open loops is what the code makes of their word.
use Prim.Native.Nat.{ℕ, ◌+◌, ◌*◌, ◌-◌, ◌/◌, ◌%◌, ◌≤◌, ◌<◌}
use mathlib.Core.Path.{◌≡◌, refl, sym, ◌∙◌, ap, ap₂, subst}
use mathlib.Core.Bool.{Bool, true, false, cond, ◌&&◌, true≢false}
use mathlib.Core.List.{List, [], ◌∷◌}
use mathlib.Core.Option.{none, some}
use native.Mathlib.Omega.{arith}
use lib.Dec.{eqb, leb, ltb}
use lib.ListN.{length, get_or}
use borrow.Author.Tests.{eq-eqb, ne_eqb, lt-ltb, le-ltb, lt-leb}
use Rattle.slices.specs.Same.{same}
use Rattle.labels.specs.declared.Kind.{Kind}
use Rattle.labels.specs.declared.Element.{Element}
use Rattle.labels.specs.declared.Element.TheVariants.{NoRule, Kinds, Do, Loop, LoopIndex, JumpIfFalse}
use Rattle.labels.specs.Labels.{letters, Open, opened, label, and_then, kinds_after, loops_after, bounded}
use Rattle.labels.proofs.Ways.{cond_true, cond_false}
use Rattle.admission.specs.Nodes.{stacked}
use Rattle.admission.specs.Sweep.{word_after}
use Rattle.admission.specs.Noted.{LoopAt, Opens, no_loop, one_loop, two_loops}
use Rattle.std.specs.Prelude.{Some, None, Option}

-- the open loops behind an element: those of before, or one more, whose DO left these kinds
pub data Later (cells nodes : List ℕ) (at next word : ℕ) (left : List Kind) (loops : List Open) : Type 0 where
  kept : Opens cells nodes at word loops → Later cells nodes at next word left loops
  fresh : {outer : ℕ} {others : List Open} → Opens cells nodes at outer others → outer < 65536 → word ≡ outer * 65536 + next → loops ≡ opened next left ∷ others
      → Later cells nodes at next word left loops

-- what the code's answer says of the rule
pub data Told (cells nodes : List ℕ) (element : Element) (at next : ℕ) (left : List Kind) (loops : List Open) : Option ℕ → Type 0 where
  cannot : and_then (loops_after element next left loops) (bounded left) ≡ none → Told cells nodes element at next left loops None
  can : {word : ℕ} {others : List Open} → loops_after element next left loops ≡ some others → length others ≤ 2 → Later cells nodes at next word left others
      → Told cells nodes element at next left loops (Some word)

pub few : {cells nodes : List ℕ} {at word : ℕ} {loops : List Open} → Opens cells nodes at word loops → length loops ≤ 2
few (no_loop e) = omega arith
few (one_loop e l) = omega arith
few (two_loops e l m) = omega arith

-- no third loop
third : (left : List Kind) (loops : List Open) → 3 ≤ length loops → bounded left loops ≡ none
unfolding bounded
third left loops many = by (leb (length left) 1000) (leb (length loops) 2) (lt-leb (length loops) 2 many)
  where
    by : (x y : Bool) → y ≡ false → cond (x && y) (some (label left loops)) none ≡ none
    by x true e = absurd (true≢false e)
    by true false e = refl
    by false false e = refl

module _ (cells nodes : List ℕ) (at next node word : ℕ) (kinds left : List Kind) (below : at < next) (small : next < 65536) (holds : stacked cells node ≡ letters kinds) where
  -- a test on the word that is decided
  decided : {element : Element} {loops : List Open} (b : Bool) (d : Bool) (x y : Option ℕ) → b ≡ d → Told cells nodes element at next left loops (cond d x y) → Told cells nodes element at next left loops (cond b x y)
  decided {element} {loops} b d x y e t = subst (λ z. Told cells nodes element at next left loops (cond z x y)) (sym e) t

  opening : (loops : List Open) → Opens cells nodes at word loops → Told cells nodes Do at next left loops (word_after cells nodes Do next node word)
  unfolding word_after loops_after
  opening [] (no_loop e) =
      decided (ltb word 65536) true _ _ (lt-ltb word 65536 (omega arith)) (can refl (omega arith) (fresh (no_loop e) (omega arith) (let f : word * 65536 + next % 65536 ≡ word * 65536 + next = omega arith in f) refl))
  opening (opened inner first ∷ []) (one_loop e l) =
      decided (ltb word 65536) true _ _ (lt-ltb word 65536 (omega (arith, l.small)))
      (can refl (omega arith) (fresh (one_loop e l) (omega (arith, l.small)) (let f : word * 65536 + next % 65536 ≡ word * 65536 + next = omega arith in f) refl))
  opening (opened inner first ∷ opened outer second ∷ []) (two_loops e l m) =
      decided (ltb word 65536) false _ _ (le-ltb word 65536 (omega (arith, m.some_place))) (cannot (third left _ (omega arith)))
  opening (opened inner first ∷ (opened outer second ∷ (_ ∷ _))) x = elim x [ ]

  -- LOOP compares the kinds that it finds with those that the DO left
  compared : {place : ℕ} {first : List Kind} → LoopAt cells nodes at place first → word % 65536 ≡ place → kinds ≡ left
      → same (stacked cells node) (stacked cells (get_or nodes (word % 65536) 0 - 1)) ≡ same (letters left) (letters first)
  compared l e f = ap₂ same (holds ∙ ap letters f) (ap (λ p. stacked cells (get_or nodes p 0 - 1)) e ∙ l.holds)

  closing : (loops : List Open) → Opens cells nodes at word loops → kinds ≡ left → Told cells nodes Loop at next left loops (word_after cells nodes Loop next node word)
  unfolding word_after loops_after
  closing [] (no_loop e) f = decided (eqb (word % 65536) 0) true _ _ (eq-eqb (word % 65536) 0 (omega arith)) (cannot refl)
  closing (opened inner first ∷ []) (one_loop e l) f =
      decided (eqb (word % 65536) 0) false _ _ (ne_eqb (word % 65536) 0 (λ z. omega (arith, l.small, l.some_place)))
      (decided _ (same (letters left) (letters first)) _ _ (compared l (omega (arith, l.small)) f) (by (same (letters left) (letters first)) refl))
    where
      by : (b : Bool) → same (letters left) (letters first) ≡ b → Told cells nodes Loop at next left (opened inner first ∷ []) (cond b (Some (word / 65536)) None)
      by true t = can {word = word / 65536} (cond_true _ _ _ t) (omega arith) (kept (no_loop (omega (arith, l.small))))
      by false t = cannot (ap (λ o. and_then o (bounded left)) (cond_false _ _ _ t))
  closing (opened inner first ∷ opened outer second ∷ []) (two_loops e l m) f =
      decided (eqb (word % 65536) 0) false _ _ (ne_eqb (word % 65536) 0 (λ z. omega (arith, l.small, l.some_place)))
      (decided _ (same (letters left) (letters first)) _ _ (compared l (omega (arith, l.small)) f) (by (same (letters left) (letters first)) refl))
    where
      by : (b : Bool) → same (letters left) (letters first) ≡ b → Told cells nodes Loop at next left (opened inner first ∷ opened outer second ∷ []) (cond b (Some (word / 65536)) None)
      by true t = can {word = word / 65536} (cond_true _ _ _ t) (omega arith) (kept (one_loop {inner = outer} {left = second} (omega (arith, l.small)) m))
      by false t = cannot (ap (λ o. and_then o (bounded left)) (cond_false _ _ _ t))
  closing (opened inner first ∷ (opened outer second ∷ (_ ∷ _))) x f = elim x [ ]

  indexing : (loops : List Open) → Opens cells nodes at word loops → Told cells nodes LoopIndex at next left loops (word_after cells nodes LoopIndex next node word)
  unfolding word_after loops_after
  indexing [] (no_loop e) = decided (eqb (word % 65536) 0) true _ _ (eq-eqb (word % 65536) 0 (omega arith)) (cannot refl)
  indexing (opened inner first ∷ []) (one_loop e l) =
      decided (eqb (word % 65536) 0) false _ _ (ne_eqb (word % 65536) 0 (λ z. omega (arith, l.small, l.some_place))) (can refl (omega arith) (kept (one_loop e l)))
  indexing (opened inner first ∷ opened outer second ∷ []) (two_loops e l m) =
      decided (eqb (word % 65536) 0) false _ _ (ne_eqb (word % 65536) 0 (λ z. omega (arith, l.small, l.some_place))) (can refl (omega arith) (kept (two_loops e l m)))
  indexing (opened inner first ∷ (opened outer second ∷ (_ ∷ _))) x = elim x [ ]

  pub loops_told : (element : Element) (loops : List Open) → Opens cells nodes at word loops → kinds_after element kinds ≡ some left
      → Told cells nodes element at next left loops (word_after cells nodes element next node word)
  unfolding word_after loops_after kinds_after
  loops_told NoRule loops o e = cannot refl
  loops_told (Kinds exchange) loops o e = can refl (few o) (kept o)
  loops_told Do loops o e = opening loops o
  loops_told Loop loops o e = closing loops o (let f : kinds ≡ left = cc in f)
  loops_told LoopIndex loops o e = indexing loops o
  loops_told (JumpIfFalse target) loops o e = can refl (few o) (kept o)
