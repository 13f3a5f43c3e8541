-- The ways of the sweep: where they lead, and what the tests along them find.
use Prim.Native.Nat.{ℕ, zero, suc, ◌+◌, ◌≤◌, ◌<◌}
use mathlib.Core.Path.{◌≡◌, refl, sym, ◌∙◌, subst}
use mathlib.Core.Bool.{Bool, true, false, cond, false≢true, true≢false}
use mathlib.Core.List.{List}
use mathlib.Core.Option.{Option, none, some}
use native.Mathlib.Omega.{arith}
use lib.Dec.{leb, ltb, eqb}
use lib.ListN.{length}
use borrow.Author.Tests.{lt-ltb, eq-eqb, ne_eqb, eqb-true, leb-true, ltb-true}
use Rattle.bytecode.specs.Operands.{behind}
use Rattle.labels.specs.declared.Element.TheVariants.{NoRule}
use Rattle.labels.specs.Elements.{joined, element_end, whole_element, element}
use Rattle.labels.specs.Labels.{Label, label, empty, and_then, kinds_after, rule, next_label, Start, follow}
use Rattle.labels.specs.Check.{label_from, label_at, first_failing}
use Rattle.labels.specs.Faults.{Way, here, on, Reached}

pub cond_true : {A : Type 0} (b : Bool) (x y : A) → b ≡ true → cond b x y ≡ x
cond_true true x y e = refl
cond_true false x y e = absurd (false≢true e)

pub cond_false : {A : Type 0} (b : Bool) (x y : A) → b ≡ false → cond b x y ≡ y
cond_false true x y e = absurd (true≢false e)
cond_false false x y e = refl

-- every element has a byte
pub further : (code : List ℕ) (at : ℕ) → at < element_end code at
unfolding element_end behind
further code at = by (joined code at)
  where
    by : (b : Bool) → at < cond b (at + 3) (behind code at)
    by true = omega arith
    by false = omega arith

module _ (code : List ℕ) where
  pub snoc : {at place : ℕ} {now then next : Label} → Way code at now place then → next_label code place then ≡ some next → Way code at now (element_end code place) next
  snoc here e = on e here
  snoc (on e₁ w) e = on e₁ (snoc w e)

  pub no_back : {at place : ℕ} {now then : Label} → Way code at now place then → at ≤ place
  no_back here = omega arith
  no_back (on {at = at} e w) = omega (arith, no_back w, further code at)

  -- a rule is there only for an element that is whole
  pub fits : (at : ℕ) (now : Label) {next : Label} → next_label code at now ≡ some next → element_end code at ≤ length code
  unfolding next_label rule element kinds_after
  fits at (label kinds loops) {next} e = by (leb (element_end code at) (length code)) refl e
    where
      by : (b : Bool) → leb (element_end code at) (length code) ≡ b → rule (cond b (whole_element code at (lib.ListN.get_or code at 0)) NoRule) (element_end code at) (label kinds loops) ≡ some next → element_end code at ≤ length code
      by true t f = leb-true _ _ t
      by false t f = absurd (let z : ◌≡◌ {A = ℕ} 0 1 = cc in omega arith)

  pub way_found : (fuel : ℕ) {at place : ℕ} {now then : Label} → Way code at now place then → length code ≤ fuel + at → label_from fuel code at now place ≡ some then
  unfolding label_from
  way_found zero {at} here b = cond_true (eqb at at) _ _ (eq-eqb at at refl)
  way_found (suc fuel) {at} here b = cond_true (eqb at at) _ _ (eq-eqb at at refl)
  way_found zero (on {at = at} {now = now} e w) b = absurd (omega (arith, fits at now e, further code at))
  way_found (suc fuel) (on {at = at} {place = place} e w) b =
      cond_false (eqb at place) _ _ (ne_eqb at place (λ x. omega (arith, no_back w, further code at)))
      ∙ rw e (way_found fuel w (omega (arith, further code at)))

  pub found_way : (fuel at : ℕ) (now : Label) (place : ℕ) {then : Label} → label_from fuel code at now place ≡ some then → Way code at now place then
  unfolding label_from
  found_way zero at now place {then} e = by (eqb at place) refl e
    where
      by : (b : Bool) → eqb at place ≡ b → cond b (some now) none ≡ some then → Way code at now place then
      by true t f =
          let x : at ≡ place = eqb-true at place t in
          let y : now ≡ then = cc in
          subst (λ z. Way code at now z then) x (subst (λ z. Way code at now at z) y here)
      by false t f = absurd (let z : ◌≡◌ {A = ℕ} 0 1 = cc in omega arith)
  found_way (suc fuel) at now place {then} e = by (eqb at place) refl (next_label code at now) refl (λ j f. found_way fuel (element_end code at) j place f) e
    where
      by : (b : Bool) → eqb at place ≡ b → (o : Option Label) → next_label code at now ≡ o → ((j : Label) → label_from fuel code (element_end code at) j place ≡ some then → Way code (element_end code at) j place then)
          → cond b (some now) (and_then o λ j. label_from fuel code (element_end code at) j place) ≡ some then → Way code at now place then
      by true t o oe ih f =
          let x : at ≡ place = eqb-true at place t in
          let y : now ≡ then = cc in
          subst (λ z. Way code at now z then) x (subst (λ z. Way code at now at z) y here)
      by false t none oe ih f = absurd (let z : ◌≡◌ {A = ℕ} 0 1 = cc in omega arith)
      by false t (some j) oe ih f = on oe (ih j f)

  -- a place is reached with the label that the sweep finds there
  pub reached_label : {place : ℕ} {then : Label} → Reached code place then → label_at code place ≡ some then
  unfolding label_at
  reached_label w = way_found (length code) w (omega arith)

  pub label_reached : (place : ℕ) {then : Label} → label_at code place ≡ some then → Reached code place then
  unfolding label_at
  label_reached place e = found_way (length code) 0 empty place e

  pub reached_once : {place : ℕ} {a b : Label} → Reached code place a → Reached code place b → a ≡ b
  reached_once {a = a} {b = b} v w =
      let e : some a ≡ some b = sym (reached_label v) ∙ reached_label w in
      cc

  -- a way past a place that is reached goes through it
  pub through : {at place far : ℕ} {now then last : Label} → Way code at now place then → Way code at now far last → place < far
      → (next : Label) × (next_label code place then ≡ some next) × Way code (element_end code place) next far last
  through here here less = absurd (omega arith)
  through here (on {next = next} e w) less = (next, e, w)
  through (on {at = at} e v) here less = absurd (omega (arith, no_back v, further code at))
  through {far = far} {last = last} (on {at = at} {next = next} e v) (on {next = other} e₁ w) less =
      let same : some other ≡ some next = sym e₁ ∙ e in
      let one : other ≡ next = cc in
      through v (subst (λ z. Way code (element_end code at) z far last) one w) less

  pub way_start : {at place : ℕ} {now then : Label} → Way code at now place then → Start code at → Start code place
  way_start here s = s
  way_start (on {at = at} {now = now} e w) s = way_start w (follow s (omega (arith, fits at now e, further code at)))

  module _ (test : ℕ → Option Label → Bool) where
    -- where no place fails, the test holds at each element
    step_none : (fuel at : ℕ) (now : Label) → first_failing test (suc fuel) code at now ≡ none → at < length code
        → (test at (next_label code at now) ≡ true) × (and_then (next_label code at now) (λ j. first_failing test fuel code (element_end code at) j) ≡ none)
    unfolding first_failing
    step_none fuel at now e inside = by (test at (next_label code at now)) refl (sym (cond_true (ltb at (length code)) _ _ (lt-ltb _ _ inside)) ∙ e)
      where
        rest : Option ℕ
        rest = and_then (next_label code at now) (λ j. first_failing test fuel code (element_end code at) j)

        by : (b : Bool) → test at (next_label code at now) ≡ b → cond b rest (some at) ≡ none → (test at (next_label code at now) ≡ true) × (rest ≡ none)
        by true t x = (t, x)
        by false t x = absurd (let z : ◌≡◌ {A = ℕ} 0 1 = cc in omega arith)

    pub none_fails : (fuel : ℕ) {at place : ℕ} {now then : Label} → first_failing test fuel code at now ≡ none → Way code at now place then → place < length code → length code ≤ fuel + at
        → test place (next_label code place then) ≡ true
    none_fails zero e w inside b = absurd (omega (arith, no_back w))
    none_fails (suc fuel) {at} {now = now} e here inside b = (step_none fuel at now e inside).0
    none_fails (suc fuel) e (on {at = at} {now = now} {next = next} e₁ w) inside b =
        let inside₁ : at < length code = omega (arith, no_back w, further code at) in
        let r : first_failing test fuel code (element_end code at) next ≡ none = rw e₁ at (step_none fuel at now e inside₁).1 in
        none_fails fuel r w inside (omega (arith, further code at))

    pub all_pass : (fuel at : ℕ) (now : Label) → ((place : ℕ) (then : Label) → Way code at now place then → place < length code → test place (next_label code place then) ≡ true) → first_failing test fuel code at now ≡ none
    unfolding first_failing
    all_pass zero at now h = refl
    all_pass (suc fuel) at now h = by (ltb at (length code)) refl (next_label code at now) refl (λ j. all_pass fuel (element_end code at) j)
      where
        by : (b : Bool) → ltb at (length code) ≡ b → (o : Option Label) → next_label code at now ≡ o
            → ((j : Label) → ((place : ℕ) (then : Label) → Way code (element_end code at) j place then → place < length code → test place (next_label code place then) ≡ true) → first_failing test fuel code (element_end code at) j ≡ none)
            → cond b (cond (test at (next_label code at now)) (and_then o λ j. first_failing test fuel code (element_end code at) j) (some at)) none ≡ none
        by false t o oe ih = refl
        by true t none oe ih = cond_true (test at (next_label code at now)) _ _ (h at now here (ltb-true _ _ t))
        by true t (some j) oe ih = cond_true (test at (next_label code at now)) _ _ (h at now here (ltb-true _ _ t)) ∙ ih j (λ place then w. h place then (on oe w))
