-- A program is admitted exactly if a labelling exists, and its labels are unique.
use Prim.Native.Nat.{ℕ, zero, suc, ◌+◌, ◌≤◌, ◌<◌}
use mathlib.Core.Path.{◌≡◌, refl, sym, ◌∙◌, ap, subst}
use mathlib.Core.Bool.{Bool, true, false, cond, false≢true}
use mathlib.Core.List.{List, [], ◌∷◌}
use mathlib.Core.Option.{Option, none, some, get_or}
use mathlib.Core.Logic.{◌↔◌}
use native.Mathlib.Omega.{arith}
use lib.Dec.{ltb, eqb}
use lib.ListN.{length}
use borrow.Author.Tests.{ne_eqb, eqb-false, le-ltb, ltb-true, ltb-false}
use Rattle.errors.specs.declared.Refusal.TheVariants.{EmptyInstructions, ProgramTooLong}
use Rattle.labels.specs.declared.Kind.{Kind}
use Rattle.labels.specs.declared.Element.{Element}
use Rattle.labels.specs.declared.Element.TheVariants.{NoRule, Kinds, Do, Loop, LoopIndex, JumpIfFalse}
use Rattle.labels.specs.Elements.{element_end, element}
use Rattle.labels.specs.Labels.{Label, label, kinds_of, open_loops, empty, next_label, Start, zeroth, follow, Labelling, Labelled}
use Rattle.labels.specs.Check.{label_at, has_label, right_jump, is_some, first_without_rule, first_wrong_jump, admitted, refused, else_at, ending, swept, admission}
use Rattle.labels.specs.Faults.{here, Reached}
use Rattle.labels.proofs.Comparison.{same_label_refl, same_label_equal}
use Rattle.labels.proofs.Ways.{cond_false, further, snoc, fits, reached_label, label_reached, reached_once, way_start, none_fails, all_pass}

pub is_answer : {A : Type 0} (o : Option A) → is_some o ≡ true → (a : A) × (o ≡ some a)
is_answer none e = absurd (false≢true e)
is_answer (some a) e = (a, refl)

module _ (code : List ℕ) where
  -- the labels that the sweep finds
  pub swept_label : ℕ → Label
  swept_label place = get_or (label_at code place) empty

  found : {place : ℕ} {now : Label} → Reached code place now → swept_label place ≡ now
  unfolding swept_label
  found w = ap (λ o. get_or o empty) (reached_label code w)

  -- a jump that passes the test
  pub right_target : (target : ℕ) (o : Option Label) → has_label (label_at code target) o ≡ true → (next : Label) × (o ≡ some next) × Reached code target next
  right_target target o e = by (label_at code target) refl o refl e
    where
      by : (p : Option Label) → label_at code target ≡ p → (q : Option Label) → o ≡ q → has_label p q ≡ true → (next : Label) × (o ≡ some next) × Reached code target next
      by none pe q qe f = absurd (false≢true f)
      by (some k) pe none qe f = absurd (false≢true f)
      by (some k) pe (some j) qe f = (j, qe, label_reached code target (pe ∙ ap some (same_label_equal k j f)))

  module _ (pass₁ : first_without_rule code ≡ none) where
    unfoldable has_rule : {at : ℕ} {now : Label} → Reached code at now → at < length code → is_some (next_label code at now) ≡ true
    unfolding first_without_rule
    has_rule w inside = none_fails code _ (length code) pass₁ w inside (omega arith)

    start_reached : {at : ℕ} → Start code at → (now : Label) × Reached code at now
    start_reached zeroth = (empty, here)
    start_reached (follow {at = at} s inside) =
        let w = start_reached s in
        let e = is_answer (next_label code at w.0) (has_rule w.1 inside) in
        (e.0, snoc code w.1 e.1)

    swept_reached : {at : ℕ} → Start code at → Reached code at (swept_label at)
    swept_reached {at} s = let w = start_reached s in subst (λ z. Reached code at z) (sym (found w.1)) w.1

    steps : (at : ℕ) → Start code at → at < length code → next_label code at (swept_label at) ≡ some (swept_label (element_end code at))
    steps at s inside =
        let w = swept_reached s in
        let e = is_answer (next_label code at (swept_label at)) (has_rule w inside) in
        e.1 ∙ ap some (sym (found (snoc code w e.1)))

    module _ (pass₂ : first_wrong_jump code ≡ none) where
      lands : (at target : ℕ) → Start code at → at < length code → element code at ≡ JumpIfFalse target → Start code target × (swept_label target ≡ swept_label (element_end code at))
      unfolding first_wrong_jump
      lands at target s inside jump =
          let w = swept_reached s in
          let passed : right_jump code (element code at) (next_label code at (swept_label at)) ≡ true = none_fails code _ (length code) pass₂ w inside (omega arith) in
          let r = right_target target _ (subst (λ e. right_jump code e (next_label code at (swept_label at)) ≡ true) jump passed) in
          (way_start code r.2 zeroth, found r.2 ∙ sym (found (snoc code w r.1)))

      labelled : open_loops (swept_label (length code)) ≡ [] → Labelling code swept_label
      labelled closed = record { zeroth_empty = found here; rules = steps; jumps = lands; closed = closed }

  -- admitted, so labelled
  swept_labelled : (kinds : List Kind) → swept code ≡ admitted kinds → Labelling code swept_label × (kinds_of (swept_label (length code)) ≡ kinds)
  unfolding swept swept_label
  swept_labelled kinds e = by _ refl _ refl (label_at code (length code)) refl e
    where
      by : (o₁ : Option ℕ) → first_without_rule code ≡ o₁ → (o₂ : Option ℕ) → first_wrong_jump code ≡ o₂
          → (o₃ : Option Label) → label_at code (length code) ≡ o₃ → else_at o₁ (else_at o₂ (ending (length code) o₃)) ≡ admitted kinds
          → Labelling code swept_label × (kinds_of (swept_label (length code)) ≡ kinds)
      by (some p) e₁ o₂ e₂ o₃ e₃ x = absurd (let z : ◌≡◌ {A = ℕ} 0 1 = cc in omega arith)
      by none e₁ (some p) e₂ o₃ e₃ x = absurd (let z : ◌≡◌ {A = ℕ} 0 1 = cc in omega arith)
      by none e₁ none e₂ none e₃ x = absurd (let z : ◌≡◌ {A = ℕ} 0 1 = cc in omega arith)
      by none e₁ none e₂ (some (label others (loop ∷ loops))) e₃ x = absurd (let z : ◌≡◌ {A = ℕ} 0 1 = cc in omega arith)
      by none e₁ none e₂ (some (label others [])) e₃ x =
          let l : swept_label (length code) ≡ label others [] = ap (λ o. get_or o empty) e₃ in
          let j : others ≡ kinds = cc in
          (labelled e₁ e₂ (ap open_loops l), ap kinds_of l ∙ j)

  -- labelled, so admitted; and every labelling has the sweep's labels
  module _ (labels : ℕ → Label) (lab : Labelling code labels) where
    pub start_way : {at : ℕ} → Start code at → Reached code at (labels at)
    start_way zeroth = subst (λ z. Reached code 0 z) (sym lab.zeroth_empty) here
    start_way (follow {at = at} s inside) = snoc code (start_way s) (lab.rules at s inside)

    way_same : {at : ℕ} {now : Label} → Reached code at now → labels at ≡ now
    way_same w = reached_once code (start_way (way_start code w zeroth)) w

    rule_there : (at : ℕ) (now : Label) → Reached code at now → at < length code → next_label code at now ≡ some (labels (element_end code at))
    rule_there at now w inside = subst (λ z. next_label code at z ≡ some (labels (element_end code at))) (way_same w) (lab.rules at (way_start code w zeroth) inside)

    jump_right : (at : ℕ) (now : Label) → Reached code at now → at < length code → right_jump code (element code at) (next_label code at now) ≡ true
    jump_right at now w inside = by (element code at) refl
      where
        by : (e : Element) → element code at ≡ e → right_jump code e (next_label code at now) ≡ true
        by NoRule x = refl
        by (Kinds exchange) x = refl
        by Do x = refl
        by Loop x = refl
        by LoopIndex x = refl
        by (JumpIfFalse target) x =
            let j = lab.jumps at target (way_start code w zeroth) inside x in
            let l : label_at code target ≡ some (labels (element_end code at)) = reached_label code (subst (λ z. Reached code target z) j.1 (start_way j.0)) in
            rw (l, rule_there at now w inside) (same_label_refl (labels (element_end code at)))

    no-fault₁ : first_without_rule code ≡ none
    unfolding first_without_rule
    no-fault₁ = all_pass code _ (length code) 0 empty λ at now w inside. rw (rule_there at now w inside) refl

    no-fault₂ : first_wrong_jump code ≡ none
    unfolding first_wrong_jump
    no-fault₂ = all_pass code _ (length code) 0 empty jump_right

    -- the code's length is a start
    reach : (fuel at : ℕ) → Start code at → at ≤ length code → length code ≤ fuel + at → Start code (length code)
    reach zero at s le b = subst (Start code) (let e : at ≡ length code = omega arith in e) s
    reach (suc fuel) at s le b =
        by (ltb at (length code)) refl λ inside. reach fuel (element_end code at) (follow s inside) (fits code at (labels at) (lab.rules at s inside)) (omega (arith, further code at))
      where
        by : (t : Bool) → ltb at (length code) ≡ t → (at < length code → Start code (length code)) → Start code (length code)
        by true e k = k (ltb-true _ _ e)
        by false e k = subst (Start code) (let x : at ≡ length code = omega (arith, ltb-false at (length code) e) in x) s

    last : Start code (length code)
    last = reach (length code) 0 zeroth (omega arith) (omega arith)

    labelled_swept : swept code ≡ admitted (kinds_of (labels (length code)))
    unfolding swept
    labelled_swept = rw (no-fault₁, no-fault₂, reached_label code (start_way last)) (by (labels (length code)) lab.closed)
      where
        by : (l : Label) → open_loops l ≡ [] → ending (length code) (some l) ≡ admitted (kinds_of l)
        by (label kinds []) e = refl
        by (label kinds (loop ∷ loops)) e = absurd (let z : ◌≡◌ {A = ℕ} 0 1 = cc in omega arith)

-- two labellings of a program have the same label at each element's start and at the length
pub unique : (code : List ℕ) (labels others : ℕ → Label) → Labelling code labels → Labelling code others → (at : ℕ) → Start code at → labels at ≡ others at
unique code labels others lab lab₂ at s = reached_once code (start_way code labels lab s) (start_way code others lab₂ s)

pub in_range : (code : List ℕ) → 1 ≤ length code → length code ≤ 65535 → admission code ≡ swept code
unfolding admission
in_range code more short =
    cond_false (eqb (length code) 0) _ _ (ne_eqb (length code) 0 (λ e. omega arith)) ∙ cond_false (ltb 65535 (length code)) _ _ (le-ltb 65535 (length code) short)

-- admitted with these kinds, exactly if the program has 1 to 65,535 bytes and a labelling whose label at the length has these kinds
pub exactly : (code : List ℕ) (kinds : List Kind) → (admission code ≡ admitted kinds) ↔ Labelled code kinds
unfolding admission
exactly code kinds = (
  (λ e. by (eqb (length code) 0) refl (ltb 65535 (length code)) refl e),
  (λ h. in_range code h.some_code h.short ∙ labelled_swept code h.labels h.labelling ∙ ap admitted h.at_end),
)
  where
    by : (b : Bool) → eqb (length code) 0 ≡ b → (d : Bool) → ltb 65535 (length code) ≡ d
        → cond b (refused EmptyInstructions) (cond d (refused ProgramTooLong) (swept code)) ≡ admitted kinds → Labelled code kinds
    by true be d de e = absurd (let z : ◌≡◌ {A = ℕ} 0 1 = cc in omega arith)
    by false be true de e = absurd (let z : ◌≡◌ {A = ℕ} 0 1 = cc in omega arith)
    by false be false de e =
        let r = swept_labelled code kinds e in
        record { short = ltb-false _ _ de; some_code = omega (arith, eqb-false (length code) 0 be); labels = swept_label code; labelling = r.0; at_end = r.1 }
