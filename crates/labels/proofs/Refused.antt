-- A program of 1 to 65,535 bytes is refused with 27 exactly at its fault.
use Prim.Native.Nat.{ℕ, zero, suc, ◌+◌, ◌≤◌, ◌<◌}
use mathlib.Core.Path.{◌≡◌, refl, sym, ◌∙◌, ap, subst}
use mathlib.Core.Bool.{Bool, true, false, cond, true≢false}
use mathlib.Core.List.{List, [], ◌∷◌}
use mathlib.Core.Option.{Option, none, some}
use mathlib.Core.Logic.{◌↔◌}
use native.Mathlib.Omega.{arith}
use lib.Dec.{ltb, eqb}
use lib.ListN.{length}
use borrow.Author.Tests.{lt-ltb, eq-eqb, ne_eqb, ltb-true, ltb-false}
use Rattle.errors.specs.declared.Refusal.{Refusal}
use Rattle.errors.specs.declared.Refusal.TheVariants.{EmptyInstructions, ProgramTooLong, NotAdmitted}
use Rattle.labels.specs.declared.Element.{Element}
use Rattle.labels.specs.declared.Element.TheVariants.{NoRule, Kinds, Do, Loop, LoopIndex, JumpIfFalse}
use Rattle.labels.specs.Elements.{element_end, element}
use Rattle.labels.specs.Labels.{Label, label, kinds_of, open_loops, empty, and_then, next_label}
use Rattle.labels.specs.Check.{label_at, right_jump, is_some, first_failing, first_without_rule, first_wrong_jump, admitted, refused, else_at, ending, swept, admission}
use Rattle.labels.specs.Faults.{Way, here, on, Reached, WrongJump, Ended, Fault, without_rule, wrong_jump, open_loop}
use Rattle.labels.proofs.Comparison.{same_label_refl}
use Rattle.labels.proofs.Ways.{cond_true, cond_false, further, no_back, snoc, fits, reached_label, none_fails, all_pass}
use Rattle.labels.proofs.Exactly.{is_answer, in_range, right_target}

-- refused with 1
pub empty_refused : (code : List ℕ) → length code ≡ 0 → admission code ≡ refused EmptyInstructions
unfolding admission
empty_refused code nothing = cond_true (eqb (length code) 0) _ _ (eq-eqb (length code) 0 nothing)

-- refused with 28
pub long_refused : (code : List ℕ) → 65535 < length code → admission code ≡ refused ProgramTooLong
unfolding admission
long_refused code long = cond_false (eqb (length code) 0) _ _ (ne_eqb (length code) 0 (λ e. omega arith)) ∙ cond_true (ltb 65535 (length code)) _ _ (lt-ltb 65535 (length code) long)

module _ (code : List ℕ) where
  -- the first place that fails a test
  pub record First (test : ℕ → Option Label → Bool) (at : ℕ) (now : Label) (place : ℕ) : Type 0 where
    pub then : Label
    pub way : Way code at now place then
    pub inside : place < length code
    pub fails : test place (next_label code place then) ≡ false
    pub earlier : (p : ℕ) (l : Label) → Way code at now p l → p < place → test p (next_label code p l) ≡ true

  pub first_is : (test : ℕ → Option Label → Bool) (fuel at : ℕ) (now : Label) (place : ℕ) → first_failing test fuel code at now ≡ some place → First test at now place
  unfolding first_failing
  first_is test zero at now place e = absurd (let z : ◌≡◌ {A = ℕ} 0 1 = cc in omega arith)
  first_is test (suc fuel) at now place e =
      by (ltb at (length code)) refl (test at (next_label code at now)) refl (next_label code at now) refl (λ j f. first_is test fuel (element_end code at) j place f) e
    where
      by : (b : Bool) → ltb at (length code) ≡ b → (t : Bool) → test at (next_label code at now) ≡ t → (o : Option Label) → next_label code at now ≡ o
          → ((j : Label) → first_failing test fuel code (element_end code at) j ≡ some place → First test (element_end code at) j place)
          → cond b (cond t (and_then o λ j. first_failing test fuel code (element_end code at) j) (some at)) none ≡ some place → First test at now place
      by false be t te o oe ih x = absurd (let z : ◌≡◌ {A = ℕ} 0 1 = cc in omega arith)
      by true be true te none oe ih x = absurd (let z : ◌≡◌ {A = ℕ} 0 1 = cc in omega arith)
      by true be false te o oe ih x =
          let p : at ≡ place = cc in
          subst (λ z. First test at now z) p
          (record { then = now; way = here; inside = ltb-true _ _ be; fails = te; earlier = λ p l w lt. absurd (omega (arith, no_back code w)) })
      by true be true te (some j) oe ih x =
          let f = ih j x in
          record { then = f.then; way = on oe f.way; inside = f.inside; fails = f.fails; earlier = sooner f }
        where
          sooner : First test (element_end code at) j place → (p : ℕ) (l : Label) → Way code at now p l → p < place → test p (next_label code p l) ≡ true
          sooner f p l here lt = te
          sooner f p l (on {next = k} e w) lt =
              let same : some k ≡ some j = sym e ∙ oe in
              let kj : k ≡ j = cc in
              f.earlier p l (subst (λ z. Way code (element_end code at) z p l) kj w) lt

  no_answer : {A : Type 0} (o : Option A) → is_some o ≡ false → o ≡ none
  no_answer none e = refl
  no_answer (some a) e = absurd (true≢false e)

  none_answer : {A : Type 0} (o : Option A) → o ≡ none → is_some o ≡ false
  none_answer none e = refl
  none_answer (some a) e = absurd (let z : ◌≡◌ {A = ℕ} 0 1 = cc in omega arith)

  -- a jump is wrong exactly if it fails the test
  fails_wrong : {at : ℕ} {now next : Label} → Reached code at now → at < length code → next_label code at now ≡ some next → right_jump code (element code at) (next_label code at now) ≡ false → WrongJump code at
  fails_wrong {at} {now} {next} w inside gives e = by (element code at) refl e
    where
      by : (x : Element) → element code at ≡ x → right_jump code x (next_label code at now) ≡ false → WrongJump code at
      by NoRule x f = absurd (true≢false f)
      by (Kinds exchange) x f = absurd (true≢false f)
      by Do x f = absurd (true≢false f)
      by Loop x f = absurd (true≢false f)
      by LoopIndex x f = absurd (true≢false f)
      by (JumpIfFalse target) x f =
          record {
            now = now;
            next = next;
            target = target;
            reached = w;
            inside = inside;
            jump = x;
            gives = gives;
            wrong = λ v. true≢false (sym (rw (reached_label code v, gives) (same_label_refl next)) ∙ f);
          }

  wrong_fails : {at : ℕ} (j : WrongJump code at) → right_jump code (element code at) (next_label code at j.now) ≡ false
  wrong_fails {at} j = by (right_jump code (element code at) (next_label code at j.now)) refl
    where
      by : (b : Bool) → right_jump code (element code at) (next_label code at j.now) ≡ b → b ≡ false
      by false e = refl
      by true e =
          let r = right_target code j.target _ (subst (λ x. right_jump code x (next_label code at j.now) ≡ true) j.jump e) in
          let same : some r.0 ≡ some j.next = sym r.1 ∙ j.gives in
          let k : r.0 ≡ j.next = cc in
          absurd (j.wrong (subst (λ z. Reached code j.target z) k r.2))

  -- each element on a way has a rule
  pub between : {at place p : ℕ} {now then l : Label} → Way code at now place then → Way code at now p l → p < place → is_some (next_label code p l) ≡ true
  between here v lt = absurd (omega (arith, no_back code v))
  between (on e w) here lt = rw e refl
  between {p = p} {l = l} (on {at = at} {next = k} e w) (on {next = j} e₁ v) lt =
      let same : some j ≡ some k = sym e₁ ∙ e in
      let jk : j ≡ k = cc in
      between w (subst (λ z. Way code (element_end code at) z p l) jk v) lt

  -- a place that fails a test is the first, if those before it pass
  first_found : (test : ℕ → Option Label → Bool) (fuel : ℕ) {at place : ℕ} {now then : Label} → Way code at now place then → place < length code → length code ≤ fuel + at
      → test place (next_label code place then) ≡ false → ((p : ℕ) (l : Label) → Way code at now p l → p < place → test p (next_label code p l) ≡ true)
      → first_failing test fuel code at now ≡ some place
  unfolding first_failing
  first_found test zero w inside b fails earlier = absurd (omega (arith, no_back code w))
  first_found test (suc fuel) {at} {now = now} here inside b fails earlier =
      cond_true (ltb at (length code)) _ _ (lt-ltb _ _ inside) ∙ cond_false (test at (next_label code at now)) _ _ fails
  first_found test (suc fuel) (on {at = at} {now = now} e w) inside b fails earlier =
      let near : at < length code = omega (arith, no_back code w, further code at) in
      cond_true (ltb at (length code)) _ _ (lt-ltb _ _ near)
      ∙ cond_true (test at (next_label code at now)) _ _ (earlier at now here (omega (arith, no_back code w, further code at)))
      ∙ rw e (first_found test fuel w inside (omega (arith, further code at)) fails (λ p l v. earlier p l (on e v)))

  -- where every element has a rule, the end is reached
  reach : ((at : ℕ) (now : Label) → Reached code at now → at < length code → is_some (next_label code at now) ≡ true)
      → (fuel at : ℕ) (now : Label) → Reached code at now → at ≤ length code → length code ≤ fuel + at → Ended code
  reach h zero at now w le b = record { last = now; reached = subst (λ z. Reached code z now) (let e : at ≡ length code = omega arith in e) w }
  reach h (suc fuel) at now w le b =
      by (ltb at (length code)) refl λ next e. reach h fuel (element_end code at) next (snoc code w e) (fits code at now e) (omega (arith, further code at))
    where
      by : (t : Bool) → ltb at (length code) ≡ t → ((next : Label) → next_label code at now ≡ some next → Ended code) → Ended code
      by false e go = record { last = now; reached = subst (λ z. Reached code z now) (let x : at ≡ length code = omega (arith, ltb-false at (length code) e) in x) w }
      by true e go = let a = is_answer (next_label code at now) (h at now w (ltb-true _ _ e)) in go a.0 a.1

  module _ (pass₁ : first_without_rule code ≡ none) where
    ruled : (at : ℕ) (now : Label) → Reached code at now → at < length code → is_some (next_label code at now) ≡ true
    unfolding first_without_rule
    ruled at now w inside = none_fails code _ (length code) pass₁ w inside (omega arith)

    pub all_ruled : Ended code
    all_ruled = reach ruled (length code) 0 empty here (omega arith) (omega arith)

    first_wrong : (at : ℕ) → first_wrong_jump code ≡ some at → Fault code at
    unfolding first_wrong_jump
    first_wrong at e =
        let f = first_is (λ p next. right_jump code (element code p) next) (length code) 0 empty at e in
        let a = is_answer (next_label code at f.then) (ruled at f.then f.way f.inside) in
        wrong_jump all_ruled (fails_wrong f.way f.inside a.1 f.fails)
        (λ p lt j. true≢false (sym (f.earlier p j.now j.reached lt) ∙ wrong_fails j))

    last_open : first_wrong_jump code ≡ none → (open_loops all_ruled.last ≡ [] → ⊥) → Fault code (length code)
    unfolding first_wrong_jump
    last_open pass₂ some-open =
        open_loop all_ruled (λ at j. true≢false (sym (none_fails code (λ p next. right_jump code (element code p) next) (length code) pass₂ j.reached j.inside (omega arith)) ∙ wrong_fails j)) some-open

  refusal_place : {p q : ℕ} → refused (NotAdmitted p) ≡ refused (NotAdmitted q) → p ≡ q
  refusal_place e = cc

  no_verdict : {ks : List _} {r : Refusal} → admitted ks ≡ refused r → ⊥
  no_verdict e = absurd (let z : ◌≡◌ {A = ℕ} 0 1 = cc in omega arith)

  swept_fault : (at : ℕ) → swept code ≡ refused (NotAdmitted at) → Fault code at
  unfolding swept first_without_rule
  swept_fault at e = by (first_without_rule code) refl (first_wrong_jump code) refl e
    where
      last : (pass₁ : first_without_rule code ≡ none) → first_wrong_jump code ≡ none → (l : Label) → (all_ruled pass₁).last ≡ l → ending (length code) (some l) ≡ refused (NotAdmitted at) → Fault code at
      last pass₁ pass₂ (label kinds []) le x = absurd (no_verdict x)
      last pass₁ pass₂ (label kinds (loop ∷ loops)) le x =
          subst (Fault code) (refusal_place x) (last_open pass₁ pass₂ (λ n. absurd (let c : loop ∷ loops ≡ [] = sym (ap open_loops le) ∙ n in let z : ◌≡◌ {A = ℕ} 0 1 = cc in omega arith)))

      by : (o₁ : Option ℕ) → first_without_rule code ≡ o₁ → (o₂ : Option ℕ) → first_wrong_jump code ≡ o₂
          → else_at o₁ (else_at o₂ (ending (length code) (label_at code (length code)))) ≡ refused (NotAdmitted at) → Fault code at
      by (some p) e₁ o₂ e₂ x =
          let f = first_is (λ q next. is_some next) (length code) 0 empty p e₁ in
          subst (Fault code) (refusal_place x) (without_rule (record { now = f.then; reached = f.way; inside = f.inside; no_rule = no_answer _ f.fails }))
      by none e₁ (some p) e₂ x = subst (Fault code) (refusal_place x) (first_wrong e₁ p e₂)
      by none e₁ none e₂ x = last e₁ e₂ _ refl (sym (ap (ending (length code)) (reached_label code (all_ruled e₁).reached)) ∙ x)

  ended_pass : Ended code → first_without_rule code ≡ none
  unfolding first_without_rule
  ended_pass e = all_pass code _ (length code) 0 empty λ at now w inside. between e.reached w inside

  not_wrong : Ended code → (at : ℕ) → (WrongJump code at → ⊥) → (now : Label) → Reached code at now → at < length code → right_jump code (element code at) (next_label code at now) ≡ true
  not_wrong ended at right now w inside = by (right_jump code (element code at) (next_label code at now)) refl
    where
      by : (b : Bool) → right_jump code (element code at) (next_label code at now) ≡ b → b ≡ true
      by true e = refl
      by false e = absurd (right (fails_wrong w inside (is_answer (next_label code at now) (between ended.reached w inside)).1 e))

  fault_swept : {at : ℕ} → Fault code at → swept code ≡ refused (NotAdmitted at)
  unfolding swept first_without_rule first_wrong_jump
  fault_swept {at} (without_rule f) =
      ap (λ o. else_at o (else_at (first_wrong_jump code) (ending (length code) (label_at code (length code)))))
      (first_found (λ q next. is_some next) (length code) f.reached f.inside (omega arith) (none_answer _ f.no_rule) (λ p l w lt. between f.reached w lt))
  fault_swept {at} (wrong_jump ended j first) =
      rw (
        ended_pass ended,
        first_found (λ p next. right_jump code (element code p) next) (length code) j.reached j.inside (omega arith) (wrong_fails j)
            (λ p l w lt. not_wrong ended p (first p lt) l w (let inside : p < length code = omega (arith, j.inside) in inside)),
      )
      refl
  fault_swept (open_loop ended right some-open) =
      rw (
        ended_pass ended,
        all_pass code (λ p next. right_jump code (element code p) next) (length code) 0 empty (λ p l w inside. not_wrong ended p (right p) l w inside),
        reached_label code ended.reached,
      )
      (by ended.last some-open)
    where
      by : (l : Label) → (open_loops l ≡ [] → ⊥) → ending (length code) (some l) ≡ refused (NotAdmitted (length code))
      by (label kinds []) n = absurd (n refl)
      by (label kinds (loop ∷ loops)) n = refl

-- admitted with the kinds at the end, where every element has a rule, no jump is wrong and no loop is open
pub passed : (code : List ℕ) → 1 ≤ length code → length code ≤ 65535 → (ended : Ended code) → ((at : ℕ) → WrongJump code at → ⊥) → open_loops ended.last ≡ []
    → admission code ≡ admitted (kinds_of ended.last)
unfolding swept first_wrong_jump
passed code more short ended right closed =
    in_range code more short
    ∙ rw (
      ended_pass code ended,
      all_pass code (λ p next. right_jump code (element code p) next) (length code) 0 empty (λ p l w inside. not_wrong code ended p (right p) l w inside),
      reached_label code ended.reached,
    )
    (by ended.last closed)
  where
    by : (l : Label) → open_loops l ≡ [] → ending (length code) (some l) ≡ admitted (kinds_of l)
    by (label kinds []) e = refl
    by (label kinds (loop ∷ loops)) e = absurd (let z : ◌≡◌ {A = ℕ} 0 1 = cc in omega arith)

-- refused with 27 at a place, exactly if the fault is there: the first element without a rule, else the first wrong jump, else the length
pub refused_at : (code : List ℕ) (at : ℕ) → 1 ≤ length code → length code ≤ 65535 → (admission code ≡ refused (NotAdmitted at)) ↔ Fault code at
refused_at code at more short =
    ((λ e. swept_fault code at (sym (in_range code more short) ∙ e)), (λ f. in_range code more short ∙ fault_swept code f))
