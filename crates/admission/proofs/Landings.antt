-- The jumps of a program whose labels are noted: the code's test of a jump, and the loop over all elements.
use Prim.Native.Nat.{ℕ, ◌+◌, ◌*◌, ◌-◌, ◌≤◌, ◌<◌}
use mathlib.Core.Path.{◌≡◌, refl, sym, ◌∙◌, ap, ap₂, subst}
use mathlib.Core.Bool.{Bool, true, false, cond, false≢true, true≢false}
use mathlib.Core.List.{List, [], ◌∷◌}
use mathlib.Core.Option.{some}
use native.Mathlib.Omega.{arith}
use lib.Dec.{eqb, leb, ltb}
use lib.ListN.{length, get_or}
use borrow.Author.Tests.{eq-eqb, ne_eqb, eqb-true, eqb-false, le-leb, ltb-true, ltb-false}
use Rattle.slices.specs.Same.{same}
use Rattle.slices.proofs.Equality.{same_refl, same_equal}
use Rattle.labels.specs.declared.Kind.{Kind}
use Rattle.labels.specs.declared.Element.{Element}
use Rattle.labels.specs.declared.Element.TheVariants.{NoRule, Kinds, Do, Loop, LoopIndex, JumpIfFalse}
use Rattle.labels.specs.Elements.{element_end, whole_element, element}
use Rattle.labels.specs.Labels.{letters, Open, opened, Label, label, kinds_of, open_loops, empty, next_label}
use Rattle.labels.specs.Faults.{here, Reached, WrongJump, Ended}
use Rattle.labels.proofs.Comparison.{letters_equal}
use Rattle.labels.proofs.Ways.{cond_true, cond_false, further, no_back, snoc, fits, reached_once, through}
use Rattle.labels.proofs.Exactly.{is_answer}
use Rattle.labels.proofs.Refused.{between}
use Rattle.admission.specs.Found.{whole, found}
use Rattle.admission.specs.Nodes.{stacked, Kept}
use Rattle.admission.specs.Noted.{LoopAt, Opens, no_loop, one_loop, two_loops, Noted, Tells, nothing, this, Jumps, all_right, first_wrong}
use Rattle.admission.specs.Jumps.{same_label, right_jump}
use Rattle.admission.proofs.Turns.{tells_held}
use Rattle.std.specs.Prelude.{Ok, Err, None, Option}

-- the test by the nodes that the code reads
pub by_nodes : (cells nodes loops : List ℕ) (place other x y : ℕ) → (get_or nodes place 0 ≡ 0 → ⊥) → get_or loops place 0 ≡ get_or loops other 0 → x ≡ get_or nodes place 0 - 1 → y ≡ get_or nodes other 0 - 1
    → same (stacked cells x) (stacked cells y) ≡ same_label cells nodes loops place other
unfolding same_label
by_nodes cells nodes loops place other x y seen words ex ey =
    ap₂ (λ a b. same (stacked cells a) (stacked cells b)) ex ey
    ∙ sym (cond_false (eqb (get_or nodes place 0) 0) _ _ (ne_eqb _ _ seen) ∙ cond_true (eqb (get_or loops place 0) (get_or loops other 0)) _ _ (eq-eqb _ _ words))

-- the word of open loops
word_of : List Open → ℕ
word_of [] = 0
word_of (opened inner left ∷ []) = inner
word_of (opened inner left ∷ opened outer first ∷ loops) = outer * 65536 + inner

module _ {cells nodes : List ℕ} where
  word_is : {at word : ℕ} {loops : List Open} → Opens cells nodes at word loops → word ≡ word_of loops
  unfolding word_of
  word_is (no_loop e) = e
  word_is (one_loop e l) = e
  word_is (two_loops e l m) = e

  same_left : {at other place : ℕ} (left first : List Kind) → LoopAt cells nodes at place left → LoopAt cells nodes other place first → left ≡ first
  same_left left first l m = letters_equal left first (sym l.holds ∙ m.holds)

  -- a word stands for one list of open loops
  opens_same : {at other word : ℕ} (x y : List Open) → Opens cells nodes at word x → Opens cells nodes other word y → x ≡ y
  opens_same [] [] (no_loop e) (no_loop f) = refl
  opens_same [] (opened b s ∷ []) (no_loop e) (one_loop f m) = absurd (omega (arith, m.some_place))
  opens_same [] (opened b s ∷ opened d t ∷ []) (no_loop e) (two_loops f m n) = absurd (omega (arith, n.some_place))
  opens_same (opened a r ∷ []) [] (one_loop e l) (no_loop f) = absurd (omega (arith, l.some_place))
  opens_same {other = other} (opened a r ∷ []) (opened b s ∷ []) (one_loop e l) (one_loop f m) =
      let places : a ≡ b = sym e ∙ f in
      let lefts : r ≡ s = same_left r s l (subst (λ z. LoopAt cells nodes other z s) (sym places) m) in
      cc
  opens_same (opened a r ∷ []) (opened b s ∷ opened d t ∷ []) (one_loop e l) (two_loops f m n) = absurd (omega (arith, l.small, n.some_place))
  opens_same (opened a r ∷ opened c q ∷ []) [] (two_loops e l k) (no_loop f) = absurd (omega (arith, k.some_place))
  opens_same (opened a r ∷ opened c q ∷ []) (opened b s ∷ []) (two_loops e l k) (one_loop f m) = absurd (omega (arith, m.small, k.some_place))
  opens_same {other = other} (opened a r ∷ opened c q ∷ []) (opened b s ∷ opened d t ∷ []) (two_loops e l k) (two_loops f m n) =
      let inner : a ≡ b = omega (arith, l.small, m.small) in
      let outer : c ≡ d = omega (arith, l.small, m.small) in
      let lefts : r ≡ s = same_left r s l (subst (λ z. LoopAt cells nodes other z s) (sym inner) m) in
      let firsts : q ≡ t = same_left q t k (subst (λ z. LoopAt cells nodes other z t) (sym outer) n) in
      cc
  opens_same [] (opened b s ∷ (opened d t ∷ (_ ∷ _))) _ x = elim x [ ]
  opens_same (opened a r ∷ []) (opened b s ∷ (opened d t ∷ (_ ∷ _))) _ x = elim x [ ]
  opens_same (opened a r ∷ (opened c q ∷ [])) (opened b s ∷ (opened d t ∷ (_ ∷ _))) _ x = elim x [ ]
  opens_same (opened a r ∷ (opened c q ∷ (_ ∷ _))) y x _ = elim x [ ]

label_by : (l k : Label) → kinds_of l ≡ kinds_of k → open_loops l ≡ open_loops k → l ≡ k
label_by (label kinds loops) (label others more) e f = cc

-- the loop stands at an element's start, behind jumps that are right
pub record Looking (code : List ℕ) (at : ℕ) : Type 0 where
  pub now : Label
  pub reached : Reached code at now
  pub inside : at ≤ length code
  pub right : (place : ℕ) → place < at → WrongJump code place → ⊥

-- merged nodes tell the same
pub tells_kept : {code cells others nodes loops : List ℕ} → Kept cells others → ((place : ℕ) → Tells code cells nodes loops place) → (place : ℕ) → Tells code others nodes loops place
tells_kept {code} {cells} {others} {nodes} {loops} k tells place =
    tells_held cells others nodes nodes loops loops place (λ p near. k.stacks (get_or nodes p 0 - 1)) (λ p near. refl) (λ p near. refl) (omega arith) (tells place)

module _ (code cells nodes loops : List ℕ) (tells : (place : ℕ) → Tells code cells nodes loops place) where
  -- the label of a place that is reached is noted there
  pub noted_at : {place : ℕ} {now : Label} → Reached code place now → Noted cells nodes loops place now
  noted_at {place} {now} w = by (tells place)
    where
      by : Tells code cells nodes loops place → Noted cells nodes loops place now
      by (nothing e no_way) = absurd (no_way now w)
      by (this v n) = subst (Noted cells nodes loops place) (reached_once code v w) n

  -- the test of two labels that are noted
  test_same : {place other : ℕ} {now : Label} → Reached code place now → Reached code other now → same_label cells nodes loops place other ≡ true
  unfolding same_label
  test_same {place} {other} {now} v w =
      let a = noted_at v in
      let b = noted_at w in
      let seen : get_or nodes place 0 ≡ 0 → ⊥ = λ e. omega (arith, a.seen) in
      cond_false (eqb (get_or nodes place 0) 0) _ _ (ne_eqb _ _ seen)
      ∙ cond_true (eqb (get_or loops place 0) (get_or loops other 0)) _ _ (eq-eqb _ _ (word_is a.opens ∙ sym (word_is b.opens)))
      ∙ ap₂ same a.kinds b.kinds
      ∙ same_refl (letters (kinds_of now))

  same_test : {place other : ℕ} {now : Label} → same_label cells nodes loops place other ≡ true → Reached code other now → Reached code place now
  unfolding same_label
  same_test {place} {other} {now} e w = by (eqb (get_or nodes place 0) 0) refl (eqb (get_or loops place 0) (get_or loops other 0)) refl (tells place) e
    where
      b : Noted cells nodes loops other now
      b = noted_at w

      by : (x : Bool) → eqb (get_or nodes place 0) 0 ≡ x → (y : Bool) → eqb (get_or loops place 0) (get_or loops other 0) ≡ y → Tells code cells nodes loops place
          → cond x false (cond y (same (stacked cells (get_or nodes place 0 - 1)) (stacked cells (get_or nodes other 0 - 1))) false) ≡ true → Reached code place now
      by true ex y ey t f = absurd (false≢true f)
      by false ex false ey t f = absurd (false≢true f)
      by false ex true ey (nothing n no_way) f = absurd (eqb-false (get_or nodes place 0) 0 ex n)
      by false ex true ey (this {now = l} v a) f =
          let stacks : letters (kinds_of l) ≡ letters (kinds_of now) = sym a.kinds ∙ same_equal _ _ f ∙ b.kinds in
          let opens : open_loops l ≡ open_loops now =
          opens_same (open_loops l) (open_loops now) a.opens (subst (λ z. Opens cells nodes other z (open_loops now)) (sym (eqb-true (get_or loops place 0) (get_or loops other 0) ey)) b.opens) in
          subst (Reached code place) (label_by l now (letters_equal (kinds_of l) (kinds_of now) stacks) opens) v

  pub looking : Looking code 0
  looking = record { now = empty; reached = here; inside = omega arith; right = λ place less. absurd (omega arith) }

  pub looked : (at : ℕ) → Looking code at → length code ≤ at → Jumps code (Ok tt)
  looked at k end = all_right λ place j. k.right place (omega (arith, j.inside)) j

  whole_found : (at next : ℕ) (e : Element) → found code at ≡ whole e next → (element code at ≡ e) × (next ≡ element_end code at)
  unfolding found element
  whole_found at next e is = by (leb (element_end code at) (length code)) is
    where
      by : (b : Bool) → cond b (whole (whole_element code at (get_or code at 0)) (element_end code at)) None ≡ whole e next
          → (cond b (whole_element code at (get_or code at 0)) NoRule ≡ e) × (next ≡ element_end code at)
      by true f =
          let pair : ◌≡◌ {A = Element × ℕ} (whole_element code at (get_or code at 0), element_end code at) (e, next) = cc in
          (ap (λ q. q.0) pair, sym (ap (λ q. q.1) pair))
      by false f = absurd (let z : ◌≡◌ {A = ℕ} 0 1 = cc in omega arith)

  module _ (ended : Ended code) {at : ℕ} (k : Looking code at) (inside : at < length code) where
    ruled : (next : Label) × (next_label code at k.now ≡ some next)
    ruled = is_answer (next_label code at k.now) (between code ended.reached k.reached inside)

    -- no element is cut
    pub not_cut : {result : Option (Element × ℕ)} → result ≡ found code at → result ≡ None → Jumps code (Err at)
    unfolding found
    not_cut {result} e f =
        absurd (by (leb (element_end code at) (length code)) (le-leb (element_end code at) (length code) (fits code at k.now ruled.1)) (sym e ∙ f))
      where
        by : (b : Bool) → b ≡ true → cond b (whole (whole_element code at (get_or code at 0)) (element_end code at)) None ≡ None → ⊥
        by true t x = absurd (let z : ◌≡◌ {A = ℕ} 0 1 = cc in omega arith)
        by false t x = false≢true t

    module _ {result : Option (Element × ℕ)} {e : Element} {next : ℕ} (is : result ≡ found code at) (whole : result ≡ whole e next) where
      here_found : (element code at ≡ e) × (next ≡ element_end code at)
      here_found = whole_found at next e (sym is ∙ whole)

      behind : Reached code next ruled.0
      behind = subst (λ z. Reached code z ruled.0) (sym here_found.1) (snoc code k.reached ruled.1)

      -- a jump that fails the test
      pub wrong_here : right_jump cells nodes loops e next ≡ false → Jumps code (Err at)
      unfolding right_jump
      wrong_here test = by e here_found.0 test
        where
          by : (x : Element) → element code at ≡ x → right_jump cells nodes loops x next ≡ false → Jumps code (Err at)
          by NoRule ex t = absurd (true≢false t)
          by (Kinds exchange) ex t = absurd (true≢false t)
          by Do ex t = absurd (true≢false t)
          by Loop ex t = absurd (true≢false t)
          by LoopIndex ex t = absurd (true≢false t)
          by (JumpIfFalse target) ex t =
              first_wrong
              (record {
                now = k.now;
                next = ruled.0;
                target = target;
                reached = k.reached;
                inside = inside;
                jump = ex;
                gives = ruled.1;
                wrong = λ v. true≢false (sym (test_same v behind) ∙ t);
              })
              k.right

      this_right : right_jump cells nodes loops e next ≡ true → WrongJump code at → ⊥
      unfolding right_jump
      this_right test j = j.wrong (subst (Reached code j.target) same_next (same_test (subst (λ x. right_jump cells nodes loops x next ≡ true) (sym here_found.0 ∙ j.jump) test) behind))
        where
          same_now : j.now ≡ k.now
          same_now = reached_once code j.reached k.reached

          same_next : ruled.0 ≡ j.next
          same_next =
              let both : some ruled.0 ≡ some j.next = sym ruled.1 ∙ subst (λ l. next_label code at l ≡ some j.next) same_now j.gives in
              cc

      pub look_on : right_jump cells nodes loops e next ≡ true → Looking code next
      look_on test =
          record
          { now = ruled.0; reached = behind; inside = subst (λ z. z ≤ length code) (sym here_found.1) (fits code at k.now ruled.1); right = right }
        where
          right : (place : ℕ) → place < next → WrongJump code place → ⊥
          right place less j = by (ltb place at) refl (eqb place at) refl
            where
              by : (x : Bool) → ltb place at ≡ x → (y : Bool) → eqb place at ≡ y → ⊥
              by true ex y ey = k.right place (ltb-true place at ex) j
              by false ex true ey = this_right test (subst (WrongJump code) (eqb-true place at ey) j)
              by false ex false ey =
                  let far : at < place = omega (arith, ltb-false place at ex, eqb-false place at ey) in
                  let r = through code k.reached j.reached far in
                  omega (arith, no_back code r.2, here_found.1)

      pub look_far : at < next
      look_far = subst (λ z. at < z) (sym here_found.1) (further code at)
