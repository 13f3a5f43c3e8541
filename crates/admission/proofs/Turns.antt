-- One element of the sweep: it has no rule, or the label that it gives the next is noted behind it.
use Prim.Native.Nat.{ℕ, suc, ◌+◌, ◌*◌, ◌-◌, ◌%◌, ◌≤◌, ◌<◌}
use mathlib.Core.Path.{◌≡◌, refl, sym, ◌∙◌, ap, ap₂, subst}
use mathlib.Core.Bool.{Bool, true, false, cond, ◌&&◌}
use mathlib.Core.List.{List, [], ◌∷◌}
use mathlib.Core.Option.{Option, none, some}
use native.Mathlib.Omega.{arith}
use lib.Dec.{eqb, leb, ltb}
use lib.ListN.{length, get_or, set, drop, length-drop, length-set}
use lib.Seq.{get_or-set_same, get_or-set_other}
use borrow.Author.Tests.{eqb-true, eqb-false, lt-leb, le-leb, leb-true, ltb-true, ltb-false}
use Rattle.labels.specs.declared.Kind.{Kind}
use Rattle.labels.specs.declared.Kind.TheVariants.{Number, Calldata, Boolean, Text, Numbers}
use Rattle.labels.specs.declared.Element.{Element}
use Rattle.labels.specs.declared.Element.TheVariants.{NoRule}
use Rattle.labels.specs.Elements.{element_end, whole_element, element}
use Rattle.labels.specs.Labels.{letter, letters, Open, opened, Label, label, kinds_of, open_loops, empty, and_then, kinds_after, loops_after, bounded, rule, next_label}
use Rattle.labels.specs.Faults.{here, Reached, WithoutRule}
use Rattle.labels.proofs.Ways.{cond_true, cond_false, further, snoc, no_back, fits, through}
use Rattle.admission.specs.declared.elements.Change.{Change}
use Rattle.admission.specs.declared.Step.{Step}
use Rattle.admission.specs.Found.{whole, found}
use Rattle.admission.specs.Changes.{taking, element_change}
use Rattle.admission.specs.Nodes.{top, below, stacked, lowered, given_node, given_cells}
use Rattle.admission.specs.Sweep.{word_after, count, height_after, plan_loops, plan_change, plan, noted_node, noted_cells, noted_nodes, Stance, stance, Stepped, stepped, step_plan, step_found, step}
use Rattle.admission.specs.Noted.{LoopAt, Opens, no_loop, one_loop, two_loops, Noted, Tells, nothing, this, Standing, Fresh, Swept, stuck_at, ended}
use Rattle.admission.proofs.Stacks.{stack_bottom, top_is, below_is, lowered_is, lowered_most, agree, given, given_stacked, given_before, given_length}
use Rattle.admission.proofs.Exchanges.{performed, lettered, element_is}
use Rattle.admission.proofs.OpenLoops.{Later, kept, fresh, Told, cannot, can, loops_told}
use Rattle.std.specs.Prelude as prelude
use Rattle.std.specs.Prelude.{Ok, Err, Some, None}

-- a letter is a byte
letter_small : (kind : Kind) → letter kind < 256
letter_small Number = omega arith
letter_small Calldata = omega arith
letter_small Boolean = omega arith
letter_small Text = omega arith
letter_small Numbers = omega arith

-- a letter that was given is one of a kind
given_small : (kinds : List Kind) (x : ℕ) (rest : List ℕ) → letters kinds ≡ given x rest → (x < 256) × ((others : List Kind) × (letters others ≡ rest))
given_small kinds x rest e = by (eqb x 0) refl kinds e
  where
    by : (b : Bool) → eqb x 0 ≡ b → (kinds : List Kind) → letters kinds ≡ cond b rest (x ∷ rest) → (x < 256) × ((others : List Kind) × (letters others ≡ rest))
    by true t kinds f = (omega (arith, eqb-true x 0 t), (kinds, f))
    by false t [] f = absurd (let z : ◌≡◌ {A = ℕ} 0 1 = cc in omega arith)
    by false t (kind ∷ kinds) f =
        let head : letter kind ≡ x = cc in
        let tail : letters kinds ≡ rest = cc in
        (omega (arith, letter_small kind, head), (kinds, tail))

count_most : (x : ℕ) → count x ≤ 1
unfolding count
count_most x = by (eqb x 0)
  where
    by : (b : Bool) → cond b 0 1 ≤ 1
    by true = omega arith
    by false = omega arith

-- a node that is given lies below the next free one
given_less : (cells : List ℕ) (free node letter : ℕ) → node < free → given_node free node letter < free + count letter
unfolding given_node count
given_less cells free node letter less = by (eqb letter 0)
  where
    by : (b : Bool) → cond b node free < free + cond b 0 1
    by true = omega arith
    by false = omega arith

given_count : (x : ℕ) (rest : List ℕ) → length (given x rest) ≡ length rest + count x
unfolding count
given_count x rest = by (eqb x 0)
  where
    by : (b : Bool) → length (cond b rest (x ∷ rest)) ≡ length rest + cond b 0 1
    by true = omega arith
    by false = omega arith

pub letters_length : (kinds : List Kind) → length (letters kinds) ≡ length kinds
letters_length [] = refl
letters_length (kind ∷ kinds) = ap suc (letters_length kinds)

-- how many kinds there are after a change
height_is : (kinds left : List Kind) (height taken low high : ℕ) → height ≡ length kinds → letters left ≡ given high (given low (drop taken (letters kinds))) → height_after height taken low high ≡ length left
unfolding height_after
height_is kinds left height taken low high e f =
    let whole : length left ≡ length (given high (given low (drop taken (letters kinds)))) = sym (letters_length left) ∙ ap length f in
    omega (
      arith,
      whole,
      given_count high (given low (drop taken (letters kinds))),
      given_count low (drop taken (letters kinds)),
      length-drop taken (letters kinds),
      letters_length kinds,
    )

-- more than 1,000 kinds are no label
too_high : (left : List Kind) (o : Option (List Open)) → 1000 < length left → and_then o (bounded left) ≡ none
unfolding bounded
too_high left none many = refl
too_high left (some loops) many = cond_false (leb (length left) 1000 && leb (length loops) 2) _ _ (ap (λ b. b && leb (length loops) 2) (lt-leb _ _ many))

fits_label : (left : List Kind) (loops : List Open) → length left ≤ 1000 → length loops ≤ 2 → bounded left loops ≡ some (label left loops)
unfolding bounded
fits_label left loops high few = cond_true (leb (length left) 1000 && leb (length loops) 2) _ _ (ap₂ (λ a b. a && b) (le-leb _ _ high) (le-leb _ _ few))

-- an element's rule by its parts
rule_by : (element : Element) (next : ℕ) (now : Label) {left : List Kind} → kinds_after element (kinds_of now) ≡ some left
    → rule element next now ≡ and_then (loops_after element next left (open_loops now)) (bounded left)
unfolding rule
rule_by element next (label kinds loops) e = rw e refl

rule_none : (element : Element) (next : ℕ) (now : Label) → kinds_after element (kinds_of now) ≡ none → rule element next now ≡ none
unfolding rule
rule_none element next (label kinds loops) e = rw e refl

rule_cut : (next : ℕ) (now : Label) → rule NoRule next now ≡ none
unfolding rule kinds_after
rule_cut next (label kinds loops) = refl

-- what was noted is held still, where the letters and the marks of before are
module _ (cells others nodes marks loops words : List ℕ) (at : ℕ) (same_letters : (place : ℕ) → place ≤ at → stacked others (get_or nodes place 0 - 1) ≡ stacked cells (get_or nodes place 0 - 1))
    (same_nodes : (p : ℕ) → p ≤ at → get_or marks p 0 ≡ get_or nodes p 0) (same_words : (p : ℕ) → p ≤ at → get_or words p 0 ≡ get_or loops p 0) where
  held : (place : ℕ) → place ≤ at → stacked others (get_or marks place 0 - 1) ≡ stacked cells (get_or nodes place 0 - 1)
  held place near = ap (λ m. stacked others (m - 1)) (same_nodes place near) ∙ same_letters place near

  loop_held : {place bound wider : ℕ} {left : List Kind} → bound ≤ at → bound ≤ wider → LoopAt cells nodes bound place left → LoopAt others marks wider place left
  loop_held {place} {bound} near wide l =
      let close : place ≤ at = omega (arith, l.near) in
      record { some_place = l.some_place; near = omega (arith, l.near); small = l.small; holds = held place close ∙ l.holds }

  pub opens_held : {bound wider word : ℕ} {list : List Open} → bound ≤ at → bound ≤ wider → Opens cells nodes bound word list → Opens others marks wider word list
  opens_held near wide (no_loop e) = no_loop e
  opens_held near wide (one_loop e l) = one_loop e (loop_held near wide l)
  opens_held near wide (two_loops e l m) = two_loops e (loop_held near wide l) (loop_held near wide m)

  pub noted_held : {place : ℕ} {now : Label} → place ≤ at → Noted cells nodes loops place now → Noted others marks words place now
  noted_held {place} {now} near n =
      record {
        seen = omega (arith, same_nodes place near, n.seen);
        kinds = held place near ∙ n.kinds;
        opens = subst (λ w. Opens others marks place w (open_loops now)) (sym (same_words place near)) (opens_held near (omega arith) n.opens);
      }

  pub tells_held : {code : List ℕ} {place : ℕ} → place ≤ at → Tells code cells nodes loops place → Tells code others marks words place
  tells_held {place = place} near (nothing e no_way) = nothing (same_nodes place near ∙ e) no_way
  tells_held near (this w n) = this w (noted_held near n)

second_is : (list : List ℕ) → get_or (drop 1 list) 0 0 ≡ get_or list 1 0
second_is [] = refl
second_is (x ∷ list) = refl

third_is : (list : List ℕ) → get_or (drop 1 (drop 1 list)) 0 0 ≡ get_or list 2 0
third_is [] = refl
third_is (x ∷ []) = refl
third_is (x ∷ y ∷ list) = refl

-- what is known after an element
abbrev Goes : ℕ → List ℕ → ℕ → prelude.Option Stance → List ℕ → List ℕ → List ℕ → Type 0
Goes places code at None others marks words = WithoutRule code at
Goes places code at (Some there) others marks words = (at < there.at) × Standing places code others marks words there.at there.height there.free

module _ (places : ℕ) (code cells nodes loops : List ℕ) (at height free : ℕ) (s : Standing places code cells nodes loops at height free) (inside : at < length code) (short : length code ≤ 65535) where
  abbrev goes : Stepped → Type 0
  goes x = Goes places code at x.step x.cells x.nodes x.loops

  abbrev next : ℕ
  next = element_end code at

  abbrev node : ℕ
  node = get_or nodes at 0 - 1

  abbrev kinds : List Kind
  kinds = kinds_of s.now

  stuck : next_label code at s.now ≡ none → WithoutRule code at
  stuck e = record { now = s.now; reached = s.reached; inside = inside; no_rule = e }

  ruled : (e : Element) → element code at ≡ e → next_label code at s.now ≡ rule e next s.now
  unfolding next_label
  ruled e is = ap (λ x. rule x next s.now) is

  tops : (e : Element)
      → element_change e height (top cells node) (top cells (below cells node)) (top cells (below cells (below cells node)))
      ≡ element_change e (length kinds) (get_or (letters kinds) 0 0) (get_or (letters kinds) 1 0) (get_or (letters kinds) 2 0)
  tops e =
      let held : stacked cells node ≡ letters kinds = s.noted.kinds in
      let first : top cells node ≡ get_or (letters kinds) 0 0 = top_is cells node ∙ ap (λ l. get_or l 0 0) held in
      let lower : stacked cells (below cells node) ≡ drop 1 (letters kinds) = below_is cells node ∙ ap (drop 1) held in
      let second : top cells (below cells node) ≡ get_or (letters kinds) 1 0 = top_is cells (below cells node) ∙ ap (λ l. get_or l 0 0) lower ∙ second_is (letters kinds) in
      let third : top cells (below cells (below cells node)) ≡ get_or (letters kinds) 2 0 =
      top_is cells (below cells (below cells node)) ∙ ap (λ l. get_or l 0 0) (below_is cells (below cells node) ∙ ap (drop 1) lower) ∙ third_is (letters kinds) in
      rw (first, second, third, s.high) refl

  -- the label is noted behind the element
  module _ (left : List Kind) (list : List Open) (taken low high word : ℕ) (small : next ≤ length code) (gives : next_label code at s.now ≡ some (label left list))
      (spelled : letters left ≡ given high (given low (drop taken (letters kinds)))) (later : Later cells nodes at next word left list) (most : length left ≤ 1000) where
    abbrev base : ℕ
    base = lowered taken cells node

    abbrev cells₁ : List ℕ
    cells₁ = given_cells cells free base low

    abbrev middle : ℕ
    middle = given_node free base low

    abbrev second_free : ℕ
    second_free = free + count low

    abbrev cells₂ : List ℕ
    cells₂ = given_cells cells₁ second_free middle high

    abbrev last : ℕ
    last = given_node second_free middle high

    abbrev rest : ℕ
    rest = free + count low + count high

    abbrev marks : List ℕ
    marks = set nodes next (last % 131072 + 1)

    abbrev words : List ℕ
    words = set loops next word

    some_free : 1 ≤ free
    some_free = omega (arith, s.marks at, s.noted.seen)

    far : at < next
    far = further code at

    base_low : base < free
    base_low = omega (arith, lowered_most cells taken node, s.marks at, some_free)

    middle_low : middle < second_free
    middle_low = given_less cells free base low base_low

    last_low : last < rest
    last_low = given_less cells₁ second_free middle high middle_low

    low_one : count low ≤ 1
    low_one = count_most low

    high_one : count high ≤ 1
    high_one = count_most high

    stands : stacked cells₂ last ≡ letters left
    stands =
        let top_small = given_small left high (given low (drop taken (letters kinds))) spelled in
        let low_small = given_small top_small.1.0 low (drop taken (letters kinds)) top_small.1.1 in
        given_stacked cells₁ second_free middle high (omega (arith, given_length cells free base low, s.cells_size, s.enough, s.room, low_one)) middle_low (omega (arith, s.room, low_one)) top_small.0
        ∙ ap (given high)
        (given_stacked cells free base low (omega (arith, s.cells_size, s.enough, s.room)) base_low (omega (arith, s.room)) low_small.0
        ∙ ap (given low) (lowered_is cells taken node ∙ ap (drop taken) s.noted.kinds))
        ∙ sym spelled

    same_cells : (n : ℕ) → n < free → get_or cells₂ n 0 ≡ get_or cells n 0
    same_cells n less = given_before cells₁ second_free middle high n (omega arith) ∙ given_before cells free base low n less

    same_letters : (place : ℕ) → place ≤ at → stacked cells₂ (get_or nodes place 0 - 1) ≡ stacked cells (get_or nodes place 0 - 1)
    same_letters place near = agree cells cells₂ (get_or nodes place 0 - 1) (λ n le. same_cells n (omega (arith, s.marks place, some_free)))

    other_mark : (p : ℕ) → (p ≡ next → ⊥) → get_or marks p 0 ≡ get_or nodes p 0
    other_mark p ne = get_or-set_other nodes next p (last % 131072 + 1) 0 ne

    same_nodes : (p : ℕ) → p ≤ at → get_or marks p 0 ≡ get_or nodes p 0
    same_nodes p le = other_mark p (λ e. omega (arith, far))

    same_words : (p : ℕ) → p ≤ at → get_or words p 0 ≡ get_or loops p 0
    same_words p le = get_or-set_other loops next p word 0 (λ e. omega (arith, far))

    mark_is : get_or marks next 0 ≡ last + 1
    mark_is =
        get_or-set_same nodes next (last % 131072 + 1) 0 (omega (arith, s.nodes_size, s.enough))
        ∙ (let e : last % 131072 + 1 ≡ last + 1 = omega (arith, last_low, s.room, low_one, high_one) in e)

    word_is : get_or words next 0 ≡ word
    word_is = get_or-set_same loops next word 0 (omega (arith, s.loops_size, s.enough))

    holds_next : stacked cells₂ (get_or marks next 0 - 1) ≡ letters left
    holds_next = ap (stacked cells₂) (let e : get_or marks next 0 - 1 ≡ last = omega (arith, mark_is) in e) ∙ stands

    wider : {w : ℕ} {others : List Open} → Opens cells nodes at w others → Opens cells₂ marks next w others
    wider o = opens_held cells cells₂ nodes marks loops words at same_letters same_nodes same_words (omega arith) (omega (arith, far)) o

    this_loop : LoopAt cells₂ marks next next left
    this_loop = record { some_place = omega (arith, far); near = omega arith; small = omega arith; holds = holds_next }

    add_loop : {w : ℕ} (others : List Open) → Opens cells nodes at w others → w < 65536 → Opens cells₂ marks next (w * 65536 + next) (opened next left ∷ others)
    add_loop [] (no_loop e) few = one_loop {inner = next} (omega arith) this_loop
    add_loop (opened inner first ∷ []) (one_loop e l) few =
        two_loops {inner = next} {outer = inner} (omega arith) this_loop (loop_held cells cells₂ nodes marks loops words at same_letters same_nodes same_words (omega arith) (omega (arith, far)) l)
    add_loop (opened inner first ∷ opened outer second ∷ []) (two_loops e l m) few = absurd (omega (arith, m.some_place))
    add_loop (opened inner first ∷ (opened outer second ∷ (_ ∷ _))) x few = elim x [ ]

    opens_next : Later cells nodes at next word left list → Opens cells₂ marks next word list
    opens_next (kept o) = wider o
    opens_next (fresh {outer = outer} {others = others} o few e f) =
        subst (λ w. Opens cells₂ marks next w list) (sym e) (subst (Opens cells₂ marks next (outer * 65536 + next)) (sym f) (add_loop others o few))

    noted_next : Noted cells₂ marks words next (label left list)
    noted_next =
        record {
          seen = omega (arith, mark_is);
          kinds = holds_next;
          opens = subst (λ w. Opens cells₂ marks next w list) (sym word_is) (opens_next later);
        }

    tells : (place : ℕ) → place < next → Tells code cells₂ marks words place
    tells place less = by (ltb place at) refl (eqb place at) refl
      where
        by : (x : Bool) → ltb place at ≡ x → (y : Bool) → eqb place at ≡ y → Tells code cells₂ marks words place
        by true ex y ey =
            let before : place < at = ltb-true place at ex in
            tells_held cells cells₂ nodes marks loops words at same_letters same_nodes same_words (omega arith) (s.past place before)
        by false ex true ey =
            subst (Tells code cells₂ marks words) (sym (eqb-true place at ey))
            (this s.reached (noted_held cells cells₂ nodes marks loops words at same_letters same_nodes same_words (omega arith) s.noted))
        by false ex false ey =
            let behind : at < place = omega (arith, ltb-false place at ex, eqb-false place at ey) in
            nothing (other_mark place (λ e. omega arith) ∙ s.later place behind)
            (λ l w. let r = through code s.reached w behind in omega (arith, no_back code r.2))

    marked : (place : ℕ) → get_or marks place 0 ≤ rest
    marked place = by (eqb place next) refl
      where
        by : (b : Bool) → eqb place next ≡ b → get_or marks place 0 ≤ rest
        by true e = subst (λ z. get_or marks z 0 ≤ rest) (sym (eqb-true place next e)) (omega (arith, mark_is, last_low))
        by false e = omega (arith, other_mark place (eqb-false place next e), s.marks place)

    advance : Standing places code cells₂ marks words next (height_after height taken low high) rest
    advance =
        let high_is : height_after height taken low high ≡ length left = height_is kinds left height taken low high s.high spelled in
        record {
          now = label left list;
          reached = snoc code s.reached gives;
          noted = noted_next;
          high = high_is;
          most = omega (arith, high_is);
          inside = small;
          past = tells;
          later = λ place less. other_mark place (λ e. omega arith) ∙ s.later place (omega (arith, far));
          marks = marked;
          room = omega (arith, s.room, low_one, high_one, far);
          enough = s.enough;
          cells_size = given_length cells₁ second_free middle high ∙ given_length cells free base low ∙ s.cells_size;
          nodes_size = length-set nodes next (last % 131072 + 1) ∙ s.nodes_size;
          loops_size = length-set loops next word ∙ s.loops_size;
        }

  -- an element whose rule on kinds is met
  changed : (e : Element) → element code at ≡ e → next ≤ length code → (left : List Kind) → kinds_after e kinds ≡ some left → (taken low high : ℕ)
      → letters left ≡ given high (given low (drop taken (letters kinds)))
      → goes (step_plan cells nodes loops free next (plan_change cells nodes (get_or loops at 0) e next height node (taking taken low high)))
  unfolding plan_change plan_loops step_plan noted_cells noted_nodes noted_node
  changed e is whole left ke taken low high spelled =
      by (ltb 1000 (height_after height taken low high)) refl (word_after cells nodes e next node (get_or loops at 0))
      (loops_told cells nodes at next node (get_or loops at 0) kinds left (further code at) (omega arith) s.noted.kinds e (open_loops s.now) s.noted.opens ke)
    where
      tall : height_after height taken low high ≡ length left
      tall = height_is kinds left height taken low high s.high spelled

      given_label : next_label code at s.now ≡ and_then (loops_after e next left (open_loops s.now)) (bounded left)
      given_label = ruled e is ∙ rule_by e next s.now ke

      by : (b : Bool) → ltb 1000 (height_after height taken low high) ≡ b → (result : prelude.Option ℕ) → Told cells nodes e at next left (open_loops s.now) result
          → goes (step_plan cells nodes loops free next (cond b None (plan_loops (lowered taken cells node) low high (height_after height taken low high) result)))
      by true t result told = stuck (given_label ∙ too_high left (loops_after e next left (open_loops s.now)) (omega (arith, ltb-true 1000 (height_after height taken low high) t, tall)))
      by false t None (cannot none_there) = stuck (given_label ∙ none_there)
      by false t (Some word) (can {others = list} le few later) =
          let most : length left ≤ 1000 = omega (arith, ltb-false 1000 (height_after height taken low high) t, tall) in
          (further code at, advance left list taken low high word whole (given_label ∙ ap (λ o. and_then o (bounded left)) le ∙ fits_label left list most few) spelled later most)

  planned : (e : Element) → element code at ≡ e → next ≤ length code → goes (step_plan cells nodes loops free next (plan cells nodes loops e at next height))
  unfolding plan plan_change step_plan
  planned e is whole =
      subst (λ change. goes (step_plan cells nodes loops free next (plan_change cells nodes (get_or loops at 0) e next height node change))) (sym (tops e))
      (by (element_change e (length kinds) (get_or (letters kinds) 0 0) (get_or (letters kinds) 1 0) (get_or (letters kinds) 2 0)) (kinds_after e kinds) refl (element_is e kinds))
    where
      by : (change : prelude.Option Change) (o : Option (List Kind)) → kinds_after e kinds ≡ o → performed change (letters kinds) ≡ lettered o
          → goes (step_plan cells nodes loops free next (plan_change cells nodes (get_or loops at 0) e next height node change))
      by None none oe pe = stuck (ruled e is ∙ rule_none e next s.now oe)
      by None (some left) oe pe = absurd (let z : ◌≡◌ {A = ℕ} 0 1 = cc in omega arith)
      by (Some change) none oe pe = absurd (let z : ◌≡◌ {A = ℕ} 0 1 = cc in omega arith)
      by (Some change) (some left) oe pe = changed e is whole left oe change.taken change.low change.top (let f : letters left ≡ given change.top (given change.low (drop change.taken (letters kinds))) = cc in f)

  pub turn : goes (step cells nodes loops code at height free)
  unfolding step step_found found element
  turn = by (leb next (length code)) refl
    where
      by : (b : Bool) → leb next (length code) ≡ b → goes (step_found cells nodes loops at height free (cond b (whole (whole_element code at (get_or code at 0)) next) None))
      by true t = planned (whole_element code at (get_or code at 0)) (cond_true (leb next (length code)) _ _ t) (leb-true _ _ t)
      by false t = stuck (ruled NoRule (cond_false (leb next (length code)) _ _ t) ∙ rule_cut next s.now)

  -- the same for what the code answered
  turned : (answer : prelude.Option Step) (others marks words : List ℕ) → stepped answer others marks words ≡ step cells nodes loops code at height free → Goes places code at (stance answer) others marks words
  turned answer others marks words e = subst goes (sym e) turn

module _ {places : ℕ} {code cells nodes loops : List ℕ} {at height free : ℕ} (s : Standing places code cells nodes loops at height free) (inside : at < length code) (short : length code ≤ 65535)
    {answer : prelude.Option Step} {others marks words : List ℕ} (e : stepped answer others marks words ≡ step cells nodes loops code at height free) where
  went : {other : prelude.Option Step} → answer ≡ other → Goes places code at (stance other) others marks words
  went is = subst (λ a. Goes places code at (stance a) others marks words) is (turned places code cells nodes loops at height free s inside short answer others marks words e)

  pub stuck_here : answer ≡ None → Swept code others marks words (Err at)
  stuck_here is = stuck_at (went is)

  pub goes_on : {there : Step} → answer ≡ Some there → Standing places code others marks words there.at there.height there.free
  goes_on is = (went is).1

  pub goes_far : {there : Step} → answer ≡ Some there → at < there.at
  goes_far is = (went is).0

-- an element that is found ends behind its place, inside the code
pub found_inside : (code : List ℕ) (at : ℕ) {next : ℕ} {element : Element} → Some (element, next) ≡ found code at → (at < next) × (next ≤ length code)
unfolding found
found_inside code at {next} {element} e = by (leb (element_end code at) (length code)) refl e
  where
    by : (b : Bool) → leb (element_end code at) (length code) ≡ b → whole element next ≡ cond b (whole (whole_element code at (get_or code at 0)) (element_end code at)) None → (at < next) × (next ≤ length code)
    by true t f =
        let pair : ◌≡◌ {A = Element × ℕ} (element, next) (whole_element code at (get_or code at 0), element_end code at) = cc in
        let same : next ≡ element_end code at = ap (λ q. q.1) pair in
        (omega (arith, same, further code at), omega (arith, same, leb-true _ _ t))
    by false t f = absurd (let z : ◌≡◌ {A = ℕ} 0 1 = cc in omega arith)

-- the sweep begins
pub begun : (places : ℕ) (code cells nodes loops : List ℕ) → Fresh places code cells nodes loops → Standing places code cells (set nodes 0 1) (set loops 0 0) 0 0 1
begun places code cells nodes loops f =
    let mark : get_or (set nodes 0 1) 0 0 ≡ 1 = get_or-set_same nodes 0 1 0 (omega (arith, f.nodes_size, f.enough)) in
    let none_there : stacked cells (get_or (set nodes 0 1) 0 0 - 1) ≡ [] = ap (stacked cells) (let e : get_or (set nodes 0 1) 0 0 - 1 ≡ 0 = omega (arith, mark) in e) ∙ stack_bottom cells in
    record {
      now = empty;
      reached = here;
      noted = record { seen = omega (arith, mark); kinds = none_there; opens = no_loop (get_or-set_same loops 0 0 0 (omega (arith, f.loops_size, f.enough))) };
      high = refl;
      most = omega arith;
      inside = omega arith;
      past = λ place less. absurd (omega arith);
      later = λ place less. get_or-set_other nodes 0 place 1 0 (λ e. omega arith) ∙ f.unseen place;
      marks = marked;
      room = omega arith;
      enough = f.enough;
      cells_size = f.cells_size;
      nodes_size = length-set nodes 0 1 ∙ f.nodes_size;
      loops_size = length-set loops 0 0 ∙ f.loops_size;
    }
  where
    marked : (place : ℕ) → get_or (set nodes 0 1) place 0 ≤ 1
    marked place = by (eqb place 0) refl
      where
        by : (b : Bool) → eqb place 0 ≡ b → get_or (set nodes 0 1) place 0 ≤ 1
        by true e = subst (λ z. get_or (set nodes 0 1) z 0 ≤ 1) (sym (eqb-true place 0 e)) (omega (arith, get_or-set_same nodes 0 1 0 (omega (arith, f.nodes_size, f.enough))))
        by false e = omega (arith, get_or-set_other nodes 0 place 1 0 (eqb-false place 0 e), f.unseen place)

-- the sweep ends
pub done : (places : ℕ) (code cells nodes loops : List ℕ) (at height free : ℕ) → Standing places code cells nodes loops at height free → length code ≤ at → Swept code cells nodes loops (Ok height)
done places code cells nodes loops at height free s end =
    let is : at ≡ length code = omega (arith, s.inside) in
    ended (record { last = s.now; reached = subst (λ z. Reached code z s.now) is s.reached }) s.high s.most tells
  where
    tells : (place : ℕ) → Tells code cells nodes loops place
    tells place = by (ltb place at) refl (eqb place at) refl
      where
        by : (x : Bool) → ltb place at ≡ x → (y : Bool) → eqb place at ≡ y → Tells code cells nodes loops place
        by true ex y ey = s.past place (ltb-true place at ex)
        by false ex true ey = subst (Tells code cells nodes loops) (sym (eqb-true place at ey)) (this s.reached s.noted)
        by false ex false ey =
            let behind : at < place = omega (arith, ltb-false place at ex, eqb-false place at ey) in
            nothing (s.later place behind) (λ l w. let r = through code s.reached w behind in omega (arith, fits code at s.now r.1, further code at))
