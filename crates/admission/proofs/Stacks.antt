-- Stacks of letters as nodes: the top, what is below it, and a letter put on one.
use Prim.Native.Nat.{ℕ, zero, suc, ◌+◌, ◌*◌, ◌-◌, ◌/◌, ◌%◌, ◌≤◌, ◌<◌}
use mathlib.Core.Path.{◌≡◌, refl, sym, ◌∙◌, ap, ap₂, subst}
use mathlib.Core.Bool.{Bool, true, false, cond}
use mathlib.Core.List.{List, [], ◌∷◌}
use native.Mathlib.Omega.{arith}
use lib.Dec.{eqb, ltb}
use lib.ListN.{length, get_or, set, drop, length-set, get_or-eq_default}
use lib.Seq.{get_or-set_same, get_or-set_other, drop-nil}
use borrow.Author.Tests.{eq-eqb, ne_eqb, eqb-true, eqb-false, lt-ltb, le-ltb, ltb-true, ltb-false}
use Rattle.slices.specs.Same.{same}
use Rattle.slices.proofs.Equality.{same_refl}
use Rattle.labels.proofs.Ways.{cond_true, cond_false}
use Rattle.admission.specs.Nodes.{letter_of, top, below, stacked_within, stacked, lowered, Kept, replaced, cell_of, given_node, given_cells}

module _ (cells : List ℕ) where
  some_below : (node : ℕ) → (top cells node ≡ 0 → ⊥) → get_or cells node 0 / 256 < node
  unfolding top letter_of
  some_below node some = by (ltb (get_or cells node 0 / 256) node) refl some
    where
      by : (b : Bool) → ltb (get_or cells node 0 / 256) node ≡ b → (cond b (get_or cells node 0 % 256) 0 ≡ 0 → ⊥) → get_or cells node 0 / 256 < node
      by true e n = ltb-true _ _ e
      by false e n = absurd (n refl)

  -- a node with a letter lies above the node below it
  pub below_less : (node : ℕ) → (top cells node ≡ 0 → ⊥) → below cells node < node
  unfolding below
  below_less node some = subst (λ n. n < node) (sym (cond_false (eqb (top cells node) 0) 0 (get_or cells node 0 / 256) (ne_eqb _ _ some))) (some_below node some)

  top_some : (node : ℕ) → (top cells node ≡ 0 → ⊥) → top cells node ≡ get_or cells node 0 % 256
  unfolding top letter_of
  top_some node some = cond_true (ltb (get_or cells node 0 / 256) node) _ _ (lt-ltb _ _ (some_below node some))

  below_some : (node : ℕ) → (top cells node ≡ 0 → ⊥) → below cells node ≡ get_or cells node 0 / 256
  unfolding below
  below_some node some = cond_false (eqb (top cells node) 0) 0 (get_or cells node 0 / 256) (ne_eqb _ _ some)

  below_zero : (node : ℕ) → top cells node ≡ 0 → below cells node ≡ 0
  unfolding below
  below_zero node e = cond_true (eqb (top cells node) 0) _ _ (eq-eqb _ _ e)

  pub below_most : (node : ℕ) → below cells node ≤ node
  below_most node = by (eqb (top cells node) 0) refl
    where
      by : (b : Bool) → eqb (top cells node) 0 ≡ b → below cells node ≤ node
      by true e = omega (arith, below_zero node (eqb-true _ _ e))
      by false e = omega (arith, below_less node (eqb-false _ _ e))

  top_zero : top cells 0 ≡ 0
  unfolding top letter_of
  top_zero = cond_false (ltb (get_or cells 0 0 / 256) 0) _ _ (le-ltb (get_or cells 0 0 / 256) 0 (omega arith))

  ends : (most : ℕ) → stacked_within most cells 0 ≡ []
  unfolding stacked_within
  ends zero = refl
  ends (suc most) = cond_true (eqb (top cells 0) 0) _ _ (eq-eqb _ _ top_zero)

  -- more room changes nothing
  enough : (more most node : ℕ) → node ≤ more → node ≤ most → stacked_within more cells node ≡ stacked_within most cells node
  unfolding stacked_within
  enough zero most node a b = let e : node ≡ 0 = omega arith in subst (λ n. stacked_within zero cells n ≡ stacked_within most cells n) (sym e) (sym (ends most))
  enough (suc more) zero node a b = let e : node ≡ 0 = omega arith in subst (λ n. stacked_within (suc more) cells n ≡ stacked_within zero cells n) (sym e) (ends (suc more))
  enough (suc more) (suc most) node a b = by (eqb (top cells node) 0) refl (λ less. enough more most (below cells node) (omega arith) (omega arith))
    where
      by : (t : Bool) → eqb (top cells node) 0 ≡ t → (below cells node < node → stacked_within more cells (below cells node) ≡ stacked_within most cells (below cells node))
          → cond t [] (top cells node ∷ stacked_within more cells (below cells node)) ≡ cond t [] (top cells node ∷ stacked_within most cells (below cells node))
      by true e ih = refl
      by false e ih = ap (λ l. top cells node ∷ l) (ih (below_less node (eqb-false _ _ e)))

  pub stack_empty : (node : ℕ) → top cells node ≡ 0 → stacked cells node ≡ []
  unfolding stacked stacked_within
  stack_empty zero e = refl
  stack_empty (suc node) e = cond_true (eqb (top cells (suc node)) 0) _ _ (eq-eqb _ _ e)

  pub stack_step : (node : ℕ) → (top cells node ≡ 0 → ⊥) → stacked cells node ≡ top cells node ∷ stacked cells (below cells node)
  unfolding stacked stacked_within
  stack_step zero n = absurd (n top_zero)
  stack_step (suc node) n =
      cond_false (eqb (top cells (suc node)) 0) _ _ (ne_eqb _ _ n)
      ∙ ap (λ l. top cells (suc node) ∷ l) (enough node (below cells (suc node)) (below cells (suc node)) (omega (arith, below_less (suc node) n)) (omega arith))

  pub stack_bottom : stacked cells 0 ≡ []
  stack_bottom = stack_empty 0 top_zero

  below_empty : (node : ℕ) → top cells node ≡ 0 → stacked cells (below cells node) ≡ []
  below_empty node e = ap (stacked cells) (below_zero node e) ∙ stack_bottom

  -- by what is read
  pub top_is : (node : ℕ) → top cells node ≡ get_or (stacked cells node) 0 0
  top_is node = by (eqb (top cells node) 0) refl
    where
      by : (b : Bool) → eqb (top cells node) 0 ≡ b → top cells node ≡ get_or (stacked cells node) 0 0
      by true e = let z = eqb-true _ _ e in z ∙ ap (λ l. get_or l 0 0) (sym (stack_empty node z))
      by false e = ap (λ l. get_or l 0 0) (sym (stack_step node (eqb-false _ _ e)))

  pub below_is : (node : ℕ) → stacked cells (below cells node) ≡ drop 1 (stacked cells node)
  below_is node = by (eqb (top cells node) 0) refl
    where
      by : (b : Bool) → eqb (top cells node) 0 ≡ b → stacked cells (below cells node) ≡ drop 1 (stacked cells node)
      by true e = let z = eqb-true _ _ e in below_empty node z ∙ ap (drop 1) (sym (stack_empty node z))
      by false e = ap (drop 1) (sym (stack_step node (eqb-false _ _ e)))

  -- so many taken away
  pub lowered_is : (taken node : ℕ) → stacked cells (lowered taken cells node) ≡ drop taken (stacked cells node)
  unfolding lowered
  lowered_is zero node = refl
  lowered_is (suc taken) node = lowered_is taken (below cells node) ∙ ap (drop taken) (below_is node) ∙ dropped (stacked cells node)
    where
      dropped : (l : List ℕ) → drop taken (drop 1 l) ≡ drop (suc taken) l
      dropped [] = drop-nil taken
      dropped (x ∷ l) = refl

  pub lowered_most : (taken node : ℕ) → lowered taken cells node ≤ node
  unfolding lowered
  lowered_most zero node = omega arith
  lowered_most (suc taken) node = omega (arith, lowered_most taken (below cells node), below_most node)

  -- the loop that takes away: a turn, and the end
  pub lowered_turn : (left node next : ℕ) {whole : ℕ} → 0 < left → next ≡ below cells node → lowered left cells node ≡ whole → lowered (left - 1) cells next ≡ whole
  unfolding lowered
  lowered_turn zero node next some e inv = absurd (omega arith)
  lowered_turn (suc left) node next some e inv = ap₂ (λ n m. lowered n cells m) (let u : suc left - 1 ≡ left = omega arith in u) e ∙ inv

  pub lowered_end : (left node : ℕ) {whole : ℕ} → left ≤ 0 → lowered left cells node ≡ whole → node ≡ whole
  unfolding lowered
  lowered_end zero node none inv = inv
  lowered_end (suc left) node none inv = absurd (omega arith)

  -- the loop that compares two stacks: the ways out, and a turn
  module _ (a b p q x y : ℕ) {whole : Bool} (ep : p ≡ get_or cells a 0) (eq : q ≡ get_or cells b 0) (ux : x ≡ letter_of p a) (uy : y ≡ letter_of q b) (inv : same (stacked cells a) (stacked cells b) ≡ whole) where
    ex : x ≡ top cells a
    unfolding top
    ex = ux ∙ ap (λ z. letter_of z a) ep

    ey : y ≡ top cells b
    unfolding top
    ey = uy ∙ ap (λ z. letter_of z b) eq

    pub same_differ : (x ≡ y → ⊥) → false ≡ whole
    unfolding same
    same_differ other = sym (by (eqb (top cells a) 0) refl (eqb (top cells b) 0) refl) ∙ inv
      where
        by : (t : Bool) → eqb (top cells a) 0 ≡ t → (u : Bool) → eqb (top cells b) 0 ≡ u → same (stacked cells a) (stacked cells b) ≡ false
        by true e true f = absurd (other (ex ∙ eqb-true _ _ e ∙ sym (eqb-true _ _ f) ∙ sym ey))
        by true e false f = rw (stack_empty a (eqb-true _ _ e), stack_step b (eqb-false _ _ f)) refl
        by false e true f = rw (stack_step a (eqb-false _ _ e), stack_empty b (eqb-true _ _ f)) refl
        by false e false f =
            rw (stack_step a (eqb-false _ _ e), stack_step b (eqb-false _ _ f)) (cond_false (eqb (top cells a) (top cells b)) _ _ (ne_eqb _ _ (λ z. other (ex ∙ z ∙ sym ey))))

    pub same_end : x ≡ y → x ≡ 0 → true ≡ whole
    unfolding same
    same_end e z =
        let none : top cells a ≡ 0 = sym ex ∙ z in
        let nor : top cells b ≡ 0 = sym ey ∙ sym e ∙ z in
        sym (ap₂ same (stack_empty a none) (stack_empty b nor)) ∙ inv

    pub same_turn : x ≡ y → (x ≡ 0 → ⊥) → same (stacked cells (p / 256)) (stacked cells (q / 256)) ≡ whole
    unfolding same
    same_turn e n =
        let tops : top cells a ≡ top cells b = sym ex ∙ e ∙ ey in
        let some : top cells a ≡ 0 → ⊥ = λ z. n (ex ∙ z) in
        let other : top cells b ≡ 0 → ⊥ = λ z. some (tops ∙ z) in
        ap₂ (λ m n. same (stacked cells m) (stacked cells n)) (ap (λ z. z / 256) ep ∙ sym (below_some a some)) (ap (λ z. z / 256) eq ∙ sym (below_some b other))
        ∙ sym (ap₂ same (stack_step a some) (stack_step b other) ∙ cond_true (eqb (top cells a) (top cells b)) _ _ (eq-eqb _ _ tops))
        ∙ inv

    pub same_less : (x ≡ 0 → ⊥) → p / 256 < a
    same_less n = subst (λ z. z / 256 < a) (sym ep) (some_below a (λ z. n (ex ∙ z)))

  pub same_meet : (a b : ℕ) {whole : Bool} → a ≡ b → same (stacked cells a) (stacked cells b) ≡ whole → true ≡ whole
  same_meet a b e inv = sym (ap (λ n. same (stacked cells a) (stacked cells n)) (sym e) ∙ same_refl (stacked cells a)) ∙ inv

-- cells that agree up to a node hold the same letters from there down
module _ (cells others : List ℕ) where
  top_same : (node : ℕ) → get_or others node 0 ≡ get_or cells node 0 → top others node ≡ top cells node
  unfolding top letter_of
  top_same node e = ap (λ x. cond (ltb (x / 256) node) (x % 256) 0) e

  below_same : (node : ℕ) → get_or others node 0 ≡ get_or cells node 0 → below others node ≡ below cells node
  unfolding below
  below_same node e = ap₂ (λ t x. cond (eqb t 0) 0 (x / 256)) (top_same node e) e

  agree_within : (most node : ℕ) → ((n : ℕ) → n ≤ node → get_or others n 0 ≡ get_or cells n 0) → stacked_within most others node ≡ stacked_within most cells node
  unfolding stacked_within
  agree_within zero node h = refl
  agree_within (suc most) node h = rw (top_same node (h node (omega arith)), below_same node (h node (omega arith))) (by (eqb (top cells node) 0) refl (λ less. agree_within most (below cells node) (λ n le. h n (omega arith))))
    where
      by : (t : Bool) → eqb (top cells node) 0 ≡ t → (below cells node ≤ node → stacked_within most others (below cells node) ≡ stacked_within most cells (below cells node))
          → cond t [] (top cells node ∷ stacked_within most others (below cells node)) ≡ cond t [] (top cells node ∷ stacked_within most cells (below cells node))
      by true e ih = refl
      by false e ih = ap (λ l. top cells node ∷ l) (ih (below_most cells node))

  pub agree : (node : ℕ) → ((n : ℕ) → n ≤ node → get_or others n 0 ≡ get_or cells n 0) → stacked others node ≡ stacked cells node
  unfolding stacked
  agree node h = agree_within node node h

-- a cell that is replaced by one of the same letter on the same letters
module _ (cells : List ℕ) (at value : ℕ) (some : top cells at ≡ 0 → ⊥) (less : value / 256 < at) (letter : value % 256 ≡ top cells at) (rest : stacked cells (value / 256) ≡ stacked cells (below cells at)) where
  abbrev others : List ℕ
  others = set cells at value

  inside : at < length cells
  unfolding top letter_of
  inside = by (ltb at (length cells)) refl
    where
      nothing : (b : Bool) → cond b (0 % 256) 0 ≡ 0
      nothing true = refl
      nothing false = refl

      by : (b : Bool) → ltb at (length cells) ≡ b → at < length cells
      by true e = ltb-true _ _ e
      by false e =
          let none : get_or cells at 0 ≡ 0 = get_or-eq_default cells 0 (ltb-false _ _ e) in
          absurd (some (ap (λ x. cond (ltb (x / 256) at) (x % 256) 0) none ∙ nothing (ltb (0 / 256) at)))

  other_top : top others at ≡ top cells at
  unfolding top letter_of
  other_top = rw (get_or-set_same cells at value 0 inside) (cond_true (ltb (value / 256) at) _ _ (lt-ltb _ _ less) ∙ letter)

  other_some : top others at ≡ 0 → ⊥
  other_some z = some (sym other_top ∙ z)

  other_below : below others at ≡ value / 256
  other_below = below_some others at other_some ∙ ap (λ x. x / 256) (get_or-set_same cells at value 0 inside)

  elsewhere : (n : ℕ) → (n ≡ at → ⊥) → get_or others n 0 ≡ get_or cells n 0
  elsewhere n ne = get_or-set_other cells at n value 0 ne

  kept_within : (most n : ℕ) → n ≤ most → stacked others n ≡ stacked cells n
  kept_within zero n le = let e : n ≡ 0 = omega arith in subst (λ z. stacked others z ≡ stacked cells z) (sym e) (stack_bottom others ∙ sym (stack_bottom cells))
  kept_within (suc most) n le = by (eqb n at) refl (eqb (top cells n) 0) refl (λ m lower. kept_within most m (omega arith))
    where
      by : (x : Bool) → eqb n at ≡ x → (y : Bool) → eqb (top cells n) 0 ≡ y → ((m : ℕ) → m < n → stacked others m ≡ stacked cells m) → stacked others n ≡ stacked cells n
      by true ex y ey ih =
          let e : n ≡ at = eqb-true n at ex in
          subst (λ z. stacked others z ≡ stacked cells z) (sym e)
          (stack_step others at other_some
          ∙ ap₂ (λ x l. x ∷ l) other_top (ap (stacked others) other_below ∙ ih (value / 256) (omega arith) ∙ rest)
          ∙ sym (stack_step cells at some))
      by false ex true ey ih =
          let ne = eqb-false n at ex in
          let none : top cells n ≡ 0 = eqb-true _ _ ey in
          stack_empty others n (top_same cells others n (elsewhere n ne) ∙ none) ∙ sym (stack_empty cells n none)
      by false ex false ey ih =
          let ne = eqb-false n at ex in
          let more : top cells n ≡ 0 → ⊥ = eqb-false _ _ ey in
          let tops : top others n ≡ top cells n = top_same cells others n (elsewhere n ne) in
          stack_step others n (λ z. more (sym tops ∙ z))
          ∙ ap₂ (λ x l. x ∷ l) tops (ap (stacked others) (below_same cells others n (elsewhere n ne)) ∙ ih (below cells n) (below_less cells n more))
          ∙ sym (stack_step cells n more)

  put_kept : Kept cells others
  put_kept = record { stacks = λ n. kept_within n n (omega arith) }

-- nothing changed; one change after another
pub kept_all : (cells : List ℕ) → Kept cells cells
kept_all cells = record { stacks = λ n. refl }

pub kept_on : {cells others more : List ℕ} → Kept cells others → Kept others more → Kept cells more
kept_on k l = record { stacks = λ n. l.stacks n ∙ k.stacks n }

-- a turn of the loop that merges two nodes
module _ (cells : List ℕ) (a b p q x : ℕ) (ep : p ≡ get_or cells a 0) (eq : q ≡ get_or cells b 0) (ux : x ≡ letter_of p a) (some : x ≡ 0 → ⊥) (alike : stacked cells a ≡ stacked cells b) where
  some_left : top cells a ≡ 0 → ⊥
  unfolding top
  some_left z = some (ux ∙ ap (λ c. letter_of c a) ep ∙ z)

  some_right : top cells b ≡ 0 → ⊥
  some_right z =
      let more : stacked cells a ≡ top cells a ∷ stacked cells (below cells a) = stack_step cells a some_left in
      let none : stacked cells b ≡ [] = stack_empty cells b z in
      absurd (let f : ◌≡◌ {A = ℕ} 0 1 = cc in omega arith)

  pub merge_less : p / 256 < a
  merge_less = subst (λ c. c / 256 < a) (sym ep) (some_below cells a some_left)

  less_right : q / 256 < b
  less_right = subst (λ c. c / 256 < b) (sym eq) (some_below cells b some_right)

  lower_left : p / 256 ≡ below cells a
  lower_left = ap (λ c. c / 256) ep ∙ sym (below_some cells a some_left)

  lower_right : q / 256 ≡ below cells b
  lower_right = ap (λ c. c / 256) eq ∙ sym (below_some cells b some_right)

  both : top cells a ∷ stacked cells (below cells a) ≡ top cells b ∷ stacked cells (below cells b)
  both = sym (stack_step cells a some_left) ∙ alike ∙ stack_step cells b some_right

  tops : top cells a ≡ top cells b
  tops = let whole = both in cc

  rests : stacked cells (p / 256) ≡ stacked cells (q / 256)
  rests =
      let whole = both in
      let tails : stacked cells (below cells a) ≡ stacked cells (below cells b) = cc in
      ap (stacked cells) lower_left ∙ tails ∙ sym (ap (stacked cells) lower_right)

  kept_here : Kept cells (replaced cells a b p q)
  unfolding replaced
  kept_here = by (ltb p q) refl
    where
      by : (t : Bool) → ltb p q ≡ t → Kept cells (cond t (set cells b p) (set cells a q))
      by true e =
          let low : p < q = ltb-true p q e in
          put_kept cells b p some_right (omega (arith, less_right)) (ap (λ c. c % 256) ep ∙ sym (top_some cells a some_left) ∙ tops) (rests ∙ ap (stacked cells) lower_right)
      by false e =
          let low : q ≤ p = ltb-false p q e in
          put_kept cells a q some_left (omega (arith, merge_less)) (ap (λ c. c % 256) eq ∙ sym (top_some cells b some_right) ∙ sym tops) (sym rests ∙ ap (stacked cells) lower_left)

  module _ {others : List ℕ} (is : others ≡ replaced cells a b p q) where
    kept_turn : Kept cells others
    kept_turn = subst (Kept cells) (sym is) kept_here

    pub merge_kept : {first : List ℕ} → Kept first cells → Kept first others
    merge_kept k = kept_on k kept_turn

    pub merge_alike : stacked others (p / 256) ≡ stacked others (q / 256)
    merge_alike = kept_turn.stacks (p / 256) ∙ rests ∙ sym (kept_turn.stacks (q / 256))

-- a letter put on a node
module _ (cells : List ℕ) (at node letter : ℕ) (inside : at < length cells) (higher : node < at) (small : at ≤ 16777216) where
  put_cell : 0 < letter → letter < 256 → get_or (set cells at (cell_of node letter)) at 0 ≡ node * 256 + letter
  unfolding cell_of
  put_cell some few = get_or-set_same cells at (node % 16777216 * 256 + letter % 256) 0 inside ∙ (let e : node % 16777216 * 256 + letter % 256 ≡ node * 256 + letter = omega arith in e)

  others_kept : (value n : ℕ) → n ≤ node → get_or (set cells at value) n 0 ≡ get_or cells n 0
  others_kept value n le = get_or-set_other cells at n value 0 (λ e. omega arith)

  new_top : 0 < letter → letter < 256 → top (set cells at (cell_of node letter)) at ≡ letter
  unfolding top letter_of
  new_top some few =
      let lower : (node * 256 + letter) / 256 ≡ node = omega arith in
      let rest : (node * 256 + letter) % 256 ≡ letter = omega arith in
      rw (put_cell some few, lower, rest) (cond_true (ltb node at) letter 0 (lt-ltb _ _ higher))

  new_below : 0 < letter → letter < 256 → below (set cells at (cell_of node letter)) at ≡ node
  unfolding below
  new_below some few =
      let lower : (node * 256 + letter) / 256 ≡ node = omega arith in
      let other : letter ≡ 0 → ⊥ = λ e. omega arith in
      rw (new_top some few, put_cell some few, lower) (cond_false (eqb letter 0) 0 node (ne_eqb _ _ other))

  pub put_stacked : 0 < letter → letter < 256 → stacked (set cells at (cell_of node letter)) at ≡ letter ∷ stacked cells node
  put_stacked some few =
      let new = set cells at (cell_of node letter) in
      stack_step new at (λ z. omega (arith, new_top some few, z))
      ∙ ap₂ (λ x l. x ∷ l) (new_top some few) (ap (stacked new) (new_below some few) ∙ agree cells new node (others_kept (cell_of node letter)))

-- the same by what the code does, which gives nothing for 0
abbrev pub given : ℕ → List ℕ → List ℕ
given letter letters = cond (eqb letter 0) letters (letter ∷ letters)

module _ (cells : List ℕ) (at node letter : ℕ) where
  pub given_stacked : at < length cells → node < at → at ≤ 16777216 → letter < 256 → stacked (given_cells cells at node letter) (given_node at node letter) ≡ given letter (stacked cells node)
  unfolding given_cells given_node
  given_stacked inside higher small few = by (eqb letter 0) refl
    where
      by : (b : Bool) → eqb letter 0 ≡ b → stacked (cond b cells (set cells at (cell_of node letter))) (cond b node at) ≡ cond b (stacked cells node) (letter ∷ stacked cells node)
      by true e = refl
      by false e = put_stacked cells at node letter inside higher small (omega (arith, eqb-false letter 0 e)) few

  pub given_before : (n : ℕ) → n < at → get_or (given_cells cells at node letter) n 0 ≡ get_or cells n 0
  unfolding given_cells
  given_before n lt = by (eqb letter 0)
    where
      by : (b : Bool) → get_or (cond b cells (set cells at (cell_of node letter))) n 0 ≡ get_or cells n 0
      by true = refl
      by false = get_or-set_other cells at n (cell_of node letter) 0 (λ e. omega arith)

  pub given_length : length (given_cells cells at node letter) ≡ length cells
  unfolding given_cells
  given_length = by (eqb letter 0)
    where
      by : (b : Bool) → length (cond b cells (set cells at (cell_of node letter))) ≡ length cells
      by true = refl
      by false = length-set cells at (cell_of node letter)
