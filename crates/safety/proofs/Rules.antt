-- What an element's rule tells where it gave a label: the kinds before and after it, and the open loops.
use Prim.Native.Nat.{ℕ, ◌≤◌, ◌<◌}
use mathlib.Core.Path.{◌≡◌, refl, sym, ap, subst}
use mathlib.Core.Bool.{Bool, true, false, cond, ◌&&◌, ◌||◌}
use mathlib.Core.List.{List, [], ◌∷◌, ◌++◌}
use mathlib.Core.Option.{Option, none, some}
use native.Mathlib.Omega.{arith}
use lib.Dec.{leb, ltb}
use lib.ListN.{length}
use borrow.Author.Tests.{eqb-true, leb-true, ltb-true}
use Rattle.labels.specs.declared.Kind.{Kind}
use Rattle.labels.specs.declared.Kind.TheVariants.{Number, Calldata, Boolean, Text, Numbers}
use Rattle.labels.specs.declared.Exchange.{Exchange}
use Rattle.labels.specs.declared.Exchange.TheVariants.{Unchanged, Adds, Takes, Turns, Joins, Creates, Gets, Sets, Dup, Swap, Drop, Compares, Changes}
use Rattle.labels.specs.declared.Element.{Element}
use Rattle.labels.specs.Labels.{letter, same_kind, Open, Label, label, and_then, takes, gives, compares, keeps_vector, exchanged, kinds_after, loops_after, bounded, rule}
use Rattle.labels.proofs.Comparison.{and_left, and_right, letters_equal}

-- by a test
pub on_bool : {A : Type 0} (b : Bool) → (b ≡ true → A) → (b ≡ false → A) → A
on_bool true f g = f refl
on_bool false f g = g refl

pub no_answer : {A B : Type 0} {a : A} → none ≡ some a → B
no_answer e = absurd (let z : ◌≡◌ {A = ℕ} 0 1 = cc in omega arith)

went_on : {A B : Type 0} (o : Option A) (f : A → Option B) (b : B) → and_then o f ≡ some b → (a : A) × (o ≡ some a) × (f a ≡ some b)
went_on none f b e = no_answer e
went_on (some a) f b e = (a, refl, e)

pub passed : {A : Type 0} (test : Bool) (x : Option A) (a : A) → cond test x none ≡ some a → (test ≡ true) × (x ≡ some a)
passed true x a e = (refl, e)
passed false x a e = no_answer e

-- the label that a rule gave
pub record Given (element : Element) (next : ℕ) (kinds : List Kind) (loops : List Open) (l : Label) : Type 0 where
  pub left : List Kind
  pub opens : List Open
  pub kinds_are : kinds_after element kinds ≡ some left
  pub loops_are : loops_after element next left loops ≡ some opens
  pub few_kinds : length left ≤ 1000
  pub few_loops : length opens ≤ 2
  pub label_is : l ≡ label left opens

pub given : (element : Element) (next : ℕ) (kinds : List Kind) (loops : List Open) (l : Label) → rule element next (label kinds loops) ≡ some l → Given element next kinds loops l
unfolding rule bounded
given element next kinds loops l e =
    let a = went_on (kinds_after element kinds) (λ left. and_then (loops_after element next left loops) (bounded left)) l e in
    let b = went_on (loops_after element next a.0 loops) (bounded a.0) l a.2 in
    let c = passed (leb (length a.0) 1000 && leb (length b.0) 2) (some (label a.0 b.0)) l b.2 in
    record {
      left = a.0;
      opens = b.0;
      kinds_are = a.1;
      loops_are = b.1;
      few_kinds = leb-true _ _ (and_left _ _ c.0);
      few_loops = leb-true _ _ (and_right (leb (length a.0) 1000) _ c.0);
      label_is = let same : some (label a.0 b.0) ≡ some l = c.1 in cc;
    }

-- ---- the kinds

pub same_kind_equal : (a b : Kind) → same_kind a b ≡ true → a ≡ b
same_kind_equal a b e =
    let same : a ∷ [] ≡ b ∷ [] = letters_equal (a ∷ []) (b ∷ []) (ap (λ (n : ℕ). n ∷ []) (eqb-true (letter a) (letter b) e)) in
    cc

-- the kinds that are taken lie on top
takes_is : (pattern kinds left : List Kind) → takes pattern kinds ≡ some left → kinds ≡ pattern ++ left
takes_is [] kinds left e = cc
takes_is (kind ∷ pattern) [] left e = no_answer e
takes_is (kind ∷ pattern) (top ∷ kinds) left e =
    let p = passed (same_kind kind top) (takes pattern kinds) left e in
    let q = same_kind_equal kind top p.0 in
    let r = takes_is pattern kinds left p.1 in
    cc

gives_is : (kind : Kind) (o : Option (List Kind)) (left : List Kind) → gives kind o ≡ some left → (rest : List Kind) × (o ≡ some rest) × (left ≡ kind ∷ rest)
gives_is kind none left e = no_answer e
gives_is kind (some rest) left e = (rest, refl, cc)

-- what each exchange takes and gives
pub data Shape : Exchange → List Kind → List Kind → Type 0 where
  is_unchanged : {kinds : List Kind} → Shape Unchanged kinds kinds
  is_adds : {kind : Kind} {kinds : List Kind} → Shape (Adds kind) kinds (kind ∷ kinds)
  is_takes : {kind : Kind} {kinds : List Kind} → Shape (Takes kind) (kind ∷ kinds) kinds
  is_turns : {kind other : Kind} {kinds : List Kind} → Shape (Turns kind other) (kind ∷ kinds) (other ∷ kinds)
  is_joins : {kind : Kind} {kinds : List Kind} → Shape (Joins kind) (Number ∷ Number ∷ kinds) (kind ∷ kinds)
  is_creates : {kinds : List Kind} → Shape Creates (Calldata ∷ Number ∷ Text ∷ kinds) kinds
  is_gets : {kind : Kind} {kinds : List Kind} → length (Number ∷ kinds) < 1000 → Shape (Gets kind) (Number ∷ kinds) (kind ∷ kinds)
  is_sets : {kind : Kind} {kinds : List Kind} → length (Number ∷ kind ∷ kinds) < 1000 → Shape (Sets kind) (Number ∷ kind ∷ kinds) kinds
  is_dup : {kind : Kind} {kinds : List Kind} → Shape Dup (kind ∷ kinds) (kind ∷ kind ∷ kinds)
  is_swap : {top below : Kind} {kinds : List Kind} → Shape Swap (top ∷ below ∷ kinds) (below ∷ top ∷ kinds)
  is_drop : {kind : Kind} {kinds : List Kind} → Shape Drop (kind ∷ kinds) kinds
  is_compares : {kind : Kind} {kinds : List Kind} → Shape Compares (kind ∷ kind ∷ kinds) (Boolean ∷ kinds)
  is_changes : {kind : Kind} {kinds : List Kind} → (same_kind kind Text || same_kind kind Numbers) ≡ true → Shape Changes (Number ∷ Number ∷ kind ∷ kinds) (kind ∷ kinds)

compares_shape : (kinds left : List Kind) → compares kinds ≡ some left → Shape Compares kinds left
compares_shape [] left e = no_answer e
compares_shape (b ∷ []) left e = no_answer e
compares_shape (b ∷ a ∷ kinds) left e =
    let p = passed (same_kind b a) (some (Boolean ∷ kinds)) left e in
    let same : b ≡ a = same_kind_equal b a p.0 in
    let q : some (Boolean ∷ kinds) ≡ some left = p.1 in
    let r : Boolean ∷ kinds ≡ left = cc in
    subst (λ (l : List Kind). Shape Compares (b ∷ a ∷ kinds) l) r (subst (λ (k : Kind). Shape Compares (b ∷ k ∷ kinds) (Boolean ∷ kinds)) same is_compares)

changes_shape : (kinds rest left : List Kind) → kinds ≡ Number ∷ Number ∷ rest → keeps_vector rest ≡ some left → Shape Changes kinds left
changes_shape kinds [] left f e = no_answer e
changes_shape kinds (kind ∷ rest) left f e =
    let p = passed (same_kind kind Text || same_kind kind Numbers) (some (kind ∷ rest)) left e in
    let q : some (kind ∷ rest) ≡ some left = p.1 in
    let r : kind ∷ rest ≡ left = cc in
    subst (λ (l : List Kind). Shape Changes kinds l) r (subst (λ (k : List Kind). Shape Changes k (kind ∷ rest)) (sym f) (is_changes p.0))

pub shape : (exchange : Exchange) (kinds left : List Kind) → exchanged exchange kinds ≡ some left → Shape exchange kinds left
unfolding exchanged
shape Unchanged kinds left e = let same : kinds ≡ left = cc in subst (λ (l : List Kind). Shape Unchanged kinds l) same is_unchanged
shape (Adds kind) kinds left e = let same : kind ∷ kinds ≡ left = cc in subst (λ (l : List Kind). Shape (Adds kind) kinds l) same is_adds
shape (Takes kind) kinds left e = subst (λ (k : List Kind). Shape (Takes kind) k left) (sym (takes_is (kind ∷ []) kinds left e)) is_takes
shape (Turns kind other) kinds left e =
    let g = gives_is other (takes (kind ∷ []) kinds) left e in
    let t = takes_is (kind ∷ []) kinds g.0 g.1 in
    subst (λ (l : List Kind). Shape (Turns kind other) kinds l) (sym g.2) (subst (λ (k : List Kind). Shape (Turns kind other) k (other ∷ g.0)) (sym t) is_turns)
shape (Joins kind) kinds left e =
    let g = gives_is kind (takes (Number ∷ Number ∷ []) kinds) left e in
    let t = takes_is (Number ∷ Number ∷ []) kinds g.0 g.1 in
    subst (λ (l : List Kind). Shape (Joins kind) kinds l) (sym g.2) (subst (λ (k : List Kind). Shape (Joins kind) k (kind ∷ g.0)) (sym t) is_joins)
shape Creates kinds left e = subst (λ (k : List Kind). Shape Creates k left) (sym (takes_is (Calldata ∷ Number ∷ Text ∷ []) kinds left e)) is_creates
shape (Gets kind) kinds left e =
    let p = passed (ltb (length kinds) 1000) (gives kind (takes (Number ∷ []) kinds)) left e in
    let g = gives_is kind (takes (Number ∷ []) kinds) left p.1 in
    let t = takes_is (Number ∷ []) kinds g.0 g.1 in
    let few : length (Number ∷ g.0) < 1000 = subst (λ (k : List Kind). length k < 1000) t (ltb-true (length kinds) 1000 p.0) in
    subst (λ (l : List Kind). Shape (Gets kind) kinds l) (sym g.2) (subst (λ (k : List Kind). Shape (Gets kind) k (kind ∷ g.0)) (sym t) (is_gets few))
shape (Sets kind) kinds left e =
    let p = passed (ltb (length kinds) 1000) (takes (Number ∷ kind ∷ []) kinds) left e in
    let t = takes_is (Number ∷ kind ∷ []) kinds left p.1 in
    let few : length (Number ∷ kind ∷ left) < 1000 = subst (λ (k : List Kind). length k < 1000) t (ltb-true (length kinds) 1000 p.0) in
    subst (λ (k : List Kind). Shape (Sets kind) k left) (sym t) (is_sets few)
shape Dup [] left e = no_answer e
shape Dup (kind ∷ kinds) left e = let same : kind ∷ kind ∷ kinds ≡ left = cc in subst (λ (l : List Kind). Shape Dup (kind ∷ kinds) l) same is_dup
shape Swap [] left e = no_answer e
shape Swap (b ∷ []) left e = no_answer e
shape Swap (b ∷ a ∷ kinds) left e = let same : a ∷ b ∷ kinds ≡ left = cc in subst (λ (l : List Kind). Shape Swap (b ∷ a ∷ kinds) l) same is_swap
shape Drop [] left e = no_answer e
shape Drop (kind ∷ kinds) left e = let same : kinds ≡ left = cc in subst (λ (l : List Kind). Shape Drop (kind ∷ kinds) l) same is_drop
shape Compares kinds left e = compares_shape kinds left e
shape Changes kinds left e =
    let w = went_on (takes (Number ∷ Number ∷ []) kinds) keeps_vector left e in
    changes_shape kinds w.0 left (takes_is (Number ∷ Number ∷ []) kinds w.0 w.1) w.2

-- what DO and JUMP_IF_FALSE take
pub two_numbers : (kinds left : List Kind) → takes (Number ∷ Number ∷ []) kinds ≡ some left → kinds ≡ Number ∷ Number ∷ left
two_numbers kinds left e = takes_is (Number ∷ Number ∷ []) kinds left e

pub one_bool : (kinds left : List Kind) → takes (Boolean ∷ []) kinds ≡ some left → kinds ≡ Boolean ∷ left
one_bool kinds left e = takes_is (Boolean ∷ []) kinds left e
