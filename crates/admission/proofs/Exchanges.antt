-- The rule of each element on kinds is what the code makes of the three topmost letters.
use Prim.Native.Nat.{ℕ}
use mathlib.Core.Path.{◌≡◌, refl, sym}
use mathlib.Core.Bool.{Bool, true, false, cond}
use mathlib.Core.List.{List, [], ◌∷◌}
use mathlib.Core.Option.{Option, none, some}
use lib.Dec.{eqb, ltb}
use lib.ListN.{length, get_or, drop}
use borrow.Author.Tests.{eqb-true, eqb-false}
use Rattle.labels.specs.declared.Kind.{Kind}
use Rattle.labels.specs.declared.Kind.TheVariants.{Number, Calldata, Boolean, Text, Numbers}
use Rattle.labels.specs.declared.Exchange.{Exchange}
use Rattle.labels.specs.declared.Exchange.TheVariants.{Unchanged, Adds, Takes, Turns, Joins, Creates, Gets, Sets, Dup, Swap, Drop, Compares, Changes}
use Rattle.labels.specs.declared.Element.{Element}
use Rattle.labels.specs.declared.Element.TheVariants.{NoRule, Kinds, Do, Loop, LoopIndex, JumpIfFalse}
use Rattle.labels.specs.Labels.{letter, letters, same_kind, and_then, takes, gives, keeps_vector, exchanged, kinds_after}
use Rattle.admission.specs.declared.elements.Change.{Change}
use Rattle.admission.specs.Changes.{taking, take_one, take_two, create, compare, change_vector, move_kinds, exchange_change, element_change}
use Rattle.admission.proofs.Stacks.{given}
use Rattle.std.specs.Prelude as prelude
use Rattle.std.specs.Prelude.{Some, None}

-- the letters after a change
abbrev pub performed : prelude.Option Change → List ℕ → Option (List ℕ)
performed None list = none
performed (Some change) list = some (given change.top (given change.low (drop change.taken list)))

-- the letters after a rule
abbrev pub lettered : Option (List Kind) → Option (List ℕ)
lettered none = none
lettered (some kinds) = some (letters kinds)

some_letter : (kind : Kind) → eqb (letter kind) 0 ≡ false
some_letter Number = refl
some_letter Calldata = refl
some_letter Boolean = refl
some_letter Text = refl
some_letter Numbers = refl

no_letter : (kind : Kind) → eqb 0 (letter kind) ≡ false
no_letter Number = refl
no_letter Calldata = refl
no_letter Boolean = refl
no_letter Text = refl
no_letter Numbers = refl

-- the order of a comparison
sided : (a b : Kind) → eqb (letter a) (letter b) ≡ eqb (letter b) (letter a)
sided a b = by (eqb (letter a) (letter b)) refl (eqb (letter b) (letter a)) refl
  where
    by : (x : Bool) → eqb (letter a) (letter b) ≡ x → (y : Bool) → eqb (letter b) (letter a) ≡ y → x ≡ y
    by true e true f = refl
    by true e false f = absurd (eqb-false (letter b) (letter a) f (sym (eqb-true (letter a) (letter b) e)))
    by false e true f = absurd (eqb-false (letter a) (letter b) e (sym (eqb-true (letter b) (letter a) f)))
    by false e false f = refl

-- a change on these letters
abbrev Does : prelude.Option Change → List Kind → Option (List Kind) → Type 0
Does change kinds result = performed change (letters kinds) ≡ lettered result

abbrev at_top : List Kind → ℕ
at_top kinds = get_or (letters kinds) 0 0

abbrev at_second : List Kind → ℕ
at_second kinds = get_or (letters kinds) 1 0

abbrev at_third : List Kind → ℕ
at_third kinds = get_or (letters kinds) 2 0

one_taken : (wanted : Kind) (kinds : List Kind) → Does (take_one (letter wanted) (at_top kinds) 0) kinds (takes (wanted ∷ []) kinds)
unfolding take_one
one_taken wanted [] = rw (some_letter wanted) refl
one_taken wanted (top ∷ kinds) = by (same_kind wanted top)
  where
    by : (b : Bool) → performed (cond b (taking 1 0 0) None) (letters (top ∷ kinds)) ≡ lettered (cond b (some kinds) none)
    by true = refl
    by false = refl

one_turned : (wanted other : Kind) (kinds : List Kind) → Does (take_one (letter wanted) (at_top kinds) (letter other)) kinds (gives other (takes (wanted ∷ []) kinds))
unfolding take_one
one_turned wanted other [] = rw (some_letter wanted) refl
one_turned wanted other (top ∷ kinds) = by (same_kind wanted top)
  where
    by : (b : Bool) → performed (cond b (taking 1 (letter other) 0) None) (letters (top ∷ kinds)) ≡ lettered (gives other (cond b (some kinds) none))
    by true = rw (some_letter other) refl
    by false = refl

two_taken : (wanted : Kind) (kinds : List Kind) → Does (take_two (letter wanted) (at_top kinds) (at_second kinds) 0) kinds (takes (Number ∷ wanted ∷ []) kinds)
unfolding take_two
two_taken wanted [] = refl
two_taken wanted (top ∷ []) = rw (some_letter wanted) (by (eqb (letter top) 78) (same_kind Number top))
  where
    by : (b d : Bool) → performed (cond b None None) (letters (top ∷ [])) ≡ lettered (cond d none none)
    by true true = refl
    by true false = refl
    by false true = refl
    by false false = refl
two_taken wanted (top ∷ second ∷ kinds) = rw (sided top Number) (by (same_kind Number top) (same_kind wanted second))
  where
    by : (b d : Bool) → performed (cond b (cond d (taking 2 0 0) None) None) (letters (top ∷ second ∷ kinds)) ≡ lettered (cond b (cond d (some kinds) none) none)
    by true true = refl
    by true false = refl
    by false d = refl

two_joined : (other : Kind) (kinds : List Kind) → Does (take_two 78 (at_top kinds) (at_second kinds) (letter other)) kinds (gives other (takes (Number ∷ Number ∷ []) kinds))
unfolding take_two
two_joined other [] = refl
two_joined other (top ∷ []) = by (eqb (letter top) 78) (same_kind Number top)
  where
    by : (b d : Bool) → performed (cond b None None) (letters (top ∷ [])) ≡ lettered (gives other (cond d none none))
    by true true = refl
    by true false = refl
    by false true = refl
    by false false = refl
two_joined other (top ∷ second ∷ kinds) = rw (sided top Number) (by (same_kind Number top) (same_kind Number second))
  where
    by : (b d : Bool)
        → performed (cond b (cond d (taking 2 (letter other) 0) None) None) (letters (top ∷ second ∷ kinds)) ≡ lettered (gives other (cond b (cond d (some kinds) none) none))
    by true true = rw (some_letter other) refl
    by true false = refl
    by false d = refl

created : (kinds : List Kind) → Does (create (at_top kinds) (at_second kinds) (at_third kinds)) kinds (takes (Calldata ∷ Number ∷ Text ∷ []) kinds)
unfolding create
created [] = refl
created (top ∷ []) = rw (sided top Calldata) (by (same_kind Calldata top))
  where
    by : (b : Bool) → performed (cond b None None) (letters (top ∷ [])) ≡ lettered (cond b none none)
    by true = refl
    by false = refl
created (top ∷ second ∷ []) = rw (sided top Calldata, sided second Number) (by (same_kind Calldata top) (same_kind Number second))
  where
    by : (b d : Bool) → performed (cond b (cond d None None) None) (letters (top ∷ second ∷ [])) ≡ lettered (cond b (cond d none none) none)
    by true true = refl
    by true false = refl
    by false d = refl
created (top ∷ second ∷ third ∷ kinds) =
    rw (sided top Calldata, sided second Number, sided third Text) (by (same_kind Calldata top) (same_kind Number second) (same_kind Text third))
  where
    by : (b d f : Bool) → performed (cond b (cond d (cond f (taking 3 0 0) None) None) None) (letters (top ∷ second ∷ third ∷ kinds))
        ≡ lettered (cond b (cond d (cond f (some kinds) none) none) none)
    by true true true = refl
    by true true false = refl
    by true false f = refl
    by false d f = refl

compared : (kinds : List Kind) → Does (compare (at_top kinds) (at_second kinds)) kinds (exchanged Compares kinds)
unfolding compare exchanged
compared [] = refl
compared (top ∷ []) = refl
compared (top ∷ second ∷ kinds) = rw (some_letter second) (by (same_kind top second))
  where
    by : (b : Bool) → performed (cond b (taking 2 66 0) None) (letters (top ∷ second ∷ kinds)) ≡ lettered (cond b (some (Boolean ∷ kinds)) none)
    by true = refl
    by false = refl

vector_changed : (kinds : List Kind) → Does (change_vector (at_top kinds) (at_second kinds) (at_third kinds)) kinds (exchanged Changes kinds)
unfolding change_vector take_two exchanged
vector_changed [] = refl
vector_changed (top ∷ []) = by (same_kind Number top)
  where
    by : (b : Bool) → none ≡ lettered (and_then (cond b none none) keeps_vector)
    by true = refl
    by false = refl
vector_changed (top ∷ second ∷ []) = by (same_kind Number top) (same_kind Number second)
  where
    by : (b d : Bool) → none ≡ lettered (and_then (cond b (cond d (some []) none) none) keeps_vector)
    by true true = refl
    by true false = refl
    by false d = refl
vector_changed (top ∷ second ∷ third ∷ kinds) =
    rw (sided top Number) (by (same_kind Number top) (same_kind Number second) (same_kind third Text) refl (same_kind third Numbers) refl)
  where
    by : (b d f : Bool) → same_kind third Text ≡ f → (g : Bool) → same_kind third Numbers ≡ g
        → performed
        (cond f (cond b (cond d (taking 2 0 0) None) None) (cond g (cond b (cond d (taking 2 0 0) None) None) None))
        (letters (top ∷ second ∷ third ∷ kinds))
        ≡ lettered (and_then (cond b (cond d (some (third ∷ kinds)) none) none) keeps_vector)
    by true true true e g h = rw e refl
    by true true false e true h = rw (e, h) refl
    by true true false e false h = rw (e, h) refl
    by true false true e g h = refl
    by true false false e true h = refl
    by true false false e false h = refl
    by false d true e g h = refl
    by false d false e true h = refl
    by false d false e false h = refl

doubled : (kinds : List Kind) → Does (move_kinds (at_top kinds) 0 (at_top kinds) 0) kinds (exchanged Dup kinds)
unfolding move_kinds exchanged
doubled [] = refl
doubled (top ∷ kinds) = simp (some_letter top)

swapped : (kinds : List Kind) → Does (move_kinds (at_second kinds) 2 (at_top kinds) (at_second kinds)) kinds (exchanged Swap kinds)
unfolding move_kinds exchanged
swapped [] = refl
swapped (top ∷ []) = refl
swapped (top ∷ second ∷ kinds) = simp (some_letter second, some_letter top)

dropped : (kinds : List Kind) → Does (move_kinds (at_top kinds) 1 0 0) kinds (exchanged Drop kinds)
unfolding move_kinds exchanged
dropped [] = refl
dropped (top ∷ kinds) = rw (some_letter top) refl

roomy : (b : Bool) (change : prelude.Option Change) (kinds : List Kind) (result : Option (List Kind)) → Does change kinds result → Does (cond b change None) kinds (cond b result none)
roomy true change kinds result e = e
roomy false change kinds result e = refl

exchange_is : (exchange : Exchange) (kinds : List Kind) → Does (exchange_change exchange (length kinds) (at_top kinds) (at_second kinds) (at_third kinds)) kinds (exchanged exchange kinds)
unfolding exchange_change exchanged
exchange_is Unchanged kinds = refl
exchange_is (Adds kind) kinds = rw (some_letter kind) refl
exchange_is (Takes kind) kinds = one_taken kind kinds
exchange_is (Turns kind other) kinds = one_turned kind other kinds
exchange_is (Joins kind) kinds = two_joined kind kinds
exchange_is Creates kinds = created kinds
exchange_is (Gets kind) kinds = roomy (ltb (length kinds) 1000) _ kinds _ (one_turned Number kind kinds)
exchange_is (Sets kind) kinds = roomy (ltb (length kinds) 1000) _ kinds _ (two_taken kind kinds)
exchange_is Dup kinds = doubled kinds
exchange_is Swap kinds = swapped kinds
exchange_is Drop kinds = dropped kinds
exchange_is Compares kinds = compared kinds
exchange_is Changes kinds = vector_changed kinds

-- the rule of every element
pub element_is : (element : Element) (kinds : List Kind) → Does (element_change element (length kinds) (at_top kinds) (at_second kinds) (at_third kinds)) kinds (kinds_after element kinds)
unfolding element_change kinds_after
element_is NoRule kinds = refl
element_is (Kinds exchange) kinds = exchange_is exchange kinds
element_is Do kinds = two_taken Number kinds
element_is Loop kinds = refl
element_is LoopIndex kinds = refl
element_is (JumpIfFalse target) kinds = one_taken Boolean kinds
