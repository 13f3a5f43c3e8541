-- Labels, the rule of each element, and what a labelling of a program is.
use Rattle.std.specs.Prelude.{ℕ, ◌≤◌, ◌<◌, ◌≡◌, Bool, cond, ◌&&◌, ◌||◌, List, [], ◌∷◌, map, eqb, leb, ltb, length}
use Rattle.std.proofs.Math.Option.{Option, none, some}
use Rattle.slices.specs.Same.{same}
use Rattle.labels.specs.declared.Kind.{Kind}
use Rattle.labels.specs.declared.Kind.TheVariants.{Number, Calldata, Boolean, Text, Numbers}
use Rattle.labels.specs.declared.Exchange.{Exchange}
use Rattle.labels.specs.declared.Exchange.TheVariants.{Unchanged, Adds, Takes, Turns, Joins, Creates, Gets, Sets, Dup, Swap, Drop, Compares, Changes}
use Rattle.labels.specs.declared.Element.{Element}
use Rattle.labels.specs.declared.Element.TheVariants.{NoRule, Kinds, Do, Loop, LoopIndex, JumpIfFalse}
use Rattle.labels.specs.Elements.{element_end, element}

-- the letter of a kind (docs/REFERENCE.md, 'Admission')
abbrev pub letter : Kind → ℕ
letter Number = 78
letter Calldata = 67
letter Boolean = 66
letter Text = 83
letter Numbers = 86

abbrev pub letters : List Kind → List ℕ
letters kinds = map letter kinds

abbrev pub same_kind : Kind → Kind → Bool
same_kind a b = eqb (letter a) (letter b)

-- an open loop: the place behind its DO, and the kinds that the DO left
pub data Open : Type 0 where
  opened : ℕ → List Kind → Open

-- the kinds, the topmost first, and the open loops, the innermost first
pub data Label : Type 0 where
  label : List Kind → List Open → Label

abbrev pub kinds_of : Label → List Kind
kinds_of (label kinds loops) = kinds

abbrev pub open_loops : Label → List Open
open_loops (label kinds loops) = loops

abbrev pub empty : Label
empty = label [] []

-- an answer goes on to the next question, if there is one
abbrev pub and_then : {A B : Type 0} → Option A → (A → Option B) → Option B
and_then none next = none
and_then (some answer) next = next answer

-- these kinds are taken, the topmost first
abbrev pub takes : List Kind → List Kind → Option (List Kind)
takes [] kinds = some kinds
takes (kind ∷ more) [] = none
takes (kind ∷ more) (top ∷ kinds) = cond (same_kind kind top) (takes more kinds) none

-- a kind is added
abbrev pub gives : Kind → Option (List Kind) → Option (List Kind)
gives kind none = none
gives kind (some kinds) = some (kind ∷ kinds)

-- a free place for the field
abbrev pub with_free_place : List Kind → Option (List Kind) → Option (List Kind)
with_free_place kinds result = cond (ltb (length kinds) 1000) result none

-- two alike, to B
abbrev pub compares : List Kind → Option (List Kind)
compares [] = none
compares (b ∷ []) = none
compares (b ∷ a ∷ kinds) = cond (same_kind b a) (some (Boolean ∷ kinds)) none

-- S or V stays
abbrev pub keeps_vector : List Kind → Option (List Kind)
keeps_vector [] = none
keeps_vector (kind ∷ kinds) = cond (same_kind kind Text || same_kind kind Numbers) (some (kind ∷ kinds)) none

abbrev pub dup_kinds : List Kind → Option (List Kind)
dup_kinds [] = none
dup_kinds (a ∷ kinds) = some (a ∷ a ∷ kinds)

abbrev pub swap_kinds : List Kind → Option (List Kind)
swap_kinds [] = none
swap_kinds (b ∷ []) = none
swap_kinds (b ∷ a ∷ kinds) = some (a ∷ b ∷ kinds)

abbrev pub drop_top : List Kind → Option (List Kind)
drop_top [] = none
drop_top (a ∷ kinds) = some kinds

-- the kinds after an exchange
unfoldable pub exchanged : Exchange → List Kind → Option (List Kind)
exchanged Unchanged kinds = some kinds
exchanged (Adds kind) kinds = some (kind ∷ kinds)
exchanged (Takes kind) kinds = takes (kind ∷ []) kinds
exchanged (Turns kind other) kinds = gives other (takes (kind ∷ []) kinds)
exchanged (Joins kind) kinds = gives kind (takes (Number ∷ Number ∷ []) kinds)
exchanged Creates kinds = takes (Calldata ∷ Number ∷ Text ∷ []) kinds
exchanged (Gets kind) kinds = with_free_place kinds (gives kind (takes (Number ∷ []) kinds))
exchanged (Sets kind) kinds = with_free_place kinds (takes (Number ∷ kind ∷ []) kinds)
exchanged Dup kinds = dup_kinds kinds
exchanged Swap kinds = swap_kinds kinds
exchanged Drop kinds = drop_top kinds
exchanged Compares kinds = compares kinds
exchanged Changes kinds = and_then (takes (Number ∷ Number ∷ []) kinds) keeps_vector

-- the kinds after an element
unfoldable pub kinds_after : Element → List Kind → Option (List Kind)
kinds_after NoRule kinds = none
kinds_after (Kinds exchange) kinds = exchanged exchange kinds
kinds_after Do kinds = takes (Number ∷ Number ∷ []) kinds
kinds_after Loop kinds = some kinds
kinds_after LoopIndex kinds = some (Number ∷ kinds)
kinds_after (JumpIfFalse target) kinds = takes (Boolean ∷ []) kinds

-- LOOP needs the kinds left by its DO, and closes it
abbrev pub closes : List Kind → List Open → Option (List Open)
closes kinds [] = none
closes kinds (opened place left ∷ loops) = cond (same (letters kinds) (letters left)) (some loops) none

-- LOOP_INDEX needs an open loop
abbrev pub needs_open : List Open → Option (List Open)
needs_open [] = none
needs_open (loop ∷ loops) = some (loop ∷ loops)

-- the open loops after an element, which leaves these kinds and the place behind which is `next`
unfoldable pub loops_after : Element → ℕ → List Kind → List Open → Option (List Open)
loops_after NoRule next kinds loops = none
loops_after (Kinds exchange) next kinds loops = some loops
loops_after Do next kinds loops = some (opened next kinds ∷ loops)
loops_after Loop next kinds loops = closes kinds loops
loops_after LoopIndex next kinds loops = needs_open loops
loops_after (JumpIfFalse target) next kinds loops = some loops

-- a label has at most 1,000 kinds and 2 open loops
unfoldable pub bounded : List Kind → List Open → Option Label
bounded kinds loops = cond (leb (length kinds) 1000 && leb (length loops) 2) (some (label kinds loops)) none

-- the rule of an element: the label that it gives the next
unfoldable pub rule : Element → ℕ → Label → Option Label
rule element next (label kinds loops) = and_then (kinds_after element kinds) λ left. and_then (loops_after element next left loops) (bounded left)

-- the label that the element at a place gives the next
unfoldable pub next_label : List ℕ → ℕ → Label → Option Label
next_label code at now = rule (element code at) (element_end code at) now

-- elements follow each other from byte 0; the last start is the code's length
pub data Start (code : List ℕ) : ℕ → Type 0 where
  zeroth : Start code 0
  follow : {at : ℕ} → Start code at → at < length code → Start code (element_end code at)

-- labels for all places, of which those at starts count
pub record Labelling (code : List ℕ) (labels : ℕ → Label) : Type 0 where
  pub zeroth_empty : labels 0 ≡ empty
  pub rules : (at : ℕ) → Start code at → at < length code → next_label code at (labels at) ≡ some (labels (element_end code at))
  pub jumps : (at target : ℕ) → Start code at → at < length code → element code at ≡ JumpIfFalse target
      → Start code target × (labels target ≡ labels (element_end code at))
  pub closed : open_loops (labels (length code)) ≡ []

-- a program of 1 to 65,535 bytes that has a labelling, with these kinds at the length
pub record Labelled (code : List ℕ) (kinds : List Kind) : Type 0 where
  pub some_code : 1 ≤ length code
  pub short : length code ≤ 65535
  pub labels : ℕ → Label
  pub labelling : Labelling code labels
  pub at_end : kinds_of (labels (length code)) ≡ kinds
