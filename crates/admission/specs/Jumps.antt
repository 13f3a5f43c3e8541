-- The test of a jump on the labels that are noted.
use Rattle.std.specs.Prelude.{ℕ, ◌-◌, Bool, true, false, cond, List, eqb, get_or}
use Rattle.slices.specs.Same.{same}
use Rattle.labels.specs.declared.Element.{Element}
use Rattle.labels.specs.declared.Element.TheVariants.{NoRule, Kinds, Do, Loop, LoopIndex, JumpIfFalse}
use Rattle.admission.specs.Nodes.{stacked}

-- an element starts at a place and has the label of another
unfoldable pub same_label : List ℕ → List ℕ → List ℕ → ℕ → ℕ → Bool
same_label cells nodes loops place other =
    cond (eqb (get_or nodes place 0) 0) false
    (cond (eqb (get_or loops place 0) (get_or loops other 0)) (same (stacked cells (get_or nodes place 0 - 1)) (stacked cells (get_or nodes other 0 - 1))) false)

-- no jump, or a jump whose target has the label of the place behind it
unfoldable pub right_jump : List ℕ → List ℕ → List ℕ → Element → ℕ → Bool
right_jump cells nodes loops NoRule next = true
right_jump cells nodes loops (Kinds exchange) next = true
right_jump cells nodes loops Do next = true
right_jump cells nodes loops Loop next = true
right_jump cells nodes loops LoopIndex next = true
right_jump cells nodes loops (JumpIfFalse target) next = same_label cells nodes loops target next
