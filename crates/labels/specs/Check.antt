-- The check of a program: 1, 28, else 27 at the first element without a rule, else the first wrong jump, else the length.
use Rattle.std.specs.Prelude.{ℕ, zero, suc, Bool, true, false, cond, ◌&&◌, List, [], ◌∷◌, eqb, ltb, length}
use Rattle.std.proofs.Math.Option.{Option, none, some}
use Rattle.errors.specs.declared.Refusal.{Refusal}
use Rattle.errors.specs.declared.Refusal.TheVariants.{EmptyInstructions, ProgramTooLong, NotAdmitted}
use Rattle.slices.specs.Same.{same}
use Rattle.labels.specs.declared.Kind.{Kind}
use Rattle.labels.specs.declared.Element.{Element}
use Rattle.labels.specs.declared.Element.TheVariants.{NoRule, Kinds, Do, Loop, LoopIndex, JumpIfFalse}
use Rattle.labels.specs.Elements.{element_end, element}
use Rattle.labels.specs.Labels.{letters, Open, opened, Label, label, empty, and_then, next_label}

-- two lists of open loops are the same: the same places, and the same kinds
abbrev pub same_loops : List Open → List Open → Bool
same_loops [] [] = true
same_loops [] (b ∷ more) = false
same_loops (a ∷ loops) [] = false
same_loops (opened place left ∷ loops) (opened other kinds ∷ more) = eqb place other && (same (letters left) (letters kinds) && same_loops loops more)

abbrev pub same_label : Label → Label → Bool
same_label (label kinds loops) (label others more) = same (letters kinds) (letters others) && same_loops loops more

-- the label of a place, swept from a start and its label; none where no element starts
unfoldable pub label_from : ℕ → List ℕ → ℕ → Label → ℕ → Option Label
label_from zero code at now place = cond (eqb at place) (some now) none
label_from (suc fuel) code at now place =
    cond (eqb at place) (some now) (and_then (next_label code at now) λ next. label_from fuel code (element_end code at) next place)

unfoldable pub label_at : List ℕ → ℕ → Option Label
label_at code place = label_from (length code) code 0 empty place

abbrev pub has_label : Option Label → Option Label → Bool
has_label (some a) (some b) = same_label a b
has_label (some a) none = false
has_label none b = false

-- a jump's target has the label that the element behind the jump has
abbrev pub right_jump : List ℕ → Element → Option Label → Bool
right_jump code NoRule next = true
right_jump code (Kinds exchange) next = true
right_jump code Do next = true
right_jump code Loop next = true
right_jump code LoopIndex next = true
right_jump code (JumpIfFalse target) next = has_label (label_at code target) next

abbrev pub is_some : {A : Type 0} → Option A → Bool
is_some none = false
is_some (some answer) = true

-- the first place, swept from a start and its label, where a test of the place and the next label fails
unfoldable pub first_failing : (ℕ → Option Label → Bool) → ℕ → List ℕ → ℕ → Label → Option ℕ
first_failing test zero code at now = none
first_failing test (suc fuel) code at now =
    cond (ltb at (length code))
    (cond (test at (next_label code at now)) (and_then (next_label code at now) λ next. first_failing test fuel code (element_end code at) next) (some at))
    none

-- the first element without a rule
unfoldable pub first_without_rule : List ℕ → Option ℕ
first_without_rule code = first_failing (λ at next. is_some next) (length code) code 0 empty

-- the first wrong jump
unfoldable pub first_wrong_jump : List ℕ → Option ℕ
first_wrong_jump code = first_failing (λ at next. right_jump code (element code at) next) (length code) code 0 empty

-- admitted with these kinds, the topmost first, or refused
pub data Verdict : Type 0 where
  admitted : List Kind → Verdict
  refused : Refusal → Verdict

-- refused at a place, if there is one
abbrev pub else_at : Option ℕ → Verdict → Verdict
else_at none verdict = verdict
else_at (some at) verdict = refused (NotAdmitted at)

-- at the end no loop is open
abbrev pub ending : ℕ → Option Label → Verdict
ending size none = refused (NotAdmitted size)
ending size (some (label kinds [])) = admitted kinds
ending size (some (label kinds (loop ∷ loops))) = refused (NotAdmitted size)

unfoldable pub swept : List ℕ → Verdict
swept code = else_at (first_without_rule code) (else_at (first_wrong_jump code) (ending (length code) (label_at code (length code))))

unfoldable pub admission : List ℕ → Verdict
admission code = cond (eqb (length code) 0) (refused EmptyInstructions) (cond (ltb 65535 (length code)) (refused ProgramTooLong) (swept code))
