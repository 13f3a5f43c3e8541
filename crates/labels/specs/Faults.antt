-- Why a program of 1 to 65,535 bytes is refused, and where.
use Rattle.std.specs.Prelude.{ℕ, ◌<◌, ◌≡◌, List, [], length}
use Rattle.std.proofs.Math.Option.{none, some}
use Rattle.labels.specs.declared.Element.TheVariants.{JumpIfFalse}
use Rattle.labels.specs.Elements.{element_end, element}
use Rattle.labels.specs.Labels.{Label, open_loops, empty, next_label}

-- the rules lead from a start and its label to another
pub data Way (code : List ℕ) : ℕ → Label → ℕ → Label → Type 0 where
  here : {at : ℕ} {now : Label} → Way code at now at now
  on : {at place : ℕ} {now next then : Label} → next_label code at now ≡ some next → Way code (element_end code at) next place then → Way code at now place then

-- the rules lead from byte 0 with the empty label to a place with this label
abbrev pub Reached : List ℕ → ℕ → Label → Type 0
Reached code place now = Way code 0 empty place now

-- the element at a place is reached and has no rule
pub record WithoutRule (code : List ℕ) (at : ℕ) : Type 0 where
  pub now : Label
  pub reached : Reached code at now
  pub inside : at < length code
  pub no_rule : next_label code at now ≡ none

-- the jump at a place gives the next element a label with which the rules do not reach its target
pub record WrongJump (code : List ℕ) (at : ℕ) : Type 0 where
  pub now : Label
  pub next : Label
  pub target : ℕ
  pub reached : Reached code at now
  pub inside : at < length code
  pub jump : element code at ≡ JumpIfFalse target
  pub gives : next_label code at now ≡ some next
  pub wrong : Reached code target next → ⊥

-- every element has a rule: the end is reached
pub record Ended (code : List ℕ) : Type 0 where
  pub last : Label
  pub reached : Reached code (length code) last

-- the first element without a rule, else the first wrong jump, else the length
pub data Fault (code : List ℕ) : ℕ → Type 0 where
  without_rule : {at : ℕ} → WithoutRule code at → Fault code at
  wrong_jump : {at : ℕ} → Ended code → WrongJump code at → ((earlier : ℕ) → earlier < at → WrongJump code earlier → ⊥) → Fault code at
  open_loop : (ended : Ended code) → ((at : ℕ) → WrongJump code at → ⊥) → (open_loops ended.last ≡ [] → ⊥) → Fault code (length code)
