-- Small programs and elements, and what the check of a program answers to them, computed from the definitions that `admission::admit` is equal to.
use Prim.Native.Nat.{ℕ}
use mathlib.Core.List.{List, [], ◌∷◌}
use mathlib.Core.Option.{none, some}
use mathlib.Core.Path.{◌≡◌, refl}
use lib.ListN.{replicate}
use Rattle.errors.specs.declared.Refusal.TheVariants.{EmptyInstructions, NotAdmitted}
use Rattle.slices.specs.Same.{same}
use Rattle.bytecode.specs.Opcodes.{operand_size}
use Rattle.bytecode.specs.Operands.{big_endian, operand, data_size, behind}
use Rattle.labels.specs.Check.{admission, admitted, refused, label_from, label_at, first_failing, first_without_rule, first_wrong_jump, swept}
use Rattle.labels.specs.Elements.{element_end, joined, tag_kind, field_kind, with_kind, field_element, jump_element, moving_element, plain_element, whole_element, element}
use Rattle.labels.specs.Labels.{exchanged, kinds_after, bounded, loops_after, rule, next_label}
use Rattle.labels.specs.declared.Element.TheVariants.{LoopIndex}
use Rattle.labels.specs.declared.Exchange.TheVariants.{Creates}
use Rattle.labels.specs.declared.Kind.TheVariants.{Calldata, Boolean, Number, Numbers, Text}

-- PUSH_STATE 0, PUSH_CALLDATA of no bytes
abbrev State_calldata : List ℕ
State_calldata = 0x03 ∷ 0x00 ∷ 0x04 ∷ 0x00 ∷ 0x00 ∷ []

-- PUSH_TASK_FIELD 1, T_GET_FIELD
abbrev Get_state : List ℕ
Get_state = 0x05 ∷ 0x01 ∷ 0x08 ∷ []

-- PUSH_STATE 0, DUP, LT: a bool
abbrev Less : List ℕ
Less = 0x03 ∷ 0x00 ∷ 0x14 ∷ 0x18 ∷ []

-- the same with DUP and EQ behind it: two bools
abbrev Equal_bools : List ℕ
Equal_bools = 0x03 ∷ 0x00 ∷ 0x14 ∷ 0x18 ∷ 0x14 ∷ 0x16 ∷ []

-- PUSH_STATE 0, DUP, DUP, LT, EQ: a number and a bool
abbrev Equal_unlike : List ℕ
Equal_unlike = 0x03 ∷ 0x00 ∷ 0x14 ∷ 0x14 ∷ 0x18 ∷ 0x16 ∷ []

-- PUSH_STATE 0, PUSH_CALLDATA of no bytes, SWAP
abbrev Swapped : List ℕ
Swapped = 0x03 ∷ 0x00 ∷ 0x04 ∷ 0x00 ∷ 0x00 ∷ 0x15 ∷ []

-- M_STI of no bytes, tag 6
abbrev No_numbers : List ℕ
No_numbers = 0x1b ∷ 0x00 ∷ 0x00 ∷ 0x06 ∷ 0x00 ∷ []

-- PUSH_STATE 0, CALL
abbrev Call : List ℕ
Call = 0x03 ∷ 0x00 ∷ 0x11 ∷ []

-- the examples
pub record Examples : Type 0 where
  -- a number and calldata above it, the topmost first
  pub two_kinds : admission State_calldata ≡ admitted (Calldata ∷ Number ∷ [])
  -- an empty program is 1
  pub empty_program : admission [] ≡ refused EmptyInstructions
  -- a field and what takes it are one element of three bytes
  pub field_taken : element_end Get_state 0 ≡ 3
  -- T_CREATE takes S N C
  pub task_created : exchanged Creates (Calldata ∷ Number ∷ Text ∷ []) ≡ some []
  -- LOOP_INDEX adds N
  pub index_added : kinds_after LoopIndex [] ≡ some (Number ∷ [])
  -- at most 1,000 kinds
  pub too_many : bounded (replicate 1001 Number) [] ≡ none
  -- LT gives B
  pub less : admission Less ≡ admitted (Boolean ∷ [])
  -- SWAP
  pub swapped : admission Swapped ≡ admitted (Number ∷ Calldata ∷ [])
  -- EQ takes two B
  pub equal_bools : admission Equal_bools ≡ admitted (Boolean ∷ [])
  -- and no N with a B
  pub equal_unlike : admission Equal_unlike ≡ refused (NotAdmitted 5)
  -- tag 6 gives V
  pub no_numbers : admission No_numbers ≡ admitted (Numbers ∷ [])
  -- CALL has no rule
  pub call : admission Call ≡ refused (NotAdmitted 2)

pub examples : Examples
unfolding same operand_size big_endian operand data_size behind label_from label_at first_failing first_without_rule first_wrong_jump swept admission joined element_end tag_kind field_kind with_kind field_element jump_element moving_element plain_element whole_element element exchanged kinds_after loops_after bounded rule next_label
examples = record {
  two_kinds = refl;
  empty_program = refl;
  field_taken = refl;
  task_created = refl;
  index_added = refl;
  too_many = refl;
  less = refl;
  swapped = refl;
  equal_bools = refl;
  equal_unlike = refl;
  no_numbers = refl;
  call = refl;
}
