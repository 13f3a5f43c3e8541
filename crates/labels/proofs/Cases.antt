-- Programs at the edges of the rules, by computation.
use mathlib.Core.Path.{◌≡◌, refl}
use mathlib.Core.List.{[], ◌∷◌}
use Rattle.bytecode.specs.Opcodes.{operand_size}
use Rattle.bytecode.specs.Operands.{big_endian, operand, data_size, behind}
use Rattle.errors.specs.declared.Refusal.TheVariants.{NotAdmitted}
use Rattle.slices.specs.Same.{same}
use Rattle.labels.specs.declared.Kind.TheVariants.{Number, Text}
use Rattle.labels.specs.Elements.{joined, element_end, tag_kind, field_kind, with_kind, field_element, jump_element, moving_element, plain_element, whole_element, element}
use Rattle.labels.specs.Labels.{exchanged, kinds_after, loops_after, bounded, rule, next_label}
use Rattle.labels.specs.Check.{label_from, label_at, first_failing, first_without_rule, first_wrong_jump, admitted, refused, swept, admission}

-- case C1 (docs/REFERENCE.md, 'Cases'): its LOOP has one kind more than its DO left
c1 : admission (1 ∷ 0 ∷ 0 ∷ 0 ∷ 0 ∷ 1 ∷ 0 ∷ 0 ∷ 0 ∷ 5 ∷ 14 ∷ 1 ∷ 0 ∷ 0 ∷ 0 ∷ 99 ∷ 15 ∷ []) ≡ refused (NotAdmitted 16)
unfolding admission swept first_without_rule first_wrong_jump first_failing label_at label_from next_label rule bounded loops_after kinds_after exchanged element whole_element plain_element moving_element jump_element field_element with_kind field_kind tag_kind element_end joined behind data_size operand big_endian operand_size same
c1 = refl

-- PUSH_STATE, PUSH_TASK_FIELD 0 joined to T_GET_FIELD
joined_get : admission (3 ∷ 0 ∷ 5 ∷ 0 ∷ 8 ∷ []) ≡ admitted (Text ∷ [])
unfolding admission swept first_without_rule first_wrong_jump first_failing label_at label_from next_label rule bounded loops_after kinds_after exchanged element whole_element plain_element moving_element jump_element field_element with_kind field_kind tag_kind element_end joined behind data_size operand big_endian operand_size same
joined_get = refl

-- a jump into a joined element
into_joined : admission (3 ∷ 0 ∷ 20 ∷ 20 ∷ 22 ∷ 26 ∷ 0 ∷ 0 ∷ 0 ∷ 12 ∷ 5 ∷ 1 ∷ 8 ∷ []) ≡ refused (NotAdmitted 5)
unfolding admission swept first_without_rule first_wrong_jump first_failing label_at label_from next_label rule bounded loops_after kinds_after exchanged element whole_element plain_element moving_element jump_element field_element with_kind field_kind tag_kind element_end joined behind data_size operand big_endian operand_size same
into_joined = refl

-- the same jump to the length
to_length : admission (3 ∷ 0 ∷ 20 ∷ 20 ∷ 22 ∷ 26 ∷ 0 ∷ 0 ∷ 0 ∷ 13 ∷ 5 ∷ 1 ∷ 8 ∷ []) ≡ admitted (Number ∷ [])
unfolding admission swept first_without_rule first_wrong_jump first_failing label_at label_from next_label rule bounded loops_after kinds_after exchanged element whole_element plain_element moving_element jump_element field_element with_kind field_kind tag_kind element_end joined behind data_size operand big_endian operand_size same
to_length = refl

-- a jump from the body of one loop into the body of another, which has the same kinds
between_loops : admission (3 ∷ 0 ∷ 3 ∷ 0 ∷ 14 ∷ 3 ∷ 0 ∷ 3 ∷ 0 ∷ 22 ∷ 26 ∷ 0 ∷ 0 ∷ 0 ∷ 21 ∷ 15 ∷ 3 ∷ 0 ∷ 3 ∷ 0 ∷ 14 ∷ 15 ∷ []) ≡ refused (NotAdmitted 10)
unfolding admission swept first_without_rule first_wrong_jump first_failing label_at label_from next_label rule bounded loops_after kinds_after exchanged element whole_element plain_element moving_element jump_element field_element with_kind field_kind tag_kind element_end joined behind data_size operand big_endian operand_size same
between_loops = refl

-- a loop that is open at the end
open_at_end : admission (3 ∷ 0 ∷ 3 ∷ 0 ∷ 14 ∷ []) ≡ refused (NotAdmitted 5)
unfolding admission swept first_without_rule first_wrong_jump first_failing label_at label_from next_label rule bounded loops_after kinds_after exchanged element whole_element plain_element moving_element jump_element field_element with_kind field_kind tag_kind element_end joined behind data_size operand big_endian operand_size same
open_at_end = refl
