-- The elements of a program: which rule the one at a place has, and the place behind it.
use Rattle.std.specs.Prelude.{ℕ, ◌+◌, Bool, cond, ◌&&◌, ◌||◌, List, eqb, leb, length, get_or, Ok, Err, Some, None, Result, Option}
use Rattle.bytecode.specs.Opcodes.{PUSH_U32, PUSH_STATE, PUSH_CALLDATA, PUSH_TASK_FIELD, PUSH_MAX_STATES, T_CREATE, T_GET_FIELD, T_SET_FIELD, T_DELETE, S_LEN, DO, LOOP, LOOP_INDEX, CALL, DROP, DUP, SWAP, EQ, NEQ, LT, GT, JUMP_IF_FALSE, M_STI, M_ST, M_MUTA, MULI, MUL}
use Rattle.bytecode.specs.Operands.{operand, behind}
use Rattle.labels.specs.declared.Kind.{Kind}
use Rattle.labels.specs.declared.Kind.TheVariants.{Number, Calldata, Boolean, Text, Numbers}
use Rattle.labels.specs.declared.Exchange.{Exchange}
use Rattle.labels.specs.declared.Exchange.TheVariants.{Unchanged, Adds, Takes, Turns, Joins, Creates, Gets, Sets, Dup, Swap, Drop, Compares, Changes}
use Rattle.labels.specs.declared.Element.{Element}
use Rattle.labels.specs.declared.Element.TheVariants.{NoRule, Kinds, Do, Loop, LoopIndex, JumpIfFalse}
use Rattle.errors.specs.declared.Refusal.{Refusal}

-- PUSH_TASK_FIELD directly followed by T_GET_FIELD or T_SET_FIELD
unfoldable pub joined : List ℕ → ℕ → Bool
joined code at = eqb (get_or code at 0) PUSH_TASK_FIELD && (eqb (get_or code (at + 2) 0) T_GET_FIELD || eqb (get_or code (at + 2) 0) T_SET_FIELD)

-- the place behind the element
unfoldable pub element_end : List ℕ → ℕ → ℕ
element_end code at = cond (joined code at) (at + 3) (behind code at)

-- a vector's tag: 4 means S, 6 means V
unfoldable pub tag_kind : ℕ → Option Kind
tag_kind tag = cond (eqb tag 4) (Some Text) (cond (eqb tag 6) (Some Numbers) None)

-- field 0, 1, 2 means S, N, C
unfoldable pub field_kind : ℕ → Option Kind
field_kind field = cond (eqb field 0) (Some Text) (cond (eqb field 1) (Some Number) (cond (eqb field 2) (Some Calldata) None))

-- the element with this kind, if there is one
unfoldable pub with_kind : (Kind → Exchange) → Option Kind → Element
with_kind exchange (Some kind) = Kinds (exchange kind)
with_kind exchange None = NoRule

-- PUSH_TASK_FIELD, joined to the byte behind it or lone
unfoldable pub field_element : List ℕ → ℕ → Element
field_element code at =
    cond (eqb (get_or code (at + 2) 0) T_GET_FIELD) (with_kind Gets (field_kind (get_or code (at + 1) 0)))
    (cond (eqb (get_or code (at + 2) 0) T_SET_FIELD) (with_kind Sets (field_kind (get_or code (at + 1) 0)))
    (Kinds (Adds Number)))

-- JUMP_IF_FALSE
unfoldable pub jump_element : Result ℕ Refusal → Element
jump_element (Ok target) = JumpIfFalse target
jump_element (Err refusal) = NoRule

-- an opcode that moves kinds or loops about; S_SAVE, S_LOAD, END_CALL, unused bytes: no change
unfoldable pub moving_element : ℕ → Element
moving_element op =
    cond (eqb op DO) Do
    (cond (eqb op LOOP) Loop
    (cond (eqb op LOOP_INDEX) LoopIndex
    (cond (eqb op DUP) (Kinds Dup)
    (cond (eqb op SWAP) (Kinds Swap)
    (cond (eqb op DROP) (Kinds Drop)
    (cond (eqb op CALL) NoRule
    (cond (eqb op T_GET_FIELD) NoRule
    (cond (eqb op T_SET_FIELD) NoRule
    (Kinds Unchanged)))))))))

-- an opcode without operands
unfoldable pub plain_element : ℕ → Element
plain_element op =
    cond (eqb op S_LEN) (Kinds (Adds Number))
    (cond (eqb op MUL) (Kinds (Joins Number))
    (cond (eqb op T_CREATE) (Kinds Creates)
    (cond (eqb op T_DELETE) (Kinds (Takes Number))
    (cond (eqb op EQ) (Kinds Compares)
    (cond (eqb op NEQ) (Kinds Compares)
    (cond (eqb op LT) (Kinds (Joins Boolean))
    (cond (eqb op GT) (Kinds (Joins Boolean))
    (cond (eqb op M_MUTA) (Kinds Changes)
    (moving_element op)))))))))

-- the element at a place where it is whole
unfoldable pub whole_element : List ℕ → ℕ → ℕ → Element
whole_element code at op =
    cond (eqb op PUSH_U32) (Kinds (Adds Number))
    (cond (eqb op PUSH_STATE) (Kinds (Adds Number))
    (cond (eqb op PUSH_MAX_STATES) (Kinds (Adds Number))
    (cond (eqb op PUSH_TASK_FIELD) (field_element code at)
    (cond (eqb op PUSH_CALLDATA) (Kinds (Adds Calldata))
    (cond (eqb op MULI) (Kinds (Turns Number Number))
    (cond (eqb op M_STI) (with_kind Adds (tag_kind (get_or code (at + 3) 0)))
    (cond (eqb op M_ST) (with_kind (Turns Number) (tag_kind (get_or code (at + 1) 0)))
    (cond (eqb op JUMP_IF_FALSE) (jump_element (operand 4 code (at + 1)))
    (plain_element op)))))))))

-- the element at a place; no rule for one cut by the code's end
unfoldable pub element : List ℕ → ℕ → Element
element code at = cond (leb (element_end code at) (length code)) (whole_element code at (get_or code at 0)) NoRule
