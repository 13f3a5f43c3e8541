-- Opcodes over the stack alone, each a chain of tests in the order of docs/REFERENCE.md, 'Instruction set'; `next` is the place behind the instruction.
use Rattle.std.specs.Prelude.{ℕ, ◌+◌, Bool, List, set, Ok, Err, Result}
use Rattle.inlinevec.specs.Stacks.{push, pop, last}
use Rattle.values.specs.Values.{to_u32_val, mul_checked, mul_checked_i, value_cmp}
use Rattle.mechanism.specs.Registers.{OnStack, on_stack, moved}
use Rattle.mechanism.specs.declared.Registers.{Registers}
use Rattle.errors.specs.declared.Refusal.{Refusal}

-- the second of two values, once the first is off
unfoldable pub pop_second : ℕ → Result (ℕ × ℕ) Refusal → Result (ℕ × ℕ × ℕ) Refusal
pop_second first (Ok (second, height)) = Ok (first, second, height)
pop_second first (Err refusal) = Err refusal

-- the first of two values
unfoldable pub pop_first : List ℕ → Result (ℕ × ℕ) Refusal → Result (ℕ × ℕ × ℕ) Refusal
pop_first stack (Ok (first, height)) = pop_second first (pop stack height)
pop_first stack (Err refusal) = Err refusal

-- two values off the stack, the topmost first
unfoldable pub pop_two : List ℕ → ℕ → Result (ℕ × ℕ × ℕ) Refusal
pop_two stack height = pop_first stack (pop stack height)

-- on at a place with the new height, or refused
unfoldable pub pushed_to : Registers → ℕ → Result ℕ Refusal → Result Registers Refusal
pushed_to registers place (Ok height) = Ok (moved registers place height)
pushed_to registers place (Err refusal) = Err refusal

-- a value pushed at a height
unfoldable pub push_value : List ℕ → Registers → ℕ → ℕ → ℕ → OnStack
push_value stack registers place height value =
    on_stack (pushed_to registers place (push stack height value).answer) (push stack height value).stack

-- the result of a calculation pushed at a height
unfoldable pub finish : List ℕ → Registers → ℕ → ℕ → Result ℕ Refusal → OnStack
finish stack registers place height (Ok value) = push_value stack registers place height value
finish stack registers place height (Err refusal) = on_stack (Err refusal) stack

-- PUSH_U32, PUSH_STATE, PUSH_MAX_STATES, PUSH_TASK_FIELD, S_LEN: 4
unfoldable pub op_push : List ℕ → Registers → ℕ → ℕ → OnStack
op_push stack registers next number = push_value stack registers next registers.height (to_u32_val number)

-- a calculation on two values
unfoldable pub on_two : (ℕ → ℕ → Result ℕ Refusal) → List ℕ → Registers → ℕ → Result (ℕ × ℕ × ℕ) Refusal → OnStack
on_two calculate stack registers next (Ok (first, second, height)) = finish stack registers next height (calculate first second)
on_two calculate stack registers next (Err refusal) = on_stack (Err refusal) stack

-- MUL: 3, 3, 5, 7
unfoldable pub op_mul : List ℕ → Registers → ℕ → OnStack
op_mul stack registers next = on_two mul_checked stack registers next (pop_two stack registers.height)

-- LT and GT: 3, 3, 5; the right value is on top
unfoldable pub op_compare : List ℕ → Registers → ℕ → Bool → OnStack
op_compare stack registers next is_lt =
    on_two (λ right left. value_cmp left right is_lt) stack registers next (pop_two stack registers.height)

-- a calculation on one value
unfoldable pub on_one : (ℕ → Result ℕ Refusal) → List ℕ → Registers → ℕ → Result (ℕ × ℕ) Refusal → OnStack
on_one calculate stack registers next (Ok (value, height)) = finish stack registers next height (calculate value)
on_one calculate stack registers next (Err refusal) = on_stack (Err refusal) stack

-- MULI, its operand being there: 3, 5, 7
unfoldable pub op_muli : List ℕ → Registers → ℕ → ℕ → OnStack
op_muli stack registers next number =
    on_one (λ value. mul_checked_i value number) stack registers next (pop stack registers.height)

-- DUP: 3, 4
unfoldable pub dup_last : List ℕ → Registers → ℕ → Result ℕ Refusal → OnStack
dup_last stack registers next (Ok value) = push_value stack registers next registers.height value
dup_last stack registers next (Err refusal) = on_stack (Err refusal) stack

unfoldable pub op_dup : List ℕ → Registers → ℕ → OnStack
op_dup stack registers next = dup_last stack registers next (last stack registers.height)

-- SWAP: 3, 3
unfoldable pub swapped : List ℕ → Registers → ℕ → Result (ℕ × ℕ × ℕ) Refusal → OnStack
swapped stack registers next (Ok (top, below, height)) =
    on_stack (Ok (moved registers next registers.height)) (set (set stack height top) (height + 1) below)
swapped stack registers next (Err refusal) = on_stack (Err refusal) stack

unfoldable pub op_swap : List ℕ → Registers → ℕ → OnStack
op_swap stack registers next = swapped stack registers next (pop_two stack registers.height)

-- DROP: 3
unfoldable pub dropped : Registers → ℕ → Result (ℕ × ℕ) Refusal → Result Registers Refusal
dropped registers next (Ok (value, height)) = Ok (moved registers next height)
dropped registers next (Err refusal) = Err refusal

unfoldable pub op_drop : List ℕ → Registers → ℕ → Result Registers Refusal
op_drop stack registers next = dropped registers next (pop stack registers.height)
