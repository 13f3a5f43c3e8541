-- A refused instruction over the stack leaves the stack as it was.
use Prim.Native.Nat.{ℕ, ◌+◌}
use mathlib.Core.Bool.{Bool, true, false, cond}
use mathlib.Core.List.{List}
use lib.Dec.{ltb}
use lib.ListN.{set}
use Rattle.errors.specs.declared.Refusal.{Refusal}
use Rattle.errors.specs.declared.Refusal.TheVariants.{StackOverflow}
use Rattle.inlinevec.specs.Stacks.{Stacked, stacked, if_room, push, last}
use Rattle.mechanism.specs.Registers.{OnStack, on_stack}
use Rattle.mechanism.specs.Stack.{pushed_to, push_value, finish, op_push, on_two, op_mul, op_compare, on_one, op_muli, dup_last, op_dup, swapped, op_swap}
use Rattle.mechanism.specs.Control.{index_of, op_loop_index}
use Rattle.mechanism.specs.Equality.{op_eq}
use Rattle.mechanism.specs.declared.Registers.{Registers}
use Rattle.std.specs.Prelude.{Ok, Err, Result}
use Rattle.inlinevec.specs.declared.Loop.{Loop}

-- finished, or refused with the stack as it was
pub data Leaves (stack : List ℕ) : OnStack → Type 0 where
  finished : (registers : Registers) (s : List ℕ) → Leaves stack (on_stack (Ok registers) s)
  kept : (refusal : Refusal) → Leaves stack (on_stack (Err refusal) stack)

-- an instruction that does not write the stack
pub unwritten : (stack : List ℕ) (result : Result Registers Refusal) → Leaves stack (on_stack result stack)
unwritten stack (Ok registers) = finished registers stack
unwritten stack (Err refusal) = kept refusal

-- a push
abbrev room : Bool → List ℕ → ℕ → ℕ → Stacked
room b stack height value = cond b (stacked (Ok (height + 1)) (set stack height value)) (stacked (Err StackOverflow) stack)

in_room : (b : Bool) (stack : List ℕ) (registers : Registers) (place height value : ℕ)
    → Leaves stack (on_stack (pushed_to registers place (room b stack height value).answer) (room b stack height value).stack)
unfolding pushed_to
in_room true stack registers place height value = finished _ _
in_room false stack registers place height value = kept _

pub value_pushed : (stack : List ℕ) (registers : Registers) (place height value : ℕ) → Leaves stack (push_value stack registers place height value)
unfolding push_value push if_room
value_pushed stack registers place height value = in_room (ltb height 1000) stack registers place height value

pub finished_with : (stack : List ℕ) (registers : Registers) (place height : ℕ) (result : Result ℕ Refusal) → Leaves stack (finish stack registers place height result)
unfolding finish
finished_with stack registers place height (Ok value) = value_pushed stack registers place height value
finished_with stack registers place height (Err refusal) = kept refusal

-- the opcodes
pub push_leaves : (stack : List ℕ) (registers : Registers) (next number : ℕ) → Leaves stack (op_push stack registers next number)
unfolding op_push
push_leaves stack registers next number = value_pushed stack registers next _ _

on_two_leaves : (calculate : ℕ → ℕ → Result ℕ Refusal) (stack : List ℕ) (registers : Registers) (next : ℕ) (result : Result (ℕ × ℕ × ℕ) Refusal)
    → Leaves stack (on_two calculate stack registers next result)
unfolding on_two
on_two_leaves calculate stack registers next (Ok (first, second, height)) = finished_with stack registers next height _
on_two_leaves calculate stack registers next (Err refusal) = kept refusal

pub mul_leaves : (stack : List ℕ) (registers : Registers) (next : ℕ) → Leaves stack (op_mul stack registers next)
unfolding op_mul
mul_leaves stack registers next = on_two_leaves _ stack registers next _

pub compare_leaves : (stack : List ℕ) (registers : Registers) (next : ℕ) (is_lt : Bool) → Leaves stack (op_compare stack registers next is_lt)
unfolding op_compare
compare_leaves stack registers next is_lt = on_two_leaves _ stack registers next _

pub eq_leaves : (stack memory : List ℕ) (registers : Registers) (next : ℕ) (is_eq : Bool) → Leaves stack (op_eq stack memory registers next is_eq)
unfolding op_eq
eq_leaves stack memory registers next is_eq = on_two_leaves _ stack registers next _

on_one_leaves : (calculate : ℕ → Result ℕ Refusal) (stack : List ℕ) (registers : Registers) (next : ℕ) (result : Result (ℕ × ℕ) Refusal)
    → Leaves stack (on_one calculate stack registers next result)
unfolding on_one
on_one_leaves calculate stack registers next (Ok (value, height)) = finished_with stack registers next height _
on_one_leaves calculate stack registers next (Err refusal) = kept refusal

pub muli_leaves : (stack : List ℕ) (registers : Registers) (next number : ℕ) → Leaves stack (op_muli stack registers next number)
unfolding op_muli
muli_leaves stack registers next number = on_one_leaves _ stack registers next _

dup_last_leaves : (stack : List ℕ) (registers : Registers) (next : ℕ) (result : Result ℕ Refusal) → Leaves stack (dup_last stack registers next result)
unfolding dup_last
dup_last_leaves stack registers next (Ok value) = value_pushed stack registers next _ value
dup_last_leaves stack registers next (Err refusal) = kept refusal

pub dup_leaves : (stack : List ℕ) (registers : Registers) (next : ℕ) → Leaves stack (op_dup stack registers next)
unfolding op_dup
dup_leaves stack registers next = dup_last_leaves stack registers next _

swapped_leaves : (stack : List ℕ) (registers : Registers) (next : ℕ) (result : Result (ℕ × ℕ × ℕ) Refusal) → Leaves stack (swapped stack registers next result)
unfolding swapped
swapped_leaves stack registers next (Ok (top, below, height)) = finished _ _
swapped_leaves stack registers next (Err refusal) = kept refusal

pub swap_leaves : (stack : List ℕ) (registers : Registers) (next : ℕ) → Leaves stack (op_swap stack registers next)
unfolding op_swap
swap_leaves stack registers next = swapped_leaves stack registers next _

index_leaves : (stack : List ℕ) (registers : Registers) (next : ℕ) (result : Result Loop Refusal) → Leaves stack (index_of stack registers next result)
unfolding index_of
index_leaves stack registers next (Ok last) = value_pushed stack registers next _ _
index_leaves stack registers next (Err refusal) = kept refusal

pub loop_index_leaves : (stack : List ℕ) (registers : Registers) (next : ℕ) → Leaves stack (op_loop_index stack registers next)
unfolding op_loop_index
loop_index_leaves stack registers next = index_leaves stack registers next _
