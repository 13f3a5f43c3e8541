-- Opcodes that choose where the run goes on, each a chain of tests in the order of docs/REFERENCE.md, 'Instruction set'.
use Rattle.std.specs.Prelude.{ℕ, ◌+◌, false, cond, List, eqb, ltb, Ok, Err, Result}
use Rattle.inlinevec.specs.Stacks.{pop, push_onto, pop_off, last_on}
use Rattle.values.specs.Values.{to_u32, to_u32_val, to_bool_val}
use Rattle.mechanism.specs.Registers.{OnStack, on_stack, moved}
use Rattle.machine.specs.Words.{next_round}
use Rattle.mechanism.specs.Stack.{pop_two, push_value}
use Rattle.mechanism.specs.declared.Registers.{Registers}
use Rattle.errors.specs.declared.Refusal.{Refusal}
use Rattle.inlinevec.specs.declared.Loop.{Loop}
use Rattle.inlinevec.specs.declared.Two.{Two}

-- the registers at another place and another height, with other open loops
abbrev pub looping : Registers → ℕ → ℕ → Two Loop → Registers
looping registers place height loops = record { place = place; height = height; loops = loops; memory = registers.memory }

-- on at a place with one loop more, or refused
unfoldable pub opened_to : Registers → ℕ → ℕ → Result (Two Loop) Refusal → Result Registers Refusal
opened_to registers place height (Ok loops) = Ok (looping registers place height loops)
opened_to registers place height (Err refusal) = Err refusal

-- DO: 3, 3, then 4 of the control stack; the index is on top, the limit below it
unfoldable pub do_two : Registers → ℕ → Result (ℕ × ℕ × ℕ) Refusal → Result Registers Refusal
do_two registers next (Ok (index, limit, height)) =
    opened_to registers next height
    (push_onto registers.loops (record { place = next; index = to_u32 index; limit = to_u32 limit }))
do_two registers next (Err refusal) = Err refusal

unfoldable pub op_do : List ℕ → Registers → ℕ → Result Registers Refusal
op_do stack registers next = do_two registers next (pop_two stack registers.height)

-- LOOP: 3; back exactly if index + 1 is below the limit
unfoldable pub looped : Registers → ℕ → Result (Loop × Two Loop) Refusal → Result Registers Refusal
looped registers next (Ok (last, loops)) =
    cond (ltb (last.index + 1) last.limit)
    (opened_to registers last.place registers.height (push_onto loops (next_round last)))
    (Ok (looping registers next registers.height loops))
looped registers next (Err refusal) = Err refusal

unfoldable pub op_loop : Registers → ℕ → Result Registers Refusal
op_loop registers next = looped registers next (pop_off registers.loops)

-- LOOP_INDEX: 3, then 4
unfoldable pub index_of : List ℕ → Registers → ℕ → Result Loop Refusal → OnStack
index_of stack registers next (Ok last) = push_value stack registers next registers.height (to_u32_val last.index)
index_of stack registers next (Err refusal) = on_stack (Err refusal) stack

unfoldable pub op_loop_index : List ℕ → Registers → ℕ → OnStack
op_loop_index stack registers next = index_of stack registers next (last_on registers.loops)

-- JUMP_IF_FALSE, its operand being there: 3; on FALSE only
unfoldable pub jumped : Registers → ℕ → ℕ → Result (ℕ × ℕ) Refusal → Result Registers Refusal
jumped registers next target (Ok (value, height)) =
    cond (eqb value (to_bool_val false)) (Ok (moved registers target height)) (Ok (moved registers next height))
jumped registers next target (Err refusal) = Err refusal

unfoldable pub op_jump_if_false : List ℕ → Registers → ℕ → ℕ → Result Registers Refusal
op_jump_if_false stack registers next target = jumped registers next target (pop stack registers.height)
