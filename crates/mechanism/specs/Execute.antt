-- One instruction that needs no task, frame or pool: the byte at the place picks it.
use Rattle.std.specs.Prelude.{ℕ, Bool, true, false, cond, ◌||◌, List, eqb, get_or, Ok, Option, Some, None}
use Rattle.bytecode.specs.Opcodes.{PUSH_U32, PUSH_STATE, PUSH_TASK_FIELD, PUSH_MAX_STATES, S_LEN, DO, LOOP, LOOP_INDEX, DROP, DUP, SWAP, EQ, NEQ, LT, GT, JUMP_IF_FALSE, M_STI, M_ST, M_MUTA, MULI, MUL}
use Rattle.bytecode.specs.Operands.{extent}
use Rattle.mechanism.specs.Registers.{OnStack, on_stack, OnMemory, on_memory, moved}
use Rattle.mechanism.specs.Stack.{op_push, op_mul, op_compare, op_dup, op_swap, op_drop}
use Rattle.mechanism.specs.Control.{op_do, op_loop, op_loop_index}
use Rattle.mechanism.specs.Equality.{op_eq}
use Rattle.mechanism.specs.Store.{ChangedTo, op_m_muta}
use Rattle.mechanism.specs.Operated.{push_u32, push_u8, muli, jump_if_false, m_st, m_sti}
use Rattle.mechanism.specs.Cut.{cut}
use Rattle.mechanism.specs.declared.Registers.{Registers}

-- an instruction that leaves the memory, and one that leaves the stack
abbrev pub kept : OnStack → List ℕ → OnMemory
kept after memory = on_memory after.result after.stack memory

abbrev pub changed : List ℕ → ChangedTo → OnMemory
changed stack after = on_memory after.result stack after.memory

-- over the stack alone; bytes without an opcode, and S_LOAD, do nothing
unfoldable pub plain : List ℕ → Registers → ℕ → ℕ → ℕ → OnStack
plain stack registers next op count =
    cond (eqb op MUL) (op_mul stack registers next)
    (cond (eqb op LT) (op_compare stack registers next true)
    (cond (eqb op GT) (op_compare stack registers next false)
    (cond (eqb op DUP) (op_dup stack registers next)
    (cond (eqb op SWAP) (op_swap stack registers next)
    (cond (eqb op DROP) (on_stack (op_drop stack registers next) stack)
    (cond (eqb op DO) (on_stack (op_do stack registers next) stack)
    (cond (eqb op LOOP) (on_stack (op_loop registers next) stack)
    (cond (eqb op LOOP_INDEX) (op_loop_index stack registers next)
    (cond (eqb op S_LEN) (op_push stack registers next count)
    (on_stack (Ok (moved registers next registers.height)) stack))))))))))

-- over the code and the stack
unfoldable pub operated : List ℕ → List ℕ → Registers → ℕ → ℕ → ℕ → OnStack
operated stack code registers next op count =
    cond (eqb op PUSH_U32) (push_u32 stack code registers next)
    (cond (eqb op PUSH_STATE) (push_u8 stack code registers next)
    (cond (eqb op PUSH_TASK_FIELD) (push_u8 stack code registers next)
    (cond (eqb op PUSH_MAX_STATES) (push_u8 stack code registers next)
    (cond (eqb op MULI) (muli stack code registers next)
    (cond (eqb op JUMP_IF_FALSE) (on_stack (jump_if_false stack code registers next) stack)
    (plain stack registers next op count))))))

-- EQ and NEQ
unfoldable pub is_equality : ℕ → Bool
is_equality op = eqb op EQ || eqb op NEQ

-- over memory too
unfoldable pub execute : List ℕ → List ℕ → List ℕ → Registers → ℕ → ℕ → ℕ → OnMemory
execute stack memory code registers next op count =
    cond (is_equality op) (kept (op_eq stack memory registers next (eqb op EQ)) memory)
    (cond (eqb op M_STI) (m_sti stack memory code registers next)
    (cond (eqb op M_ST) (m_st stack memory code registers next)
    (cond (eqb op M_MUTA) (changed stack (op_m_muta stack memory registers next))
    (kept (operated stack code registers next op count) memory))))

-- whole, or cut by the code's end
unfoldable pub by_extent : List ℕ → List ℕ → List ℕ → Registers → ℕ → ℕ → Option ℕ → OnMemory
by_extent stack memory code registers op count (Some next) = execute stack memory code registers next op count
by_extent stack memory code registers op count None = on_memory (cut stack registers op) stack memory

-- the instruction at the place
unfoldable pub instruct : List ℕ → List ℕ → List ℕ → Registers → ℕ → OnMemory
instruct stack memory code registers count =
    by_extent stack memory code registers (get_or code registers.place 0) count (extent code registers.place)
