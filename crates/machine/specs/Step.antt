-- One instruction of a machine: the byte at the place says which.
use Rattle.std.specs.Prelude.{ℕ, true, false, cond, ◌||◌, eqb}
use Rattle.errors.specs.declared.Refusal.TheVariants.{UnexpectedEOB}
use Rattle.bytecode.specs.Opcodes.{PUSH_U32, PUSH_STATE, PUSH_CALLDATA, PUSH_TASK_FIELD, PUSH_MAX_STATES, T_CREATE, T_GET_FIELD, T_SET_FIELD, T_DELETE, S_SAVE, S_LEN, DO, LOOP, LOOP_INDEX, CALL, END_CALL, DROP, DUP, SWAP, EQ, NEQ, LT, GT, JUMP_IF_FALSE, M_STI, M_ST, M_MUTA, MULI, MUL}
use Rattle.machine.specs.World.{World, op, at_end, height}
use Rattle.machine.specs.Words.{StepResult, next, refused}
use Rattle.machine.specs.Opcodes.{push_u32, push_calldata, push_byte, t_create, t_get_field, t_set_field, t_delete, s_save, s_len, «do», loop, loop_index, call_task, end_call, drops, dup, swap, eq, neq, compare, jump_if_false, m_sti, m_st, m_muta, muli, mul, onward}

-- what an opcode does; bytes without an opcode, and S_LOAD, do nothing
unfoldable pub execute : ℕ → World → StepResult
execute op w =
    cond (eqb op PUSH_U32) (push_u32 w)
    (cond (eqb op PUSH_STATE || eqb op PUSH_TASK_FIELD || eqb op PUSH_MAX_STATES) (push_byte w)
    (cond (eqb op PUSH_CALLDATA) (push_calldata w)
    (cond (eqb op T_CREATE) (t_create w)
    (cond (eqb op T_GET_FIELD) (t_get_field w)
    (cond (eqb op T_SET_FIELD) (t_set_field w)
    (cond (eqb op T_DELETE) (t_delete w)
    (cond (eqb op S_SAVE) (s_save w)
    (cond (eqb op S_LEN) (s_len w)
    (cond (eqb op DO) («do» w)
    (cond (eqb op LOOP) (loop w)
    (cond (eqb op LOOP_INDEX) (loop_index w)
    (cond (eqb op CALL) (call_task w)
    (cond (eqb op END_CALL) (end_call w)
    (cond (eqb op DROP) (drops w)
    (cond (eqb op DUP) (dup w)
    (cond (eqb op SWAP) (swap w)
    (cond (eqb op EQ) (eq w)
    (cond (eqb op NEQ) (neq w)
    (cond (eqb op LT) (compare true w)
    (cond (eqb op GT) (compare false w)
    (cond (eqb op JUMP_IF_FALSE) (jump_if_false w)
    (cond (eqb op M_STI) (m_sti w)
    (cond (eqb op M_ST) (m_st w)
    (cond (eqb op M_MUTA) (m_muta w)
    (cond (eqb op MULI) (muli w)
    (cond (eqb op MUL) (mul w) (next (onward w (height w)))))))))))))))))))))))))))))

-- the instruction at the place; at the code's end there is none
unfoldable pub step : World → StepResult
step w = cond (at_end w) (refused UnexpectedEOB) (execute (op w) w)
