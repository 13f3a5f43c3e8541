-- The opcodes under the Rust's names, and the operand rule (docs/REFERENCE.md, 'Instruction set').
use Rattle.std.specs.Prelude.{ℕ, cond, ◌||◌, eqb}

abbrev pub PUSH_U32 : ℕ
PUSH_U32 = 0x01

abbrev pub PUSH_STATE : ℕ
PUSH_STATE = 0x03

abbrev pub PUSH_CALLDATA : ℕ
PUSH_CALLDATA = 0x04

abbrev pub PUSH_TASK_FIELD : ℕ
PUSH_TASK_FIELD = 0x05

abbrev pub PUSH_MAX_STATES : ℕ
PUSH_MAX_STATES = 0x06

abbrev pub T_CREATE : ℕ
T_CREATE = 0x07

abbrev pub T_GET_FIELD : ℕ
T_GET_FIELD = 0x08

abbrev pub T_SET_FIELD : ℕ
T_SET_FIELD = 0x09

abbrev pub T_DELETE : ℕ
T_DELETE = 0x0A

abbrev pub S_SAVE : ℕ
S_SAVE = 0x0B

abbrev pub S_LOAD : ℕ
S_LOAD = 0x0C

abbrev pub S_LEN : ℕ
S_LEN = 0x0D

abbrev pub DO : ℕ
DO = 0x0E

abbrev pub LOOP : ℕ
LOOP = 0x0F

abbrev pub LOOP_INDEX : ℕ
LOOP_INDEX = 0x10

abbrev pub CALL : ℕ
CALL = 0x11

abbrev pub END_CALL : ℕ
END_CALL = 0x12

abbrev pub DROP : ℕ
DROP = 0x13

abbrev pub DUP : ℕ
DUP = 0x14

abbrev pub SWAP : ℕ
SWAP = 0x15

abbrev pub EQ : ℕ
EQ = 0x16

abbrev pub NEQ : ℕ
NEQ = 0x17

abbrev pub LT : ℕ
LT = 0x18

abbrev pub GT : ℕ
GT = 0x19

abbrev pub JUMP_IF_FALSE : ℕ
JUMP_IF_FALSE = 0x1A

abbrev pub M_STI : ℕ
M_STI = 0x1B

abbrev pub M_ST : ℕ
M_ST = 0x1C

abbrev pub M_MUTA : ℕ
M_MUTA = 0x1D

abbrev pub MULI : ℕ
MULI = 0x1E

abbrev pub MUL : ℕ
MUL = 0x1F

-- 4 for 01, 1a, 1e; 1 for 03, 05, 06, 1c; 2 for 04; 4 for 1b; 0 for the rest
unfoldable pub operand_size : ℕ → ℕ
operand_size op =
    cond (eqb op PUSH_U32 || eqb op JUMP_IF_FALSE || eqb op MULI) 4
    (cond (eqb op PUSH_STATE || eqb op PUSH_TASK_FIELD || eqb op PUSH_MAX_STATES || eqb op M_ST) 1
    (cond (eqb op PUSH_CALLDATA) 2 (cond (eqb op M_STI) 4 0)))
