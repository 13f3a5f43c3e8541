-- Operands in the code: big_endian numbers, and how far an instruction reaches.
use Rattle.std.specs.Prelude.{ℕ, zero, suc, ◌+◌, ◌*◌, ◌<◌, cond, List, ◌≡◌, get_or, length, eqb, leb, Ok, Err, Some, None, Result, Option}
use Rattle.bytecode.specs.Opcodes.{operand_size, PUSH_CALLDATA, M_STI}
use Rattle.errors.specs.declared.Refusal.TheVariants.{UnexpectedEOB}
use Rattle.errors.specs.declared.Refusal.{Refusal}

-- the number in `size` bytes of the code from a place, the first byte highest
unfoldable pub big_endian : ℕ → List ℕ → ℕ → ℕ
big_endian zero code at = 0
big_endian (suc size) code at = big_endian size code at * 256 + get_or code (at + size) 0

-- the operand of `size` bytes at a place, or that the code is too short
unfoldable pub operand : ℕ → List ℕ → ℕ → Result ℕ Refusal
operand size code at = cond (leb (at + size) (length code)) (Ok (big_endian size code at)) (Err UnexpectedEOB)

-- the bytes behind the operands: PUSH_CALLDATA's data, and M_STI's payload if its signal is 1
unfoldable pub data_size : List ℕ → ℕ → ℕ
data_size code at =
    cond (eqb (get_or code at 0) PUSH_CALLDATA) (big_endian 2 code (at + 1))
    (cond (eqb (get_or code at 0) M_STI) (cond (eqb (get_or code (at + 4) 0) 1) (big_endian 2 code (at + 1)) 0) 0)

-- the place behind the instruction at a place
unfoldable pub behind : List ℕ → ℕ → ℕ
behind code at = at + 1 + operand_size (get_or code at 0) + data_size code at

-- the next instruction's place, or that the code's end cuts this one
unfoldable pub extent : List ℕ → ℕ → Option ℕ
extent code at = cond (leb (behind code at) (length code)) (Some (behind code at)) None

-- the same for an instruction with so many bytes of operands
unfoldable pub reaching : List ℕ → ℕ → ℕ → Option ℕ
reaching code at operands = cond (leb (at + 1 + operands + data_size code at) (length code)) (Some (at + 1 + operands + data_size code at)) None

-- a table that has the operand size of each opcode byte
pub record Follows (sizes : List ℕ) : Type 0 where
  pub rule : (op : ℕ) → op < 256 → get_or sizes op 0 ≡ operand_size op

-- the same by a table of operand sizes
unfoldable pub behind_by : List ℕ → List ℕ → ℕ → ℕ
behind_by sizes code at = at + 1 + get_or sizes (get_or code at 0) 0 + data_size code at

unfoldable pub extent_by : List ℕ → List ℕ → ℕ → Option ℕ
extent_by sizes code at = cond (leb (behind_by sizes code at) (length code)) (Some (behind_by sizes code at)) None
