-- How far an instruction reaches, by its opcode.
use Prim.Native.Nat.{ℕ, ◌+◌, ◌<◌}
use mathlib.Core.Bool.{true, false, cond}
use mathlib.Core.Path.{◌≡◌, ◌∙◌}
use mathlib.Core.List.{List}
use native.Mathlib.Omega.{arith}
use lib.Dec.{eqb, leb}
use lib.ListN.{length, get_or}
use borrow.Author.Tests.{le-leb}
use Rattle.bytecode.specs.Opcodes.{operand_size, PUSH_CALLDATA, M_STI}
use Rattle.bytecode.specs.Operands.{big_endian, operand, data_size, behind, extent}
use Rattle.std.specs.Prelude.{Ok, Some, None, Option}

-- an extent up to a place
abbrev pub up_to : List ℕ → ℕ → Option ℕ
up_to code end = cond (leb end (length code)) (Some end) None

-- an opcode at a place, with operands and no data behind them
pub reaches : (code : List ℕ) (at op size : ℕ) → get_or code at 0 ≡ op → operand_size op ≡ size → eqb op PUSH_CALLDATA ≡ false → eqb op M_STI ≡ false
    → extent code at ≡ up_to code (at + 1 + size)
unfolding extent behind data_size
reaches code at op size is sized not-calldata not-sti =
    let z : at + 1 + size + 0 ≡ at + 1 + size = omega arith in
    rw is (rw (sized, not-calldata, not-sti, z))

-- one without operands, before the code's end
pub reaches_next : (code : List ℕ) (at op : ℕ) → at < length code → get_or code at 0 ≡ op → operand_size op ≡ 0 → eqb op PUSH_CALLDATA ≡ false → eqb op M_STI ≡ false
    → extent code at ≡ Some (at + 1)
reaches_next code at op inside is sized not-calldata not-sti =
    let z : at + 1 + 0 ≡ at + 1 = omega arith in
    reaches code at op 0 is sized not-calldata not-sti ∙ rw (z, le-leb (at + 1) (length code) (omega arith))

-- an operand that is there
pub operand_there : (size : ℕ) (code : List ℕ) (at : ℕ) → leb (at + size) (length code) ≡ true → operand size code at ≡ Ok (big_endian size code at)
unfolding operand
operand_there size code at t = rw t

-- an operand of one byte
pub one_byte : (code : List ℕ) (at : ℕ) → big_endian 1 code at ≡ get_or code at 0
unfolding big_endian
one_byte code at = let z : at + 0 ≡ at = omega arith in rw z (omega arith)

-- M_STI, with its payload if its signal is 1
pub reaches_sti : (code : List ℕ) (at : ℕ) → get_or code at 0 ≡ M_STI → extent code at ≡ up_to code (at + 1 + 4 + cond (eqb (get_or code (at + 4) 0) 1) (big_endian 2 code (at + 1)) 0)
unfolding extent behind data_size operand_size
reaches_sti code at is = rw is

-- PUSH_CALLDATA, with its data
pub reaches_calldata : (code : List ℕ) (at : ℕ) → get_or code at 0 ≡ PUSH_CALLDATA → extent code at ≡ up_to code (at + 1 + 2 + big_endian 2 code (at + 1))
unfolding extent behind data_size operand_size
reaches_calldata code at is = rw is
