-- Big-endian numbers byte by byte.
use Prim.Native.Nat.{ℕ, ◌+◌, ◌*◌}
use mathlib.Core.List.{List, [], ◌∷◌}
use mathlib.Core.Path.{◌≡◌, ap}
use native.Mathlib.Omega.{arith}
use lib.ListN.{get_or}
use Rattle.std.specs.Int.{w32, from_be_bytes}
use Rattle.bytecode.specs.Operands.{big_endian}

-- one byte
pub one : (code : List ℕ) (at : ℕ) → big_endian 1 code at ≡ get_or code at 0
unfolding big_endian
one code at =
    let here : get_or code (at + 0) 0 ≡ get_or code at 0 = ap (λ (place : ℕ). get_or code place 0) (omega arith) in
    omega arith

-- two bytes
pub two : (code : List ℕ) (at : ℕ) → big_endian 2 code at ≡ get_or code at 0 * 256 + get_or code (at + 1) 0
unfolding big_endian
two code at =
    let here : get_or code (at + 0) 0 ≡ get_or code at 0 = ap (λ (place : ℕ). get_or code place 0) (omega arith) in
    omega arith

-- four bytes are two and two
pub four : (code : List ℕ) (at : ℕ) → big_endian 4 code at ≡ big_endian 2 code at * 65536 + big_endian 2 code (at + 2)
unfolding big_endian
four code at =
    let third : get_or code (at + 2 + 0) 0 ≡ get_or code (at + 2) 0 = ap (λ (place : ℕ). get_or code place 0) (omega arith) in
    let fourth : get_or code (at + 2 + 1) 0 ≡ get_or code (at + 3) 0 = ap (λ (place : ℕ). get_or code place 0) (omega arith) in
    omega arith

-- four bytes, as a 32-bit number reads them
pub four_read : (code : List ℕ) (at : ℕ) → from_be_bytes w32 (get_or code at 0 ∷ get_or code (at + 1) 0 ∷ get_or code (at + 2) 0 ∷ get_or code (at + 3) 0 ∷ []) ≡ big_endian 4 code at
unfolding big_endian
four_read code at =
    let here : get_or code (at + 0) 0 ≡ get_or code at 0 = ap (λ (place : ℕ). get_or code place 0) (omega arith) in
    omega arith

-- the two bytes behind an opcode
pub two_behind : (code : List ℕ) (at : ℕ) → big_endian 2 code (at + 1) ≡ get_or code (at + 1) 0 * 256 + get_or code (at + 2) 0
two_behind code at =
    let second : get_or code (at + 1 + 1) 0 ≡ get_or code (at + 2) 0 = ap (λ (place : ℕ). get_or code place 0) (omega arith) in
    omega (arith, two code (at + 1))
