-- Operands and extents of small codes, computed from `bytecode`.
use Prim.Native.Nat.{ℕ}
use mathlib.Core.List.{List, [], ◌∷◌}
use mathlib.Core.Path.{◌≡◌, refl}
use Rattle.errors.specs.declared.Refusal.TheVariants.{UnexpectedEOB}
use Rattle.bytecode.specs.Opcodes.{operand_size}
use Rattle.bytecode.specs.Operands.{extent, extent_by, operand, big_endian, data_size, behind, behind_by}
use Rattle.std.specs.Prelude.{Ok, Err, Some, None}

-- PUSH_U32 5
abbrev Five : List ℕ
Five = 0x01 ∷ 0x00 ∷ 0x00 ∷ 0x00 ∷ 0x05 ∷ []

-- M_STI of two bytes, tag 4, signal 0; two bytes follow
abbrev Zeros : List ℕ
Zeros = 0x1b ∷ 0x00 ∷ 0x02 ∷ 0x04 ∷ 0x00 ∷ 0x41 ∷ 0x62 ∷ []

-- PUSH_CALLDATA of one byte
abbrev Calldata : List ℕ
Calldata = 0x04 ∷ 0x00 ∷ 0x01 ∷ 0x1d ∷ []

-- a table that has 2 for PUSH_CALLDATA, and 0 for what stands before it
abbrev sizes : List ℕ
sizes = 0 ∷ 0 ∷ 0 ∷ 0 ∷ 2 ∷ []

-- the examples
pub record Examples : Type 0 where
  -- the rule that the table follows: M_ST, MULI
  pub m_st : operand_size 0x1c ≡ 1
  pub muli : operand_size 0x1e ≡ 4
  -- an instruction that ends where the code ends
  pub whole : extent Five 0 ≡ Some 5
  -- with signal 0 there is no payload
  pub no_payload : extent Zeros 0 ≡ Some 5
  -- the data belongs to PUSH_CALLDATA
  pub with_data : extent_by sizes Calldata 0 ≡ Some 4
  -- by the table that is lent, PUSH_U32 has no operand
  pub by_the_table : extent_by sizes Five 0 ≡ Some 1
  pub byte : operand 1 (0x1c ∷ 0x06 ∷ []) 1 ≡ Ok 6
  -- past the end is 2
  pub no_byte : operand 1 (0x1c ∷ []) 1 ≡ Err UnexpectedEOB
  pub two_bytes : operand 2 (0x01 ∷ 0x02 ∷ []) 0 ≡ Ok 258
  pub cut_operand : operand 2 (0x04 ∷ 0x01 ∷ []) 1 ≡ Err UnexpectedEOB
  -- the first byte is the highest
  pub four_bytes : operand 4 Five 1 ≡ Ok 5
  pub three_bytes : operand 4 Five 2 ≡ Err UnexpectedEOB

pub examples : Examples
unfolding operand_size big_endian operand data_size behind extent behind_by extent_by
examples = record {
  m_st = refl;
  muli = refl;
  whole = refl;
  no_payload = refl;
  with_data = refl;
  by_the_table = refl;
  byte = refl;
  no_byte = refl;
  two_bytes = refl;
  cut_operand = refl;
  four_bytes = refl;
  three_bytes = refl;
}
