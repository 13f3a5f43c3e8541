-- Vectors in a small memory, allocated, changed, compared and read, computed from `memory`.
use Prim.Native.Nat.{ℕ}
use mathlib.Core.Bool.{true, false}
use mathlib.Core.List.{List, [], ◌∷◌}
use mathlib.Core.Path.{◌≡◌, refl}
use Rattle.errors.specs.declared.Refusal.TheVariants.{InvalidType, MemoryTooShort, MSliceOutOfBounds, BytesToStringConversionError, SliceSizeMismatch, AlignmentMismatch}
use Rattle.slices.specs.Same.{same}
use Rattle.utf8.specs.Grammar.{UTF8_char}
use Rattle.utf8.specs.Utf8.{holds, lead, from, valid}
use Rattle.pools.specs.Pool.{end_of, start_of, bounds, entry_of}
use Rattle.values.specs.Values.{to_vec_val, to_bool_val, make_vec_tagged, to_calldata_val, make_scalar_tagged, is_scalar, is_vec, raw_tag, to_u32, fat_pointer, to_fat_pointer, vec_type, scalar_type, get_value_type}
use Rattle.values.specs.declared.FatPointer.{FatPointer}
use Rattle.memory.specs.Allocation.{vector, alloc, offset_aligned, is_element_tag, filling, vector_stored}
use Rattle.slices.specs.Numbers.{little_endian}
use Rattle.memory.specs.Change.{mut_vec, element_size_bytes, scaled, inside, changed}
use Rattle.memory.specs.Reads.{get_slice_bytes, is_m_slice_eq, get_slice_as_str, get_slice_as_u32}
use Rattle.memory.specs.Unbox.{unbox_value, part_of, where_readable, text_at, numbers_at, where_bounded, by_type}
use Rattle.memory.specs.declared.unbox.Return.TheVariants.{CallData, VecU32, String}
use Rattle.std.specs.Prelude.{Ok, Err}

-- eight bytes, of which the second two are equal to the first two
abbrev memory : List ℕ
memory = 0x41 ∷ 0x62 ∷ 0x41 ∷ 0x62 ∷ 0xff ∷ 5 ∷ 6 ∷ 7 ∷ []

-- a pool of two entries
abbrev pool : List ℕ
pool = 0x1d ∷ 0x0f ∷ 0x13 ∷ []

abbrev ends : List ℕ
ends = 1 ∷ 3 ∷ []

-- so many bytes from an offset on
abbrev at : ℕ → ℕ → FatPointer
at offset size = record { offset = offset; size = size }

-- the examples
pub record Examples : Type 0 where
  -- numbers start at a multiple of 4, and there are tags 4 and 6 alone
  pub aligned : vector 5 4 6 ≡ to_vec_val 8 4 6
  pub no_vector : vector 5 4 5 ≡ Err InvalidType
  -- padding is 0, the payload follows, and old bytes stay
  pub allocated : (alloc memory (1 ∷ 0 ∷ 0 ∷ 0 ∷ []) 3 4 6).memory ≡ 0x41 ∷ 0x62 ∷ 0x41 ∷ 0 ∷ 1 ∷ 0 ∷ 0 ∷ 0 ∷ []
  -- with its padding it does not fit: 23
  pub not_allocated : (alloc memory [] 5 4 6).answer ≡ Err MemoryTooShort
  -- the low byte of a number first
  pub changed_number : (mut_vec memory (at 0 8) 1 258 6).memory ≡ 0x41 ∷ 0x62 ∷ 0x41 ∷ 0x62 ∷ 2 ∷ 1 ∷ 0 ∷ 0 ∷ []
  -- an index that is not below the number of elements: 14 with its place
  pub no_element : (mut_vec memory (at 0 4) 1 5 6).answer ≡ Err (MSliceOutOfBounds 4 4)
  pub part : get_slice_bytes memory (at 2 3) ≡ 0x41 ∷ 0x62 ∷ 0xff ∷ []
  pub different : is_m_slice_eq memory (at 0 2) (at 4 2) ≡ Ok (to_bool_val false)
  -- both reach past the memory in use: 14 with the left one
  pub both_outside : is_m_slice_eq memory (at 7 2) (at 8 2) ≡ Err (MSliceOutOfBounds 7 2)
  -- a text that is not UTF-8 is 15
  pub no_text : unbox_value memory ends 2 (make_vec_tagged 3 2 4) ≡ Err BytesToStringConversionError
  -- one that reaches past the memory in use is 14
  pub text_outside : unbox_value memory ends 2 (make_vec_tagged 7 2 4) ≡ Err (MSliceOutOfBounds 7 2)
  -- numbers: a size of six bytes is 17, an offset of two is 16
  pub size_of_six : unbox_value memory ends 2 (make_vec_tagged 0 6 6) ≡ Err SliceSizeMismatch
  pub offset_of_two : unbox_value memory ends 2 (make_vec_tagged 2 4 6) ≡ Err AlignmentMismatch
  pub calldata : unbox_value memory ends 2 (to_calldata_val 1) ≡ Ok (CallData (record { 0 = 1 }))
  -- the part beside calldata is of the pool, the part beside numbers of memory
  pub calldata_part : part_of memory pool ends (Ok (CallData (record { 0 = 1 }))) ≡ 0x0f ∷ 0x13 ∷ []
  pub numbers_part : part_of memory pool ends (Ok (VecU32 (at 0 4))) ≡ 0x41 ∷ 0x62 ∷ 0x41 ∷ 0x62 ∷ []

pub examples : Examples
unfolding same UTF8_char holds lead from valid end_of start_of bounds entry_of make_scalar_tagged make_vec_tagged to_vec_val to_bool_val is_scalar is_vec raw_tag to_u32 fat_pointer to_fat_pointer vec_type scalar_type get_value_type offset_aligned is_element_tag vector filling vector_stored alloc element_size_bytes scaled little_endian inside changed mut_vec is_m_slice_eq get_slice_as_str get_slice_as_u32 where_readable text_at numbers_at where_bounded by_type unbox_value part_of
examples = record {
  aligned = refl;
  no_vector = refl;
  allocated = refl;
  not_allocated = refl;
  changed_number = refl;
  no_element = refl;
  part = refl;
  different = refl;
  both_outside = refl;
  no_text = refl;
  text_outside = refl;
  size_of_six = refl;
  offset_of_two = refl;
  calldata = refl;
  calldata_part = refl;
  numbers_part = refl;
}
