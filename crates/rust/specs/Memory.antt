-- memory.rs: linear memory as the list of its bytes.
use Rattle.std.specs.Prelude.{ℕ, zero, suc, ◌+◌, ◌-◌, ◌*◌, ◌/◌, ◌%◌, ◌^◌, true, false, cond, ◌||◌, List, [], ◌∷◌, ◌++◌, eqb, leb, length, get_or, take, drop, replicate}
use Rattle.std.proofs.lemmas.List.Edits.{sets}
use Rattle.slices.specs.Same.{same}
use Rattle.utf8.specs.Utf8.{valid}
use Rattle.values.specs.declared.FatPointer.{FatPointer}
use Rattle.values.specs.Values.{to_bool_val}
use Rattle.slices.specs.Numbers.{little_endian}
use Rattle.rust.specs.Errors.{Out, err, panic, InvalidType, MSliceOutOfBounds, BytesToStringConversionError, AlignmentMismatch, SliceSizeMismatch}
use Rattle.rust.specs.Values.{to_vec_val}
use Rattle.rust.specs.Helpers.{slice}

-- TAG_U32 starts at a multiple of 4; `len` as u32 is exact, since alloc errs before memory has 2^26 bytes
unfoldable pub offset_aligned : List ℕ → ℕ → ℕ
offset_aligned memory tag = cond (eqb tag 6) ((length memory + 3) / 4 * 4) (length memory)

-- Vec::resize with zeros to a length that is no shorter
unfoldable pub resize : List ℕ → ℕ → List ℕ
resize memory end = memory ++ replicate (end - length memory) 0

-- so many u32, little_endian, one after another
unfoldable pub words : ℕ → List ℕ → List ℕ
words zero bytes = []
words (suc n) bytes = (get_or bytes 0 0 + get_or bytes 1 0 * 2 ^ 8 + get_or bytes 2 0 * 2 ^ 16 + get_or bytes 3 0 * 2 ^ 24) ∷ words n (drop 4 bytes)

module _ {B : Type 0} where
  unfoldable pub element_size_bytes : ℕ → (ℕ → Out B) → Out B
  element_size_bytes tag onward = cond (eqb tag 4) (onward 1) (cond (eqb tag 6) (onward 4) (err InvalidType))

  -- the boxes of TAG_STRING and TAG_U32, and no other
  unfoldable pub boxed : ℕ → ℕ → ℕ → (ℕ → Out B) → Out B
  boxed offset size tag onward = cond (eqb tag 4 || eqb tag 6) (to_vec_val offset size tag onward) (err InvalidType)

  -- copy_from_slice panics on a payload of another length
  unfoldable pub alloc : List ℕ → ℕ → ℕ → List ℕ → (ℕ → List ℕ → Out B) → Out B
  alloc memory size tag payload onward =
      cond (eqb (length payload) 0 || eqb (length payload) size)
      (boxed (offset_aligned memory tag) size tag λ value.
      onward value (sets (resize memory (offset_aligned memory tag + size)) (offset_aligned memory tag) payload))
      panic

  -- index * element_size_bytes wraps in the error; to_ne_bytes is little_endian
  unfoldable pub mut_vec : List ℕ → FatPointer → ℕ → ℕ → ℕ → (List ℕ → Out B) → Out B
  mut_vec memory pointer index payload tag onward =
      element_size_bytes tag λ width.
      cond (leb (pointer.size / width) index) (err (MSliceOutOfBounds (index * width % 2 ^ 32) pointer.size))
      (cond (leb (pointer.offset + index * width + width) (length memory))
      (onward (sets memory (pointer.offset + index * width) (take width (little_endian 4 payload))))
      panic)

  unfoldable pub get_slice_bytes : List ℕ → FatPointer → (List ℕ → Out B) → Out B
  get_slice_bytes memory pointer onward = slice memory pointer.offset pointer.size onward

  unfoldable pub get_slice_as_str : List ℕ → FatPointer → (List ℕ → Out B) → Out B
  get_slice_as_str memory pointer onward =
      get_slice_bytes memory pointer λ bytes.
      cond (valid bytes) (onward bytes) (err BytesToStringConversionError)

  -- memory lies at a multiple of 4, so that align_to leaves a prefix where the offset is none; it leaves none of an empty slice
  unfoldable pub get_slice_as_u32 : List ℕ → FatPointer → (List ℕ → Out B) → Out B
  get_slice_as_u32 memory pointer onward =
      get_slice_bytes memory pointer λ bytes.
      cond (eqb (pointer.size % 4) 0)
      (cond (eqb (pointer.offset % 4) 0 || eqb pointer.size 0) (onward (words (pointer.size / 4) bytes)) (err AlignmentMismatch))
      (err SliceSizeMismatch)

  unfoldable pub is_m_slice_eq : List ℕ → FatPointer → FatPointer → (ℕ → Out B) → Out B
  is_m_slice_eq memory left right onward =
      cond (eqb left.size right.size)
      (cond (eqb left.offset right.offset) (onward (to_bool_val true))
      (get_slice_bytes memory left λ l.
      get_slice_bytes memory right λ r.
      onward (to_bool_val (same l r))))
      (onward (to_bool_val false))
