-- Reads of memory in use: a vector's part, whether it can be read, and whether two vectors are equal.
use Rattle.std.specs.Prelude.{ℕ, ◌%◌, true, false, cond, List, take, drop, ◌==◌, Ok, Err, Result, ⊤}
use Rattle.errors.specs.declared.Refusal.{Refusal}
use Rattle.errors.specs.declared.Refusal.TheVariants.{MSliceOutOfBounds, BytesToStringConversionError, AlignmentMismatch, SliceSizeMismatch}
use Rattle.values.specs.declared.FatPointer.{FatPointer}
use Rattle.values.specs.Values.{to_bool_val}
use Rattle.slices.specs.Same.{same}
use Rattle.utf8.specs.Utf8.{valid}
use Rattle.memory.specs.Change.{inside}

-- the vector's bytes, as far as they lie in the memory in use
abbrev pub get_slice_bytes : List ℕ → FatPointer → List ℕ
get_slice_bytes memory pointer = take pointer.size (drop pointer.offset memory)

-- a vector that reaches past the memory in use
abbrev pub outside : FatPointer → Refusal
outside pointer = MSliceOutOfBounds pointer.offset pointer.size

-- EQ of two vectors: sizes that differ and one offset for both are decided without reading
unfoldable pub is_m_slice_eq : List ℕ → FatPointer → FatPointer → Result ℕ Refusal
is_m_slice_eq memory left right =
    cond (left.size == right.size)
    (cond (left.offset == right.offset) (Ok (to_bool_val true))
    (cond (inside memory left)
    (cond (inside memory right)
    (Ok (to_bool_val (same (get_slice_bytes memory left) (get_slice_bytes memory right))))
    (Err (outside right)))
    (Err (outside left))))
    (Ok (to_bool_val false))

-- a text: 14, then 15
unfoldable pub get_slice_as_str : List ℕ → FatPointer → Result ⊤ Refusal
get_slice_as_str memory pointer =
    cond (inside memory pointer)
    (cond (valid (get_slice_bytes memory pointer)) (Ok tt) (Err BytesToStringConversionError))
    (Err (outside pointer))

-- numbers: 14, then 17, then 16
unfoldable pub get_slice_as_u32 : List ℕ → FatPointer → Result ⊤ Refusal
get_slice_as_u32 memory pointer =
    cond (inside memory pointer)
    (cond (pointer.size % 4 == 0)
    (cond (pointer.offset % 4 == 0) (Ok tt) (Err AlignmentMismatch))
    (Err SliceSizeMismatch))
    (Err (outside pointer))
