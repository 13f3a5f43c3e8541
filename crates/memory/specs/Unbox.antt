-- Reads of a value: its kind, and the part of memory or of the pool beside it.
use Rattle.std.specs.Prelude.{ℕ, true, List, [], ◌==◌, Ok, Err, Result, ⊤, Option, Some, None}
use Rattle.errors.specs.declared.Refusal.TheVariants.{InvalidType}
use Rattle.values.specs.Values.{to_u32, to_bool_val, to_fat_pointer, get_value_type}
use Rattle.values.specs.declared.ValueType.{ValueType}
use Rattle.values.specs.declared.ValueType.TheVariants as type
use Rattle.memory.specs.Reads.{get_slice_bytes, get_slice_as_str, get_slice_as_u32}
use Rattle.pools.specs.Pool.{bounds, entry_of}
use Rattle.pools.specs.declared.InstructionsRef.{InstructionsRef}
use Rattle.memory.specs.declared.unbox.Return.{Return}
use Rattle.memory.specs.declared.unbox.Return.TheVariants.{U32, Boolean, String, CallData, VecU32, Null}
use Rattle.errors.specs.declared.Refusal.{Refusal}
use Rattle.values.specs.declared.FatPointer.{FatPointer}

-- a kind where the vector can be read
unfoldable pub where_readable : Result Return Refusal → Result ⊤ Refusal → Result Return Refusal
where_readable kind (Ok tt) = kind
where_readable kind (Err refusal) = Err refusal

-- a text: 5, then 14, then 15
unfoldable pub text_at : List ℕ → Result FatPointer Refusal → Result Return Refusal
text_at memory (Err refusal) = Err refusal
text_at memory (Ok pointer) = where_readable (Ok (String pointer)) (get_slice_as_str memory pointer)

abbrev pub unbox_text : List ℕ → ℕ → Result Return Refusal
unbox_text memory value = text_at memory (to_fat_pointer value)

-- numbers: 14, then 17, then 16
unfoldable pub numbers_at : List ℕ → Result FatPointer Refusal → Result Return Refusal
numbers_at memory (Err refusal) = Err refusal
numbers_at memory (Ok pointer) = where_readable (Ok (VecU32 pointer)) (get_slice_as_u32 memory pointer)

abbrev pub unbox_numbers : List ℕ → ℕ → Result Return Refusal
unbox_numbers memory value = numbers_at memory (to_fat_pointer value)

-- calldata: 12
unfoldable pub where_bounded : InstructionsRef → Result (ℕ × ℕ) Refusal → Result Return Refusal
where_bounded entry (Ok (start, end)) = Ok (CallData entry)
where_bounded entry (Err refusal) = Err refusal

abbrev pub unbox_calldata : List ℕ → ℕ → ℕ → Result Return Refusal
unbox_calldata ends entries value = where_bounded (record { 0 = to_u32 value }) (bounds ends entries (record { 0 = to_u32 value }))

-- a value by its type
unfoldable pub by_type : List ℕ → List ℕ → ℕ → ℕ → Option ValueType → Result Return Refusal
by_type memory ends entries value (Some type.U32) = Ok (U32 (to_u32 value))
by_type memory ends entries value (Some type.String) = unbox_text memory value
by_type memory ends entries value (Some type.CallData) = unbox_calldata ends entries value
by_type memory ends entries value (Some type.Boolean) = Ok (Boolean (value == to_bool_val true))
by_type memory ends entries value (Some type.VecU32) = unbox_numbers memory value
by_type memory ends entries value (Some type.Null) = Ok Null
by_type memory ends entries value None = Err InvalidType

-- what a value is read as
unfoldable pub unbox_value : List ℕ → List ℕ → ℕ → ℕ → Result Return Refusal
unbox_value memory ends entries value = by_type memory ends entries value (get_value_type value)

-- the part of memory or of the pool beside a kind
unfoldable pub part_of : List ℕ → List ℕ → List ℕ → Result Return Refusal → List ℕ
part_of memory pool ends (Ok (U32 number)) = []
part_of memory pool ends (Ok (Boolean b)) = []
part_of memory pool ends (Ok (String pointer)) = get_slice_bytes memory pointer
part_of memory pool ends (Ok (CallData entry)) = entry_of pool ends entry.0
part_of memory pool ends (Ok (VecU32 pointer)) = get_slice_bytes memory pointer
part_of memory pool ends (Ok Null) = []
part_of memory pool ends (Err refusal) = []
