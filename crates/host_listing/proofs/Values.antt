-- The line of a value that is read over memory of bytes, and over a pool whose entries have at most 65,536 bytes, fits into 196,611 bytes.
use Prim.Native.Nat.{ℕ, zero, suc, ◌*◌, min, ◌≤◌, ◌<◌}
use mathlib.Core.List.{List, [], ◌∷◌}
use native.Mathlib.Omega.{arith}
use lib.Dec.{ltb}
use lib.ListN.{length, get_or, take, drop, length-append, length-take}
use borrow.Author.Tests.{ltb-true}
use Rattle.errors.specs.declared.Refusal.{Refusal}
use Rattle.errors.specs.declared.Refusal.TheVariants.{InvalidType}
use Rattle.pools.specs.Pool.{bounds, entry_of}
use Rattle.values.specs.Values.{is_vec, to_u32, fat_pointer, to_fat_pointer, get_value_type}
use Rattle.values.specs.declared.ValueType.{ValueType}
use Rattle.values.specs.declared.ValueType.TheVariants as type
use Rattle.memory.specs.Reads.{get_slice_bytes}
use Rattle.memory.specs.Unbox.{where_readable, text_at, unbox_text, numbers_at, unbox_numbers, where_bounded, unbox_calldata, by_type, unbox_value, part_of}
use Rattle.memory.specs.declared.unbox.Return.{Return}
use Rattle.memory.specs.declared.unbox.Return.TheVariants.{U32, Boolean, String, VecU32, Null}
use Rattle.listing.specs.Listing.{ValueRead, values_read, line_of_value, lines_of_values}
use Rattle.listing.proofs.Longest.{number_fits, longest_calldata, longest}
use Rattle.laws.proofs.Either.{either}
use Rattle.std.specs.Prelude.{Ok, Err, Result, ⊤, Option, Some, None}
use Rattle.values.specs.declared.FatPointer.{FatPointer}

-- each line has room in a buffer of this size
unfoldable pub Short : ℕ → List ValueRead → Type 0
Short size [] = 0 ≤ size
Short size (read ∷ more) = (length (line_of_value read.answer read.part) ≤ size) × Short size more

-- ---- bytes

-- each is a byte
abbrev pub Bytes : List ℕ → Type 0
Bytes l = (i : ℕ) → get_or l i 0 < 256

-- none
none_bytes : Bytes []
none_bytes i = omega arith

-- the first ones
pub taken_bytes : (n : ℕ) (l : List ℕ) → Bytes l → Bytes (take n l)
taken_bytes zero l byte i = omega arith
taken_bytes (suc n) [] byte i = omega arith
taken_bytes (suc n) (a ∷ l) byte zero = byte 0
taken_bytes (suc n) (a ∷ l) byte (suc i) = taken_bytes n l (λ j. byte (suc j)) i

-- those behind them
dropped_bytes : (n : ℕ) (l : List ℕ) → Bytes l → Bytes (drop n l)
dropped_bytes zero l byte = byte
dropped_bytes (suc n) [] byte = none_bytes
dropped_bytes (suc n) (a ∷ l) byte = dropped_bytes n l (λ j. byte (suc j))

-- ---- one value

-- a vector has less than 65,536 bytes
pointer_short : (value : ℕ) → (fat_pointer value).size < 65536
unfolding fat_pointer
pointer_short value = omega arith

-- a number that was read has 32 bits
number_short : (value : ℕ) → to_u32 value < 4294967296
unfolding to_u32
number_short value = omega arith

-- a line with no part beside it
no_part : (kind : Result Return Refusal) → number_fits kind → length (line_of_value kind []) ≤ 196611
no_part kind fits = longest kind [] fits (omega arith) none_bytes

module _ (memory pool ends : List ℕ) (entries : ℕ) (byte : Bytes memory) (short : (i : ℕ) → i < entries → length (entry_of pool ends i) ≤ 65536) where
  -- the line of what was read fits
  abbrev Roomy : Result Return Refusal → Type 0
  Roomy kind = length (line_of_value kind (part_of memory pool ends kind)) ≤ 196611

  -- where nothing can be read
  refused : (refusal : Refusal) → Roomy (Err refusal)
  unfolding part_of number_fits
  refused refusal = no_part (Err refusal) tt

  -- a vector, where it can be read
  where_roomy : (kind : Result Return Refusal) (result : Result ⊤ Refusal) → Roomy kind → Roomy (where_readable kind result)
  unfolding where_readable
  where_roomy kind (Ok tt) roomy = roomy
  where_roomy kind (Err refusal) roomy = refused refusal

  module _ (value : ℕ) where
    -- a line with a vector's bytes beside it
    with_part : (kind : Result Return Refusal) → number_fits kind → length (line_of_value kind (get_slice_bytes memory (fat_pointer value))) ≤ 196611
    with_part kind fits =
        longest kind (get_slice_bytes memory (fat_pointer value)) fits
        (omega (arith, pointer_short value, length-take (fat_pointer value).size (drop (fat_pointer value).offset memory)))
        (taken_bytes (fat_pointer value).size (drop (fat_pointer value).offset memory) (dropped_bytes (fat_pointer value).offset memory byte))

    -- what is read of a vector, and of a value that is none
    pointed : (read : Result FatPointer Refusal → Result Return Refusal) → Roomy (read (Ok (fat_pointer value))) → Roomy (read (Err InvalidType)) → Roomy (read (to_fat_pointer value))
    unfolding to_fat_pointer
    pointed read there none = either (λ (p : Result FatPointer Refusal). Roomy (read p)) (is_vec value) _ _ (λ _. there) (λ _. none)

    -- a text
    text_roomy : Roomy (unbox_text memory value)
    unfolding text_at part_of number_fits
    text_roomy = pointed (text_at memory) (where_roomy (Ok (String (fat_pointer value))) _ (with_part (Ok (String (fat_pointer value))) tt)) (refused InvalidType)

    -- numbers
    numbers_roomy : Roomy (unbox_numbers memory value)
    unfolding numbers_at part_of number_fits
    numbers_roomy = pointed (numbers_at memory) (where_roomy (Ok (VecU32 (fat_pointer value))) _ (with_part (Ok (VecU32 (fat_pointer value))) tt)) (refused InvalidType)

    -- calldata
    calldata_roomy : Roomy (unbox_calldata ends entries value)
    unfolding where_bounded bounds part_of
    calldata_roomy =
        either (λ (b : Result (ℕ × ℕ) Refusal). Roomy (where_bounded (record { 0 = to_u32 value }) b)) (ltb (to_u32 value) (min entries 1024)) _ _
        (λ less. longest_calldata (record { 0 = to_u32 value }) (entry_of pool ends (to_u32 value)) (short (to_u32 value) (omega (arith, ltb-true (to_u32 value) (min entries 1024) less))))
        (λ _. refused _)

    -- a value of each type
    type_roomy : (kind : Option ValueType) → Roomy (by_type memory ends entries value kind)
    unfolding by_type part_of number_fits
    type_roomy (Some type.U32) = no_part (Ok (U32 (to_u32 value))) (number_short value)
    type_roomy (Some type.String) = text_roomy
    type_roomy (Some type.CallData) = calldata_roomy
    type_roomy (Some type.Boolean) = no_part (Ok (Boolean _)) tt
    type_roomy (Some type.VecU32) = numbers_roomy
    type_roomy (Some type.Null) = no_part (Ok Null) tt
    type_roomy None = refused InvalidType

    -- any value
    value_roomy : Roomy (unbox_value memory ends entries value)
    unfolding unbox_value
    value_roomy = type_roomy (get_value_type value)

  -- ---- all of them

  -- each line has room
  pub values_short : (words : List ℕ) → Short 196611 (values_read memory pool ends entries words)
  unfolding Short values_read
  values_short [] = omega arith
  values_short (word ∷ more) = (value_roomy word, values_short more)

-- the lines of so many
pub lines_short : (values : List ValueRead) → Short 196611 values → length (lines_of_values values) ≤ 196611 * length values
unfolding Short lines_of_values
lines_short [] short = omega arith
lines_short (read ∷ more) short =
    let first : length (line_of_value read.answer read.part) ≤ 196611 = short.0 in
    let rest : length (lines_of_values more) ≤ 196611 * length more = lines_short more short.1 in
    omega (arith, length-append (line_of_value read.answer read.part) (lines_of_values more))
