-- Change of one element of a vector: M_MUTA.
use Rattle.std.specs.Prelude.{ℕ, ◌+◌, ◌*◌, ◌/◌, ◌%◌, ◌^◌, Bool, cond, List, length, ◌==◌, nat_le, Ok, Err, Result, ⊤}
use Rattle.std.proofs.lemmas.List.Edits.{sets}
use Rattle.slices.specs.Numbers.{little_endian}
use Rattle.errors.specs.declared.Refusal.TheVariants.{InvalidType, MSliceOutOfBounds}
use Rattle.values.specs.declared.FatPointer.{FatPointer}
use Rattle.errors.specs.declared.Refusal.{Refusal}

-- the bytes of an element: 1 of a text, 4 of numbers
unfoldable pub element_size_bytes : ℕ → Result ℕ Refusal
element_size_bytes tag = cond (tag == 4) (Ok 1) (cond (tag == 6) (Ok 4) (Err InvalidType))

-- index times element size, wrapped to 32 bits
unfoldable pub scaled : ℕ → ℕ → ℕ
scaled index width = index * width % 2 ^ 32

-- a vector lies in the memory in use
unfoldable pub inside : List ℕ → FatPointer → Bool
inside memory pointer = nat_le (pointer.offset + pointer.size) (length memory)

-- a change's answer, and the memory in use after it
pub record AfterChange : Type 0 where
  pub answer : Result ⊤ Refusal
  pub memory : List ℕ

abbrev pub after_change : Result ⊤ Refusal → List ℕ → AfterChange
after_change answer memory = record { answer = answer; memory = memory }

-- the element's index is tested before the vector's place in memory
unfoldable pub changed : List ℕ → FatPointer → ℕ → ℕ → Result ℕ Refusal → AfterChange
changed memory pointer index payload (Err refusal) = after_change (Err refusal) memory
changed memory pointer index payload (Ok width) =
    cond (nat_le (pointer.size / width) index)
    (after_change (Err (MSliceOutOfBounds (scaled index width) pointer.size)) memory)
    (cond (inside memory pointer)
    (after_change (Ok tt) (sets memory (pointer.offset + index * width) (little_endian width payload)))
    (after_change (Err (MSliceOutOfBounds pointer.offset pointer.size)) memory))

-- M_MUTA on the memory in use: 5, then 14 with the element, then 14 with the vector
unfoldable pub mut_vec : List ℕ → FatPointer → ℕ → ℕ → ℕ → AfterChange
mut_vec memory pointer index payload tag = changed memory pointer index payload (element_size_bytes tag)
