-- Allocation: where a vector starts, and its bytes written behind the length in use.
use Rattle.std.specs.Prelude.{ℕ, ◌+◌, ◌-◌, ◌*◌, ◌/◌, Bool, cond, ◌||◌, List, ◌++◌, length, take, replicate, ◌==◌, nat_le, Ok, Err, Result}
use Rattle.std.proofs.lemmas.List.Edits.{sets}
use Rattle.errors.specs.declared.Refusal.TheVariants.{InvalidType, MemoryTooShort}
use Rattle.values.specs.Values.{to_vec_val}
use Rattle.errors.specs.declared.Refusal.{Refusal}

-- a number vector starts at the length in use rounded up to 4, a text at that length
unfoldable pub offset_aligned : ℕ → ℕ → ℕ
offset_aligned used tag = cond (tag == 6) ((used + 3) / 4 * 4) used

-- the tags of vectors: 4 for a text, 6 for numbers
unfoldable pub is_element_tag : ℕ → Bool
is_element_tag tag = tag == 4 || tag == 6

-- the box of the vector that an allocation makes
unfoldable pub vector : ℕ → ℕ → ℕ → Result ℕ Refusal
vector used size tag = cond (is_element_tag tag) (to_vec_val (offset_aligned used tag) size tag) (Err InvalidType)

-- the bytes of a vector: the payload, or zeros where there is none
unfoldable pub filling : ℕ → List ℕ → List ℕ
filling size payload = take size (payload ++ replicate size 0)

-- an allocation's answer, and the memory after it
pub record AfterAllocation : Type 0 where
  pub answer : Result (ℕ × ℕ) Refusal
  pub memory : List ℕ

abbrev pub after_allocation : Result (ℕ × ℕ) Refusal → List ℕ → AfterAllocation
after_allocation answer memory = record { answer = answer; memory = memory }

-- padding and the vector's bytes from the length in use on, where the lent memory holds them
unfoldable pub vector_stored : List ℕ → List ℕ → ℕ → ℕ → ℕ → Result ℕ Refusal → AfterAllocation
vector_stored memory payload used size offset (Err refusal) = after_allocation (Err refusal) memory
vector_stored memory payload used size offset (Ok value) =
    cond (nat_le (offset + size) (length memory))
    (after_allocation (Ok (value, offset + size)) (sets memory used (replicate (offset - used) 0 ++ filling size payload)))
    (after_allocation (Err MemoryTooShort) memory)

-- an allocation: 5, else 13, then 23
unfoldable pub alloc : List ℕ → List ℕ → ℕ → ℕ → ℕ → AfterAllocation
alloc memory payload used size tag = vector_stored memory payload used size (offset_aligned used tag) (vector used size tag)
