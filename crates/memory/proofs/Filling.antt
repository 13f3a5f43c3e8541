-- The bytes of a vector: as many as its size, the payload first and zeros behind it.
use mathlib.Core.List.{append-nil}
use native.Mathlib.Decide.{dec_le}
use Rattle.std.proofs.Common.{min, ◌≡◌, ℕ, ◌+◌, ◌-◌, ◌≤◌, List, ◌++◌, length, take, replicate, sym, ap, ◌∙◌, arith, length-append, length-take-le, take_at}
use lib.ListN.{length-replicate, replicate-append-replicate}
use lib.Seq.{sets, take-length, length-sets, take-append-le, take-append-add}
use borrow.Rule.Slice.PartMut.{mid_of, put_mid}
use Rattle.memory.specs.Allocation.{filling}
use Rattle.slices.proofs.SlicesWrites.{put_mid_sets, put_tail, sets_append}

-- as many as the size says
pub length_filling : (size : ℕ) (payload : List ℕ) → length (filling size payload) ≡ size
unfolding filling
length_filling size payload = length-take-le size _ (simp (length-append, length-replicate) (omega arith))

-- a payload that reaches the size
pub filled_whole : (size : ℕ) (payload : List ℕ) → size ≤ length payload → filling size payload ≡ take size payload
unfolding filling
filled_whole size payload enough = take-append-le size payload (replicate size 0) enough

take_zeros : (count more : ℕ) → take count (replicate {A = ℕ} (count + more) 0) ≡ replicate count 0
take_zeros count more =
    ap (take count) (sym (replicate-append-replicate count more 0)) ∙ take_at (replicate count 0) (replicate more 0) count (length-replicate count 0)

-- a payload that does not
pub filled_short : (size : ℕ) (payload : List ℕ) → length payload ≤ size → filling size payload ≡ payload ++ replicate (size - length payload) 0
unfolding filling
filled_short size payload short =
    let rest : size ≡ length payload + (size - length payload) = omega arith in
    let more : size ≡ (size - length payload) + length payload = omega arith in
    ap (λ (n : ℕ). take n (payload ++ replicate size 0)) rest
    ∙ take-append-add payload (replicate size 0) (size - length payload)
    ∙ ap (λ (n : ℕ). payload ++ take (size - length payload) (replicate n 0)) more
    ∙ ap (λ (zeros : List ℕ). payload ++ zeros) (take_zeros (size - length payload) (length payload))

-- as much of the payload as fits, and zeros
filled_by : (size count : ℕ) (payload : List ℕ) → count ≡ min (length payload) size → filling size payload ≡ take count payload ++ replicate (size - count) 0
filled_by size count payload is = by (dec_le size (length payload))
  where
    by : Dec (size ≤ length payload) → filling size payload ≡ take count payload ++ replicate (size - count) 0
    by (yes enough) =
        let all : count ≡ size = omega arith in
        let none : size - size ≡ 0 = omega arith in
        rw (all, none) (filled_whole size payload enough ∙ sym (append-nil (take size payload)))
    by (no short) =
        let all : count ≡ length payload = omega arith in
        rw (all, take-length payload) (filled_short size payload (omega arith))

-- as much of the payload as fits, written at the head of a part, and zeros put behind it
pub filled_in_two : (part payload : List ℕ) (size count : ℕ) → count ≡ min (length payload) size → size ≤ length part
    → put_mid count (size - count) (sets part 0 (take count payload)) (replicate (size - count) 0) ≡ sets part 0 (filling size payload)
filled_in_two part payload size count is fits =
    let head = take count payload in
    let zeros = replicate {A = ℕ} (size - count) 0 in
    let long : length head ≡ count = length-take-le count payload (omega arith) in
    let end : count + length zeros ≡ size = omega (arith, length-replicate {A = ℕ} (size - count) 0) in
    let inside : size ≤ length (sets part 0 head) = omega (arith, length-sets part 0 head) in
    put_mid_sets (sets part 0 head) zeros count size end inside
    ∙ ap (λ (n : ℕ). sets (sets part 0 head) n zeros) (omega arith)
    ∙ sym (sets_append part 0 head zeros)
    ∙ ap (λ (bytes : List ℕ). sets part 0 bytes) (sym (filled_by size count payload is))

-- the padding put behind the length in use, and the vector's bytes written into the tail behind it
pub stored_bytes : (memory payload : List ℕ) (used offset size : ℕ) → used ≤ offset → offset + size ≤ length memory
    → (padded : List ℕ) → padded ≡ put_mid used (offset - used) memory (replicate (offset - used) 0)
    → put_mid offset (length padded - offset) padded (sets (mid_of offset (length padded - offset) padded) 0 (filling size payload))
    ≡ sets memory used (replicate (offset - used) 0 ++ filling size payload)
stored_bytes memory payload used offset size above fits padded is =
    let zeros = replicate {A = ℕ} (offset - used) 0 in
    let end : used + length zeros ≡ offset = omega (arith, length-replicate {A = ℕ} (offset - used) 0) in
    let pad : padded ≡ sets memory used zeros = is ∙ put_mid_sets memory zeros used offset end (omega arith) in
    let room : offset + length (filling size payload) ≤ length padded =
    omega (arith, length_filling size payload, ap length pad, length-sets memory used zeros) in
    put_tail padded (filling size payload) offset room
    ∙ ap (λ (l : List ℕ). sets l offset (filling size payload)) pad
    ∙ ap (λ (n : ℕ). sets (sets memory used zeros) n (filling size payload)) (sym end)
    ∙ sym (sets_append memory used zeros (filling size payload))
