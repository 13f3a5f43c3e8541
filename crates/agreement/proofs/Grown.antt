-- Memory in use after an allocation: what the Rust's resize and copy leave.
use Prim.Native.Nat.{ℕ, ◌+◌, ◌-◌, ◌≤◌}
use mathlib.Core.Path.{◌≡◌, sym, ap, ◌∙◌}
use mathlib.Core.List.{List, [], ◌++◌, append_assoc, append-nil}
use native.Mathlib.Omega.{arith}
use lib.ListN.{length, take, replicate, length-append, length-replicate, replicate-append-replicate, drop_of_length-le}
use lib.Seq.{sets, sets-eq, length-take-le, take_at, take-length, length-sets}
use Rattle.memory.specs.Allocation.{filling}
use Rattle.memory.proofs.Filling.{length_filling, filled_whole, filled_short}
use Rattle.rust.specs.Memory.{resize}

module _ (memory : List ℕ) (used offset size : ℕ) (lent : used ≤ length memory) (above : used ≤ offset) where
  abbrev front : List ℕ
  front = take used memory

  abbrev padding : List ℕ
  padding = replicate (offset - used) 0

  front_length : length front ≡ used
  front_length = length-take-le used memory lent

  padded_length : length (front ++ padding) ≡ offset
  padded_length = let a = front_length in let b = length-replicate {A = ℕ} (offset - used) 0 in length-append front padding ∙ (omega arith)

  -- resize, as padding and zeros
  resized : resize front (offset + size) ≡ (front ++ padding) ++ replicate size 0
  unfolding resize
  resized =
      let z : offset + size - used ≡ (offset - used) + size = omega arith in
      rw (front_length, z, ← replicate-append-replicate {A = ℕ} (offset - used) size 0) (sym (append_assoc front padding (replicate size 0)))

  resized_length : length (resize front (offset + size)) ≡ offset + size
  resized_length =
      let a = padded_length in
      let b = length-replicate {A = ℕ} size 0 in
      ap length resized ∙ length-append (front ++ padding) (replicate size 0) ∙ (omega arith)

  -- its length after the copy
  pub grown_length : (payload : List ℕ) → length (sets (resize front (offset + size)) offset payload) ≡ offset + size
  grown_length payload = length-sets (resize front (offset + size)) offset payload ∙ resized_length

  stored : (payload : List ℕ) → offset + size ≤ length memory → take (offset + size) (sets memory used (padding ++ filling size payload)) ≡ (front ++ padding) ++ filling size payload
  stored payload fits =
      let a = length-append padding (filling size payload) in
      let b = length-replicate {A = ℕ} (offset - used) 0 in
      let c = length_filling size payload in
      let d = front_length in
      let e : used + length (padding ++ filling size payload) ≡ offset + size = omega arith in
      let g : length (front ++ (padding ++ filling size payload)) ≡ offset + size = length-append front (padding ++ filling size payload) ∙ (omega arith) in
      ap (take (offset + size)) (sets-eq (padding ++ filling size payload) memory used (omega arith))
      ∙ take_at (front ++ (padding ++ filling size payload)) _ (offset + size) g
      ∙ sym (append_assoc front padding (filling size payload))

  copied : (payload : List ℕ) → length payload ≡ size → sets (resize front (offset + size)) offset payload ≡ (front ++ padding) ++ payload
  copied payload long =
      let n = resized_length in
      let e : offset + length payload ≡ offset + size = omega arith in
      sets-eq payload (resize front (offset + size)) offset (omega arith)
      ∙ ap (λ (l : List ℕ). take offset (resize front (offset + size)) ++ payload ++ l) (drop_of_length-le (resize front (offset + size)) {i = offset + length payload} (omega arith))
      ∙ append-nil (take offset (resize front (offset + size)) ++ payload)
      ∙ ap (λ (l : List ℕ). l ++ payload) (ap (take offset) resized ∙ take_at (front ++ padding) (replicate size 0) offset padded_length)

  -- both, for a payload of the vector's size, and for none
  pub grown : (payload : List ℕ) → length payload ≡ size → offset + size ≤ length memory
      → take (offset + size) (sets memory used (padding ++ filling size payload)) ≡ sets (resize front (offset + size)) offset payload
  grown payload long fits =
      stored payload fits
      ∙ ap (λ (l : List ℕ). (front ++ padding) ++ l) (filled_whole size payload (omega arith) ∙ ap (λ (n : ℕ). take n payload) (sym long) ∙ take-length payload)
      ∙ sym (copied payload long)

  pub grown_empty : offset + size ≤ length memory → take (offset + size) (sets memory used (padding ++ filling size [])) ≡ sets (resize front (offset + size)) offset []
  grown_empty fits =
      let z : size - 0 ≡ size = omega arith in
      stored [] fits
      ∙ ap (λ (l : List ℕ). (front ++ padding) ++ l) (filled_short size [] (omega arith) ∙ ap (λ (n : ℕ). replicate n 0) z)
      ∙ sym resized
