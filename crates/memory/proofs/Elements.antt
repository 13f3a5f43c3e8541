-- Elements have one byte or four, and lie in their vector.
use Rattle.std.proofs.Common.{ap, ◌∙◌, ◌^◌, ◌%◌, ◌-◌, List, [], ◌∷◌, length, ◌≡◌, ℕ, ◌+◌, ◌*◌, ◌/◌, ◌<◌, ◌≤◌, Bool, true, false, cond, eqb, ◌⊎◌, inl, inr, ⊎_elim, arith}
use Rattle.errors.specs.declared.Refusal.TheVariants.{InvalidType}
use Rattle.memory.specs.Change.{element_size_bytes}
use lib.Seq.{sets}
use borrow.Rule.Slice.PartMut.{put_mid}
use Rattle.slices.proofs.SlicesWrites.{put_mid_sets}
use Rattle.std.specs.Prelude.{Ok, Err}
use Rattle.std.specs.Int.{to_le_bytes, w32}
use Rattle.slices.specs.Numbers.{little_endian}

by_tests : (width : ℕ) (text numbers : Bool) → cond text (Ok 1) (cond numbers (Ok 4) (Err InvalidType)) ≡ Ok width → (width ≡ 1) ⊎ (width ≡ 4)
by_tests width true numbers is = inl (cc)
by_tests width false true is = inr (cc)
by_tests width false false is = absurd (let z : ◌≡◌ {A = ℕ} 0 1 = cc in omega arith)

-- the sizes of elements
pub one_or_four : (tag width : ℕ) → element_size_bytes tag ≡ Ok width → (width ≡ 1) ⊎ (width ≡ 4)
unfolding element_size_bytes
one_or_four tag width is = by_tests width (eqb tag 4) (eqb tag 6) is

-- the end of the element at an index below their number
pub element_inside : (size index width : ℕ) → (width ≡ 1) ⊎ (width ≡ 4) → index < size / width → index * width + width ≤ size
element_inside size index width one_or_four below =
    ⊎_elim
    (λ one. let h : index < size / 1 = rw one at below in rw one (omega arith))
    (λ four. let h : index < size / 4 = rw four at below in rw four (omega arith))
    one_or_four

-- the bytes of a number as the library gives them
low_first : (number : ℕ) → to_le_bytes w32 number ≡ little_endian 4 number
unfolding little_endian
low_first number =
    let second : number / 256 ^ 1 % 256 ≡ number / 256 % 256 = omega arith in
    let third : number / 256 ^ 2 % 256 ≡ number / 256 / 256 % 256 = omega arith in
    let fourth : number / 256 ^ 3 % 256 ≡ number / 256 / 256 / 256 % 256 = omega arith in
    ap (λ (b : ℕ). number % 256 ∷ b ∷ number / 256 ^ 2 % 256 ∷ number / 256 ^ 3 % 256 ∷ []) second
    ∙ ap (λ (b : ℕ). number % 256 ∷ number / 256 % 256 ∷ b ∷ number / 256 ^ 3 % 256 ∷ []) third
    ∙ ap (λ (b : ℕ). number % 256 ∷ number / 256 % 256 ∷ number / 256 / 256 % 256 ∷ b ∷ []) fourth

-- those bytes put into memory
pub four_bytes : (memory : List ℕ) (at number : ℕ) → at + 4 ≤ length memory → put_mid at (at + 4 - at) memory (to_le_bytes w32 number) ≡ sets memory at (little_endian 4 number)
four_bytes memory at number fits =
    put_mid_sets memory (to_le_bytes w32 number) at (at + 4) (omega arith) fits ∙ ap (λ (bytes : List ℕ). sets memory at bytes) (low_first number)
