-- Where a vector that can be boxed starts.
use Rattle.std.proofs.Common.{◌≡◌, ℕ, ◌+◌, ◌*◌, ◌/◌, ◌^◌, ◌<◌, ◌≤◌, Bool, true, false, cond, eqb, ltb, refl, arith, ltb-true, le-ltb}
use Rattle.errors.specs.declared.Refusal.TheVariants.{InvalidType, MSliceParamOverflow}
use Rattle.memory.specs.Allocation.{offset_aligned, is_element_tag, vector}
use Rattle.values.specs.Values.{to_vec_val, make_vec_tagged}
use Rattle.std.specs.Prelude.{Ok, Err}

-- the offset is not below the length in use
pub aligned_above : (used tag : ℕ) → used ≤ offset_aligned used tag
unfolding offset_aligned
aligned_above used tag = by (eqb tag 6)
  where
    by : (numbers : Bool) → used ≤ cond numbers ((used + 3) / 4 * 4) used
    by true = omega arith
    by false = omega arith

-- the box of a vector, by its two tests
by_tests : (used size tag value : ℕ) (known small : Bool) → ltb (offset_aligned used tag) (2 ^ 25) ≡ small
    → cond known (cond small (Ok (make_vec_tagged (offset_aligned used tag) size tag)) (Err MSliceParamOverflow)) (Err InvalidType) ≡ Ok value
    → offset_aligned used tag < 2 ^ 25
by_tests used size tag value true true test boxed = ltb-true _ _ test
by_tests used size tag value true false test boxed = absurd (let z : ◌≡◌ {A = ℕ} 0 1 = cc in omega arith)
by_tests used size tag value false small test boxed = absurd (let z : ◌≡◌ {A = ℕ} 0 1 = cc in omega arith)

-- the offset of a boxed vector is below 2^25
pub placed_below : (used size tag value : ℕ) → vector used size tag ≡ Ok value → offset_aligned used tag < 2 ^ 25
unfolding vector to_vec_val
placed_below used size tag value boxed = by_tests used size tag value (is_element_tag tag) (ltb (offset_aligned used tag) (2 ^ 25)) refl boxed

-- a length in use from 2^25 on leaves no place for a vector
pub placed_past : (used size tag : ℕ) → 2 ^ 25 ≤ used → to_vec_val (offset_aligned used tag) size tag ≡ Err MSliceParamOverflow
unfolding to_vec_val
placed_past used size tag past =
    let high : 2 ^ 25 ≤ offset_aligned used tag = omega (arith, aligned_above used tag) in
    simp (le-ltb (offset_aligned used tag) (2 ^ 25) high)
