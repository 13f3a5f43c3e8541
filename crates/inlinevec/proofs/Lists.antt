-- The stacks as lists, top first, whatever they hold.
use Prim.Native.Nat.{ℕ, zero, suc, ◌+◌, ◌-◌, ◌<◌, ◌≤◌}
use mathlib.Core.List.{List, [], ◌∷◌, ◌++◌, reverse, reverse_aux-eq}
use mathlib.Core.Path.{◌≡◌, refl, sym, ap, ◌∙◌}
use native.Mathlib.Numerals.{add-one}
use native.Mathlib.Omega.{arith}
use lib.ListN.{length, get_or, set, take}
use lib.Seq.{take-suc, get_or-set_same, get_or-set_other}
use Rattle.inlinevec.specs.Stacks.{values_of, push_two, last_two, pop_two, change_two, two_of}
use Rattle.inlinevec.specs.declared.Two.{Two}

-- ---- the values

-- what is written at the height or above is not on the stack
pub values_kept : (stack : List ℕ) (height at value : ℕ) → height ≤ at → values_of height (set stack at value) ≡ values_of height stack
unfolding values_of
values_kept stack zero at value less = refl
values_kept stack (suc height) at value less =
    rw (get_or-set_other stack at height value 0 (omega arith), values_kept stack height at value (omega arith))

-- a push joins the value in front
pub pushed_values : (stack : List ℕ) (height value : ℕ) → height < length stack → values_of (height + 1) (set stack height value) ≡ value ∷ values_of height stack
unfolding values_of
pushed_values stack height value less =
    rw (add-one height, get_or-set_same stack height value 0 less, values_kept stack height height value (omega arith))

-- a pop gives the head and leaves the tail
pub popped_values : (stack : List ℕ) (height : ℕ) → 0 < height → values_of height stack ≡ get_or stack (height - 1) 0 ∷ values_of (height - 1) stack
unfolding values_of
popped_values stack zero some = absurd (omega arith)
popped_values stack (suc height) some = let e : suc height - 1 ≡ height = omega arith in rw e

-- there are as many as the height says
pub length_values : (stack : List ℕ) (height : ℕ) → length (values_of height stack) ≡ height
unfolding values_of
length_values stack zero = refl
length_values stack (suc height) = ap suc (length_values stack height)

-- bottom first they are the front of the array
pub bottom_first : (stack : List ℕ) (height : ℕ) → height ≤ length stack → take height stack ≡ reverse (values_of height stack)
unfolding values_of
bottom_first stack zero less = refl
bottom_first stack (suc height) less =
    take-suc stack height 0 less
    ∙ ap (λ (front : List ℕ). front ++ (get_or stack height 0 ∷ [])) (bottom_first stack height (omega arith))
    ∙ sym (reverse_aux-eq (values_of height stack) (get_or stack height 0 ∷ []))

-- ---- stacks of at most two

module _ {A : Type 0} (two : Two A) where
  -- a push joins in front
  pub pushed_two : (a : A) → two.count < 2 → two_of (push_two two a) ≡ a ∷ two_of two
  unfolding two_of push_two
  pushed_two a less = by two.count refl
    where
      by : (n : ℕ) → two.count ≡ n → two_of (push_two two a) ≡ a ∷ two_of two
      by zero e = rw e
      by (suc zero) e = rw e
      by (suc (suc n)) e = absurd (omega arith)

  -- a pop gives the head and leaves the tail
  pub popped_two : 0 < two.count → two.count ≤ 2 → two_of two ≡ last_two two ∷ two_of (pop_two two)
  unfolding two_of last_two pop_two
  popped_two some less = by two.count refl
    where
      by : (n : ℕ) → two.count ≡ n → two_of two ≡ last_two two ∷ two_of (pop_two two)
      by zero e = absurd (omega arith)
      by (suc zero) e = rw e
      by (suc (suc zero)) e = rw e
      by (suc (suc (suc n))) e = absurd (omega arith)

  -- a change leaves the tail
  pub changed_two : (a : A) → 0 < two.count → two.count ≤ 2 → two_of (change_two two a) ≡ a ∷ two_of (pop_two two)
  unfolding two_of change_two pop_two
  changed_two a some less = by two.count refl
    where
      by : (n : ℕ) → two.count ≡ n → two_of (change_two two a) ≡ a ∷ two_of (pop_two two)
      by zero e = absurd (omega arith)
      by (suc zero) e = rw e
      by (suc (suc zero)) e = rw e
      by (suc (suc (suc n))) e = absurd (omega arith)

  -- there are as many as the count says
  pub length_two : two.count ≤ 2 → length (two_of two) ≡ two.count
  unfolding two_of
  length_two less = by two.count refl
    where
      by : (n : ℕ) → two.count ≡ n → length (two_of two) ≡ two.count
      by zero e = rw e
      by (suc zero) e = rw e
      by (suc (suc zero)) e = rw e
      by (suc (suc (suc n))) e = absurd (omega arith)
