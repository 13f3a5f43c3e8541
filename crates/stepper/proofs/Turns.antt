-- How the steps of a code go on, a turn of the loop at a time.
use Prim.Native.Nat.{ℕ, zero, suc, ◌-◌, ◌≤◌, ◌<◌}
use mathlib.Core.Bool.{true, false}
use mathlib.Core.List.{List}
use mathlib.Core.Path.{◌≡◌, refl}
use native.Mathlib.Omega.{arith}
use lib.ListN.{length, get_or}
use borrow.Author.Tests.{lt-ltb, le-ltb}
use Rattle.mechanism.specs.Execute.{instruct}
use Rattle.mechanism.specs.Steps.{is_outer, halted, onward, turn, steps}
use Rattle.mechanism.specs.declared.Registers.{Registers}
use Rattle.mechanism.specs.declared.Halt.TheVariants as halt

module _ (stack memory code : List ℕ) (registers : Registers) (count : ℕ) where
  -- at or past the code's end
  pub ended : (fuel : ℕ) → length code ≤ registers.place → halted halt.AtEnd fuel registers stack memory ≡ steps fuel stack memory code registers count
  unfolding steps
  ended zero past = simp (le-ltb _ _ past)
  ended (suc fuel) past = simp (le-ltb _ _ past)

  -- before an instruction, with no fuel
  pub exhausted : (fuel : ℕ) → fuel ≡ 0 → registers.place < length code → halted halt.OutOfFuel fuel registers stack memory ≡ steps fuel stack memory code registers count
  unfolding steps
  exhausted fuel none inside = simp (none, lt-ltb _ _ inside)

  -- at an instruction that needs more
  pub at_outer : (fuel : ℕ) → (fuel ≡ 0 → ⊥) → registers.place < length code → is_outer (get_or code registers.place 0) ≡ true
      → halted halt.Outer fuel registers stack memory ≡ steps fuel stack memory code registers count
  unfolding steps turn
  at_outer zero some inside outer = absurd (some refl)
  at_outer (suc fuel) some inside outer = simp (lt-ltb _ _ inside, outer)

  -- at an instruction that needs no more
  pub turned : (fuel : ℕ) → (fuel ≡ 0 → ⊥) → registers.place < length code → is_outer (get_or code registers.place 0) ≡ false
      → steps fuel stack memory code registers count
      ≡ onward (λ s m r. steps (fuel - 1) s m code r count) fuel registers
      (instruct stack memory code registers count).stack
      (instruct stack memory code registers count).memory
      (instruct stack memory code registers count).result
  unfolding steps turn
  turned zero some inside inner = absurd (some refl)
  turned (suc fuel) some inside inner =
      let same : suc fuel - 1 ≡ fuel = omega arith in
      simp (lt-ltb _ _ inside, inner, same)
