-- When a stack refuses, and what its answer says of its height.
use Prim.Native.Nat.{ℕ, ◌<◌, ◌≤◌}
use mathlib.Core.Path.{◌≡◌, sym, ◌∙◌}
use native.Mathlib.Decide.{ℕ_discrete, dec_le, dec_lt}
use native.Mathlib.Omega.{arith}
use borrow.Author.Tests.{lt-ltb, le-ltb, le-leb, lt-leb, ne_eqb}
use Rattle.errors.specs.declared.Refusal.TheVariants.{StackUnderflow, StackOverflow, WrongPhaseOrUnsound}
use Rattle.errors.specs.declared.Refusal.{Refusal}
use Rattle.inlinevec.specs.Stacks.{if_room, if_some}

module _ {A : Type 0} (capacity height : ℕ) (refuse : Refusal → A) (answer : A) where
  -- a stack that is not full takes one more
  pub has_room : height < capacity → if_room capacity height refuse answer ≡ answer
  unfolding if_room
  has_room less = rw (lt-ltb height capacity less)

  -- a full one refuses
  pub full : capacity ≤ height → if_room capacity height refuse answer ≡ refuse StackOverflow
  unfolding if_room
  full more = rw (le-ltb height capacity more)

  -- a stack that is not empty has a top
  pub has_some : 0 < height → height ≤ capacity → if_some capacity height refuse answer ≡ answer
  unfolding if_some
  has_some some less = rw (ne_eqb height 0 (λ e. omega arith), le-leb height capacity less)

  -- an empty one has none
  pub empty : height ≡ 0 → if_some capacity height refuse answer ≡ refuse StackUnderflow
  unfolding if_some
  empty none = rw none

  -- a height above the capacity is unsound
  pub above : capacity < height → if_some capacity height refuse answer ≡ refuse WrongPhaseOrUnsound
  unfolding if_some
  above more = rw (ne_eqb height 0 (λ e. omega arith), lt-leb height capacity more)

  -- an answer that is no refusal was given because there was room
  pub had_room : (said : A) → ((refusal : Refusal) → refuse refusal ≡ said → ⊥) → if_room capacity height refuse answer ≡ said → (height < capacity) × (answer ≡ said)
  had_room said never e = by (dec_lt height capacity)
    where
      by : Dec (height < capacity) → (height < capacity) × (answer ≡ said)
      by (yes less) = (less, sym (has_room less) ∙ e)
      by (no more) = absurd (never StackOverflow (sym (full (omega arith)) ∙ e))

  -- or because there was a top
  pub had_some : (said : A) → ((refusal : Refusal) → refuse refusal ≡ said → ⊥) → if_some capacity height refuse answer ≡ said → (0 < height) × (height ≤ capacity) × (answer ≡ said)
  had_some said never e = by (ℕ_discrete height 0) (dec_le height capacity)
    where
      by : Dec (height ≡ 0) → Dec (height ≤ capacity) → (0 < height) × (height ≤ capacity) × (answer ≡ said)
      by (yes none) d = absurd (never StackUnderflow (sym (empty none) ∙ e))
      by (no some) (yes less) = (omega arith, less, sym (has_some (omega arith) less) ∙ e)
      by (no some) (no more) = absurd (never WrongPhaseOrUnsound (sym (above (omega arith)) ∙ e))
