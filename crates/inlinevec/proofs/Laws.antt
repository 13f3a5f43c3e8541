-- The stacks as lists, top first: a push joins in front, a pop gives the head and leaves the tail, a look gives the head.
use Prim.Native.Nat.{ℕ, ◌+◌, ◌-◌, ◌<◌, ◌≤◌}
use mathlib.Core.List.{List, ◌∷◌}
use mathlib.Core.Path.{◌≡◌, refl, ap}
use native.Mathlib.Decide.{dec_lt}
use native.Mathlib.Omega.{arith}
use lib.ListN.{length, get_or, set, length-set}
use Rattle.errors.specs.declared.Refusal.TheVariants.{StackOverflow}
use Rattle.errors.specs.declared.Refusal.{Refusal}
use Rattle.inlinevec.proofs.Lists.{pushed_values, popped_values, pushed_two, popped_two}
use Rattle.inlinevec.proofs.Refusals.{has_room, full, had_room, had_some}
use Rattle.inlinevec.specs.Stacks.{if_room, if_some, stacked, push, pop, last, values_of, push_two, last_two, pop_two, two_of, push_onto, pop_off, last_on}
use Rattle.inlinevec.specs.declared.Two.{Two}
use Rattle.std.specs.Prelude.{Ok, Err}

-- two answers that differ
impossible : ◌≡◌ {A = ℕ} 0 1 → ⊥
impossible e = omega arith

-- ---- stacks of at most two

module _ {A : Type 0} (two new : Two A) (a : A) where
  -- a push joins in front
  pub pushed : push_onto two a ≡ Ok new → two_of new ≡ a ∷ two_of two
  unfolding push_onto
  pushed e =
      let h = had_room 2 two.count Err (Ok (push_two two a)) (Ok new) (λ refusal f. impossible (cc)) e in
      let n : new ≡ push_two two a = cc in
      rw n (pushed_two two a h.0)

  -- a pop gives the head and leaves the tail
  pub popped : pop_off two ≡ Ok (a, new) → two_of two ≡ a ∷ two_of new
  unfolding pop_off
  popped e =
      let h = had_some 2 two.count Err (Ok (last_two two, pop_two two)) (Ok (a, new)) (λ refusal f. impossible (cc)) e in
      let both : ◌≡◌ {A = A × Two A} (a, new) (last_two two, pop_two two) = cc in
      rw (ap (λ p. p.0) both, ap (λ p. p.1) both) (popped_two two h.0 h.1)

  -- a look gives the head
  pub looked : last_on two ≡ Ok a → two_of two ≡ a ∷ two_of (pop_two two)
  unfolding last_on
  looked e =
      let h = had_some 2 two.count Err (Ok (last_two two)) (Ok a) (λ refusal f. impossible (cc)) e in
      let l : a ≡ last_two two = cc in
      rw l (popped_two two h.0 h.1)

-- ---- the values

module _ (stack : List ℕ) (height value : ℕ) where
  -- a push where there is room
  with_room : height < 1000 → push stack height value ≡ stacked (Ok (height + 1)) (set stack height value)
  unfolding push
  with_room less = has_room 1000 height (λ refusal. stacked (Err refusal) stack) (stacked (Ok (height + 1)) (set stack height value)) less

  -- and where there is none
  when_full : 1000 ≤ height → push stack height value ≡ stacked (Err StackOverflow) stack
  unfolding push
  when_full more = full 1000 height (λ refusal. stacked (Err refusal) stack) (stacked (Ok (height + 1)) (set stack height value)) more

-- a push
pub value_pushed : (stack : List ℕ) (height value new : ℕ) → length stack ≡ 1000 → (push stack height value).answer ≡ Ok new → values_of new (push stack height value).stack ≡ value ∷ values_of height stack
value_pushed stack height value new lent e = by (dec_lt height 1000)
  where
    by : Dec (height < 1000) → values_of new (push stack height value).stack ≡ value ∷ values_of height stack
    by (yes less) =
        let w = with_room stack height value less in
        let n : new ≡ height + 1 = cc in
        rw (n, w) (pushed_values stack height value (omega arith))
    by (no more) = let w = when_full stack height value (omega arith) in absurd (impossible (cc))

-- a refused push changes nothing
pub value_refused : (stack : List ℕ) (height value : ℕ) (refusal : Refusal) → (push stack height value).answer ≡ Err refusal → push stack height value ≡ stacked (Err StackOverflow) stack
value_refused stack height value refusal e = by (dec_lt height 1000)
  where
    by : Dec (height < 1000) → push stack height value ≡ stacked (Err StackOverflow) stack
    by (yes less) = let w = with_room stack height value less in absurd (impossible (cc))
    by (no more) = when_full stack height value (omega arith)

-- a push keeps the array's length
pub value_length : (stack : List ℕ) (height value : ℕ) → length (push stack height value).stack ≡ length stack
value_length stack height value = by (dec_lt height 1000)
  where
    by : Dec (height < 1000) → length (push stack height value).stack ≡ length stack
    by (yes less) = rw (with_room stack height value less) (length-set stack height value)
    by (no more) = rw (when_full stack height value (omega arith))

-- a pop
pub value_popped : (stack : List ℕ) (height value new : ℕ) → pop stack height ≡ Ok (value, new) → values_of height stack ≡ value ∷ values_of new stack
unfolding pop
value_popped stack height value new e =
    let h = had_some 1000 height Err (Ok (get_or stack (height - 1) 0, height - 1)) (Ok (value, new)) (λ r f. impossible (cc)) e in
    let both : ◌≡◌ {A = ℕ × ℕ} (value, new) (get_or stack (height - 1) 0, height - 1) = cc in
    let n : new ≡ height - 1 = ap (λ p. p.1) both in
    let m : value ≡ get_or stack (height - 1) 0 = ap (λ p. p.0) both in
    rw (n, m) (popped_values stack height h.0)

-- a look
pub value_last : (stack : List ℕ) (height value : ℕ) → last stack height ≡ Ok value → values_of height stack ≡ value ∷ values_of (height - 1) stack
unfolding last
value_last stack height value e =
    let h = had_some 1000 height Err (Ok (get_or stack (height - 1) 0)) (Ok value) (λ r f. impossible (cc)) e in
    let m : value ≡ get_or stack (height - 1) 0 = cc in
    rw m (popped_values stack height h.0)
