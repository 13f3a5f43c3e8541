-- Where a pop leaves the height.
use Prim.Native.Nat.{ℕ, ◌+◌, ◌-◌, ◌≤◌}
use mathlib.Core.List.{List}
use mathlib.Core.Path.{◌≡◌, refl, ap}
use native.Mathlib.Omega.{arith}
use lib.ListN.{get_or}
use Rattle.mechanism.specs.Stack.{pop_two, pop_first, pop_second}
use Rattle.inlinevec.proofs.Refusals.{had_some}
use Rattle.inlinevec.specs.Stacks.{pop}
use Rattle.std.specs.Prelude.{Ok, Err, Result}
use Rattle.errors.specs.declared.Refusal.{Refusal}

-- one below, and within the capacity
pub record Below (height new : ℕ) : Type 0 where
  pub one : height ≡ new + 1
  pub most : height ≤ 1000

-- a pop leaves one less
pub popped_one : (stack : List ℕ) (height value new : ℕ) → pop stack height ≡ Ok (value, new) → Below height new
unfolding pop
popped_one stack height value new e =
    let h = had_some 1000 height Err (Ok (get_or stack (height - 1) 0, height - 1)) (Ok (value, new)) (λ r f. (let z : ◌≡◌ {A = ℕ} 0 1 = cc in omega arith)) e in
    let both : ◌≡◌ {A = ℕ × ℕ} (value, new) (get_or stack (height - 1) 0, height - 1) = cc in
    let n : new ≡ height - 1 = ap (λ p. p.1) both in
    record { one = omega (arith, h.0); most = h.1 }

-- two below, and within the capacity
pub record TwoBelow (height new : ℕ) : Type 0 where
  pub two : height ≡ new + 2
  pub most : height ≤ 1000

by_second : (stack : List ℕ) (height below first a b new : ℕ) (result : Result (ℕ × ℕ) Refusal) → Below height below → pop stack below ≡ result → pop_second first result ≡ Ok (a, b, new) → TwoBelow height new
unfolding pop_second
by_second stack height below first a b new (Ok (value, last)) one second e =
    let all : ◌≡◌ {A = ℕ × ℕ × ℕ} (first, value, last) (a, b, new) = cc in
    let same : last ≡ new = ap (λ p. p.2) all in
    let under = popped_one stack below value last second in
    record { two = omega (arith, one.one, under.one); most = one.most }
by_second stack height below first a b new (Err refusal) one second e = absurd (let z : ◌≡◌ {A = ℕ} 0 1 = cc in omega arith)

by_first : (stack : List ℕ) (height a b new : ℕ) (result : Result (ℕ × ℕ) Refusal) → pop stack height ≡ result → pop_first stack result ≡ Ok (a, b, new) → TwoBelow height new
unfolding pop_first
by_first stack height a b new (Ok (first, below)) once e =
    by_second stack height below first a b new (pop stack below) (popped_one stack height first below once) refl e
by_first stack height a b new (Err refusal) once e = absurd (let z : ◌≡◌ {A = ℕ} 0 1 = cc in omega arith)

-- two pops leave two less
pub popped_two : (stack : List ℕ) (height a b new : ℕ) → pop_two stack height ≡ Ok (a, b, new) → TwoBelow height new
unfolding pop_two
popped_two stack height a b new e = by_first stack height a b new (pop stack height) refl e
