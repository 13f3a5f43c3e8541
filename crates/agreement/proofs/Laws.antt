-- What holds of both sides of a test or of a pop, and of a world that an instruction goes on to.
use Prim.Native.Nat.{ℕ, zero, suc, ◌-◌, ◌≤◌}
use mathlib.Core.Bool.{Bool, true, false, cond}
use mathlib.Core.Path.{◌≡◌, refl, sym, subst}
use mathlib.Core.List.{List}
use native.Mathlib.Omega.{arith}
use lib.ListN.{get_or}
use borrow.Author.Tests.{le-leb, ne_eqb}
use Rattle.errors.specs.declared.Refusal.{Refusal}
use Rattle.errors.specs.declared.Refusal.TheVariants as refusal
use Rattle.slices.specs.Numbers.{Bytes}
use Rattle.inlinevec.specs.Stacks.{if_some, pop, last, values_of}
use Rattle.mechanism.specs.Stack.{pop_two, pop_first, pop_second}
use Rattle.machine.specs.World.{World}
use Rattle.machine.specs.Words.{StepResult, next, refused}
use Rattle.rust.specs.Errors.{StackUnderflow, Out, ok}
use Rattle.rust.specs.InlineVec as rust
use Rattle.rust.specs.Vm.{VM}
use Rattle.agreement.specs.View.{view}
use Rattle.agreement.specs.Agreement.{Agree, goes_on, lacks, errs, Over}
use Rattle.std.specs.Prelude.{Ok, Err, Result}

-- one off a stack that holds some
pub popped : (stack : List ℕ) (height : ℕ) → suc height ≤ 1000 → pop stack (suc height) ≡ Ok (get_or stack height 0, height)
unfolding pop if_some
popped stack height most = let z : suc height - 1 ≡ height = omega arith in rw (ne_eqb (suc height) 0 (λ e. omega arith), le-leb (suc height) 1000 most, z)

pub looked : (stack : List ℕ) (height : ℕ) → suc height ≤ 1000 → last stack (suc height) ≡ Ok (get_or stack height 0)
unfolding last if_some
looked stack height most = let z : suc height - 1 ≡ height = omega arith in rw (ne_eqb (suc height) 0 (λ e. omega arith), le-leb (suc height) 1000 most, z)

pub popped_both : (stack : List ℕ) (height : ℕ) → suc (suc height) ≤ 1000 → pop_two stack (suc (suc height)) ≡ Ok (get_or stack (suc height) 0, get_or stack height 0, height)
unfolding pop_two pop_first pop_second
popped_both stack height most = rw (popped stack (suc height) most) (rw (popped stack height (omega arith)))

pub popped_none : (stack : List ℕ) → pop stack 0 ≡ Err refusal.StackUnderflow
unfolding pop if_some
popped_none stack = refl

pub popped_not_both : (stack : List ℕ) → pop_two stack 1 ≡ Err refusal.StackUnderflow
unfolding pop_two pop_first pop_second
popped_not_both stack = rw (popped stack 0 (omega arith)) (rw (popped_none stack))

module _ {w : World} where
  -- on to a world whose view is known
  pub goes_by : (stale : ℕ) {v : World} {vm : VM} → Bytes v.pool → view stale v ≡ vm → Agree w (next v) (ok vm)
  goes_by stale {v} {vm} bytes e = subst (λ (s : VM). Agree w (next v) (ok s)) e (goes_on stale bytes)

  -- one test on both sides
  pub same : {A : Type 0} (f : A → StepResult) (b : Bool) {x y : A} {o p : Out VM} → (b ≡ true → Agree w (f x) o) → (b ≡ false → Agree w (f y) p)
      → Agree w (f (cond b x y)) (cond b o p)
  same f true t e = t refl
  same f false t e = e refl

  -- two tests that come to the same
  pub like : {A : Type 0} (f : A → StepResult) (b d : Bool) → d ≡ b → {x y : A} {o p : Out VM} → (b ≡ true → Agree w (f x) o) → (b ≡ false → Agree w (f y) p)
      → Agree w (f (cond b x y)) (cond d o p)
  like f b d e {x} {y} {o} {p} t f₀ = subst (λ (q : Bool). Agree w (f (cond b x y)) (cond q o p)) (sym e) (same f b t f₀)

  -- a test of the Rust alone, known
  pub holds : {a : StepResult} (d : Bool) → d ≡ true → {o : Out VM} (p : Out VM) → Agree w a o → Agree w a (cond d o p)
  holds {a} d e {o} p agrees = subst (λ (t : Bool). Agree w a (cond t o p)) (sym e) agrees

  pub fails : {a : StepResult} (d : Bool) → d ≡ false → (o : Out VM) {p : Out VM} → Agree w a p → Agree w a (cond d o p)
  fails {a} d e o {p} agrees = subst (λ (t : Bool). Agree w a (cond t o p)) (sym e) agrees

  -- a test that only this machine makes, for a limit that this port adds
  pub room : {A : Type 0} (f : A → StepResult) (b : Bool) {x y : A} {vm : VM} {r : Refusal} → f x ≡ refused r → (b ≡ true → Over w r vm) → (b ≡ false → Agree w (f y) (ok vm))
      → Agree w (f (cond b x y)) (ok vm)
  room f true {x} {y} {vm} e over fits = subst (λ (a : StepResult). Agree w a (ok vm)) (sym e) (lacks (over refl))
  room f false e over fits = fits refl

  -- one value off
  pub one_off : (stack : List ℕ) (height : ℕ) → height ≤ 1000 → (f : Result (ℕ × ℕ) Refusal → StepResult) (k : ℕ → List ℕ → Out VM)
      → f (Err refusal.StackUnderflow) ≡ refused refusal.StackUnderflow
      → ((h : ℕ) → height ≡ suc h → Agree w (f (Ok (get_or stack h 0, h))) (k (get_or stack h 0) (values_of h stack)))
      → Agree w (f (pop stack height)) (rust.pop (values_of height stack) k)
  unfolding values_of rust.pop
  one_off stack zero most f k under onto = rw (popped_none stack, under) (errs StackUnderflow)
  one_off stack (suc h) most f k under onto = rw (popped stack h most) (onto h refl)

  -- two values off
  pub two_off : (stack : List ℕ) (height : ℕ) → height ≤ 1000 → (f : Result (ℕ × ℕ × ℕ) Refusal → StepResult) (k : ℕ → ℕ → List ℕ → Out VM)
      → f (Err refusal.StackUnderflow) ≡ refused refusal.StackUnderflow
      → ((h : ℕ) → height ≡ suc (suc h) → Agree w (f (Ok (get_or stack (suc h) 0, get_or stack h 0, h))) (k (get_or stack (suc h) 0) (get_or stack h 0) (values_of h stack)))
      → Agree w (f (pop_two stack height)) (rust.pop (values_of height stack) λ a above. rust.pop above λ b below. k a b below)
  unfolding values_of rust.pop pop_two pop_first
  two_off stack zero most f k under onto = rw (popped_none stack, under) (errs StackUnderflow)
  two_off stack (suc zero) most f k under onto = rw (popped_not_both stack, under) (errs StackUnderflow)
  two_off stack (suc (suc h)) most f k under onto = rw (popped_both stack h most) (onto h refl)

  -- a look at the last one
  pub one_seen : (stack : List ℕ) (height : ℕ) → height ≤ 1000 → (f : Result ℕ Refusal → StepResult) (k : ℕ → Out VM)
      → f (Err refusal.StackUnderflow) ≡ refused refusal.StackUnderflow
      → ((h : ℕ) → height ≡ suc h → Agree w (f (Ok (get_or stack h 0))) (k (get_or stack h 0)))
      → Agree w (f (last stack height)) (rust.last (values_of height stack) k)
  unfolding values_of rust.last last if_some
  one_seen stack zero most f k under onto = rw under (errs StackUnderflow)
  one_seen stack (suc h) most f k under onto = rw (looked stack h most) (onto h refl)
