-- The kinds of boxed values, and of the values on a stack.
use Prim.Native.Nat.{ℕ, suc, ◌+◌, ◌-◌, ◌≤◌, ◌<◌}
use mathlib.Core.Path.{◌≡◌, refl, sym, ap, subst}
use mathlib.Core.Bool.{Bool}
use mathlib.Core.List.{List, [], ◌∷◌}
use native.Mathlib.Numerals.{add-one}
use native.Mathlib.Omega.{arith}
use lib.ListN.{length, get_or, set}
use lib.Seq.{get_or-set_same, get_or-set_other}
use borrow.Author.Tests.{ne_eqb, le-leb}
use Rattle.values.specs.Values.{make_vec_tagged, to_u32_val, to_calldata_val, to_bool_val}
use Rattle.values.proofs.Laws.{scalar_is_scalar, scalar_tag_back, vec_is_vec, vec_tag_back}
use Rattle.inlinevec.specs.Stacks.{if_some, pop, last}
use Rattle.mechanism.specs.Stack.{pop_second, pop_first, pop_two}
use Rattle.labels.specs.declared.Kind.{Kind}
use Rattle.labels.specs.declared.Kind.TheVariants.{Number, Calldata, Boolean, Text, Numbers}
use Rattle.safety.specs.Kinds.{HasKind}
use Rattle.std.specs.Prelude.{Ok}

-- ---- boxes

pub number_kind : (n : ℕ) → HasKind Number (to_u32_val n)
number_kind n = (scalar_is_scalar 6 n, scalar_tag_back 6 n (omega arith))

pub calldata_kind : (n : ℕ) → HasKind Calldata (to_calldata_val n)
calldata_kind n = (scalar_is_scalar 5 n, scalar_tag_back 5 n (omega arith))

pub bool_kind : (b : Bool) → HasKind Boolean (to_bool_val b)
bool_kind b = (b, refl)

pub text_kind : (offset size : ℕ) → HasKind Text (make_vec_tagged offset size 4)
text_kind offset size = (vec_is_vec offset size 4, vec_tag_back offset size 4 (omega arith))

pub numbers_kind : (offset size : ℕ) → HasKind Numbers (make_vec_tagged offset size 6)
numbers_kind offset size = (vec_is_vec offset size 6, vec_tag_back offset size 6 (omega arith))

-- ---- the values of a stack, top first

pub data Kinded (stack : List ℕ) : ℕ → List Kind → Type 0 where
  nil : Kinded stack 0 []
  more : {height : ℕ} {kind : Kind} {kinds : List Kind} → HasKind kind (get_or stack height 0) → Kinded stack height kinds → Kinded stack (suc height) (kind ∷ kinds)

pub lengths : {stack : List ℕ} {height : ℕ} {kinds : List Kind} → Kinded stack height kinds → height ≡ length kinds
lengths nil = refl
lengths (more has rest) = ap suc (lengths rest)

-- a value written above them
pub kept_below : {stack : List ℕ} {height : ℕ} {kinds : List Kind} (i value : ℕ) → height ≤ i → Kinded stack height kinds → Kinded (set stack i value) height kinds
kept_below i value above nil = nil
kept_below {stack} i value above (more {height = h} {kind = kind} has rest) =
    more (subst (HasKind kind) (sym (get_or-set_other stack i h value 0 (λ e. omega arith))) has) (kept_below i value (omega arith) rest)

-- one value more
pub put_on : {stack : List ℕ} {height : ℕ} {kind : Kind} {kinds : List Kind} (value : ℕ) → height < length stack → HasKind kind value → Kinded stack height kinds → Kinded (set stack height value) (suc height) (kind ∷ kinds)
put_on {stack} {height} {kind} value inside has rest =
    more (subst (HasKind kind) (sym (get_or-set_same stack height value 0 inside)) has) (kept_below height value (omega arith) rest)

pub pushed : {stack : List ℕ} {height : ℕ} {kind : Kind} {kinds : List Kind} (value : ℕ) → height < length stack → HasKind kind value → Kinded stack height kinds → Kinded (set stack height value) (height + 1) (kind ∷ kinds)
pushed {height = height} value inside has rest = rw (add-one height) (put_on value inside has rest)

-- ---- values taken

module _ (stack : List ℕ) (h : ℕ) where
  pub popped : suc h ≤ 1000 → pop stack (suc h) ≡ Ok (get_or stack h 0, h)
  unfolding pop if_some
  popped few =
      let one : suc h - 1 ≡ h = omega arith in
      simp (ne_eqb (suc h) 0 (λ e. omega arith), le-leb (suc h) 1000 few, one)

  pub looked : suc h ≤ 1000 → last stack (suc h) ≡ Ok (get_or stack h 0)
  unfolding last if_some
  looked few =
      let one : suc h - 1 ≡ h = omega arith in
      simp (ne_eqb (suc h) 0 (λ e. omega arith), le-leb (suc h) 1000 few, one)

pub popped_two : (stack : List ℕ) (h : ℕ) → suc (suc h) ≤ 1000 → pop_two stack (suc (suc h)) ≡ Ok (get_or stack (suc h) 0, get_or stack h 0, h)
unfolding pop_two pop_first pop_second
popped_two stack h few = simp (popped stack (suc h) few, popped stack h (omega arith))
