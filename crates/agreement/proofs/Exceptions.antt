-- What this machine and the Rust answer at an instruction that demand 2 leaves out, and the instructions before the first one.
use Prim.Native.Nat.{ℕ, zero, suc, ◌+◌, ◌-◌, ◌≤◌, ◌<◌}
use mathlib.Core.Bool.{Bool, true, false, cond, ◌&&◌, ◌||◌, not, and-false, true≢false}
use mathlib.Core.List.{List, ◌∷◌}
use mathlib.Core.Path.{◌≡◌, refl, sym, ap, ◌∙◌}
use native.Mathlib.Numerals.{add-one}
use native.Mathlib.Omega.{arith}
use lib.Dec.{eqb, leb}
use lib.ListN.{get_or, set}
use borrow.Author.Tests.{leb-true, eq-eqb, ne_eqb, eqb-true, lt-ltb}
use Rattle.errors.specs.declared.Refusal.TheVariants as refusal
use Rattle.bytecode.specs.Opcodes.{EQ, NEQ}
use Rattle.inlinevec.specs.Stacks.{values_of}
use Rattle.inlinevec.proofs.Lists.{length_values}
use Rattle.pools.proofs.Laws.{getD_entries}
use Rattle.values.specs.Values.{is_qnan, is_scalar, is_vec, raw_tag, fat_pointer, is_bool, one_vector, of_one_kind, alike, value_eq, to_u32, to_bool_val, bool_not}
use Rattle.values.specs.declared.FatPointer.{FatPointer}
use Rattle.values.proofs.Laws.{scalar_no_vec, scalar_boxed, bool_turned}
use Rattle.machine.specs.Machines.{current, code_of, op_at}
use Rattle.machine.specs.declared.Outcome.TheVariants.{Paused}
use Rattle.machine.specs.World.{World, op, place, height, at_end, moved, with_stack}
use Rattle.machine.specs.Words.{StepResult, next, refused, test, popped, pop, push, calculated}
use Rattle.machine.specs.Opcodes as opcodes
use Rattle.machine.specs.Step.{execute, step}
use Rattle.machine.specs.Run.{end_at, follow, run}
use Rattle.laws.specs.Sound.{Sound}
use Rattle.rust.specs.Errors as rust-errors
use Rattle.rust.specs.Errors.{Out, ok, err}
use Rattle.rust.specs.InlineVec as inlinevec
use Rattle.rust.specs.Values as values
use Rattle.rust.specs.Vm as rust
use Rattle.rust.specs.Vm.{VM, at, pushes}
use Rattle.agreement.specs.View.{view}
use Rattle.agreement.specs.Exceptions.{scalar_with_vector, true_with_false, excepted, excepted_answer, rust_excepted_answer, comes_later, comes_to_excepted}
use Rattle.agreement.proofs.Facts.{both, facts}
use Rattle.agreement.proofs.Laws as laws
use Rattle.std.specs.Prelude.{Ok}

-- ---- two such values

turned : (b : Bool) → not b ≡ true → b ≡ false
turned true e = absurd (true≢false (sym e))
turned false e = refl

-- a scalar with a vector
record Mixed (left right : ℕ) : Type 0 where
  left_boxed : is_qnan left ≡ true
  right_boxed : is_qnan right ≡ true
  one : one_vector left right ≡ true
  same_tag : eqb (raw_tag left) (raw_tag right) ≡ true

mixed : (left right : ℕ) → scalar_with_vector left right ≡ true → Mixed left right
unfolding scalar_with_vector
mixed left right e =
    let p = both (is_qnan left && is_qnan right && one_vector left right) (eqb (raw_tag left) (raw_tag right)) e in
    let q = both (is_qnan left && is_qnan right) (one_vector left right) p.0 in
    let r = both (is_qnan left) (is_qnan right) q.0 in
    record { left_boxed = r.0; right_boxed = r.1; one = q.1; same_tag = p.1 }

not_both : (left right : ℕ) → one_vector left right ≡ true → (is_vec left && is_vec right) ≡ false
unfolding one_vector
not_both left right = by (is_vec left) (is_vec right)
  where
    by : (a b : Bool) → cond a (not b) b ≡ true → (a && b) ≡ false
    by true true e = absurd (true≢false (sym e))
    by true false e = refl
    by false b e = refl

other_vector : (left right : ℕ) → one_vector left right ≡ true → is_vec right ≡ not (is_vec left)
unfolding one_vector
other_vector left right = by (is_vec left) (is_vec right)
  where
    by : (a b : Bool) → cond a (not b) b ≡ true → b ≡ not a
    by true true e = absurd (true≢false (sym e))
    by true false e = refl
    by false b e = e

-- TRUE with FALSE
bool_scalar : (v : ℕ) → is_bool v ≡ true → is_scalar v ≡ true
unfolding is_bool
bool_scalar v = by (is_scalar v)
  where
    by : (s : Bool) → cond s (cond (eqb (raw_tag v) 3) true (eqb (raw_tag v) 2)) false ≡ true → s ≡ true
    by true e = refl
    by false e = absurd (true≢false (sym e))

-- bools are compared by the whole word
bools_alike : (left right : ℕ) → is_bool left ≡ true → alike (raw_tag left) left right ≡ Ok (to_bool_val (eqb left right))
unfolding is_bool alike
bools_alike left right = by (is_scalar left) (eqb (raw_tag left) 3) (eqb (raw_tag left) 2) refl refl
  where
    by : (s a b : Bool) → eqb (raw_tag left) 3 ≡ a → eqb (raw_tag left) 2 ≡ b → cond s (cond a true b) false ≡ true → alike (raw_tag left) left right ≡ Ok (to_bool_val (eqb left right))
    by false a b p q e = absurd (true≢false (sym e))
    by true true b p q e = let tag : raw_tag left ≡ 3 = eqb-true _ _ p in ap (λ (n : ℕ). alike n left right) tag
    by true false true p q e = let tag : raw_tag left ≡ 2 = eqb-true _ _ q in ap (λ (n : ℕ). alike n left right) tag
    by true false false p q e = absurd (true≢false (sym e))

record Opposite (left right : ℕ) : Type 0 where
  left_bool : is_bool left ≡ true
  right_bool : is_bool right ≡ true
  other_tag : eqb (raw_tag left) (raw_tag right) ≡ false

opposite : (left right : ℕ) → true_with_false left right ≡ true → Opposite left right
unfolding true_with_false
opposite left right e =
    let p = both (is_bool left && is_bool right) (not (eqb (raw_tag left) (raw_tag right))) e in
    let q = both (is_bool left) (is_bool right) p.0 in
    record { left_bool = q.0; right_bool = q.1; other_tag = turned _ p.1 }

-- a scalar with a vector is not TRUE with FALSE
not_opposite : (left right : ℕ) → Mixed left right → true_with_false left right ≡ false
unfolding true_with_false
not_opposite left right m = simp m.same_tag (and-false (is_bool left && is_bool right))

-- ---- this machine

module _ (w : World) (left right : ℕ) (onward : ℕ → StepResult) where
  mixed_refused : Mixed left right → opcodes.equal w left right onward ≡ refused refusal.TypeMismatch
  unfolding opcodes.equal calculated value_eq
  mixed_refused m = rw (not_both left right m.one, m.left_boxed, m.right_boxed, m.one)

  opposite_compared : Opposite left right → opcodes.equal w left right onward ≡ onward (to_bool_val false)
  unfolding opcodes.equal calculated value_eq one_vector of_one_kind
  opposite_compared o =
      let a = bool_scalar left o.left_bool in
      let b = bool_scalar right o.right_bool in
      let unequal : eqb left right ≡ false = ne_eqb left right (λ e. absurd (true≢false (sym (eq-eqb _ _ (ap raw_tag e)) ∙ o.other_tag))) in
      rw (scalar_no_vec left a, scalar_no_vec right b, scalar_boxed left a, scalar_boxed right b, o.other_tag, o.left_bool, o.right_bool, bools_alike left right o.left_bool, unequal)

module _ (w : World) (s : Sound w) (i : ℕ) (two : w.machine.height ≡ suc (suc i)) where
  abbrev left : ℕ
  left = get_or w.stack i 0

  abbrev right : ℕ
  right = get_or w.stack (suc i) 0

  two_popped : (k : ℕ → ℕ → ℕ → StepResult) → (pop w (height w) λ second above. pop w above λ first below. k second first below) ≡ k right left i
  unfolding popped
  two_popped k =
      rw (two, laws.popped w.stack (suc i) (let most : w.machine.height ≤ 1000 = (facts s).height in omega arith), laws.popped w.stack i (let most : w.machine.height ≤ 1000 = (facts s).height in omega arith))

  bool_pushed : (b : Bool) → push w (place w + 1) i (to_bool_val b) ≡ next (moved (with_stack w (set w.stack i (to_bool_val b))) (place w + 1) (suc i))
  unfolding push test
  bool_pushed b = rw (lt-ltb i 1000 (let most : w.machine.height ≤ 1000 = (facts s).height in omega arith), add-one i)

  eq_mixed : Mixed left right → opcodes.eq w ≡ refused refusal.TypeMismatch
  unfolding opcodes.eq
  eq_mixed m = two_popped _ ∙ mixed_refused w left right _ m

  neq_mixed : Mixed left right → opcodes.neq w ≡ refused refusal.TypeMismatch
  unfolding opcodes.neq
  neq_mixed m = two_popped _ ∙ mixed_refused w left right _ m

  eq_opposite : Opposite left right → opcodes.eq w ≡ next (moved (with_stack w (set w.stack i (to_bool_val false))) (place w + 1) (suc i))
  unfolding opcodes.eq
  eq_opposite o = two_popped _ ∙ opposite_compared w left right _ o ∙ bool_pushed false

  neq_opposite : Opposite left right → opcodes.neq w ≡ next (moved (with_stack w (set w.stack i (to_bool_val true))) (place w + 1) (suc i))
  unfolding opcodes.neq
  neq_opposite o = two_popped _ ∙ opposite_compared w left right _ o ∙ ap (λ (v : ℕ). push w (place w + 1) i v) (bool_turned false) ∙ bool_pushed true

-- ---- the instruction at hand

record AtHand (w : World) : Type 0 where
  compares : (eqb (op w) EQ || eqb (op w) NEQ) ≡ true
  below : ℕ
  two : w.machine.height ≡ suc (suc below)
  values : (scalar_with_vector (get_or w.stack below 0) (get_or w.stack (suc below) 0) || true_with_false (get_or w.stack below 0) (get_or w.stack (suc below) 0)) ≡ true

at_hand : (w : World) → excepted w ≡ true → AtHand w
unfolding excepted
at_hand w e =
    let p = both ((eqb (op w) EQ || eqb (op w) NEQ) && leb 2 (height w)) _ e in
    let q = both (eqb (op w) EQ || eqb (op w) NEQ) (leb 2 (height w)) p.0 in
    let some : 2 ≤ w.machine.height = leb-true _ _ q.1 in
    let right_is : w.machine.height - 1 ≡ suc (w.machine.height - 2) = omega arith in
    record { compares = q.0; below = w.machine.height - 2; two = omega arith; values = simp right_is at p.1 }

-- a step at EQ and at NEQ
at_eq : (w : World) → at_end w ≡ false → eqb (op w) EQ ≡ true → step w ≡ opcodes.eq w
unfolding step execute op_at
at_eq w before e = let is : op w ≡ EQ = eqb-true _ _ e in rw (before, is)

at_neq : (w : World) → at_end w ≡ false → eqb (op w) NEQ ≡ true → step w ≡ opcodes.neq w
unfolding step execute op_at
at_neq w before e = let is : op w ≡ NEQ = eqb-true _ _ e in rw (before, is)

module _ (w : World) (s : Sound w) (before : at_end w ≡ false) where
  -- this machine's answer, by the two values
  mixed_answer : (h : AtHand w) → scalar_with_vector (get_or w.stack h.below 0) (get_or w.stack (suc h.below) 0) ≡ true → step w ≡ refused refusal.TypeMismatch
  mixed_answer h e = by (eqb (op w) EQ) (eqb (op w) NEQ) refl refl h.compares
    where
      m : Mixed (get_or w.stack h.below 0) (get_or w.stack (suc h.below) 0)
      m = mixed _ _ e

      by : (a b : Bool) → eqb (op w) EQ ≡ a → eqb (op w) NEQ ≡ b → (a || b) ≡ true → step w ≡ refused refusal.TypeMismatch
      by true b p q is = at_eq w before p ∙ eq_mixed w s h.below h.two m
      by false true p q is = at_neq w before q ∙ neq_mixed w s h.below h.two m
      by false false p q is = absurd (true≢false (sym is))

  opposite_answer : (h : AtHand w) → true_with_false (get_or w.stack h.below 0) (get_or w.stack (suc h.below) 0) ≡ true
      → step w ≡ next (moved (with_stack w (set w.stack h.below (to_bool_val (eqb (op w) NEQ)))) (place w + 1) (suc h.below))
  opposite_answer h e = by (eqb (op w) EQ) (eqb (op w) NEQ) refl refl h.compares
    where
      o : Opposite (get_or w.stack h.below 0) (get_or w.stack (suc h.below) 0)
      o = opposite _ _ e

      by : (a b : Bool) → eqb (op w) EQ ≡ a → eqb (op w) NEQ ≡ b → (a || b) ≡ true
          → step w ≡ next (moved (with_stack w (set w.stack h.below (to_bool_val b))) (place w + 1) (suc h.below))
      by true true p q is = let eq : op w ≡ EQ = eqb-true _ _ p in let neq : op w ≡ NEQ = eqb-true _ _ q in absurd (omega (arith, eq, neq))
      by true false p q is = at_eq w before p ∙ eq_opposite w s h.below h.two o
      by false true p q is = at_neq w before q ∙ neq_opposite w s h.below h.two o
      by false false p q is = absurd (true≢false (sym is))

  -- what this machine answers at an instruction that is left out
  pub answers_excepted : excepted w ≡ true → step w ≡ excepted_answer w
  unfolding excepted_answer
  answers_excepted e =
      let h = at_hand w e in
      let right_is : w.machine.height - 1 ≡ suc h.below = let two = h.two in omega arith in
      let left_is : w.machine.height - 2 ≡ h.below = let two = h.two in omega arith in
      rw (right_is, left_is) (by h _ refl h.values)
    where
      by : (h : AtHand w) (a : Bool) → scalar_with_vector (get_or w.stack h.below 0) (get_or w.stack (suc h.below) 0) ≡ a
          → (a || true_with_false (get_or w.stack h.below 0) (get_or w.stack (suc h.below) 0)) ≡ true
          → step w ≡ cond a (refused refusal.TypeMismatch) (next (moved (with_stack w (set w.stack h.below (to_bool_val (eqb (op w) NEQ)))) (place w + 1) (suc h.below)))
      by h true p is = mixed_answer h p
      by h false p is = opposite_answer h is

-- ---- the Rust

-- a comparison by the tag, and what goes on from its answer
alike_onward : {A : Type 0} (tag left right : ℕ) (k l : ℕ → Out A) → ((value : ℕ) → k value ≡ l value) → values.alike tag left right k ≡ values.alike tag left right l
unfolding values.alike
alike_onward tag left right k l same = by (eqb tag 6 || eqb tag 5) (eqb tag 3 || eqb tag 2)
  where
    by : (a b : Bool) → cond a (k (to_bool_val (eqb (to_u32 left) (to_u32 right)))) (cond b (k (to_bool_val (eqb left right))) (err rust-errors.InvalidType))
        ≡ cond a (l (to_bool_val (eqb (to_u32 left) (to_u32 right)))) (cond b (l (to_bool_val (eqb left right))) (err rust-errors.InvalidType))
    by true b = same _
    by false true = same _
    by false false = refl

module _ (w : World) (stale : ℕ) (s : Sound w) (i : ℕ) (two : w.machine.height ≡ suc (suc i)) where
  abbrev to : ℕ
  to = place w + 1

  abbrev one : ℕ
  one = get_or w.stack i 0

  abbrev other : ℕ
  other = get_or w.stack (suc i) 0

  abbrev after : ℕ → VM
  after value = at (view stale w) to (value ∷ values_of i w.stack)

  -- the answer, with the values by their places; g is EQ's own answer or NEQ's, which turns it round
  abbrev answered : (ℕ → ℕ) → Out VM
  answered g =
      cond (true_with_false one other) (err rust-errors.TypeMismatch)
      (cond (is_vec one) (err rust-errors.InvalidType) (values.alike (raw_tag one) one other λ equal. ok (after (g equal))))

  -- a bool is pushed
  rust_pushed : (value : ℕ) → pushes (view stale w) to (values_of i w.stack) value ≡ ok (after value)
  unfolding pushes inlinevec.push
  rust_pushed value = rw (length_values w.stack i, lt-ltb i 1000 (let most : w.machine.height ≤ 1000 = (facts s).height in omega arith))

  -- an arm of the Rust, for EQ or for NEQ
  rust_arm : (g : ℕ → ℕ) (vectors : FatPointer → FatPointer → Out VM) (scalars : Out VM)
      → (Mixed one other → scalars ≡ values.alike (raw_tag one) one other λ equal. ok (after (g equal)))
      → (scalar_with_vector one other || true_with_false one other) ≡ true
      → (values.tag one λ tag-left. values.tag other λ tag-right. cond (eqb tag-left tag-right) (cond (is_vec one) (values.to_fat_pointer one λ a. values.to_fat_pointer other λ b. vectors a b) scalars) (err rust-errors.TypeMismatch))
      ≡ answered g
  unfolding values.tag values.to_fat_pointer
  rust_arm g vectors scalars given e = by (scalar_with_vector one other) refl e
    where
      -- behind the test of the tags
      behind : Out VM
      behind = cond (is_vec one) (cond (is_vec one) (cond (is_vec other) (vectors (fat_pointer one) (fat_pointer other)) (err rust-errors.InvalidType)) (err rust-errors.InvalidType)) scalars

      kinds : Mixed one other → (b : Bool) → is_vec one ≡ b
          → cond b (cond b (cond (is_vec other) (vectors (fat_pointer one) (fat_pointer other)) (err rust-errors.InvalidType)) (err rust-errors.InvalidType)) scalars
          ≡ cond b (err rust-errors.InvalidType) (values.alike (raw_tag one) one other λ equal. ok (after (g equal)))
      kinds m true v = rw (other_vector one other m.one, v)
      kinds m false v = given m

      by : (b : Bool) → scalar_with_vector one other ≡ b → (b || true_with_false one other) ≡ true
          → cond (is_qnan one) (cond (is_qnan other) (cond (eqb (raw_tag one) (raw_tag other)) behind (err rust-errors.TypeMismatch)) (err rust-errors.InvalidType)) (err rust-errors.InvalidType) ≡ answered g
      by true mixes is = let m = mixed one other mixes in rw (m.left_boxed, m.right_boxed, m.same_tag, not_opposite one other m) (kinds m (is_vec one) refl)
      by false mixes is =
          let o = opposite one other is in
          rw (scalar_boxed one (bool_scalar one o.left_bool), scalar_boxed other (bool_scalar other o.right_bool), o.other_tag, is)

  -- the comparison of two scalars
  eq_scalars : Mixed one other → (values.value_eq one other λ equal. pushes (view stale w) to (values_of i w.stack) equal) ≡ values.alike (raw_tag one) one other λ equal. ok (after equal)
  unfolding values.value_eq values.tag
  eq_scalars m = rw (m.left_boxed, m.right_boxed, m.same_tag) (alike_onward (raw_tag one) one other _ _ rust_pushed)

  neq_scalars : Mixed one other → (values.value_neq one other λ unequal. pushes (view stale w) to (values_of i w.stack) unequal) ≡ values.alike (raw_tag one) one other λ equal. ok (after (bool_not equal))
  unfolding values.value_neq values.value_eq values.tag
  neq_scalars m = rw (m.left_boxed, m.right_boxed, m.same_tag) (alike_onward (raw_tag one) one other _ _ (λ equal. rust_pushed (bool_not equal)))

  -- two values off the Rust's stack
  two_taken : (k : ℕ → ℕ → List ℕ → Out VM) → (inlinevec.pop (values_of w.machine.height w.stack) λ right above. inlinevec.pop above λ left below. k right left below) ≡ k other one (values_of i w.stack)
  unfolding inlinevec.pop values_of
  two_taken k = ap (λ (n : ℕ). inlinevec.pop (values_of n w.stack) λ right above. inlinevec.pop above λ left below. k right left below) two

  rust_eq : (scalar_with_vector one other || true_with_false one other) ≡ true → rust.eq to (view stale w) ≡ answered (λ value. value)
  unfolding rust.eq view
  rust_eq e = two_taken _ ∙ rust_arm (λ value. value) _ _ eq_scalars e

  rust_neq : (scalar_with_vector one other || true_with_false one other) ≡ true → rust.neq to (view stale w) ≡ answered bool_not
  unfolding rust.neq view
  rust_neq e = two_taken _ ∙ rust_arm bool_not _ _ neq_scalars e

module _ (w : World) (stale : ℕ) (s : Sound w) (before : at_end w ≡ false) where
  -- a turn of the Rust at EQ and at NEQ
  rust_at : (n : ℕ) → op w ≡ n → rust.step (view stale w) ≡ rust.exec n (code_of w.pool w.ends w.machine) (place w + 1) (view stale w)
  unfolding rust.step view code_of op_at
  rust_at n e = rw (getD_entries w.pool w.ends w.machine.entries (current w.machine.frames).entry.0 (facts s).frame, e)

  rust_at_eq : eqb (op w) EQ ≡ true → rust.step (view stale w) ≡ rust.eq (place w + 1) (view stale w)
  unfolding rust.exec
  rust_at_eq e = rust_at EQ (eqb-true _ _ e)

  rust_at_neq : eqb (op w) NEQ ≡ true → rust.step (view stale w) ≡ rust.neq (place w + 1) (view stale w)
  unfolding rust.exec
  rust_at_neq e = rust_at NEQ (eqb-true _ _ e)

  rust_answered : (h : AtHand w) → rust.step (view stale w) ≡ answered w stale s h.below h.two (λ equal. cond (eqb (op w) EQ) equal (bool_not equal))
  rust_answered h = by (eqb (op w) EQ) (eqb (op w) NEQ) refl refl h.compares
    where
      by : (a b : Bool) → eqb (op w) EQ ≡ a → eqb (op w) NEQ ≡ b → (a || b) ≡ true → rust.step (view stale w) ≡ answered w stale s h.below h.two (λ equal. cond a equal (bool_not equal))
      by true b p q is = rust_at_eq p ∙ rust_eq w stale s h.below h.two h.values
      by false true p q is = rust_at_neq q ∙ rust_neq w stale s h.below h.two h.values
      by false false p q is = absurd (true≢false (sym is))

  -- what the Rust answers at an instruction that is left out
  pub rust_answers_excepted : excepted w ≡ true → rust.step (view stale w) ≡ rust_excepted_answer stale w
  unfolding rust_excepted_answer
  rust_answers_excepted e =
      let h = at_hand w e in
      let right_is : w.machine.height - 1 ≡ suc h.below = let two = h.two in omega arith in
      let left_is : w.machine.height - 2 ≡ h.below = let two = h.two in omega arith in
      rw (right_is, left_is) (rust_answered h)

-- ---- the instructions before the first one that is left out

-- a run that comes to one: so many instructions are finished before it, none of them left out
pub record Before (fuel : ℕ) (w : World) : Type 0 where
  pub finished : ℕ
  pub fewer : finished < fuel
  pub none : comes_to_excepted finished w ≡ false
  pub reached : World
  pub paused : run finished w ≡ end_at reached 0 Paused
  pub before_end : at_end reached ≡ false
  pub is_excepted : excepted reached ≡ true

pub comes_before : (fuel : ℕ) (w : World) → comes_to_excepted fuel w ≡ true → Before fuel w
unfolding comes_to_excepted run comes_later follow
comes_before zero w e = absurd (true≢false (sym e))
comes_before (suc fuel) w e = by (at_end w) (excepted w) (step w) refl refl refl (λ v. comes_before fuel v) e
  where
    by : (a b : Bool) (result : StepResult) → at_end w ≡ a → excepted w ≡ b → step w ≡ result → ((v : World) → comes_to_excepted fuel v ≡ true → Before fuel v)
        → cond a false (cond b true (comes_later (λ v. comes_to_excepted fuel v) result)) ≡ true → Before (suc fuel) w
    by true b result p q r later is = absurd (true≢false (sym is))
    by false true result p q r later is =
        record { finished = 0; fewer = omega arith; none = refl; reached = w; paused = rw p; before_end = p; is_excepted = q }
    by false false (refused number) p q r later is = absurd (true≢false (sym is))
    by false false (next v) p q r later is =
        let l = later v is in
        record {
          finished = suc l.finished;
          fewer = let few = l.fewer in omega arith;
          none = rw (p, q, r) l.none;
          reached = l.reached;
          paused = rw (p, r) l.paused;
          before_end = l.before_end;
          is_excepted = l.is_excepted;
        }
