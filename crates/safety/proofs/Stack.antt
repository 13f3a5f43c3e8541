-- The opcodes over the stack and the loops, on values that have the kinds of their rules.
use Prim.Native.Nat.{ℕ, suc, ◌+◌, ◌≤◌}
use mathlib.Core.Path.{◌≡◌, ◌∙◌, subst}
use mathlib.Core.Bool.{Bool, false, cond}
use mathlib.Core.List.{List, [], ◌∷◌}
use mathlib.Core.Option.{none, some}
use native.Mathlib.Numerals.{add-one}
use native.Mathlib.Omega.{arith}
use lib.Dec.{eqb, ltb}
use lib.ListN.{length, get_or, set, length-set}
use Rattle.values.specs.Values.{to_bool_val}
use Rattle.slices.specs.Same.{same}
use Rattle.slices.proofs.Equality.{same_equal}
use Rattle.inlinevec.specs.Stacks.{if_room, if_some, push_two, last_two, push_onto, pop_off, last_on}
use Rattle.inlinevec.specs.Stacks as stacks
use Rattle.mechanism.specs.Stack.{op_push, on_two, op_mul, op_compare, on_one, op_muli, dup_last, op_dup, swapped, op_swap, dropped, op_drop}
use Rattle.mechanism.specs.Control.{opened_to, do_two, op_do, looped, op_loop, index_of, op_loop_index, jumped, op_jump_if_false}
use Rattle.mechanism.specs.Equality.{op_eq}
use Rattle.labels.specs.declared.Kind.{Kind}
use Rattle.labels.specs.declared.Kind.TheVariants.{Number, Boolean}
use Rattle.labels.specs.declared.Exchange.TheVariants.{Adds, Turns, Joins, Dup, Swap, Drop, Compares}
use Rattle.labels.specs.Labels.{letters, Open, opened, Label, closes, needs_open}
use Rattle.labels.proofs.Comparison.{letters_equal}
use Rattle.mechanism.proofs.Either.{either}
use Rattle.safety.proofs.Kinded.{Kinded, more, number_kind, put_on, popped, looked, popped_two}
use Rattle.safety.proofs.Rules.{passed, no_answer, Shape, is_adds, is_turns, is_joins, is_dup, is_swap, is_drop, is_compares}
use Rattle.safety.proofs.Calculations.{mul_result, muli_result, compare_result, equality_result}
use Rattle.safety.proofs.Holds.{registers_at, At, goes_back, Looping, none_open, one_open, two_open, starts, Good, goes_on, GoodOn, push_good, finish_good}
use Rattle.std.specs.Prelude.{Result}
use Rattle.errors.specs.declared.Refusal.{Refusal}
use Rattle.mechanism.specs.declared.Registers.{Registers}
use Rattle.inlinevec.specs.declared.Two.{Two}
use Rattle.inlinevec.specs.declared.Loop.{Loop}

module _ (code : List ℕ) (labels : ℕ → Label) (place used next : ℕ) (stack : List ℕ) (lent : length stack ≡ 1000) where
  -- PUSH_U32, PUSH_STATE, PUSH_MAX_STATES, a lone PUSH_TASK_FIELD, S_LEN
  pub number_good : {height : ℕ} {loops : Two Loop} {kinds left : List Kind} {opens : List Open} (number : ℕ) → Shape (Adds Number) kinds left → At code labels next left opens → Kinded stack height kinds → Looping code labels loops opens
      → GoodOn code labels (op_push stack (registers_at place height loops used) next number)
  unfolding op_push
  number_good {height} {loops} number is_adds at kinded looping = push_good code labels (registers_at place height loops used) next height _ stack lent at (number_kind number) kinded looping

  pub mul_good : {height : ℕ} {loops : Two Loop} {kinds left : List Kind} {opens : List Open} → height ≤ 1000 → Shape (Joins Number) kinds left → At code labels next left opens → Kinded stack height kinds → Looping code labels loops opens
      → GoodOn code labels (op_mul stack (registers_at place height loops used) next)
  unfolding op_mul on_two
  mul_good {loops = loops} few is_joins at (more a (more {height = h} b rest)) looping =
      rw (popped_two stack h few) (finish_good code labels (registers_at place (suc (suc h)) loops used) next h stack lent at (mul_result _ _ a b) rest looping)

  pub muli_good : {height : ℕ} {loops : Two Loop} {kinds left : List Kind} {opens : List Open} (number : ℕ) → height ≤ 1000 → Shape (Turns Number Number) kinds left → At code labels next left opens → Kinded stack height kinds → Looping code labels loops opens
      → GoodOn code labels (op_muli stack (registers_at place height loops used) next number)
  unfolding op_muli on_one
  muli_good {loops = loops} number few is_turns at (more {height = h} a rest) looping =
      rw (popped stack h few) (finish_good code labels (registers_at place (suc h) loops used) next h stack lent at (muli_result _ number a) rest looping)

  pub compare_good : {height : ℕ} {loops : Two Loop} {kinds left : List Kind} {opens : List Open} (is_lt : Bool) → height ≤ 1000 → Shape (Joins Boolean) kinds left → At code labels next left opens → Kinded stack height kinds → Looping code labels loops opens
      → GoodOn code labels (op_compare stack (registers_at place height loops used) next is_lt)
  unfolding op_compare on_two
  compare_good {loops = loops} is_lt few is_joins at (more a (more {height = h} b rest)) looping =
      rw (popped_two stack h few) (finish_good code labels (registers_at place (suc (suc h)) loops used) next h stack lent at (compare_result _ _ is_lt b a) rest looping)

  pub equality_good : {height : ℕ} {loops : Two Loop} {kinds left : List Kind} {opens : List Open} (memory : List ℕ) (is_eq : Bool) → height ≤ 1000 → Shape Compares kinds left → At code labels next left opens
      → Kinded stack height kinds → Looping code labels loops opens → GoodOn code labels (op_eq stack memory (registers_at place height loops used) next is_eq)
  unfolding op_eq on_two
  equality_good {loops = loops} memory is_eq few (is_compares {kind = kind}) at (more a (more {height = h} b rest)) looping =
      rw (popped_two stack h few) (finish_good code labels (registers_at place (suc (suc h)) loops used) next h stack lent at (equality_result is_eq _ _ _ kind b a) rest looping)

  pub dup_good : {height : ℕ} {loops : Two Loop} {kinds left : List Kind} {opens : List Open} → height ≤ 1000 → Shape Dup kinds left → At code labels next left opens → Kinded stack height kinds → Looping code labels loops opens
      → GoodOn code labels (op_dup stack (registers_at place height loops used) next)
  unfolding op_dup dup_last
  dup_good {loops = loops} few is_dup at (more {height = h} a rest) looping =
      rw (looked stack h few) (push_good code labels (registers_at place (suc h) loops used) next (suc h) _ stack lent at a (more a rest) looping)

  pub swap_good : {height : ℕ} {loops : Two Loop} {kinds left : List Kind} {opens : List Open} → height ≤ 1000 → Shape Swap kinds left → At code labels next left opens → Kinded stack height kinds → Looping code labels loops opens
      → GoodOn code labels (op_swap stack (registers_at place height loops used) next)
  unfolding op_swap swapped
  swap_good {loops = loops} few is_swap at (more a (more {height = h} b rest)) looping =
      let long : length (set stack h (get_or stack (suc h) 0)) ≡ 1000 = length-set stack h (get_or stack (suc h) 0) ∙ lent in
      rw (popped_two stack h few, add-one h)
      (goes_on (length-set (set stack h (get_or stack (suc h) 0)) (suc h) (get_or stack h 0) ∙ long)
      (starts at (put_on (get_or stack h 0) (omega arith) b (put_on (get_or stack (suc h) 0) (omega arith) a rest)) looping))

  pub drop_good : {height : ℕ} {loops : Two Loop} {kinds left : List Kind} {opens : List Open} → height ≤ 1000 → Shape Drop kinds left → At code labels next left opens → Kinded stack height kinds → Looping code labels loops opens
      → Good code labels (op_drop stack (registers_at place height loops used) next) stack
  unfolding op_drop dropped
  drop_good few is_drop at (more {height = h} a rest) looping = rw (popped stack h few) (goes_on lent (starts at rest looping))

  -- JUMP_IF_FALSE: the target has the label of the element behind it
  pub jump_good : {height : ℕ} {loops : Two Loop} {kinds : List Kind} {opens : List Open} (target : ℕ) → height ≤ 1000 → At code labels next kinds opens → At code labels target kinds opens → Kinded stack height (Boolean ∷ kinds)
      → Looping code labels loops opens → Good code labels (op_jump_if_false stack (registers_at place height loops used) next target) stack
  unfolding op_jump_if_false jumped
  jump_good target few at there (more {height = h} a rest) looping =
      rw (popped stack h few)
      (either (λ (result : Result Registers Refusal). Good code labels result stack) (eqb (get_or stack h 0) (to_bool_val false)) _ _ (goes_on lent (starts there rest looping)) (goes_on lent (starts at rest looping)))

  -- ---- the loops

  -- DO opens a loop
  opened_good : {height : ℕ} {loops : Two Loop} {kinds : List Kind} {opens : List Open} (before index limit : ℕ) → At code labels next kinds (opened next kinds ∷ opens) → Kinded stack height kinds → Looping code labels loops opens
      → Good code labels (opened_to (registers_at place before loops used) next height (push_onto loops (record { place = next; index = index; limit = limit }))) stack
  unfolding opened_to push_onto if_room push_two
  opened_good before index limit at kinded none_open = goes_on lent (starts at kinded (one_open (goes_back at)))
  opened_good before index limit at kinded (one_open first) = goes_on lent (starts at kinded (two_open first (goes_back at)))
  opened_good before index limit at kinded (two_open first second) = absurd (omega (arith, at.few_loops))

  pub do_good : {height : ℕ} {loops : Two Loop} {kinds : List Kind} {opens : List Open} → height ≤ 1000 → At code labels next kinds (opened next kinds ∷ opens) → Kinded stack height (Number ∷ Number ∷ kinds) → Looping code labels loops opens
      → Good code labels (op_do stack (registers_at place height loops used) next) stack
  unfolding op_do do_two
  do_good few at (more a (more {height = h} b rest)) looping = rw (popped_two stack h few) (opened_good (suc (suc h)) _ _ at rest looping)

  -- LOOP finds the kinds that its DO left
  kinds_left : (kinds left : List Kind) (loops rest : List Open) → cond (same (letters kinds) (letters left)) (some loops) none ≡ some rest → (kinds ≡ left) × (loops ≡ rest)
  kinds_left kinds left loops rest e =
      let p = passed (same (letters kinds) (letters left)) (some loops) rest e in
      let q : some loops ≡ some rest = p.1 in
      (letters_equal kinds left (same_equal (letters kinds) (letters left) p.0), cc)

  pub loop_good : {height : ℕ} {loops : Two Loop} {kinds : List Kind} {opens rest : List Open} → closes kinds opens ≡ some rest → At code labels next kinds rest → Kinded stack height kinds → Looping code labels loops opens
      → Good code labels (op_loop (registers_at place height loops used) next) stack
  unfolding op_loop looped opened_to push_onto pop_off if_room if_some push_two last_two stacks.pop_two
  loop_good closing at kinded none_open = no_answer closing
  loop_good {kinds = kinds} {rest = rest} closing at kinded (one_open {outer = outer} (goes_back {left = left} back)) =
      let same = kinds_left kinds left [] rest closing in
      either (λ (result : Result Registers Refusal). Good code labels result stack) (ltb (outer.index + 1) outer.limit) _ _
      (goes_on lent (starts back (rw same.0 at kinded) (one_open (goes_back back))))
      (goes_on lent (starts (rw (← same.1) at at) kinded none_open))
  loop_good {kinds = kinds} {rest = rest} closing at kinded (two_open {inner = inner} {first = first} outer (goes_back {left = left} back)) =
      let same = kinds_left kinds left (first ∷ []) rest closing in
      either (λ (result : Result Registers Refusal). Good code labels result stack) (ltb (inner.index + 1) inner.limit) _ _
      (goes_on lent (starts back (rw same.0 at kinded) (two_open outer (goes_back back))))
      (goes_on lent (starts (rw (← same.1) at at) kinded (one_open outer)))

  pub loop_index_good : {height : ℕ} {loops : Two Loop} {kinds : List Kind} {opens rest : List Open} → needs_open opens ≡ some rest → At code labels next (Number ∷ kinds) rest → Kinded stack height kinds → Looping code labels loops opens
      → GoodOn code labels (op_loop_index stack (registers_at place height loops used) next)
  unfolding op_loop_index index_of last_on if_some last_two
  loop_index_good needed at kinded none_open = no_answer needed
  loop_index_good {height} {rest = rest} needed at kinded (one_open {outer} {inner} {first} o) =
      let same : first ∷ [] ≡ rest = cc in
      push_good code labels _ next height _ stack lent at (number_kind _) kinded (subst (λ (os : List Open). Looping code labels (record { count = 1; first = outer; second = inner }) os) same (one_open o))
  loop_index_good {height} {rest = rest} needed at kinded (two_open {outer} {inner} {first} {second} o i) =
      let same : second ∷ first ∷ [] ≡ rest = cc in
      push_good code labels _ next height _ stack lent at (number_kind _) kinded (subst (λ (os : List Open). Looping code labels (record { count = 2; first = outer; second = inner }) os) same (two_open o i))
