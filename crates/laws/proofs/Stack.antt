-- Instructions over the stack keep the registers and the stack sound.
use Prim.Native.Nat.{ℕ, ◌+◌, ◌-◌, ◌≤◌, ◌<◌}
use mathlib.Core.Bool.{Bool, true, false, cond}
use mathlib.Core.List.{List}
use mathlib.Core.Path.{◌≡◌, refl, sym, ◌∙◌, subst}
use native.Mathlib.Decide.{ℕ_discrete}
use native.Mathlib.Omega.{arith}
use lib.Dec.{eqb, ltb, leb}
use lib.ListN.{length, get_or, set, length-set}
use lib.Seq.{get_or-set_same, get_or-set_other}
use borrow.Author.Tests.{eqb-false, ltb-true}
use Rattle.errors.specs.declared.Refusal.{Refusal}
use Rattle.errors.specs.declared.Refusal.TheVariants.{StackOverflow}
use Rattle.values.specs.Values.{to_bool_val, is_vec, mul_checked, mul_checked_i, value_cmp}
use Rattle.inlinevec.specs.Stacks as stacks
use Rattle.inlinevec.specs.Stacks.{Stacked, stacked, if_room, if_some, push, pop, last, push_two, push_onto, pop_off}
use Rattle.inlinevec.specs.declared.Two.{Two}
use Rattle.inlinevec.specs.declared.Loop.{Loop}
use Rattle.mechanism.specs.Registers.{OnStack, on_stack, moved, in_use}
use Rattle.mechanism.specs.Stack.{pop_second, pop_first, pop_two, pushed_to, push_value, finish, op_push, on_two, op_mul, op_compare, on_one, op_muli, dup_last, op_dup, swapped, op_swap, dropped, op_drop}
use Rattle.mechanism.specs.Control.{looping, opened_to, do_two, op_do, looped, op_loop, index_of, op_loop_index, jumped, op_jump_if_false}
use Rattle.mechanism.specs.Equality.{eq_values, turned_if, op_eq}
use Rattle.mechanism.specs.declared.Registers.{Registers}
use Rattle.laws.specs.Sound.{Inside}
use Rattle.laws.proofs.Either.{either}
use Rattle.laws.proofs.Values.{Scalar, scalar, no_scalar, boxed_no_vec, no_vec_inside, mul_scalar, muli_scalar, compare_scalar, eq_scalar}
use Rattle.std.specs.Prelude.{Ok, Err, Result}

-- a height, so many loops and so many bytes in use are sound beside a stack and so many bytes of lent memory; what is behind `asked` holds where it is asked
pub record Holds (asked : Type 0) (lent height loops used : ℕ) (stack : List ℕ) : Type 0 where
  pub high : height ≤ 1000
  pub few : loops ≤ 2
  pub there : used ≤ lent
  pub stack_long : asked → length stack ≡ 1000
  pub inside : asked → (i : ℕ) → i < height → Inside used (get_or stack i 0)

-- sound registers
abbrev pub Registered : Type 0 → ℕ → Registers → List ℕ → Type 0
Registered asked lent registers stack = Holds asked lent registers.height registers.loops.count registers.memory stack

-- finished with sound registers, or refused
pub data Keeps (asked : Type 0) (lent : ℕ) : OnStack → Type 0 where
  finished : (registers : Registers) (stack : List ℕ) → Registered asked lent registers stack → Keeps asked lent (on_stack (Ok registers) stack)
  refused : (refusal : Refusal) (stack : List ℕ) → Keeps asked lent (on_stack (Err refusal) stack)

-- the same of an instruction that leaves the stack
pub data Goes (asked : Type 0) (lent : ℕ) (stack : List ℕ) : Result Registers Refusal → Type 0 where
  goes : (registers : Registers) → Registered asked lent registers stack → Goes asked lent stack (Ok registers)
  stops : (refusal : Refusal) → Goes asked lent stack (Err refusal)

pub unwritten : {asked : Type 0} (lent : ℕ) (stack : List ℕ) (result : Result Registers Refusal) → Goes asked lent stack result → Keeps asked lent (on_stack result stack)
unwritten lent stack _ (goes registers r) = finished registers stack r
unwritten lent stack _ (stops refusal) = refused refusal stack

-- another place, and a height that is not above
pub lowered : {asked : Type 0} (lent : ℕ) (registers : Registers) (stack : List ℕ) (place height : ℕ) → Registered asked lent registers stack → height ≤ registers.height
    → Registered asked lent (moved registers place height) stack
lowered lent registers stack place height r low = record {
  high = omega (arith, r.high);
  few = r.few;
  there = r.there;
  stack_long = r.stack_long;
  inside = λ it i less. r.inside it i (omega arith);
}

-- ---- pops

pub data Pops (stack : List ℕ) (height : ℕ) : Result (ℕ × ℕ) Refusal → Type 0 where
  popped : (new : ℕ) → new < height → Pops stack height (Ok (get_or stack new 0, new))
  not_popped : (refusal : Refusal) → Pops stack height (Err refusal)

pub pops : (stack : List ℕ) (height : ℕ) → Pops stack height (pop stack height)
unfolding pop if_some
pops stack height =
    either (Pops stack height) (eqb height 0) _ _ (λ _. not_popped _)
    (λ some. either (Pops stack height) (leb height 1000) _ _ (λ _. popped (height - 1) (let n = eqb-false height 0 some in omega (arith, n))) (λ _. not_popped _))

pub data PopsTwo (stack : List ℕ) (height : ℕ) : Result (ℕ × ℕ × ℕ) Refusal → Type 0 where
  popped_two : (a b : ℕ) → a < height → b < a → PopsTwo stack height (Ok (get_or stack a 0, get_or stack b 0, b))
  not_popped_two : (refusal : Refusal) → PopsTwo stack height (Err refusal)

pops_second : (stack : List ℕ) (height a : ℕ) (result : Result (ℕ × ℕ) Refusal) → a < height → Pops stack a result → PopsTwo stack height (pop_second (get_or stack a 0) result)
unfolding pop_second
pops_second stack height a _ less (popped b below) = popped_two a b less below
pops_second stack height a _ less (not_popped refusal) = not_popped_two refusal

pops_first : (stack : List ℕ) (height : ℕ) (result : Result (ℕ × ℕ) Refusal) → Pops stack height result → PopsTwo stack height (pop_first stack result)
unfolding pop_first
pops_first stack height _ (popped a less) = pops_second stack height a _ less (pops stack a)
pops_first stack height _ (not_popped refusal) = not_popped_two refusal

pub pops_two : (stack : List ℕ) (height : ℕ) → PopsTwo stack height (pop_two stack height)
unfolding pop_two
pops_two stack height = pops_first stack height _ (pops stack height)

pub data Looks (stack : List ℕ) (height : ℕ) : Result ℕ Refusal → Type 0 where
  looks : (at : ℕ) → at < height → Looks stack height (Ok (get_or stack at 0))
  no_look : (refusal : Refusal) → Looks stack height (Err refusal)

pub lasts : (stack : List ℕ) (height : ℕ) → Looks stack height (last stack height)
unfolding last if_some
lasts stack height =
    either (Looks stack height) (eqb height 0) _ _ (λ _. no_look _)
    (λ some. either (Looks stack height) (leb height 1000) _ _ (λ _. looks (height - 1) (let n = eqb-false height 0 some in omega (arith, n))) (λ _. no_look _))

-- ---- pushes

-- a value at a place of the stack, with those below the height inside
pub set_inside : (used height at value : ℕ) (stack : List ℕ) → at < length stack → Inside used value → ((i : ℕ) → i < height → (i ≡ at → ⊥) → Inside used (get_or stack i 0))
    → (i : ℕ) → i < height → Inside used (get_or (set stack at value) i 0)
set_inside used height at value stack there new old i less = by (ℕ_discrete i at)
  where
    by : Dec (i ≡ at) → Inside used (get_or (set stack at value) i 0)
    by (yes e) = subst (λ (v : ℕ). Inside used v) (sym (subst (λ (k : ℕ). get_or (set stack at value) k 0 ≡ value) (sym e) (get_or-set_same stack at value 0 there))) new
    by (no other) = subst (λ (v : ℕ). Inside used v) (sym (get_or-set_other stack at i value 0 other)) (old i less other)

pushed : {asked : Type 0} (lent : ℕ) (registers : Registers) (stack : List ℕ) (place height value : ℕ) → Registered asked lent registers stack → height ≤ registers.height → height < 1000
    → (asked → Inside registers.memory value) → Registered asked lent (moved registers place (height + 1)) (set stack height value)
pushed lent registers stack place height value r low room new = record {
  high = omega arith;
  few = r.few;
  there = r.there;
  stack_long = λ it. length-set stack height value ∙ r.stack_long it;
  inside = λ it.
      set_inside registers.memory (height + 1) height value stack (omega (arith, r.stack_long it)) (new it) (λ i less other. r.inside it i (omega (arith, other)));
}

abbrev room : Bool → List ℕ → ℕ → ℕ → Stacked
room b stack height value = cond b (stacked (Ok (height + 1)) (set stack height value)) (stacked (Err StackOverflow) stack)

in_room : {asked : Type 0} (b : Bool) (lent : ℕ) (registers : Registers) (stack : List ℕ) (place height value : ℕ) → ltb height 1000 ≡ b → Registered asked lent registers stack → height ≤ registers.height
    → (asked → Inside registers.memory value) → Keeps asked lent (on_stack (pushed_to registers place (room b stack height value).answer) (room b stack height value).stack)
unfolding pushed_to
in_room true lent registers stack place height value test r low new = finished _ _ (pushed lent registers stack place height value r low (ltb-true _ _ test) new)
in_room false lent registers stack place height value test r low new = refused _ _

pub value_pushed : {asked : Type 0} (lent : ℕ) (registers : Registers) (stack : List ℕ) (place height value : ℕ) → Registered asked lent registers stack → height ≤ registers.height
    → (asked → Inside registers.memory value) → Keeps asked lent (push_value stack registers place height value)
unfolding push_value push if_room
value_pushed lent registers stack place height value r low new = in_room (ltb height 1000) lent registers stack place height value refl r low new

-- a scalar that was boxed
pub scalar_pushed : {asked : Type 0} (lent : ℕ) (registers : Registers) (stack : List ℕ) (place height value : ℕ) → Registered asked lent registers stack → height ≤ registers.height
    → is_vec value ≡ false → Keeps asked lent (push_value stack registers place height value)
scalar_pushed lent registers stack place height value r low none = value_pushed lent registers stack place height value r low (λ _. no_vec_inside registers.memory value none)

finishes : {asked : Type 0} (lent : ℕ) (registers : Registers) (stack : List ℕ) (place height : ℕ) (result : Result ℕ Refusal) → Registered asked lent registers stack → height ≤ registers.height
    → Scalar result → Keeps asked lent (finish stack registers place height result)
unfolding finish
finishes lent registers stack place height _ r low (scalar v none) = scalar_pushed lent registers stack place height v r low none
finishes lent registers stack place height _ r low (no_scalar refusal) = refused refusal stack

-- ---- open loops

data Opens : Result (Two Loop) Refusal → Type 0 where
  opens : (loops : Two Loop) → loops.count ≤ 2 → Opens (Ok loops)
  not_opens : (refusal : Refusal) → Opens (Err refusal)

one_more : (b : Bool) (two : Two Loop) (a : Loop)
    → (cond {A = Two Loop} b (record { count = two.count + 1; first = a; second = two.second }) (record { count = two.count + 1; first = two.first; second = a })).count ≡ two.count + 1
one_more true two a = refl
one_more false two a = refl

loop_opens : (loops : Two Loop) (opened : Loop) → Opens (push_onto loops opened)
unfolding push_onto if_room push_two
loop_opens loops opened =
    either Opens (ltb loops.count 2) _ _
    (λ test. opens _ (let n = one_more (eqb loops.count 0) loops opened in let l = ltb-true loops.count 2 test in omega (arith, n, l))) (λ _. not_opens _)

data Closes : Result (Loop × Two Loop) Refusal → Type 0 where
  closes : (last : Loop) (loops : Two Loop) → loops.count ≤ 2 → Closes (Ok (last, loops))
  not_closes : (refusal : Refusal) → Closes (Err refusal)

loop_closes : (loops : Two Loop) → loops.count ≤ 2 → Closes (pop_off loops)
unfolding pop_off if_some stacks.pop_two
loop_closes loops few =
    either Closes (eqb loops.count 0) _ _ (λ _. not_closes _)
    (λ _. either Closes (leb loops.count 2) _ _ (λ _. closes _ _ (omega arith)) (λ _. not_closes _))

-- ---- the opcodes

module _ {asked : Type 0} (lent : ℕ) (registers : Registers) (stack : List ℕ) (next : ℕ) (r : Registered asked lent registers stack) where
  pub push_keeps : (number : ℕ) → Keeps asked lent (op_push stack registers next number)
  unfolding op_push
  push_keeps number = scalar_pushed lent registers stack next registers.height _ r (omega arith) (boxed_no_vec 6 number)

  on_two_keeps : (calculate : ℕ → ℕ → Result ℕ Refusal) (result : Result (ℕ × ℕ × ℕ) Refusal) → ((a b : ℕ) → Scalar (calculate a b)) → PopsTwo stack registers.height result
      → Keeps asked lent (on_two calculate stack registers next result)
  unfolding on_two
  on_two_keeps calculate _ scalars (popped_two a b less below) = finishes lent registers stack next b _ r (omega arith) (scalars _ _)
  on_two_keeps calculate _ scalars (not_popped_two refusal) = refused refusal stack

  pub mul_keeps : Keeps asked lent (op_mul stack registers next)
  unfolding op_mul
  mul_keeps = on_two_keeps mul_checked _ mul_scalar (pops_two stack registers.height)

  pub compare_keeps : (is_lt : Bool) → Keeps asked lent (op_compare stack registers next is_lt)
  unfolding op_compare
  compare_keeps is_lt = on_two_keeps (λ right left. value_cmp left right is_lt) _ (λ right left. compare_scalar left right is_lt) (pops_two stack registers.height)

  pub eq_keeps : (memory : List ℕ) (is_eq : Bool) → Keeps asked lent (op_eq stack memory registers next is_eq)
  unfolding op_eq
  eq_keeps memory is_eq =
      on_two_keeps (λ right left. turned_if is_eq (eq_values (in_use memory registers) left right)) _ (λ right left. eq_scalar (in_use memory registers) is_eq left right)
      (pops_two stack registers.height)

  on_one_keeps : (calculate : ℕ → Result ℕ Refusal) (result : Result (ℕ × ℕ) Refusal) → ((a : ℕ) → Scalar (calculate a)) → Pops stack registers.height result
      → Keeps asked lent (on_one calculate stack registers next result)
  unfolding on_one
  on_one_keeps calculate _ scalars (popped new less) = finishes lent registers stack next new _ r (omega arith) (scalars _)
  on_one_keeps calculate _ scalars (not_popped refusal) = refused refusal stack

  pub muli_keeps : (number : ℕ) → Keeps asked lent (op_muli stack registers next number)
  unfolding op_muli
  muli_keeps number = on_one_keeps (λ value. mul_checked_i value number) _ (λ value. muli_scalar value number) (pops stack registers.height)

  dup_last_keeps : (result : Result ℕ Refusal) → Looks stack registers.height result → Keeps asked lent (dup_last stack registers next result)
  unfolding dup_last
  dup_last_keeps _ (looks at less) = value_pushed lent registers stack next registers.height (get_or stack at 0) r (omega arith) (λ it. r.inside it at less)
  dup_last_keeps _ (no_look refusal) = refused refusal stack

  pub dup_keeps : Keeps asked lent (op_dup stack registers next)
  unfolding op_dup
  dup_keeps = dup_last_keeps _ (lasts stack registers.height)

  swapped_keeps : (result : Result (ℕ × ℕ × ℕ) Refusal) → PopsTwo stack registers.height result → Keeps asked lent (swapped stack registers next result)
  unfolding swapped
  swapped_keeps _ (popped_two a b less below) =
      finished _ _ (record {
        high = r.high;
        few = r.few;
        there = r.there;
        stack_long = λ it. length-set (set stack b (get_or stack a 0)) (b + 1) (get_or stack b 0) ∙ length-set stack b (get_or stack a 0) ∙ r.stack_long it;
        inside = λ it.
            set_inside registers.memory registers.height (b + 1) (get_or stack b 0) (set stack b (get_or stack a 0)) (let l = length-set stack b (get_or stack a 0) in omega (arith, r.stack_long it, r.high)) (r.inside it b (omega arith))
            (λ i low other. set_inside registers.memory registers.height b (get_or stack a 0) stack (omega (arith, r.stack_long it, r.high)) (r.inside it a less) (λ k short apart. r.inside it k short) i low);
      })
  swapped_keeps _ (not_popped_two refusal) = refused refusal stack

  pub swap_keeps : Keeps asked lent (op_swap stack registers next)
  unfolding op_swap
  swap_keeps = swapped_keeps _ (pops_two stack registers.height)

  dropped_goes : (result : Result (ℕ × ℕ) Refusal) → Pops stack registers.height result → Goes asked lent stack (dropped registers next result)
  unfolding dropped
  dropped_goes _ (popped new less) = goes _ (lowered lent registers stack next new r (omega arith))
  dropped_goes _ (not_popped refusal) = stops refusal

  pub drop_goes : Goes asked lent stack (op_drop stack registers next)
  unfolding op_drop
  drop_goes = dropped_goes _ (pops stack registers.height)

  -- an instruction that does nothing
  pub idle_goes : Goes asked lent stack (Ok (moved registers next registers.height))
  idle_goes = goes _ (lowered lent registers stack next registers.height r (omega arith))

  jumped_goes : (target : ℕ) (result : Result (ℕ × ℕ) Refusal) → Pops stack registers.height result → Goes asked lent stack (jumped registers next target result)
  unfolding jumped
  jumped_goes target _ (popped new less) =
      either (Goes asked lent stack) (eqb (get_or stack new 0) (to_bool_val false)) _ _ (λ _. goes _ (lowered lent registers stack target new r (omega arith)))
      (λ _. goes _ (lowered lent registers stack next new r (omega arith)))
  jumped_goes target _ (not_popped refusal) = stops refusal

  pub jump_goes : (target : ℕ) → Goes asked lent stack (op_jump_if_false stack registers next target)
  unfolding op_jump_if_false
  jump_goes target = jumped_goes target _ (pops stack registers.height)

  -- ---- loops

  looping_sound : (place height : ℕ) (loops : Two Loop) → height ≤ registers.height → loops.count ≤ 2 → Registered asked lent (looping registers place height loops) stack
  looping_sound place height loops low few = record {
    high = omega (arith, r.high);
    few = few;
    there = r.there;
    stack_long = r.stack_long;
    inside = λ it i less. r.inside it i (omega arith);
  }

  opened_goes : (place height : ℕ) (result : Result (Two Loop) Refusal) → height ≤ registers.height → Opens result → Goes asked lent stack (opened_to registers place height result)
  unfolding opened_to
  opened_goes place height _ low (opens loops few) = goes _ (looping_sound place height loops low few)
  opened_goes place height _ low (not_opens refusal) = stops refusal

  do_two_goes : (result : Result (ℕ × ℕ × ℕ) Refusal) → PopsTwo stack registers.height result → Goes asked lent stack (do_two registers next result)
  unfolding do_two
  do_two_goes _ (popped_two a b less below) = opened_goes next b _ (omega arith) (loop_opens registers.loops _)
  do_two_goes _ (not_popped_two refusal) = stops refusal

  pub do_goes : Goes asked lent stack (op_do stack registers next)
  unfolding op_do
  do_goes = do_two_goes _ (pops_two stack registers.height)

  looped_goes : (result : Result (Loop × Two Loop) Refusal) → Closes result → Goes asked lent stack (looped registers next result)
  unfolding looped
  looped_goes _ (closes last loops few) =
      either (Goes asked lent stack) (ltb (last.index + 1) last.limit) _ _ (λ _. opened_goes last.place registers.height _ (omega arith) (loop_opens loops _))
      (λ _. goes _ (looping_sound next registers.height loops (omega arith) few))
  looped_goes _ (not_closes refusal) = stops refusal

  pub loop_goes : Goes asked lent stack (op_loop registers next)
  unfolding op_loop
  loop_goes = looped_goes _ (loop_closes registers.loops r.few)

  index_keeps : (result : Result Loop Refusal) → Keeps asked lent (index_of stack registers next result)
  unfolding index_of
  index_keeps (Ok last) = scalar_pushed lent registers stack next registers.height _ r (omega arith) (boxed_no_vec 6 last.index)
  index_keeps (Err refusal) = refused refusal stack

  pub loop_index_keeps : Keeps asked lent (op_loop_index stack registers next)
  unfolding op_loop_index
  loop_index_keeps = index_keeps _
