-- An instruction on a state that is done without the rest of a record does what the whole one does.
use Rattle.std.proofs.Common.{◌≡◌, ℕ, ◌+◌, ◌-◌, ◌^◌, ◌<◌, ◌≤◌, Bool, true, false, cond, eqb, ltb, leb, List, length, get_or, set, sym, refl, ap, ◌∙◌, arith, lt-ltb, ne_eqb, eqb-true, le-leb}
use native.Mathlib.Decide.{dec_lt}
use borrow.Author.Tests.{lt-leb}
use Rattle.inlinevec.specs.Stacks.{if_room, if_some, push, pop}
use Rattle.values.specs.Values.{to_u32, to_u32_val}
use Rattle.storage.specs.declared.Task.{Task}
use Rattle.storage.specs.Storage.{find}
use Rattle.storage.specs.Tasks.{after, blank, with_state}
use Rattle.mechanism.specs.Registers.{OnMemory, on_memory, moved}
use Rattle.mechanism.specs.Stack.{pushed_to, push_value}
use Rattle.mechanism.specs.declared.Change.{Change}
use Rattle.mechanism.specs.declared.Change.TheVariants.{Keep, Restate}
use Rattle.mechanism.specs.declared.Registers.{Registers}
use Rattle.mechanism.specs.Fields.{if_found, owner_popped, owner, field_popped, field_of, get_field, get_found, op_t_get_field, state_answered, set_state, set_field, set_popped, set_found, op_t_set_field}
use Rattle.bytecode.specs.Opcodes.{T_GET_FIELD, T_SET_FIELD, CALL, END_CALL}
use Rattle.machine.specs.declared.Machine.{Machine}
use Rattle.mechanism.specs.Registers.{registers_of}
use Rattle.mechanism.specs.Registers.{machine_at}
use Rattle.mechanism.specs.Act.{keeping, OnAll, on_all, settled_by, tasked_by, after_memory, on_task, on_frames, act, bare}
use Rattle.machine.specs.Machines.{op_at}
use Rattle.mechanism.specs.Advance.{wanted}
use Rattle.runner.specs.Going.{acted, after_act, task_turn, state_turned, state_turn, act_turn}
use Rattle.runner.specs.States.{names_state, behind, got, gets, sets_to, set_third, sets, stated}
use Rattle.runner.proofs.Leaving.{place, inside, next_is, acts_bare, returns_turn, calls_turn, at_end_call, at_call, at_other}
use Rattle.mechanism.proofs.Settled.{on_bool}
use Rattle.std.specs.Prelude.{Ok, Some, None, Result}
use Rattle.errors.specs.declared.Refusal.{Refusal}

never : {A : Type 0} → false ≡ true → A
never e = absurd (let z : ◌≡◌ {A = ℕ} 0 1 = ap (λ (b : Bool). cond {A = ℕ} b 1 0) e in omega arith)

-- a test that fails
ltb_false : (m n : ℕ) → ltb m n ≡ false → n ≤ m
ltb_false m n e = by (dec_lt m n)
  where
    by : Dec (m < n) → n ≤ m
    by (yes less) = never (sym e ∙ lt-ltb m n less)
    by (no more) = omega (arith, more)

leb_false : (m n : ℕ) → leb m n ≡ false → n < m
leb_false m n e = by (dec_lt n m)
  where
    by : Dec (n < m) → n < m
    by (yes less) = less
    by (no more) = never (sym e ∙ le-leb m n (omega (arith, more)))

-- ---- a state that is named

module _ (stack : List ℕ) (height : ℕ) (task : Task) (named : names_state stack height task ≡ true) where
  tested : (low high there : Bool) (field : Bool) → cond low false (cond high false (cond there field false)) ≡ true → (low ≡ false) × (high ≡ false) × (there ≡ true) × (field ≡ true)
  tested true high there field e = never e
  tested false true there field e = never e
  tested false false true field e = (refl, refl, refl, e)
  tested false false false field e = never e

  all_tests : (ltb height 2 ≡ false) × (ltb 1000 height ≡ false) × (task.living ≡ true) × (eqb (to_u32 (get_or stack (height - 1) 0)) 1 ≡ true)
  unfolding names_state
  all_tests = tested (ltb height 2) (ltb 1000 height) task.living (eqb (to_u32 (get_or stack (height - 1) 0)) 1) named

  pub named_low : 2 ≤ height
  named_low = ltb_false height 2 all_tests.0

  pub named_high : height ≤ 1000
  named_high = ltb_false 1000 height all_tests.1

-- ---- the instruction on the whole record

-- pops that are there
popped : (stack : List ℕ) (height : ℕ) → 1 ≤ height → height ≤ 1000 → pop stack height ≡ Ok (get_or stack (height - 1) 0, height - 1)
unfolding pop if_some
popped stack height some few =
    let there : eqb height 0 ≡ false = ne_eqb height 0 (λ none. omega (arith, some, none)) in
    simp (there, le-leb height 1000 few)

module _ (stack : List ℕ) (height : ℕ) (task : Task) (named : names_state stack height task ≡ true) where
  -- the field is 1, and the task is there
  field_is : to_u32 (get_or stack (height - 1) 0) ≡ 1
  field_is = eqb-true _ 1 (all_tests stack height task named).3

  named_field : field_of stack height task ≡ Ok (1, height - 1 - 1)
  unfolding field_of field_popped owner owner_popped if_found find
  named_field =
      simp (popped stack height (omega (arith, named_low stack height task named)) (named_high stack height task named), field_is, popped stack (height - 1) (omega (arith, named_low stack height task named)) (omega (arith, named_high stack height task named)), (all_tests stack height task named).2)

module _ (stack memory : List ℕ) (machine : Machine) (next : ℕ) (task : Task) (named : names_state stack machine.height task ≡ true) where
  -- T_GET_FIELD
  get_is : op_t_get_field stack memory (registers_of machine) next task ≡ on_memory (Ok (moved (registers_of machine) next (machine.height - 1))) (set stack (machine.height - 2) (to_u32_val task.state.state)) memory
  unfolding op_t_get_field get_found get_field push_value pushed_to push if_room registers_of
  get_is =
      let low = named_low stack machine.height task named in
      let high = named_high stack machine.height task named in
      let below : machine.height - 1 - 1 ≡ machine.height - 2 = omega arith in
      let above : machine.height - 2 + 1 ≡ machine.height - 1 = omega (arith, low) in
      simp (named_field stack machine.height task named, below, lt-ltb (machine.height - 2) 1000 (omega (arith, low, high)), above)

  -- T_SET_FIELD
  module _ (third : 3 ≤ machine.height) (has : to_u32 (get_or stack (machine.height - 3) 0) < task.state.len) (few : to_u32 (get_or stack (machine.height - 3) 0) < 255) where
    set_is : op_t_set_field stack memory (registers_of machine) next task ≡ Ok (moved (registers_of machine) next (machine.height - 3), Restate (to_u32 (get_or stack (machine.height - 3) 0)))
    unfolding op_t_set_field set_found set_popped set_field set_state state_answered with_state registers_of
    set_is =
        let high = named_high stack machine.height task named in
        let below : machine.height - 1 - 1 ≡ machine.height - 2 = omega arith in
        let lowest : machine.height - 2 - 1 ≡ machine.height - 3 = omega arith in
        simp (named_field stack machine.height task named, below, popped stack (machine.height - 2) (omega (arith, third)) (omega (arith, high)), lowest, lt-leb _ _ has, lt-leb _ _ few)

-- ---- the instruction at hand

module _ (stack memory pool ends : List ℕ) (machine : Machine) (task : Task) where
  -- what it leaves: a machine, a change of the slot, a stack
  abbrev leaves : Machine → Change → List ℕ → OnAll
  leaves after change stack' = on_all (Ok (after, change)) stack' memory pool ends

  module _ (fits : length pool < 2 ^ 64) (named : names_state stack machine.height task ≡ true) where
    got_acts : op_at pool ends machine ≡ T_GET_FIELD
        → act stack memory pool ends machine task ≡ leaves (behind machine (machine.height - 1)) Keep (set stack (machine.height - 2) (to_u32_val task.state.state))
    unfolding on_frames settled_by keeping bare
    got_acts at =
        acts_bare stack memory pool ends machine task T_GET_FIELD at (λ none. omega arith) refl
        ∙ ap (λ (m : OnMemory). after_memory machine m pool ends) (get_is stack memory machine (place pool ends machine + 1) task named)
        ∙ ap (λ (next : ℕ). leaves (machine_at machine next (machine.height - 1)) Keep (set stack (machine.height - 2) (to_u32_val task.state.state)))
        (sym (next_is pool ends machine fits (inside pool ends machine T_GET_FIELD at (λ none. omega arith))))

    set_acts : 3 ≤ machine.height → to_u32 (get_or stack (machine.height - 3) 0) < task.state.len → to_u32 (get_or stack (machine.height - 3) 0) < 255 → op_at pool ends machine ≡ T_SET_FIELD
        → act stack memory pool ends machine task ≡ leaves (behind machine (machine.height - 3)) (Restate (to_u32 (get_or stack (machine.height - 3) 0))) stack
    unfolding on_frames on_task tasked_by bare
    set_acts third has few at =
        acts_bare stack memory pool ends machine task T_SET_FIELD at (λ none. omega arith) refl
        ∙ ap (λ (t : Result (Registers × Change) Refusal). on_all (tasked_by machine t) stack memory pool ends) (set_is stack memory machine (place pool ends machine + 1) task named third has few)
        ∙ ap (λ (next : ℕ). leaves (machine_at machine next (machine.height - 3)) (Restate (to_u32 (get_or stack (machine.height - 3) 0))) stack)
        (sym (next_is pool ends machine fits (inside pool ends machine T_SET_FIELD at (λ none. omega arith))))

  -- the answer is that nothing was done, or what the instruction does
  data Answered (op : ℕ) : Type 0 where
    not_done : stated stack machine op task ≡ after None stack → Answered op
    done : {to : Machine} {change : Change} {stack' : List ℕ} → stated stack machine op task ≡ after (Some (to, change)) stack' → act stack memory pool ends machine task ≡ leaves to change stack' → Answered op

  gets_answered : (op : ℕ) → length pool < 2 ^ 64 → op_at pool ends machine ≡ op → eqb op T_GET_FIELD ≡ true → Answered op
  unfolding stated gets got
  gets_answered op fits at get =
      on_bool (names_state stack machine.height task)
      (λ named. done (simp (get, named)) (got_acts fits named (at ∙ eqb-true op T_GET_FIELD get)))
      (λ not. not_done (simp (get, not)))

  sets_answered : (op : ℕ) → length pool < 2 ^ 64 → op_at pool ends machine ≡ op → eqb op T_GET_FIELD ≡ false → eqb op T_SET_FIELD ≡ true → Answered op
  unfolding stated sets set_third sets_to
  sets_answered op fits at get set =
      on_bool (names_state stack machine.height task)
      (λ named. on_bool (ltb machine.height 3) (λ low. not_done (simp (get, set, named, low)))
      (λ third. on_bool (leb task.state.len (to_u32 (get_or stack (machine.height - 3) 0))) (λ lacks. not_done (simp (get, set, named, third, lacks)))
      (λ has. on_bool (leb 255 (to_u32 (get_or stack (machine.height - 3) 0))) (λ many. not_done (simp (get, set, named, third, has, many)))
      (λ few. done (simp (get, set, named, third, has, few)) (set_acts fits named (ltb_false _ _ third) (leb_false _ _ has) (leb_false _ _ few) (at ∙ eqb-true op T_SET_FIELD set))))))
      (λ not. not_done (simp (get, set, not)))

  answered : (op : ℕ) → length pool < 2 ^ 64 → op_at pool ends machine ≡ op → Answered op
  unfolding stated
  answered op fits at =
      on_bool (eqb op T_GET_FIELD) (λ get. gets_answered op fits at get)
      (λ get. on_bool (eqb op T_SET_FIELD) (λ set. sets_answered op fits at get set) (λ set. not_done (simp (get, set))))

-- ---- a turn

-- without the rest of the record, or with it, it is the turn on the whole one
module _ (table : List Task) (stack memory pool ends : List ℕ) (machine : Machine) (left op : ℕ) where
  abbrev slot : ℕ
  slot = wanted stack machine op

  abbrev record_of : Task
  record_of = get_or table slot blank

  not_stated : state_turn table memory pool ends machine left op slot (after None stack) ≡ task_turn table stack memory pool ends machine left op
  unfolding state_turned
  not_stated = refl

  is_stated : (to : Machine) (change : Change) (stack' : List ℕ) → act stack memory pool ends machine record_of ≡ leaves stack memory pool ends machine record_of to change stack'
      → state_turn table memory pool ends machine left op slot (after (Some (to, change)) stack') ≡ task_turn table stack memory pool ends machine left op
  unfolding state_turned task_turn acted
  is_stated to change stack' acts = sym (ap (after_act machine left slot table) acts)

  by_answer : Answered stack memory pool ends machine record_of op → state_turn table memory pool ends machine left op slot (stated stack machine op record_of) ≡ task_turn table stack memory pool ends machine left op
  by_answer (not_done e) = ap (state_turn table memory pool ends machine left op slot) e ∙ not_stated
  by_answer (done {to} {change} {stack'} e acts) = ap (state_turn table memory pool ends machine left op slot) e ∙ is_stated to change stack' acts

-- ---- an instruction by its opcode is the one on the whole record, if its opcode is the one at the place

pub acts_on_record : (table : List Task) (stack memory pool ends : List ℕ) (machine : Machine) (left op : ℕ) → length pool < 2 ^ 64 → op_at pool ends machine ≡ op
    → act_turn table stack memory pool ends machine left op ≡ task_turn table stack memory pool ends machine left op
acts_on_record table stack memory pool ends machine left op fits at =
    on_bool (eqb op END_CALL)
    (λ is. at_end_call table stack memory pool ends machine left op is ∙ returns_turn table stack memory pool ends machine left op fits (at ∙ eqb-true op END_CALL is))
    (λ not. on_bool (eqb op CALL)
    (λ is. at_call table stack memory pool ends machine left op not is ∙ calls_turn table stack memory pool ends machine left op fits (eqb-true op CALL is) (at ∙ eqb-true op CALL is))
    (λ none.
    at_other table stack memory pool ends machine left op not none
    ∙ by_answer table stack memory pool ends machine left op (answered stack memory pool ends machine (get_or table (wanted stack machine op) blank) op fits at)))
