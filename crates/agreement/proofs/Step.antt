-- Demand 2 for one instruction: the machine's step beside the Rust's, whatever the opcode.
use Prim.Native.Nat.{ℕ, suc, ◌+◌, ◌-◌, ◌<◌}
use mathlib.Core.Bool.{Bool, true, false, cond, ◌||◌, true≢false}
use mathlib.Core.Path.{◌≡◌, refl, sym, ◌∙◌, subst}
use mathlib.Core.List.{List}
use lib.Dec.{eqb}
use lib.ListN.{length, get_or}
use native.Mathlib.Omega.{arith}
use borrow.Author.Tests.{leb-false, eqb-true, le-leb, lt-leb}
use Rattle.bytecode.specs.Opcodes.{PUSH_U32, PUSH_STATE, PUSH_CALLDATA, PUSH_TASK_FIELD, PUSH_MAX_STATES, T_CREATE, T_GET_FIELD, T_SET_FIELD, T_DELETE, S_SAVE, S_LEN, DO, LOOP, LOOP_INDEX, CALL, END_CALL, DROP, DUP, SWAP, EQ, NEQ, LT, GT, JUMP_IF_FALSE, M_STI, M_ST, M_MUTA, MULI, MUL, operand_size}
use Rattle.bytecode.specs.Operands.{extent}
use Rattle.slices.specs.Numbers.{Bytes}
use Rattle.inlinevec.specs.Stacks.{values_of}
use Rattle.pools.proofs.Laws.{getD_entries}
use Rattle.values.specs.Values.{to_u32_val}
use Rattle.storage.specs.Tasks.{blank}
use Rattle.mechanism.specs.Stack.{op_push}
use Rattle.mechanism.specs.declared.Registers.{Registers}
use Rattle.mechanism.specs.Execute.{kept, plain, operated, is_equality, execute, by_extent, instruct}
use Rattle.mechanism.specs.Steps.{is_outer}
use Rattle.machine.specs.declared.Machine.{Machine}
use Rattle.machine.specs.Machines.{current, code_of}
use Rattle.mechanism.specs.Registers.{registers_of}
use Rattle.mechanism.specs.Act.{on_task, on_frames, act_by, act_at, act}
use Rattle.machine.specs.Machines.{op_at}
use Rattle.mechanism.specs.Advance.{wanted}
use Rattle.machine.specs.World.{World, code, place, at_end}
use Rattle.machine.specs.Step.{step}
use Rattle.mechanism.specs.Step.{inner, acts, outer, step_by_parts}
use Rattle.mechanism.proofs.Whole.{step_is}
use Rattle.machine.specs.Words.{StepResult}
use Rattle.laws.specs.Sound.{Sound}
use Rattle.rust.specs.Errors.{Out, ok}
use Rattle.rust.specs.Storage as storage
use Rattle.rust.specs.Vm as rust
use Rattle.rust.specs.Vm.{VM, at, exec}
use Rattle.agreement.specs.View.{storage_of, view}
use Rattle.agreement.specs.Agreement.{Agree}
use Rattle.agreement.specs.Exceptions.{excepted}
use Rattle.agreement.proofs.Facts.{Facts, facts}
use Rattle.agreement.proofs.Views.{stepped, moves, pushed}
use Rattle.agreement.proofs.Stack as stack
use Rattle.mechanism.proofs.Operands.{reaches, reaches_next, reaches_sti, reaches_calldata}
use Rattle.agreement.proofs.Control as control
use Rattle.agreement.proofs.Equality as equality
use Rattle.agreement.proofs.Store as store
use Rattle.agreement.proofs.Slots.{count_length}
use Rattle.agreement.proofs.Tasks as tasks
use Rattle.agreement.proofs.Tasks.{acted_as}
use Rattle.agreement.proofs.Frames as frames
use Rattle.agreement.proofs.Saves as saving
use Rattle.std.specs.Prelude.{Option, Some}

-- neither of two
none_of : (a b : Bool) → (a || b) ≡ false → (a ≡ false) × (b ≡ false)
none_of true b e = absurd (true≢false e)
none_of false b e = (refl, e)

none_left : (a b d : Bool) → (a || b || d) ≡ false → a ≡ false
none_left true b d e = e
none_left false b d e = refl

none_middle : (a b d : Bool) → (a || b || d) ≡ false → b ≡ false
none_middle true b d e = absurd (true≢false e)
none_middle false true d e = e
none_middle false false d e = refl

none_right : (a b d : Bool) → (a || b || d) ≡ false → d ≡ false
none_right true b d e = absurd (true≢false e)
none_right false true d e = absurd (true≢false e)
none_right false false d e = e

module _ (w : World) (stale : ℕ) (h : Facts w) (bytes : Bytes w.pool) (inside : place w < length (code w)) (common : excepted w ≡ false) where
  abbrev m : Machine
  m = w.machine

  abbrev r : Registers
  r = registers_of m

  abbrev c : List ℕ
  c = code w

  abbrev p : ℕ
  p = place w

  abbrev vm : VM
  vm = view stale w

  -- an opcode that needs no task, frame or pool
  inner_step : (n : ℕ) → get_or c p 0 ≡ n → is_outer n ≡ false → (reach : Option ℕ) → extent c p ≡ reach → {o : Out VM}
      → Agree w (stepped w (by_extent w.stack w.memory c r n m.count reach)) o → Agree w (step_by_parts w) o
  unfolding step_by_parts op_at inner instruct registers_of
  inner_step n e out reach is agrees = rw (e, out, is) agrees

  -- one that does, and does not save
  acts_step : (n : ℕ) → get_or c p 0 ≡ n → is_outer n ≡ true → eqb n S_SAVE ≡ false → (reach : Option ℕ) → extent c p ≡ reach → {o : Out VM}
      → Agree w (acted_as w (wanted w.stack m n) (act_by w.stack w.memory w.pool w.ends m (get_or w.table (wanted w.stack m n) blank) n p reach)) o → Agree w (step_by_parts w) o
  unfolding step_by_parts op_at outer acts act act_at
  acts_step n e out saves-not reach is agrees = rw (e, out, saves-not, is, lt-leb (length c) p inside) agrees

  -- the next place
  abbrev reach_next : (n : ℕ) → get_or c p 0 ≡ n → operand_size n ≡ 0 → eqb n PUSH_CALLDATA ≡ false → eqb n M_STI ≡ false → extent c p ≡ Some (p + 1)
  reach_next n = reaches_next c p n inside

  mul : get_or c p 0 ≡ MUL → Agree w (step_by_parts w) (rust.mul (p + 1) vm)
  unfolding is_outer operand_size by_extent execute is_equality operated plain
  mul e = inner_step MUL e refl _ (reach_next MUL e refl refl refl) (stack.mul w stale h bytes (p + 1))

  lt : get_or c p 0 ≡ LT → Agree w (step_by_parts w) (rust.compare true (p + 1) vm)
  unfolding is_outer operand_size by_extent execute is_equality operated plain
  lt e = inner_step LT e refl _ (reach_next LT e refl refl refl) (stack.compare w stale h bytes (p + 1) true)

  gt : get_or c p 0 ≡ GT → Agree w (step_by_parts w) (rust.compare false (p + 1) vm)
  unfolding is_outer operand_size by_extent execute is_equality operated plain
  gt e = inner_step GT e refl _ (reach_next GT e refl refl refl) (stack.compare w stale h bytes (p + 1) false)

  dup : get_or c p 0 ≡ DUP → Agree w (step_by_parts w) (rust.dup (p + 1) vm)
  unfolding is_outer operand_size by_extent execute is_equality operated plain
  dup e = inner_step DUP e refl _ (reach_next DUP e refl refl refl) (stack.dup w stale h bytes (p + 1))

  swap : get_or c p 0 ≡ SWAP → Agree w (step_by_parts w) (rust.swap (p + 1) vm)
  unfolding is_outer operand_size by_extent execute is_equality operated plain
  swap e = inner_step SWAP e refl _ (reach_next SWAP e refl refl refl) (stack.swap w stale h bytes (p + 1))

  drop : get_or c p 0 ≡ DROP → Agree w (step_by_parts w) (rust.drop (p + 1) vm)
  unfolding is_outer operand_size by_extent execute is_equality operated plain
  drop e = inner_step DROP e refl _ (reach_next DROP e refl refl refl) (stack.drop w stale h bytes (p + 1))

  do_op : get_or c p 0 ≡ DO → Agree w (step_by_parts w) (rust.«do» (p + 1) vm)
  unfolding is_outer operand_size by_extent execute is_equality operated plain
  do_op e = inner_step DO e refl _ (reach_next DO e refl refl refl) (control.do_agrees w stale h bytes (p + 1))

  loop : get_or c p 0 ≡ LOOP → Agree w (step_by_parts w) (rust.loop (p + 1) vm)
  unfolding is_outer operand_size by_extent execute is_equality operated plain
  loop e = inner_step LOOP e refl _ (reach_next LOOP e refl refl refl) (control.loop_agrees w stale h bytes (p + 1))

  loop_index : get_or c p 0 ≡ LOOP_INDEX → Agree w (step_by_parts w) (rust.loop_index (p + 1) vm)
  unfolding is_outer operand_size by_extent execute is_equality operated plain
  loop_index e = inner_step LOOP_INDEX e refl _ (reach_next LOOP_INDEX e refl refl refl) (control.loop_index_agrees w stale h bytes (p + 1))

  s_len_pushed : Agree w (stepped w (kept (op_push w.stack r (p + 1) m.count) w.memory)) (rust.s_len (p + 1) vm)
  unfolding op_push registers_of rust.s_len storage.len view storage_of
  s_len_pushed = rw (count_length w h) (pushed w stale bytes h (p + 1) m.height (to_u32_val m.count))

  s_len : get_or c p 0 ≡ S_LEN → Agree w (step_by_parts w) (rust.s_len (p + 1) vm)
  unfolding is_outer operand_size by_extent execute is_equality operated plain
  s_len e = inner_step S_LEN e refl _ (reach_next S_LEN e refl refl refl) s_len_pushed

  -- the two values that EQ and NEQ compare are not left out
  not_left_out : (n : ℕ) → get_or c p 0 ≡ n → (eqb n EQ || eqb n NEQ) ≡ true → equality.NotLeftOut w stale h bytes (p + 1)
  unfolding excepted op_at
  not_left_out n e compares i two =
      let right_is : m.height - 1 ≡ suc i = omega arith in
      let left_is : m.height - 2 ≡ i = omega arith in
      none_of _ _ (simp (e, compares, le-leb 2 m.height (omega arith), right_is, left_is) at common)

  eq : get_or c p 0 ≡ EQ → Agree w (step_by_parts w) (rust.eq (p + 1) vm)
  unfolding is_outer operand_size by_extent execute is_equality
  eq e = inner_step EQ e refl _ (reach_next EQ e refl refl refl) (equality.eq w stale h bytes (p + 1) (not_left_out EQ e refl))

  neq : get_or c p 0 ≡ NEQ → Agree w (step_by_parts w) (rust.neq (p + 1) vm)
  unfolding is_outer operand_size by_extent execute is_equality
  neq e = inner_step NEQ e refl _ (reach_next NEQ e refl refl refl) (equality.neq w stale h bytes (p + 1) (not_left_out NEQ e refl))

  m_muta : get_or c p 0 ≡ M_MUTA → Agree w (step_by_parts w) (rust.m_muta (p + 1) vm)
  unfolding is_outer operand_size by_extent execute is_equality
  m_muta e = inner_step M_MUTA e refl _ (reach_next M_MUTA e refl refl refl) (store.m_muta w stale h bytes (p + 1))

  -- those with operands
  push_u32 : get_or c p 0 ≡ PUSH_U32 → Agree w (step_by_parts w) (rust.push_u32 c (p + 1) vm)
  unfolding is_outer operand_size
  push_u32 e = inner_step PUSH_U32 e refl _ (reaches c p PUSH_U32 4 e refl refl refl) (control.push_u32_agrees w stale h bytes)

  push_state : get_or c p 0 ≡ PUSH_STATE → Agree w (step_by_parts w) (rust.push_state c (p + 1) vm)
  unfolding is_outer operand_size
  push_state e = inner_step PUSH_STATE e refl _ (reaches c p PUSH_STATE 1 e refl refl refl) (control.push_state_agrees w stale h bytes)

  push_task_field : get_or c p 0 ≡ PUSH_TASK_FIELD → Agree w (step_by_parts w) (rust.push_state c (p + 1) vm)
  unfolding is_outer operand_size
  push_task_field e = inner_step PUSH_TASK_FIELD e refl _ (reaches c p PUSH_TASK_FIELD 1 e refl refl refl) (control.push_task_field_agrees w stale h bytes)

  push_max_states : get_or c p 0 ≡ PUSH_MAX_STATES → Agree w (step_by_parts w) (rust.push_state c (p + 1) vm)
  unfolding is_outer operand_size
  push_max_states e = inner_step PUSH_MAX_STATES e refl _ (reaches c p PUSH_MAX_STATES 1 e refl refl refl) (control.push_max_states_agrees w stale h bytes)

  muli : get_or c p 0 ≡ MULI → Agree w (step_by_parts w) (rust.muli c (p + 1) vm)
  unfolding is_outer operand_size
  muli e = inner_step MULI e refl _ (reaches c p MULI 4 e refl refl refl) (control.muli_op_agrees w stale h bytes)

  jump_if_false : get_or c p 0 ≡ JUMP_IF_FALSE → Agree w (step_by_parts w) (rust.jump_if_false c (p + 1) vm)
  unfolding is_outer operand_size
  jump_if_false e = inner_step JUMP_IF_FALSE e refl _ (reaches c p JUMP_IF_FALSE 4 e refl refl refl) (control.jump_if_false_agrees w stale h bytes)

  m_st : get_or c p 0 ≡ M_ST → Agree w (step_by_parts w) (rust.m_st c (p + 1) vm)
  unfolding is_outer operand_size
  m_st e = inner_step M_ST e refl _ (reaches c p M_ST 1 e refl refl refl) (store.m_st_agrees w stale h bytes)

  m_sti : get_or c p 0 ≡ M_STI → Agree w (step_by_parts w) (rust.m_sti c (p + 1) vm)
  unfolding is_outer
  m_sti e = inner_step M_STI e refl _ (reaches_sti c p e) (store.m_sti_agrees w stale h bytes)

  -- those that need a task, a frame or the pool
  push_calldata : get_or c p 0 ≡ PUSH_CALLDATA → Agree w (step_by_parts w) (rust.push_calldata c (p + 1) vm)
  unfolding is_outer
  push_calldata e = acts_step PUSH_CALLDATA e refl refl _ (reaches_calldata c p e) (frames.push_calldata_agrees w stale h bytes _ _)

  t_create : get_or c p 0 ≡ T_CREATE → Agree w (step_by_parts w) (rust.t_create (p + 1) vm)
  unfolding is_outer operand_size act_by on_frames on_task wanted
  t_create e = acts_step T_CREATE e refl refl _ (reach_next T_CREATE e refl refl refl) (tasks.t_create w stale h bytes (p + 1))

  t_get_field : get_or c p 0 ≡ T_GET_FIELD → Agree w (step_by_parts w) (rust.t_get_field (p + 1) vm)
  unfolding is_outer operand_size act_by on_frames
  t_get_field e = acts_step T_GET_FIELD e refl refl _ (reach_next T_GET_FIELD e refl refl refl) (tasks.t_get_field w stale h bytes (p + 1) _ _ refl refl)

  t_set_field : get_or c p 0 ≡ T_SET_FIELD → Agree w (step_by_parts w) (rust.t_set_field (p + 1) vm)
  unfolding is_outer operand_size act_by on_frames on_task
  t_set_field e = acts_step T_SET_FIELD e refl refl _ (reach_next T_SET_FIELD e refl refl refl) (tasks.t_set_field w stale h bytes (p + 1))

  t_delete : get_or c p 0 ≡ T_DELETE → Agree w (step_by_parts w) (rust.t_delete (p + 1) vm)
  unfolding is_outer operand_size act_by on_frames on_task
  t_delete e = acts_step T_DELETE e refl refl _ (reach_next T_DELETE e refl refl refl) (tasks.t_delete w stale h bytes (p + 1))

  call : get_or c p 0 ≡ CALL → Agree w (step_by_parts w) (rust.call (p + 1) vm)
  unfolding is_outer operand_size act_by on_frames
  call e = acts_step CALL e refl refl _ (reach_next CALL e refl refl refl) (frames.call w stale h bytes (p + 1) _ _ refl refl)

  end_call : get_or c p 0 ≡ END_CALL → Agree w (step_by_parts w) (rust.end_call (p + 1) vm)
  unfolding is_outer operand_size act_by on_frames
  end_call e = acts_step END_CALL e refl refl _ (reach_next END_CALL e refl refl refl) (frames.end_call w stale h bytes (p + 1) _)

  s_save : get_or c p 0 ≡ S_SAVE → Agree w (step_by_parts w) (rust.s_save (p + 1) vm)
  unfolding step_by_parts op_at outer is_outer
  s_save e = rw e (saving.s_save w stale h bytes inside)

  -- a test of the Rust alone
  either : (b : Bool) {o q : Out VM} → (b ≡ true → Agree w (step_by_parts w) o) → (b ≡ false → Agree w (step_by_parts w) q) → Agree w (step_by_parts w) (cond b o q)
  either true f g = f refl
  either false f g = g refl

  -- the arm of three opcodes
  push_byte : (n : ℕ) → get_or c p 0 ≡ n → (a b d : Bool) → eqb n PUSH_STATE ≡ a → eqb n PUSH_MAX_STATES ≡ b → eqb n PUSH_TASK_FIELD ≡ d → (a || b || d) ≡ true → Agree w (step_by_parts w) (rust.push_state c (p + 1) vm)
  push_byte n e true b d x y z t = push_state (e ∙ eqb-true _ _ x)
  push_byte n e false true d x y z t = push_max_states (e ∙ eqb-true _ _ y)
  push_byte n e false false true x y z t = push_task_field (e ∙ eqb-true _ _ z)
  push_byte n e false false false x y z t = absurd (true≢false (sym t))

  -- bytes without an opcode, and S_LOAD
  record Unused (n : ℕ) : Type 0 where
    not_PUSH_U32 : eqb n PUSH_U32 ≡ false
    not_PUSH_CALLDATA : eqb n PUSH_CALLDATA ≡ false
    not_PUSH_STATE : eqb n PUSH_STATE ≡ false
    not_PUSH_MAX_STATES : eqb n PUSH_MAX_STATES ≡ false
    not_PUSH_TASK_FIELD : eqb n PUSH_TASK_FIELD ≡ false
    not_MUL : eqb n MUL ≡ false
    not_MULI : eqb n MULI ≡ false
    not_T_CREATE : eqb n T_CREATE ≡ false
    not_T_GET_FIELD : eqb n T_GET_FIELD ≡ false
    not_T_SET_FIELD : eqb n T_SET_FIELD ≡ false
    not_T_DELETE : eqb n T_DELETE ≡ false
    not_S_SAVE : eqb n S_SAVE ≡ false
    not_S_LEN : eqb n S_LEN ≡ false
    not_DO : eqb n DO ≡ false
    not_LOOP : eqb n LOOP ≡ false
    not_LOOP_INDEX : eqb n LOOP_INDEX ≡ false
    not_JUMP_IF_FALSE : eqb n JUMP_IF_FALSE ≡ false
    not_DUP : eqb n DUP ≡ false
    not_SWAP : eqb n SWAP ≡ false
    not_EQ : eqb n EQ ≡ false
    not_NEQ : eqb n NEQ ≡ false
    not_LT : eqb n LT ≡ false
    not_GT : eqb n GT ≡ false
    not_M_STI : eqb n M_STI ≡ false
    not_M_ST : eqb n M_ST ≡ false
    not_M_MUTA : eqb n M_MUTA ≡ false
    not_DROP : eqb n DROP ≡ false
    not_CALL : eqb n CALL ≡ false
    not_END_CALL : eqb n END_CALL ≡ false

  unused_outer : (n : ℕ) → Unused n → is_outer n ≡ false
  unfolding is_outer
  unused_outer n u = simp (u.not_PUSH_CALLDATA, u.not_T_CREATE, u.not_T_GET_FIELD, u.not_T_SET_FIELD, u.not_T_DELETE, u.not_S_SAVE, u.not_CALL, u.not_END_CALL)

  unused_size : (n : ℕ) → Unused n → operand_size n ≡ 0
  unfolding operand_size
  unused_size n u = simp (u.not_PUSH_U32, u.not_JUMP_IF_FALSE, u.not_MULI, u.not_PUSH_STATE, u.not_PUSH_TASK_FIELD, u.not_PUSH_MAX_STATES, u.not_M_ST, u.not_PUSH_CALLDATA, u.not_M_STI)

  unused : (n : ℕ) → get_or c p 0 ≡ n → Unused n → Agree w (step_by_parts w) (ok (at vm (p + 1) (values_of m.height w.stack)))
  unfolding by_extent execute is_equality operated plain registers_of
  unused n e u =
      inner_step n e (unused_outer n u) _ (reach_next n e (unused_size n u) u.not_PUSH_CALLDATA u.not_M_STI)
      (simp (u.not_PUSH_U32, u.not_PUSH_STATE, u.not_PUSH_MAX_STATES, u.not_PUSH_TASK_FIELD, u.not_MUL, u.not_MULI, u.not_S_LEN, u.not_DO, u.not_LOOP, u.not_LOOP_INDEX, u.not_JUMP_IF_FALSE, u.not_DUP, u.not_SWAP, u.not_EQ, u.not_NEQ, u.not_LT, u.not_GT, u.not_M_STI, u.not_M_ST, u.not_M_MUTA, u.not_DROP) (moves w stale bytes (p + 1) m.height w.stack (values_of m.height w.stack) refl))

  -- whatever the opcode
  all : (n : ℕ) → get_or c p 0 ≡ n → Agree w (step_by_parts w) (exec n c (p + 1) vm)
  unfolding exec view
  all n e =
      either (eqb n PUSH_U32) (λ t. push_u32 (e ∙ eqb-true _ _ t)) (λ f1.
      either (eqb n PUSH_CALLDATA) (λ t. push_calldata (e ∙ eqb-true _ _ t)) (λ f2.
      either (eqb n PUSH_STATE || eqb n PUSH_MAX_STATES || eqb n PUSH_TASK_FIELD) (λ t. push_byte n e _ _ _ refl refl refl t) (λ fg.
      either (eqb n MUL) (λ t. mul (e ∙ eqb-true _ _ t)) (λ f3.
      either (eqb n MULI) (λ t. muli (e ∙ eqb-true _ _ t)) (λ f4.
      either (eqb n T_CREATE) (λ t. t_create (e ∙ eqb-true _ _ t)) (λ f5.
      either (eqb n T_GET_FIELD) (λ t. t_get_field (e ∙ eqb-true _ _ t)) (λ f6.
      either (eqb n T_SET_FIELD) (λ t. t_set_field (e ∙ eqb-true _ _ t)) (λ f7.
      either (eqb n T_DELETE) (λ t. t_delete (e ∙ eqb-true _ _ t)) (λ f8.
      either (eqb n S_SAVE) (λ t. s_save (e ∙ eqb-true _ _ t)) (λ f9.
      either (eqb n S_LEN) (λ t. s_len (e ∙ eqb-true _ _ t)) (λ f10.
      either (eqb n DO) (λ t. do_op (e ∙ eqb-true _ _ t)) (λ f11.
      either (eqb n LOOP) (λ t. loop (e ∙ eqb-true _ _ t)) (λ f12.
      either (eqb n LOOP_INDEX) (λ t. loop_index (e ∙ eqb-true _ _ t)) (λ f13.
      either (eqb n JUMP_IF_FALSE) (λ t. jump_if_false (e ∙ eqb-true _ _ t)) (λ f14.
      either (eqb n DUP) (λ t. dup (e ∙ eqb-true _ _ t)) (λ f15.
      either (eqb n SWAP) (λ t. swap (e ∙ eqb-true _ _ t)) (λ f16.
      either (eqb n EQ) (λ t. eq (e ∙ eqb-true _ _ t)) (λ f17.
      either (eqb n NEQ) (λ t. neq (e ∙ eqb-true _ _ t)) (λ f18.
      either (eqb n LT) (λ t. lt (e ∙ eqb-true _ _ t)) (λ f19.
      either (eqb n GT) (λ t. gt (e ∙ eqb-true _ _ t)) (λ f20.
      either (eqb n M_STI) (λ t. m_sti (e ∙ eqb-true _ _ t)) (λ f21.
      either (eqb n M_ST) (λ t. m_st (e ∙ eqb-true _ _ t)) (λ f22.
      either (eqb n M_MUTA) (λ t. m_muta (e ∙ eqb-true _ _ t)) (λ f23.
      either (eqb n DROP) (λ t. drop (e ∙ eqb-true _ _ t)) (λ f24.
      either (eqb n CALL) (λ t. call (e ∙ eqb-true _ _ t)) (λ f25.
      either (eqb n END_CALL) (λ t. end_call (e ∙ eqb-true _ _ t)) (λ f26.
      unused n e (record { not_PUSH_U32 = f1; not_PUSH_CALLDATA = f2; not_PUSH_STATE = none_left (eqb n PUSH_STATE) (eqb n PUSH_MAX_STATES) (eqb n PUSH_TASK_FIELD) fg; not_PUSH_MAX_STATES = none_middle (eqb n PUSH_STATE) (eqb n PUSH_MAX_STATES) (eqb n PUSH_TASK_FIELD) fg; not_PUSH_TASK_FIELD = none_right (eqb n PUSH_STATE) (eqb n PUSH_MAX_STATES) (eqb n PUSH_TASK_FIELD) fg; not_MUL = f3; not_MULI = f4; not_T_CREATE = f5; not_T_GET_FIELD = f6; not_T_SET_FIELD = f7; not_T_DELETE = f8; not_S_SAVE = f9; not_S_LEN = f10; not_DO = f11; not_LOOP = f12; not_LOOP_INDEX = f13; not_JUMP_IF_FALSE = f14; not_DUP = f15; not_SWAP = f16; not_EQ = f17; not_NEQ = f18; not_LT = f19; not_GT = f20; not_M_STI = f21; not_M_ST = f22; not_M_MUTA = f23; not_DROP = f24; not_CALL = f25; not_END_CALL = f26 }))))))))))))))))))))))))))))

-- from a sound world before its code's end, at an instruction that is not left out: on to the same view, a limit that this port adds is reached with its reason, the error's refusal, or 2 for a panic
pub agrees : (w : World) (stale : ℕ) → Sound w → Bytes w.pool → at_end w ≡ false → excepted w ≡ false → Agree w (step w) (rust.step (view stale w))
unfolding at_end rust.step view code_of
agrees w stale s bytes before common =
    subst (λ (a : StepResult). Agree w a (rust.step (view stale w))) (step_is w)
    (rw (getD_entries w.pool w.ends w.machine.entries (current w.machine.frames).entry.0 (facts s).frame)
    (all w stale (facts s) bytes (leb-false _ _ before) common _ refl))
