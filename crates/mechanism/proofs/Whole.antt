-- The parts of a step are the step: an instruction as the code goes about it is what its opcode does, whatever the opcode.
use Prim.Native.Nat.{ℕ, ◌+◌, ◌<◌, ◌≤◌}
use mathlib.Core.Bool.{Bool, true, false, cond, ◌||◌, true≢false}
use mathlib.Core.Path.{◌≡◌, refl, sym, ◌∙◌}
use mathlib.Core.List.{List}
use native.Mathlib.Omega.{arith}
use lib.Dec.{eqb, leb}
use lib.ListN.{length, get_or, get_or-eq_default}
use borrow.Author.Tests.{leb-true, leb-false, eqb-true, lt-leb}
use Rattle.errors.specs.declared.Refusal.TheVariants.{UnexpectedEOB}
use Rattle.bytecode.specs.Opcodes.{PUSH_U32, PUSH_STATE, PUSH_CALLDATA, PUSH_TASK_FIELD, PUSH_MAX_STATES, T_CREATE, T_GET_FIELD, T_SET_FIELD, T_DELETE, S_SAVE, S_LEN, DO, LOOP, LOOP_INDEX, CALL, END_CALL, DROP, DUP, SWAP, EQ, NEQ, LT, GT, JUMP_IF_FALSE, M_STI, M_ST, M_MUTA, MULI, MUL, operand_size}
use Rattle.bytecode.specs.Operands.{data_size, behind, extent}
use Rattle.storage.specs.Tasks.{blank}
use Rattle.machine.specs.Machines.{op_at, placed}
use Rattle.machine.specs.World.{World, code, place, height, op, at_end}
use Rattle.machine.specs.Words.{StepResult, next, refused}
use Rattle.machine.specs.Opcodes as opcodes
use Rattle.machine.specs.Step.{execute, step}
use Rattle.mechanism.specs.Registers.{registers_of, settled}
use Rattle.mechanism.specs.Cut.{cut}
use Rattle.mechanism.specs.Execute as executing
use Rattle.mechanism.specs.Execute.{plain, operated, is_equality, by_extent, instruct}
use Rattle.mechanism.specs.Steps.{is_outer}
use Rattle.mechanism.specs.Advance.{wanted}
use Rattle.mechanism.specs.Act.{on_task, on_frames, act_by, act_at, act}
use Rattle.mechanism.specs.Step.{inner_result, on_registers, inner, on_record, acts, outer, step_by_parts}
use Rattle.mechanism.specs.declared.Registers.{Registers}
use Rattle.mechanism.proofs.Settled.{on_bool}
use Rattle.mechanism.proofs.Operands.{reaches, reaches_next, reaches_sti, reaches_calldata}
use Rattle.mechanism.proofs.Parts as parts
use Rattle.mechanism.proofs.TaskParts as task-parts
use Rattle.std.specs.Prelude.{Option, Some, None}

none_left : (a b d : Bool) → (a || b || d) ≡ false → a ≡ false
none_left true b d e = e
none_left false b d e = refl

none_middle : (a b d : Bool) → (a || b || d) ≡ false → b ≡ false
none_middle true b d e = absurd (true≢false e)
none_middle false true d e = e
none_middle false false d e = refl

none_right : (a b d : Bool) → (a || b || d) ≡ false → d ≡ false
none_right true b d e = absurd (true≢false e)
none_right false true d e = absurd (true≢false e)
none_right false false d e = e

-- before the code's end
module _ (w : World) (inside : place w < length (code w)) where
  abbrev r : Registers
  r = registers_of w.machine

  -- an opcode that needs no task, frame or pool
  inner_step : (n : ℕ) → get_or (code w) (place w) 0 ≡ n → is_outer n ≡ false → (reach : Option ℕ) → extent (code w) (place w) ≡ reach → {a : StepResult}
      → on_registers w (by_extent w.stack w.memory (code w) r n w.machine.count reach) ≡ a → step_by_parts w ≡ a
  unfolding step_by_parts op_at inner instruct registers_of
  inner_step n e out reach is goes = rw (e, out, is) goes

  -- one that does, and does not save
  acts_step : (n : ℕ) → get_or (code w) (place w) 0 ≡ n → is_outer n ≡ true → eqb n S_SAVE ≡ false → (reach : Option ℕ) → extent (code w) (place w) ≡ reach → {a : StepResult}
      → on_record w (wanted w.stack w.machine n) (act_by w.stack w.memory w.pool w.ends w.machine (get_or w.table (wanted w.stack w.machine n) blank) n (place w) reach) ≡ a → step_by_parts w ≡ a
  unfolding step_by_parts op_at outer acts act act_at
  acts_step n e out saves-not reach is goes = rw (e, out, saves-not, is, lt-leb (length (code w)) (place w) inside) goes

  -- the next place
  abbrev reach_next : (n : ℕ) → get_or (code w) (place w) 0 ≡ n → operand_size n ≡ 0 → eqb n PUSH_CALLDATA ≡ false → eqb n M_STI ≡ false → extent (code w) (place w) ≡ Some (place w + 1)
  reach_next n = reaches_next (code w) (place w) n inside

  mul : get_or (code w) (place w) 0 ≡ MUL → step_by_parts w ≡ opcodes.mul w
  unfolding is_outer operand_size by_extent executing.execute is_equality operated plain
  mul e = inner_step MUL e refl _ (reach_next MUL e refl refl refl) (parts.mul_is w)

  lt : get_or (code w) (place w) 0 ≡ LT → step_by_parts w ≡ opcodes.compare true w
  unfolding is_outer operand_size by_extent executing.execute is_equality operated plain
  lt e = inner_step LT e refl _ (reach_next LT e refl refl refl) (parts.compare_is w true)

  gt : get_or (code w) (place w) 0 ≡ GT → step_by_parts w ≡ opcodes.compare false w
  unfolding is_outer operand_size by_extent executing.execute is_equality operated plain
  gt e = inner_step GT e refl _ (reach_next GT e refl refl refl) (parts.compare_is w false)

  dup : get_or (code w) (place w) 0 ≡ DUP → step_by_parts w ≡ opcodes.dup w
  unfolding is_outer operand_size by_extent executing.execute is_equality operated plain
  dup e = inner_step DUP e refl _ (reach_next DUP e refl refl refl) (parts.dup_is w)

  swap : get_or (code w) (place w) 0 ≡ SWAP → step_by_parts w ≡ opcodes.swap w
  unfolding is_outer operand_size by_extent executing.execute is_equality operated plain
  swap e = inner_step SWAP e refl _ (reach_next SWAP e refl refl refl) (parts.swap_is w)

  drops : get_or (code w) (place w) 0 ≡ DROP → step_by_parts w ≡ opcodes.drops w
  unfolding is_outer operand_size by_extent executing.execute is_equality operated plain
  drops e = inner_step DROP e refl _ (reach_next DROP e refl refl refl) (parts.drops_is w)

  do_op : get_or (code w) (place w) 0 ≡ DO → step_by_parts w ≡ opcodes.«do» w
  unfolding is_outer operand_size by_extent executing.execute is_equality operated plain
  do_op e = inner_step DO e refl _ (reach_next DO e refl refl refl) (parts.do_is w)

  loop : get_or (code w) (place w) 0 ≡ LOOP → step_by_parts w ≡ opcodes.loop w
  unfolding is_outer operand_size by_extent executing.execute is_equality operated plain
  loop e = inner_step LOOP e refl _ (reach_next LOOP e refl refl refl) (parts.loop_is w)

  loop_index : get_or (code w) (place w) 0 ≡ LOOP_INDEX → step_by_parts w ≡ opcodes.loop_index w
  unfolding is_outer operand_size by_extent executing.execute is_equality operated plain
  loop_index e = inner_step LOOP_INDEX e refl _ (reach_next LOOP_INDEX e refl refl refl) (parts.loop_index_is w)

  s_len : get_or (code w) (place w) 0 ≡ S_LEN → step_by_parts w ≡ opcodes.s_len w
  unfolding is_outer operand_size by_extent executing.execute is_equality operated plain
  s_len e = inner_step S_LEN e refl _ (reach_next S_LEN e refl refl refl) (parts.s_len_is w)

  eq : get_or (code w) (place w) 0 ≡ EQ → step_by_parts w ≡ opcodes.eq w
  unfolding is_outer operand_size by_extent executing.execute is_equality
  eq e = inner_step EQ e refl _ (reach_next EQ e refl refl refl) (parts.eq_is w)

  neq : get_or (code w) (place w) 0 ≡ NEQ → step_by_parts w ≡ opcodes.neq w
  unfolding is_outer operand_size by_extent executing.execute is_equality
  neq e = inner_step NEQ e refl _ (reach_next NEQ e refl refl refl) (parts.neq_is w)

  m_muta : get_or (code w) (place w) 0 ≡ M_MUTA → step_by_parts w ≡ opcodes.m_muta w
  unfolding is_outer operand_size by_extent executing.execute is_equality
  m_muta e = inner_step M_MUTA e refl _ (reach_next M_MUTA e refl refl refl) (parts.m_muta_is w)

  push_u32 : get_or (code w) (place w) 0 ≡ PUSH_U32 → step_by_parts w ≡ opcodes.push_u32 w
  unfolding is_outer operand_size
  push_u32 e = inner_step PUSH_U32 e refl _ (reaches (code w) (place w) PUSH_U32 4 e refl refl refl) (parts.push_u32_is w)

  muli : get_or (code w) (place w) 0 ≡ MULI → step_by_parts w ≡ opcodes.muli w
  unfolding is_outer operand_size
  muli e = inner_step MULI e refl _ (reaches (code w) (place w) MULI 4 e refl refl refl) (parts.muli_at w)

  jump_if_false : get_or (code w) (place w) 0 ≡ JUMP_IF_FALSE → step_by_parts w ≡ opcodes.jump_if_false w
  unfolding is_outer operand_size
  jump_if_false e = inner_step JUMP_IF_FALSE e refl _ (reaches (code w) (place w) JUMP_IF_FALSE 4 e refl refl refl) (parts.jump_if_false_is w)

  m_st : get_or (code w) (place w) 0 ≡ M_ST → step_by_parts w ≡ opcodes.m_st w
  unfolding is_outer operand_size
  m_st e = inner_step M_ST e refl _ (reaches (code w) (place w) M_ST 1 e refl refl refl) (parts.m_st_is w)

  push_state : get_or (code w) (place w) 0 ≡ PUSH_STATE → step_by_parts w ≡ opcodes.push_byte w
  unfolding is_outer operand_size executing.execute is_equality operated cut
  push_state e = inner_step PUSH_STATE e refl _ (reaches (code w) (place w) PUSH_STATE 1 e refl refl refl) (parts.push_byte_is w PUSH_STATE refl refl)

  push_task_field : get_or (code w) (place w) 0 ≡ PUSH_TASK_FIELD → step_by_parts w ≡ opcodes.push_byte w
  unfolding is_outer operand_size executing.execute is_equality operated cut
  push_task_field e = inner_step PUSH_TASK_FIELD e refl _ (reaches (code w) (place w) PUSH_TASK_FIELD 1 e refl refl refl) (parts.push_byte_is w PUSH_TASK_FIELD refl refl)

  push_max_states : get_or (code w) (place w) 0 ≡ PUSH_MAX_STATES → step_by_parts w ≡ opcodes.push_byte w
  unfolding is_outer operand_size executing.execute is_equality operated cut
  push_max_states e = inner_step PUSH_MAX_STATES e refl _ (reaches (code w) (place w) PUSH_MAX_STATES 1 e refl refl refl) (parts.push_byte_is w PUSH_MAX_STATES refl refl)

  m_sti : get_or (code w) (place w) 0 ≡ M_STI → step_by_parts w ≡ opcodes.m_sti w
  unfolding is_outer
  m_sti e = inner_step M_STI e refl _ (reaches_sti (code w) (place w) e) (parts.m_sti_is w)

  -- those that need a task, a frame or the pool
  push_calldata : get_or (code w) (place w) 0 ≡ PUSH_CALLDATA → step_by_parts w ≡ opcodes.push_calldata w
  unfolding is_outer
  push_calldata e = acts_step PUSH_CALLDATA e refl refl _ (reaches_calldata (code w) (place w) e) (task-parts.calldata_is w (wanted w.stack w.machine PUSH_CALLDATA))

  t_create : get_or (code w) (place w) 0 ≡ T_CREATE → step_by_parts w ≡ opcodes.t_create w
  unfolding is_outer operand_size act_by on_frames on_task wanted
  t_create e = acts_step T_CREATE e refl refl _ (reach_next T_CREATE e refl refl refl) (task-parts.create_is w)

  t_get_field : get_or (code w) (place w) 0 ≡ T_GET_FIELD → step_by_parts w ≡ opcodes.t_get_field w
  unfolding is_outer operand_size act_by on_frames wanted
  t_get_field e = acts_step T_GET_FIELD e refl refl _ (reach_next T_GET_FIELD e refl refl refl) (task-parts.get_is w _ (task-parts.named_below w))

  t_set_field : get_or (code w) (place w) 0 ≡ T_SET_FIELD → step_by_parts w ≡ opcodes.t_set_field w
  unfolding is_outer operand_size act_by on_frames on_task wanted
  t_set_field e = acts_step T_SET_FIELD e refl refl _ (reach_next T_SET_FIELD e refl refl refl) (task-parts.set_is w _ (task-parts.named_below w))

  t_delete : get_or (code w) (place w) 0 ≡ T_DELETE → step_by_parts w ≡ opcodes.t_delete w
  unfolding is_outer operand_size act_by on_frames on_task wanted
  t_delete e = acts_step T_DELETE e refl refl _ (reach_next T_DELETE e refl refl refl) (rw (task-parts.top_is w) (task-parts.delete_is w))

  call : get_or (code w) (place w) 0 ≡ CALL → step_by_parts w ≡ opcodes.call_task w
  unfolding is_outer operand_size act_by on_frames wanted
  call e = acts_step CALL e refl refl _ (reach_next CALL e refl refl refl) (rw (task-parts.top_is w) (task-parts.call_is w))

  end_call : get_or (code w) (place w) 0 ≡ END_CALL → step_by_parts w ≡ opcodes.end_call w
  unfolding is_outer operand_size act_by on_frames
  end_call e = acts_step END_CALL e refl refl _ (reach_next END_CALL e refl refl refl) (task-parts.end_call_is w (wanted w.stack w.machine END_CALL))

  s_save : get_or (code w) (place w) 0 ≡ S_SAVE → step_by_parts w ≡ opcodes.s_save w
  unfolding step_by_parts op_at outer is_outer
  s_save e = rw e (task-parts.save_is w)

  -- the opcodes that push a byte
  push_byte : (n : ℕ) → get_or (code w) (place w) 0 ≡ n → (a b d : Bool) → eqb n PUSH_STATE ≡ a → eqb n PUSH_TASK_FIELD ≡ b → eqb n PUSH_MAX_STATES ≡ d → (a || b || d) ≡ true → step_by_parts w ≡ opcodes.push_byte w
  push_byte n e true b d x y z t = push_state (e ∙ eqb-true _ _ x)
  push_byte n e false true d x y z t = push_task_field (e ∙ eqb-true _ _ y)
  push_byte n e false false true x y z t = push_max_states (e ∙ eqb-true _ _ z)
  push_byte n e false false false x y z t = absurd (true≢false (sym t))

  -- bytes without an opcode, and S_LOAD
  record Unused (n : ℕ) : Type 0 where
    not_PUSH_U32 : eqb n PUSH_U32 ≡ false
    not_PUSH_STATE : eqb n PUSH_STATE ≡ false
    not_PUSH_TASK_FIELD : eqb n PUSH_TASK_FIELD ≡ false
    not_PUSH_MAX_STATES : eqb n PUSH_MAX_STATES ≡ false
    not_PUSH_CALLDATA : eqb n PUSH_CALLDATA ≡ false
    not_T_CREATE : eqb n T_CREATE ≡ false
    not_T_GET_FIELD : eqb n T_GET_FIELD ≡ false
    not_T_SET_FIELD : eqb n T_SET_FIELD ≡ false
    not_T_DELETE : eqb n T_DELETE ≡ false
    not_S_SAVE : eqb n S_SAVE ≡ false
    not_S_LEN : eqb n S_LEN ≡ false
    not_DO : eqb n DO ≡ false
    not_LOOP : eqb n LOOP ≡ false
    not_LOOP_INDEX : eqb n LOOP_INDEX ≡ false
    not_CALL : eqb n CALL ≡ false
    not_END_CALL : eqb n END_CALL ≡ false
    not_DROP : eqb n DROP ≡ false
    not_DUP : eqb n DUP ≡ false
    not_SWAP : eqb n SWAP ≡ false
    not_EQ : eqb n EQ ≡ false
    not_NEQ : eqb n NEQ ≡ false
    not_LT : eqb n LT ≡ false
    not_GT : eqb n GT ≡ false
    not_JUMP_IF_FALSE : eqb n JUMP_IF_FALSE ≡ false
    not_M_STI : eqb n M_STI ≡ false
    not_M_ST : eqb n M_ST ≡ false
    not_M_MUTA : eqb n M_MUTA ≡ false
    not_MULI : eqb n MULI ≡ false
    not_MUL : eqb n MUL ≡ false

  unused_outer : (n : ℕ) → Unused n → is_outer n ≡ false
  unfolding is_outer
  unused_outer n u = simp (u.not_PUSH_CALLDATA, u.not_T_CREATE, u.not_T_GET_FIELD, u.not_T_SET_FIELD, u.not_T_DELETE, u.not_S_SAVE, u.not_CALL, u.not_END_CALL)

  unused_size : (n : ℕ) → Unused n → operand_size n ≡ 0
  unfolding operand_size
  unused_size n u = simp (u.not_PUSH_U32, u.not_JUMP_IF_FALSE, u.not_MULI, u.not_PUSH_STATE, u.not_PUSH_TASK_FIELD, u.not_PUSH_MAX_STATES, u.not_M_ST, u.not_PUSH_CALLDATA, u.not_M_STI)

  unused : (n : ℕ) → get_or (code w) (place w) 0 ≡ n → Unused n → step_by_parts w ≡ next (opcodes.onward w (height w))
  unfolding by_extent executing.execute is_equality operated plain inner_result settled placed registers_of
  unused n e u =
      inner_step n e (unused_outer n u) _ (reach_next n e (unused_size n u) u.not_PUSH_CALLDATA u.not_M_STI)
      (simp (u.not_PUSH_U32, u.not_PUSH_STATE, u.not_PUSH_MAX_STATES, u.not_PUSH_TASK_FIELD, u.not_MUL, u.not_MULI, u.not_S_LEN, u.not_DO, u.not_LOOP, u.not_LOOP_INDEX, u.not_JUMP_IF_FALSE, u.not_DUP, u.not_SWAP, u.not_EQ, u.not_NEQ, u.not_LT, u.not_GT, u.not_M_STI, u.not_M_ST, u.not_M_MUTA, u.not_DROP))

  -- a test of the opcode alone
  either : (b : Bool) {a c : StepResult} → (b ≡ true → step_by_parts w ≡ a) → (b ≡ false → step_by_parts w ≡ c) → step_by_parts w ≡ cond b a c
  either true f g = f refl
  either false f g = g refl

  -- whatever the opcode
  all : (n : ℕ) → get_or (code w) (place w) 0 ≡ n → step_by_parts w ≡ execute n w
  unfolding execute
  all n e =
      either (eqb n PUSH_U32) (λ t. push_u32 (e ∙ eqb-true _ _ t)) (λ f1.
      either (eqb n PUSH_STATE || eqb n PUSH_TASK_FIELD || eqb n PUSH_MAX_STATES) (λ t. push_byte n e _ _ _ refl refl refl t) (λ fb.
      either (eqb n PUSH_CALLDATA) (λ t. push_calldata (e ∙ eqb-true _ _ t)) (λ f3.
      either (eqb n T_CREATE) (λ t. t_create (e ∙ eqb-true _ _ t)) (λ f4.
      either (eqb n T_GET_FIELD) (λ t. t_get_field (e ∙ eqb-true _ _ t)) (λ f5.
      either (eqb n T_SET_FIELD) (λ t. t_set_field (e ∙ eqb-true _ _ t)) (λ f6.
      either (eqb n T_DELETE) (λ t. t_delete (e ∙ eqb-true _ _ t)) (λ f7.
      either (eqb n S_SAVE) (λ t. s_save (e ∙ eqb-true _ _ t)) (λ f8.
      either (eqb n S_LEN) (λ t. s_len (e ∙ eqb-true _ _ t)) (λ f9.
      either (eqb n DO) (λ t. do_op (e ∙ eqb-true _ _ t)) (λ f10.
      either (eqb n LOOP) (λ t. loop (e ∙ eqb-true _ _ t)) (λ f11.
      either (eqb n LOOP_INDEX) (λ t. loop_index (e ∙ eqb-true _ _ t)) (λ f12.
      either (eqb n CALL) (λ t. call (e ∙ eqb-true _ _ t)) (λ f13.
      either (eqb n END_CALL) (λ t. end_call (e ∙ eqb-true _ _ t)) (λ f14.
      either (eqb n DROP) (λ t. drops (e ∙ eqb-true _ _ t)) (λ f15.
      either (eqb n DUP) (λ t. dup (e ∙ eqb-true _ _ t)) (λ f16.
      either (eqb n SWAP) (λ t. swap (e ∙ eqb-true _ _ t)) (λ f17.
      either (eqb n EQ) (λ t. eq (e ∙ eqb-true _ _ t)) (λ f18.
      either (eqb n NEQ) (λ t. neq (e ∙ eqb-true _ _ t)) (λ f19.
      either (eqb n LT) (λ t. lt (e ∙ eqb-true _ _ t)) (λ f20.
      either (eqb n GT) (λ t. gt (e ∙ eqb-true _ _ t)) (λ f21.
      either (eqb n JUMP_IF_FALSE) (λ t. jump_if_false (e ∙ eqb-true _ _ t)) (λ f22.
      either (eqb n M_STI) (λ t. m_sti (e ∙ eqb-true _ _ t)) (λ f23.
      either (eqb n M_ST) (λ t. m_st (e ∙ eqb-true _ _ t)) (λ f24.
      either (eqb n M_MUTA) (λ t. m_muta (e ∙ eqb-true _ _ t)) (λ f25.
      either (eqb n MULI) (λ t. muli (e ∙ eqb-true _ _ t)) (λ f26.
      either (eqb n MUL) (λ t. mul (e ∙ eqb-true _ _ t)) (λ f27.
      unused n e (record { not_PUSH_U32 = f1; not_PUSH_STATE = none_left (eqb n PUSH_STATE) (eqb n PUSH_TASK_FIELD) (eqb n PUSH_MAX_STATES) fb; not_PUSH_TASK_FIELD = none_middle (eqb n PUSH_STATE) (eqb n PUSH_TASK_FIELD) (eqb n PUSH_MAX_STATES) fb; not_PUSH_MAX_STATES = none_right (eqb n PUSH_STATE) (eqb n PUSH_TASK_FIELD) (eqb n PUSH_MAX_STATES) fb; not_PUSH_CALLDATA = f3; not_T_CREATE = f4; not_T_GET_FIELD = f5; not_T_SET_FIELD = f6; not_T_DELETE = f7; not_S_SAVE = f8; not_S_LEN = f9; not_DO = f10; not_LOOP = f11; not_LOOP_INDEX = f12; not_CALL = f13; not_END_CALL = f14; not_DROP = f15; not_DUP = f16; not_SWAP = f17; not_EQ = f18; not_NEQ = f19; not_LT = f20; not_GT = f21; not_JUMP_IF_FALSE = f22; not_M_STI = f23; not_M_ST = f24; not_M_MUTA = f25; not_MULI = f26; not_MUL = f27 }))))))))))))))))))))))))))))

-- at or past it there is no instruction
cut_off : (c : List ℕ) (p : ℕ) → length c ≤ p → extent c p ≡ None
unfolding extent behind
cut_off c p past = rw (lt-leb (p + 1 + operand_size (get_or c p 0) + data_size c p) (length c) (omega arith))

ended : (w : World) → length (code w) ≤ place w → step_by_parts w ≡ refused UnexpectedEOB
unfolding step_by_parts op_at is_outer inner instruct by_extent cut inner_result registers_of
ended w past = rw (get_or-eq_default (code w) 0 past, cut_off (code w) (place w) past)

-- an instruction as the code goes about it is the machine's step
pub step_is : (w : World) → step_by_parts w ≡ step w
unfolding step at_end op_at
step_is w =
    on_bool (leb (length (code w)) (place w))
    (λ t. rw t (ended w (leb-true _ _ t)))
    (λ t. rw t (all w (leb-false _ _ t) (op w) refl))
