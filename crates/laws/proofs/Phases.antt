-- The phase plays no part in an instruction or a run.
use Prim.Native.Nat.{ℕ, zero, suc}
use mathlib.Core.Bool.{Bool, true, false, cond}
use mathlib.Core.List.{List}
use mathlib.Core.Path.{◌≡◌, refl, sym, ap, ◌∙◌}
use lib.Dec.{eqb, leb}
use lib.ListN.{length, get_or}
use Rattle.bytecode.specs.Opcodes.{PUSH_CALLDATA, T_CREATE, T_GET_FIELD, T_SET_FIELD, T_DELETE, S_SAVE, CALL, END_CALL}
use Rattle.pools.specs.Pool.{Pooled}
use Rattle.pools.specs.declared.InstructionsRef.{InstructionsRef}
use Rattle.storage.specs.declared.Task.{Task}
use Rattle.storage.specs.Tasks.{blank}
use Rattle.mechanism.specs.Registers.{OnMemory}
use Rattle.mechanism.specs.Create.{op_t_create, op_t_delete}
use Rattle.mechanism.specs.Fields.{op_t_get_field, op_t_set_field}
use Rattle.mechanism.specs.Steps.{is_outer}
use Rattle.machine.specs.declared.Machine.{Machine}
use Rattle.machine.specs.declared.Phase.{Phase}
use Rattle.machine.specs.Machines.{current, code_of}
use Rattle.mechanism.specs.Registers.{registers_of, settled}
use Rattle.mechanism.specs.Frames.{OnPool, on_pool, intern_sized, intern_calldata, with_entry, calldata_pushed, push_calldata, framed, enter_bounded, enter, call_popped, op_call, left_frame, op_end_call}
use Rattle.mechanism.specs.Registers.{machine_at}
use Rattle.mechanism.specs.Act.{keeping, OnAll, on_all, settled_by, created, tasked_by, created_by, on_task, after_pool, after_memory, on_frames, act_by, act_at, act}
use Rattle.machine.specs.Machines.{op_at}
use Rattle.mechanism.specs.Advance.{wanted}
use Rattle.mechanism.specs.Turns.{save_result}
use Rattle.machine.specs.World.{World, op, at_end}
use Rattle.machine.specs.Words as steps
use Rattle.mechanism.proofs.Whole.{step_is}
use Rattle.machine.specs.Words.{StepResult}
use Rattle.machine.specs.Step.{step}
use Rattle.mechanism.specs.Step.{inner_result, inner, acts_result, acted_at, acts, saves_result, saves, outer, step_by_parts}
use Rattle.machine.specs.Run.{End, end_at, follow, run}
use Rattle.machine.specs.Calls.{phased}
use Rattle.machine.specs.World.{with_machine}
use Rattle.std.specs.Prelude.{Ok, Err, Some, None, Result, Option}
use Rattle.errors.specs.declared.Refusal.{Refusal}
use Rattle.mechanism.specs.declared.Registers.{Registers}
use Rattle.inlinevec.specs.declared.Frame.{Frame}
use Rattle.inlinevec.specs.declared.Two.{Two}
use Rattle.mechanism.specs.declared.Change.{Change}

-- tests of one outcome, each side the same but for a function
alike : {A B : Type 0} (f : A → B) (b : Bool) (x y : A) (u v : B) → u ≡ f x → v ≡ f y → cond b u v ≡ f (cond b x y)
alike f true x y u v p q = p
alike f false x y u v p q = q

-- a world in a phase
abbrev pub rephased : Phase → World → World
rephased phase w = with_machine w (phased w.machine phase)

module _ (phase : Phase) where
  -- the same in this phase
  result_as : Result Machine Refusal → Result Machine Refusal
  result_as (Ok machine) = Ok (phased machine phase)
  result_as (Err refusal) = Err refusal

  abbrev pool_as : OnPool → OnPool
  pool_as a = on_pool (result_as a.result) a.stack a.pool a.ends

  acted_as : Result (Machine × Change) Refusal → Result (Machine × Change) Refusal
  acted_as (Ok (machine, change)) = Ok (phased machine phase, change)
  acted_as (Err refusal) = Err refusal

  keeping_as : (result : Result Machine Refusal) → keeping (result_as result) ≡ acted_as (keeping result)
  unfolding keeping result_as acted_as
  keeping_as (Ok machine) = refl
  keeping_as (Err refusal) = refl

  abbrev all_as : OnAll → OnAll
  all_as a = on_all (acted_as a.acted) a.stack a.memory a.pool a.ends

  unfoldable pub step_as : StepResult → StepResult
  step_as (steps.next v) = steps.next (rephased phase v)
  step_as (steps.refused refusal) = steps.refused refusal

  abbrev pub end_as : End → End
  end_as e = end_at (rephased phase e.world) e.left e.outcome

  -- ---- PUSH_CALLDATA

  sized_as : (pool ends : List ℕ) (machine : Machine) (place : ℕ) (result : Result ℕ Refusal) → intern_sized pool ends (phased machine phase) place result ≡ intern_sized pool ends machine place result
  unfolding intern_sized
  sized_as pool ends machine place (Ok size) = refl
  sized_as pool ends machine place (Err refusal) = refl

  interned_as : (pool ends : List ℕ) (machine : Machine) (place : ℕ) → intern_calldata pool ends (phased machine phase) place ≡ intern_calldata pool ends machine place
  unfolding intern_calldata code_of
  interned_as pool ends machine place = sized_as pool ends machine place _

  pushed_as : (stack : List ℕ) (machine : Machine) (next : ℕ) (after : Pooled) (result : Result (InstructionsRef × ℕ) Refusal)
      → calldata_pushed stack (phased machine phase) next after result ≡ pool_as (calldata_pushed stack machine next after result)
  unfolding calldata_pushed with_entry settled registers_of result_as
  pushed_as stack machine next after (Ok (entry, bytes)) = refl
  pushed_as stack machine next after (Err refusal) = refl

  calldata_as : (stack pool ends : List ℕ) (machine : Machine) (place next : ℕ)
      → push_calldata stack pool ends (phased machine phase) place next ≡ pool_as (push_calldata stack pool ends machine place next)
  unfolding push_calldata result_as
  calldata_as stack pool ends machine place next =
      alike pool_as (leb 1000 machine.height) _ _ _ _ refl
      (ap (λ (p : Pooled). calldata_pushed stack (phased machine phase) next p p.answer) (interned_as pool ends machine place) ∙ pushed_as stack machine next _ _)

  -- ---- CALL and END_CALL

  framed_as : (caller : Machine) (result : Result (Two Frame) Refusal) → framed (phased caller phase) result ≡ result_as (framed caller result)
  unfolding framed result_as
  framed_as caller (Ok frames) = refl
  framed_as caller (Err refusal) = refl

  bounded_as : (caller : Machine) (entry : InstructionsRef) (result : Result (ℕ × ℕ) Refusal) → enter_bounded (phased caller phase) entry result ≡ result_as (enter_bounded caller entry result)
  unfolding enter_bounded result_as
  bounded_as caller entry (Ok (start, end)) = alike result_as (leb end start) _ _ _ _ refl (framed_as caller _)
  bounded_as caller entry (Err refusal) = refl

  popped_as : (ends : List ℕ) (machine : Machine) (next : ℕ) (task : Task) (result : Result (ℕ × ℕ) Refusal) → call_popped ends (phased machine phase) next task result ≡ result_as (call_popped ends machine next task result)
  unfolding call_popped enter settled registers_of result_as
  popped_as ends machine next task (Ok (value, height)) = alike result_as task.living _ _ _ _ (bounded_as (machine_at machine next height) task.instructions_ref _) refl
  popped_as ends machine next task (Err refusal) = refl

  left_as : (machine : Machine) (result : Result (Frame × Two Frame) Refusal) → left_frame (phased machine phase) result ≡ result_as (left_frame machine result)
  unfolding left_frame result_as
  left_as machine (Ok (frame, frames)) = refl
  left_as machine (Err refusal) = refl

  call_as : (stack ends : List ℕ) (machine : Machine) (next : ℕ) (task : Task) → op_call stack ends (phased machine phase) next task ≡ result_as (op_call stack ends machine next task)
  unfolding op_call
  call_as stack ends machine next task = popped_as ends machine next task _

  end_call_as : (machine : Machine) (next : ℕ) → op_end_call (phased machine phase) next ≡ result_as (op_end_call machine next)
  unfolding op_end_call settled registers_of result_as
  end_call_as machine next = alike result_as (leb machine.frames.count 1) _ _ _ _ refl (left_as machine _)

  -- ---- tasks

  by_as : (machine : Machine) (result : Result Registers Refusal) → settled_by (phased machine phase) result ≡ result_as (settled_by machine result)
  unfolding settled_by settled result_as
  by_as machine (Ok registers) = refl
  by_as machine (Err refusal) = refl

  tasked_as : (machine : Machine) (a : Result (Registers × Change) Refusal) → tasked_by (phased machine phase) a ≡ acted_as (tasked_by machine a)
  unfolding tasked_by settled acted_as
  tasked_as machine (Ok (registers, change)) = refl
  tasked_as machine (Err refusal) = refl

  created_as : (machine : Machine) (a : Result (Registers × Change) Refusal) → created_by (phased machine phase) a ≡ acted_as (created_by machine a)
  unfolding created_by created settled acted_as
  created_as machine (Ok (registers, change)) = refl
  created_as machine (Err refusal) = refl

  task_as : (stack memory : List ℕ) (machine : Machine) (task : Task) (op next : ℕ) → on_task stack memory (phased machine phase) task op next ≡ acted_as (on_task stack memory machine task op next)
  unfolding on_task registers_of settled acted_as
  task_as stack memory machine task op next =
      alike acted_as (eqb op T_CREATE) _ _ _ _ (created_as machine (op_t_create stack memory (registers_of machine) next machine.next_id.0))
      (alike acted_as (eqb op T_SET_FIELD) _ _ _ _ (tasked_as machine (op_t_set_field stack memory (registers_of machine) next task))
      (alike acted_as (eqb op T_DELETE) _ _ _ _ (tasked_as machine (op_t_delete stack (registers_of machine) next task)) refl))

  -- ---- each

  -- an answer that changes no slot, with the rest
  kept_as : (result : Result Machine Refusal) (stack memory pool ends : List ℕ) → on_all (keeping (result_as result)) stack memory pool ends ≡ all_as (on_all (keeping result) stack memory pool ends)
  kept_as result stack memory pool ends = ap (λ (a : Result (Machine × Change) Refusal). on_all a stack memory pool ends) (keeping_as result)

  memory_as : (pool ends : List ℕ) (machine : Machine) (a : OnMemory) → after_memory (phased machine phase) a pool ends ≡ all_as (after_memory machine a pool ends)
  memory_as pool ends machine a =
      ap (λ (w : Result Machine Refusal). on_all (keeping w) a.stack a.memory pool ends) (by_as machine a.result) ∙ kept_as (settled_by machine a.result) a.stack a.memory pool ends

  frames_as : (stack memory pool ends : List ℕ) (machine : Machine) (task : Task) (op place next : ℕ)
      → on_frames stack memory pool ends (phased machine phase) task op place next ≡ all_as (on_frames stack memory pool ends machine task op place next)
  unfolding on_frames registers_of
  frames_as stack memory pool ends machine task op place next =
      let p = push_calldata stack pool ends machine place next in
      alike all_as (eqb op PUSH_CALLDATA) _ _ _ _
      (ap (λ (a : OnPool). after_pool a memory) (calldata_as stack pool ends machine place next) ∙ kept_as p.result p.stack memory p.pool p.ends)
      (alike all_as (eqb op T_GET_FIELD) _ _ _ _ (memory_as pool ends machine (op_t_get_field stack memory (registers_of machine) next task))
      (alike all_as (eqb op CALL) _ _ _ _
      (ap (λ (w : Result Machine Refusal). on_all (keeping w) stack memory pool ends) (call_as stack ends machine next task) ∙ kept_as (op_call stack ends machine next task) stack memory pool ends)
      (alike all_as (eqb op END_CALL) _ _ _ _
      (ap (λ (w : Result Machine Refusal). on_all (keeping w) stack memory pool ends) (end_call_as machine next) ∙ kept_as (op_end_call machine next) stack memory pool ends)
      (ap (λ (a : Result (Machine × Change) Refusal). on_all a stack memory pool ends) (task_as stack memory machine task op next)))))

  extent_as : (stack memory pool ends : List ℕ) (machine : Machine) (task : Task) (op place : ℕ) (extent : Option ℕ)
      → act_by stack memory pool ends (phased machine phase) task op place extent ≡ all_as (act_by stack memory pool ends machine task op place extent)
  unfolding act_by acted_as
  extent_as stack memory pool ends machine task op place (Some next) = frames_as stack memory pool ends machine task op place next
  extent_as stack memory pool ends machine task op place None = refl

  act_as : (stack memory pool ends : List ℕ) (machine : Machine) (task : Task) → act stack memory pool ends (phased machine phase) task ≡ all_as (act stack memory pool ends machine task)
  unfolding act act_at code_of acted_as
  act_as stack memory pool ends machine task =
      alike all_as (leb (length (code_of pool ends machine)) (current machine.frames).place) _ _ _ _ refl (extent_as stack memory pool ends machine task _ _ _)

  -- ---- an instruction

  inner_result_as : (w : World) (stack memory : List ℕ) (result : Result Registers Refusal) → inner_result (rephased phase w) stack memory result ≡ step_as (inner_result w stack memory result)
  unfolding inner_result settled step_as
  inner_result_as w stack memory (Ok registers) = refl
  inner_result_as w stack memory (Err refusal) = refl

  inner_as : (w : World) → inner (rephased phase w) ≡ step_as (inner w)
  unfolding inner registers_of code_of
  inner_as w = inner_result_as w _ _ _

  acts_result_as : (w : World) (slot : ℕ) (a : OnAll) (result : Result (Machine × Change) Refusal) → acts_result (rephased phase w) slot (all_as a) (acted_as result) ≡ step_as (acts_result w slot a result)
  unfolding acts_result step_as acted_as
  acts_result_as w slot a (Ok (machine, change)) = refl
  acts_result_as w slot a (Err refusal) = refl

  acts_as : (w : World) (slot : ℕ) → acts (rephased phase w) slot ≡ step_as (acts w slot)
  unfolding acts
  acts_as w slot =
      ap (λ (a : OnAll). acts_result (rephased phase w) slot a a.acted) (act_as w.stack w.memory w.pool w.ends w.machine (get_or w.table slot blank))
      ∙ acts_result_as w slot (acted_at w slot) (acted_at w slot).acted

  saves_result_as : (w : World) (save : List ℕ) (result : Result ℕ Refusal)
      → saves_result (rephased phase w) save (save_result (phased w.machine phase) result) ≡ step_as (saves_result w save (save_result w.machine result))
  unfolding saves_result save_result registers_of settled step_as
  saves_result_as w save (Ok size) = refl
  saves_result_as w save (Err refusal) = refl

  saves_as : (w : World) → saves (rephased phase w) ≡ step_as (saves w)
  unfolding saves
  saves_as w = saves_result_as w _ _

  -- an instruction does in any phase what it does in any other
  parts_phase : (w : World) → step_by_parts (rephased phase w) ≡ step_as (step_by_parts w)
  unfolding step_by_parts outer op_at code_of wanted
  parts_phase w =
      alike step_as (is_outer (op w)) _ _ _ _ (alike step_as (eqb (op w) S_SAVE) _ _ _ _ (saves_as w) (acts_as w _)) (inner_as w)

  pub step_phase : (w : World) → step (rephased phase w) ≡ step_as (step w)
  step_phase w = sym (step_is (rephased phase w)) ∙ parts_phase w ∙ ap step_as (step_is w)

  -- ---- a run

  followed : (others : World → End) (w : World) (left : ℕ) (s : StepResult) → ((v : World) → others (rephased phase v) ≡ end_as (others v))
      → follow others (rephased phase w) left (step_as s) ≡ end_as (follow others w left s)
  unfolding follow step_as
  followed others w left (steps.next v) same = same v
  followed others w left (steps.refused refusal) same = refl

  -- and so does a run
  pub run_phase : (fuel : ℕ) (w : World) → run fuel (rephased phase w) ≡ end_as (run fuel w)
  unfolding run at_end code_of
  run_phase zero w = alike end_as (at_end w) _ _ _ _ refl refl
  run_phase (suc fuel) w =
      alike end_as (at_end w) _ _ _ _ refl
      (ap (follow (λ v. run fuel v) (rephased phase w) (suc fuel)) (step_phase w) ∙ followed (λ v. run fuel v) w (suc fuel) (step w) (λ v. run_phase fuel v))
