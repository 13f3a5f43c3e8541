-- Main is the program: no instruction and no call of a host changes the entry of the first frame, which creation makes 0.
use Prim.Native.Nat.{ℕ, zero, suc}
use mathlib.Core.Bool.{Bool, true, false}
use mathlib.Core.List.{List, [], ◌∷◌}
use mathlib.Core.Path.{◌≡◌, refl, sym, ap, subst, ◌∙◌}
use native.Mathlib.Omega.{arith}
use lib.Dec.{eqb, ltb, leb}
use lib.ListN.{length}
use Rattle.errors.specs.declared.Refusal.{Refusal}
use Rattle.bytecode.specs.Opcodes.{S_SAVE, PUSH_CALLDATA, T_CREATE, T_GET_FIELD, T_SET_FIELD, T_DELETE, CALL, END_CALL}
use Rattle.inlinevec.specs.Stacks.{if_room, if_some, push_two, pop_two, last_two, change_two, push_onto, pop_off}
use Rattle.inlinevec.specs.declared.Frame.{Frame}
use Rattle.pools.specs.Pool.{Pooled}
use Rattle.pools.specs.declared.InstructionsRef.{InstructionsRef}
use Rattle.storage.specs.declared.Task.{Task}
use Rattle.machine.specs.declared.Machine.{Machine}
use Rattle.machine.specs.declared.Outcome.{Outcome}
use Rattle.machine.specs.declared.Outcome.TheVariants.{Done, Paused, Refused}
use Rattle.machine.specs.declared.Verb.{Verb}
use Rattle.machine.specs.declared.Verb.TheVariants.{Start, Rerun, Continue}
use Rattle.machine.specs.Machines.{current, with_current, placed, rewound, code_of}
use Rattle.machine.specs.World.{World, op, at_end, with_machine}
use Rattle.machine.specs.Words.{StepResult, next, refused}
use Rattle.machine.specs.Step.{step}
use Rattle.machine.specs.Run.{End, follow, run}
use Rattle.machine.specs.Calls.{Permission, allowed, ended, report, Reported, is_sound, call_with, call}
use Rattle.machine.specs.Reads.{SavedTo, host_saved, host_save, value_read, task_read}
use Rattle.machine.specs.Creation.{Made}
use Rattle.machine.specs.History.{FreshWorld, is_created, HostCall, runs, saves as host-saves, reads_value, reads_task, left_by, history, world_saved}
use Rattle.mechanism.specs.Registers.{settled, machine_at}
use Rattle.mechanism.specs.declared.Registers.{Registers}
use Rattle.mechanism.specs.Frames.{with_entry, calldata_pushed, push_calldata, framed, enter_bounded, enter, call_popped, op_call, left_frame, op_end_call}
use Rattle.mechanism.specs.Act.{OnAll, keeping, settled_by, created, tasked_by, created_by, on_task, on_frames, act_by, act_at, act}
use Rattle.mechanism.specs.Turns.{save_result}
use Rattle.mechanism.specs.Steps.{is_outer}
use Rattle.mechanism.specs.Step.{inner_result, inner, acts_result, acts, saves_result, saves, outer, step_by_parts}
use Rattle.mechanism.proofs.Whole.{step_is}
use Rattle.laws.specs.Sound.{Passes}
use Rattle.laws.proofs.Either.{either}
use Rattle.laws.proofs.Parts.{passes_kept}
use Rattle.laws.proofs.Frames.{some_frame}
use Rattle.laws.proofs.Step.{step_passes}
use Rattle.laws.proofs.Creation.{fresh_passes}
use Rattle.laws.proofs.Creates.{created_as, created_is, creates_exactly}
use Rattle.laws.proofs.SoundnessCalls.{allowed_passes, left_passes}
use Rattle.std.specs.Prelude.{Ok, Err, Some, None, Result, Option}
use Rattle.mechanism.specs.declared.Change.{Change}
use Rattle.mechanism.specs.declared.Change.TheVariants.{Keep}

-- the entry of the first frame
abbrev main_entry : Machine → ℕ
main_entry machine = machine.frames.first.entry.0

-- ---- registers put back

settled_main : (machine : Machine) (registers : Registers) → main_entry (settled machine registers) ≡ main_entry machine
unfolding settled with_current current last_two change_two
settled_main machine registers = by (eqb machine.frames.count 1) refl
  where
    by : (b : Bool) → eqb machine.frames.count 1 ≡ b → main_entry (settled machine registers) ≡ main_entry machine
    by true e = rw e
    by false e = rw e

settled_count : (machine : Machine) (registers : Registers) → (settled machine registers).frames.count ≡ machine.frames.count
unfolding settled with_current change_two
settled_count machine registers = by (eqb machine.frames.count 1) refl
  where
    by : (b : Bool) → eqb machine.frames.count 1 ≡ b → (settled machine registers).frames.count ≡ machine.frames.count
    by true e = rw e
    by false e = rw e

-- ---- an instruction that needs a task, a frame or the pool

data Keeps (machine : Machine) : Result Machine Refusal → Type 0 where
  keeps : (after : Machine) → main_entry after ≡ main_entry machine → Keeps machine (Ok after)
  refuses : (refusal : Refusal) → Keeps machine (Err refusal)

settled_by_keeps : (machine : Machine) (result : Result Registers Refusal) → Keeps machine (settled_by machine result)
unfolding settled_by
settled_by_keeps machine (Ok registers) = keeps _ (settled_main machine registers)
settled_by_keeps machine (Err refusal) = refuses refusal

pushed_keeps : (stack : List ℕ) (machine : Machine) (behind : ℕ) (after : Pooled) (answer : Result (InstructionsRef × ℕ) Refusal) → Keeps machine (calldata_pushed stack machine behind after answer).result
unfolding calldata_pushed with_entry
pushed_keeps stack machine behind after (Ok (entry, bytes)) = keeps _ (settled_main machine _)
pushed_keeps stack machine behind after (Err refusal) = refuses refusal

calldata_keeps : (stack pool ends : List ℕ) (machine : Machine) (place behind : ℕ) → Keeps machine (push_calldata stack pool ends machine place behind).result
unfolding push_calldata
calldata_keeps stack pool ends machine place behind = by (leb 1000 machine.height) refl
  where
    by : (b : Bool) → leb 1000 machine.height ≡ b → Keeps machine (push_calldata stack pool ends machine place behind).result
    by true e = rw e (refuses _)
    by false e = rw e (pushed_keeps stack machine behind _ _)

-- a frame more, above one that is there
framed_keeps : (machine caller : Machine) (entered : Frame) → main_entry caller ≡ main_entry machine → eqb caller.frames.count 0 ≡ false → Keeps machine (framed caller (push_onto caller.frames entered))
unfolding push_onto if_room framed push_two
framed_keeps machine caller entered same some = by (ltb caller.frames.count 2) refl
  where
    by : (b : Bool) → ltb caller.frames.count 2 ≡ b → Keeps machine (framed caller (push_onto caller.frames entered))
    by true e = rw (e, some) (keeps _ same)
    by false e = rw e (refuses _)

bounded_keeps : (machine caller : Machine) (entry : InstructionsRef) (result : Result (ℕ × ℕ) Refusal) → main_entry caller ≡ main_entry machine → eqb caller.frames.count 0 ≡ false → Keeps machine (enter_bounded caller entry result)
unfolding enter_bounded
bounded_keeps machine caller entry (Ok (start, end)) same some = either (Keeps machine) (leb end start) _ _ (λ _. keeps caller same) (λ _. framed_keeps machine caller _ same some)
bounded_keeps machine caller entry (Err refusal) same some = refuses refusal

popped_keeps : (ends : List ℕ) (machine : Machine) (behind : ℕ) (task : Task) (result : Result (ℕ × ℕ) Refusal) → eqb machine.frames.count 0 ≡ false → Keeps machine (call_popped ends machine behind task result)
unfolding call_popped enter
popped_keeps ends machine behind task (Ok (value, height)) some =
    either (Keeps machine) task.living _ _
    (λ _. bounded_keeps machine (machine_at machine behind height) task.instructions_ref _ (settled_main machine _) (ap (λ (n : ℕ). eqb n 0) (settled_count machine _) ∙ some))
    (λ _. keeps _ (settled_main machine _))
popped_keeps ends machine behind task (Err refusal) some = refuses refusal

left_keeps : (machine : Machine) → Keeps machine (left_frame machine (pop_off machine.frames))
unfolding pop_off if_some left_frame pop_two
left_keeps machine = by (eqb machine.frames.count 0) refl (leb machine.frames.count 2) refl
  where
    by : (b : Bool) → eqb machine.frames.count 0 ≡ b → (c : Bool) → leb machine.frames.count 2 ≡ c → Keeps machine (left_frame machine (pop_off machine.frames))
    by true e c f = rw e (refuses _)
    by false e true f = rw (e, f) (keeps _ refl)
    by false e false f = rw (e, f) (refuses _)

end_call_keeps : (machine : Machine) (behind : ℕ) → Keeps machine (op_end_call machine behind)
unfolding op_end_call
end_call_keeps machine behind = either (Keeps machine) (leb machine.frames.count 1) _ _ (λ _. keeps _ (settled_main machine _)) (λ _. left_keeps machine)

-- the same, with a change of a slot
data KeepsOn (machine : Machine) : Result (Machine × Change) Refusal → Type 0 where
  keeps_on : (after : Machine) (change : Change) → main_entry after ≡ main_entry machine → KeepsOn machine (Ok (after, change))
  refuses_on : (refusal : Refusal) → KeepsOn machine (Err refusal)

keeping_keeps : (machine : Machine) (result : Result Machine Refusal) → Keeps machine result → KeepsOn machine (keeping result)
unfolding keeping
keeping_keeps machine _ (keeps after same) = keeps_on after Keep same
keeping_keeps machine _ (refuses refusal) = refuses_on refusal

tasked_keeps : (machine : Machine) (result : Result (Registers × Change) Refusal) → KeepsOn machine (tasked_by machine result)
unfolding tasked_by
tasked_keeps machine (Ok (registers, change)) = keeps_on _ change (settled_main machine registers)
tasked_keeps machine (Err refusal) = refuses_on refusal

created_keeps : (machine : Machine) (result : Result (Registers × Change) Refusal) → KeepsOn machine (created_by machine result)
unfolding created_by created
created_keeps machine (Ok (registers, change)) = keeps_on _ change (settled_main machine registers)
created_keeps machine (Err refusal) = refuses_on refusal

-- each of them
abbrev Acted : Machine → OnAll → Type 0
Acted machine after = KeepsOn machine after.acted

task_keeps : (stack memory pool ends : List ℕ) (machine : Machine) (task : Task) (op behind : ℕ) → KeepsOn machine (on_task stack memory machine task op behind)
unfolding on_task
task_keeps stack memory pool ends machine task op behind =
    either (KeepsOn machine) (eqb op T_CREATE) _ _ (λ _. created_keeps machine _)
    (λ _. either (KeepsOn machine) (eqb op T_SET_FIELD) _ _ (λ _. tasked_keeps machine _)
    (λ _. either (KeepsOn machine) (eqb op T_DELETE) _ _ (λ _. tasked_keeps machine _) (λ _. keeps_on _ Keep (settled_main machine _))))

frames_keep : (stack memory pool ends : List ℕ) (machine : Machine) (task : Task) (op place behind : ℕ) → eqb machine.frames.count 0 ≡ false → Acted machine (on_frames stack memory pool ends machine task op place behind)
unfolding on_frames op_call
frames_keep stack memory pool ends machine task op place behind some =
    either (Acted machine) (eqb op PUSH_CALLDATA) _ _ (λ _. keeping_keeps machine _ (calldata_keeps stack pool ends machine place behind))
    (λ _. either (Acted machine) (eqb op T_GET_FIELD) _ _ (λ _. keeping_keeps machine _ (settled_by_keeps machine _))
    (λ _. either (Acted machine) (eqb op CALL) _ _ (λ _. keeping_keeps machine _ (popped_keeps ends machine behind task _ some))
    (λ _. either (Acted machine) (eqb op END_CALL) _ _ (λ _. keeping_keeps machine _ (end_call_keeps machine behind)) (λ _. task_keeps stack memory pool ends machine task op behind))))

whole_keeps : (stack memory pool ends : List ℕ) (machine : Machine) (task : Task) (op place : ℕ) (extent : Option ℕ) → eqb machine.frames.count 0 ≡ false → Acted machine (act_by stack memory pool ends machine task op place extent)
unfolding act_by
whole_keeps stack memory pool ends machine task op place (Some behind) some = frames_keep stack memory pool ends machine task op place behind some
whole_keeps stack memory pool ends machine task op place None some = refuses_on _

act_keeps : (stack memory pool ends : List ℕ) (machine : Machine) (task : Task) → eqb machine.frames.count 0 ≡ false → Acted machine (act stack memory pool ends machine task)
unfolding act act_at
act_keeps stack memory pool ends machine task some =
    either (Acted machine) (leb (length (code_of pool ends machine)) (current machine.frames).place) _ _ (λ _. refuses_on _) (λ _. whole_keeps stack memory pool ends machine task _ _ _ some)

-- ---- a step

data Stays (machine : Machine) : StepResult → Type 0 where
  stays : (v : World) → main_entry v.machine ≡ main_entry machine → Stays machine (next v)
  stops : (refusal : Refusal) → Stays machine (refused refusal)

inner_stays : (w : World) (stack memory : List ℕ) (result : Result Registers Refusal) → Stays w.machine (inner_result w stack memory result)
unfolding inner_result
inner_stays w stack memory (Ok registers) = stays _ (settled_main w.machine registers)
inner_stays w stack memory (Err refusal) = stops refusal

acts_stays : (w : World) (slot : ℕ) (after : OnAll) (result : Result (Machine × Change) Refusal) → KeepsOn w.machine result → Stays w.machine (acts_result w slot after result)
unfolding acts_result
acts_stays w slot after _ (keeps_on machine change same) = stays _ same
acts_stays w slot after _ (refuses_on refusal) = stops refusal

saves_stays : (w : World) (save : List ℕ) (answer : Result ℕ Refusal) → Stays w.machine (saves_result w save (save_result w.machine answer))
unfolding saves_result save_result
saves_stays w save (Ok size) = stays _ (settled_main w.machine _)
saves_stays w save (Err refusal) = stops refusal

step_stays : (w : World) → eqb w.machine.frames.count 0 ≡ false → Stays w.machine (step w)
unfolding step_by_parts outer saves acts inner
step_stays w some = subst (Stays w.machine) (step_is w) parts
  where
    parts : Stays w.machine (step_by_parts w)
    parts =
        either (Stays w.machine) (is_outer (op w)) _ _
        (λ _. either (Stays w.machine) (eqb (op w) S_SAVE) _ _ (λ _. saves_stays w _ _) (λ _. acts_stays w _ _ _ (act_keeps w.stack w.memory w.pool w.ends w.machine _ some)))
        (λ _. inner_stays w _ _ _)

is_next : StepResult → ℕ
is_next (next v) = 1
is_next (refused refusal) = 0

world_of : World → StepResult → World
world_of w (next v) = v
world_of w (refused refusal) = w

after_step : (w v : World) (result : StepResult) → Stays w.machine result → result ≡ next v → main_entry v.machine ≡ main_entry w.machine
unfolding is_next world_of
after_step w v _ (stays u same) e = subst (λ (x : World). main_entry x.machine ≡ main_entry w.machine) (ap (world_of w) e) same
after_step w v _ (stops refusal) e = absurd (let z : ◌≡◌ {A = ℕ} 0 1 = ap is_next e in omega arith)

some_frames : (w : World) → Passes w → eqb w.machine.frames.count 0 ≡ false
some_frames w p = some_frame w.machine.frames w.machine.entries (passes_kept w p).machine_kept.frames

-- no instruction changes the entry of the first frame
pub step_main : (w v : World) → Passes w → step w ≡ next v → main_entry v.machine ≡ main_entry w.machine
step_main w v p e = after_step w v (step w) (step_stays w (some_frames w p)) e

-- ---- a run, a call, a history

-- on after a finished instruction, with what holds of the rest of the run
followed_main : (fuel : ℕ) (w : World) → Passes w → ((v : World) → Passes v → main_entry (run fuel v).world.machine ≡ main_entry v.machine) → (result : StepResult) → step w ≡ result
    → main_entry (follow (λ v. run fuel v) w (suc fuel) result).world.machine ≡ main_entry w.machine
unfolding follow
followed_main fuel w p others (next v) e = others v (step_passes w v p e) ∙ step_main w v p e
followed_main fuel w p others (refused refusal) e = refl

run_main : (fuel : ℕ) (w : World) → Passes w → main_entry (run fuel w).world.machine ≡ main_entry w.machine
unfolding run
run_main zero w p = either (λ (e : End). main_entry e.world.machine ≡ main_entry w.machine) (at_end w) _ _ (λ _. refl) (λ _. refl)
run_main (suc fuel) w p =
    either (λ (e : End). main_entry e.world.machine ≡ main_entry w.machine) (at_end w) _ _ (λ _. refl) (λ _. followed_main fuel w p (λ v q. run_main fuel v q) (step w) refl)

ended_main : (machine : Machine) (outcome : Outcome) → main_entry (ended machine outcome) ≡ main_entry machine
unfolding ended rewound placed with_current current last_two change_two
ended_main machine Done = by (eqb machine.frames.count 1) refl
  where
    by : (b : Bool) → eqb machine.frames.count 1 ≡ b → main_entry (ended machine Done) ≡ main_entry machine
    by true e = rw e
    by false e = rw e
ended_main machine Paused = refl
ended_main machine (Refused refusal) = refl

begun_main : (w : World) (test : Bool) (verb : Verb) → main_entry (allowed w.machine test verb).machine ≡ main_entry w.machine
unfolding allowed
begun_main w true Start = refl
begun_main w true Rerun = refl
begun_main w true Continue = refl
begun_main w false verb = refl

with_main : (fuel : ℕ) (w : World) (a : Permission) → Passes (with_machine w a.machine) → main_entry a.machine ≡ main_entry w.machine → main_entry (call_with fuel w a).report.machine ≡ main_entry w.machine
unfolding call_with report
with_main fuel w a p same =
    either (λ (r : Reported). main_entry r.report.machine ≡ main_entry w.machine) a.allowed _ _
    (λ _. ended_main (run fuel (with_machine w a.machine)).world.machine _ ∙ run_main fuel (with_machine w a.machine) p ∙ same) (λ _. refl)

saved_main : (w : World) (answer : Result ℕ Refusal) → main_entry (host_saved w.machine answer).machine ≡ main_entry w.machine
unfolding host_saved
saved_main w (Ok size) = refl
saved_main w (Err refusal) = refl

-- no call of a host changes it
pub left_main : (one : HostCall) (w : World) → Passes w → main_entry (left_by one w).machine ≡ main_entry w.machine
unfolding left_by call host_save value_read task_read
left_main (runs verb fuel) w p = with_main fuel w (allowed w.machine (is_sound w) verb) (allowed_passes w (is_sound w) verb p) (begun_main w (is_sound w) verb)
left_main host-saves w p = either (λ (r : SavedTo). main_entry (world_saved r).machine ≡ main_entry w.machine) (is_sound w) _ _ (λ _. saved_main w _) (λ _. refl)
left_main (reads_value position) w p = refl
left_main (reads_task id) w p = refl

history_main : (calls : List HostCall) (w : World) → Passes w → main_entry (history calls w).machine ≡ main_entry w.machine
unfolding history
history_main [] w p = refl
history_main (one ∷ others) w p = history_main others (left_by one w) (left_passes one w p) ∙ left_main one w p

-- creation makes it 0
pub fresh_main : {program image : List ℕ} {w : World} → FreshWorld program image w → w.machine.frames.first.entry.0 ≡ 0
fresh_main {program} {image} (is_created table pool ends machine stack memory save lent long e) =
    let c = (creates_exactly table pool ends image program).0 (machine, e) in
    ap (λ (x : Machine). x.frames.first.entry.0) (created_is (sym e ∙ ap (λ (x : Made). x.answer) (created_as table pool ends image program c)))

-- main is the program, after any calls of a host: the first frame names entry 0
pub main_is_the_program : (program image : List ℕ) (first : World) → FreshWorld program image first → (calls : List HostCall) → (history calls first).machine.frames.first.entry.0 ≡ 0
main_is_the_program program image first fresh calls = history_main calls first (fresh_passes program image first fresh) ∙ fresh_main fresh
