-- What holds along the finished instructions of a run, of a call and of a host's history.
use Prim.Native.Nat.{ℕ, zero, suc}
use mathlib.Core.Bool.{Bool, true, false, cond}
use mathlib.Core.List.{List, [], ◌∷◌, ◌++◌, append-nil}
use mathlib.Core.Path.{◌≡◌, refl, subst}
use Rattle.machine.specs.declared.Verb.{Verb}
use Rattle.machine.specs.declared.Verb.TheVariants.{Start, Rerun, Continue}
use Rattle.machine.specs.Calls.{Permission}
use Rattle.machine.specs.declared.Outcome.{Outcome}
use Rattle.machine.specs.declared.Outcome.TheVariants.{Done, Paused, Refused}
use Rattle.machine.specs.Machines.{rewound, placed}
use Rattle.machine.specs.World.{World, at_end, with_machine}
use Rattle.machine.specs.Words.{StepResult, next, refused}
use Rattle.machine.specs.Step.{step}
use Rattle.machine.specs.Run.{End, end_at, follow, run}
use Rattle.machine.specs.Calls.{ended, allowed, report, is_sound, call_with, call}
use Rattle.machine.specs.Reads.{host_saved, SavedTo, host_save, value_read, task_read}
use Rattle.machine.specs.History.{world_after, world_saved, HostCall, runs, saves, reads_value, reads_task, left_by, history}
use Rattle.laws.specs.Sound.{Passes}
use Rattle.laws.specs.Counted.{with_others, run_finished, allowance, call_finished, history_finished}
use Rattle.laws.proofs.Either.{either}
use Rattle.laws.proofs.Frames.{Same}
use Rattle.laws.proofs.Step.{step_passes}
use Rattle.laws.proofs.SoundnessCalls.{allowed_passes, left_passes}
use Rattle.std.specs.Prelude.{Ok, Err, Result}
use Rattle.errors.specs.declared.Refusal.{Refusal}

-- ---- what leaves the table and the ids

pub record Beside (w v : World) : Type 0 where
  pub table : v.table ≡ w.table
  pub ids : Same w.machine v.machine

allowed_same : (w : World) (test : Bool) (verb : Verb) → Beside w (with_machine w (allowed w.machine test verb).machine)
unfolding allowed
allowed_same w true Start = record { table = refl; ids = record { next_id = refl; count = refl } }
allowed_same w true Rerun = record { table = refl; ids = record { next_id = refl; count = refl } }
allowed_same w true Continue = record { table = refl; ids = record { next_id = refl; count = refl } }
allowed_same w false verb = record { table = refl; ids = record { next_id = refl; count = refl } }

ended_same : (w : World) (outcome : Outcome) → Beside w (with_machine w (ended w.machine outcome))
unfolding ended rewound placed
ended_same w Done = record { table = refl; ids = record { next_id = refl; count = refl } }
ended_same w Paused = record { table = refl; ids = record { next_id = refl; count = refl } }
ended_same w (Refused refusal) = record { table = refl; ids = record { next_id = refl; count = refl } }

saved_by : (w : World) (answer : Result ℕ Refusal) → Same w.machine (host_saved w.machine answer).machine
unfolding host_saved
saved_by w (Ok size) = record { next_id = refl; count = refl }
saved_by w (Err refusal) = record { next_id = refl; count = refl }

saved_same : (w : World) → Beside w (world_saved (host_save w))
unfolding host_save
saved_same w =
    either (λ (r : SavedTo). Beside w (world_saved r)) (is_sound w) _ _ (λ _. record { table = refl; ids = saved_by w _ }) (λ _. record { table = refl; ids = record { next_id = refl; count = refl } })

-- ---- along

module _ (R : World → List World → World → Type 0) (none : (w v : World) → Beside w v → R w [] v) (one : (w v : World) → Passes w → step w ≡ next v → R w (w ∷ []) v)
    (chain : (w v u : World) (first second : List World) → R w first v → R v second u → R w (first ++ second) u) where
  same : (w : World) → R w [] w
  same w = none w w (record { table = refl; ids = record { next_id = refl; count = refl } })

  followed : (fuel : ℕ) (w : World) → Passes w → ((v : World) → Passes v → R v (run_finished fuel v) (run fuel v).world) → (s : StepResult) → step w ≡ s
      → R w (with_others w (λ v. run_finished fuel v) s) (follow (λ v. run fuel v) w (suc fuel) s).world
  unfolding follow with_others
  followed fuel w passes others (next v) s = chain w v _ (w ∷ []) _ (one w v passes s) (others v (step_passes w v passes s))
  followed fuel w passes others (refused refusal) s = same w

  turn : (fuel : ℕ) (w : World) → Passes w → ((v : World) → Passes v → R v (run_finished fuel v) (run fuel v).world) → (b : Bool)
      → R w (cond b [] (with_others w (λ v. run_finished fuel v) (step w))) (cond b (end_at w (suc fuel) Done) (follow (λ v. run fuel v) w (suc fuel) (step w))).world
  turn fuel w passes others true = same w
  turn fuel w passes others false = followed fuel w passes others (step w) refl

  -- a run
  pub along_run : (fuel : ℕ) (w : World) → Passes w → R w (run_finished fuel w) (run fuel w).world
  unfolding run run_finished
  along_run zero w passes = either (λ (e : End). R w [] e.world) (at_end w) _ _ (λ _. same w) (λ _. same w)
  along_run (suc fuel) w passes = turn fuel w passes (along_run fuel) (at_end w)

  -- the end of a run, and its beginning
  around : (w begins v after : World) (log : List World) → Beside w begins → R begins log v → Beside v after → R w log after
  around w begins v after log begun result over =
      subst (λ (l : List World). R w l after) (append-nil log)
      (chain w v after log [] (chain w begins v [] log (none w begins begun) result) (none v after over))

  with_permission : (b : Bool) (fuel : ℕ) (w : World) (a : Permission) → a.allowed ≡ b → Passes (with_machine w a.machine) → Beside w (with_machine w a.machine)
      → R w (cond a.allowed (run_finished fuel (with_machine w a.machine)) []) (world_after (call_with fuel w a))
  unfolding call_with report
  with_permission true fuel w a e begins begun =
      simp e (around w (with_machine w a.machine) (run fuel (with_machine w a.machine)).world _ _ begun (along_run fuel (with_machine w a.machine) begins)
      (ended_same (run fuel (with_machine w a.machine)).world (run fuel (with_machine w a.machine)).outcome))
  with_permission false fuel w a e begins begun = simp e (same w)

  -- a call
  pub along_call : (host-call : HostCall) (w : World) → Passes w → R w (call_finished host-call w) (left_by host-call w)
  unfolding left_by call call_finished value_read task_read
  along_call (runs verb fuel) w passes =
      with_permission (allowance verb w).allowed fuel w (allowance verb w) refl (allowed_passes w (is_sound w) verb passes) (allowed_same w (is_sound w) verb)
  along_call saves w passes = none w (world_saved (host_save w)) (saved_same w)
  along_call (reads_value position) w passes = same w
  along_call (reads_task id) w passes = same w

  -- a history
  pub along_history : (calls : List HostCall) (w : World) → Passes w → R w (history_finished calls w) (history calls w)
  unfolding history history_finished
  along_history [] w passes = same w
  along_history (first ∷ others) w passes = chain w (left_by first w) _ _ _ (along_call first w passes) (along_history others (left_by first w) (left_passes first w passes))
