-- Each call of a host, and a whole history, leaves what passes the test of 26 passing and a sound world sound.
use Prim.Native.Nat.{ℕ}
use mathlib.Core.Bool.{Bool}
use mathlib.Core.List.{List, [], ◌∷◌}
use native.Mathlib.Omega.{arith}
use Rattle.machine.specs.declared.Machine.{Machine}
use Rattle.machine.specs.declared.Phase.{Phase}
use Rattle.machine.specs.declared.Phase.TheVariants.{Done, Paused, Stopped}
use Rattle.mechanism.specs.Registers.{settled}
use Rattle.machine.specs.Machines.{rewound, placed, at_main}
use Rattle.mechanism.specs.Registers.{registers_of}
use Rattle.machine.specs.declared.Outcome.{Outcome}
use Rattle.machine.specs.declared.Outcome.TheVariants as outcome
use Rattle.image.specs.Table.{SavedTable}
use Rattle.machine.specs.World.{World, world}
use Rattle.machine.specs.Run.{run}
use Rattle.machine.specs.Calls.{fresh, allowed, phased, ended, report, is_sound, call_with, call, start, Reported}
use Rattle.machine.specs.World.{with_machine}
use Rattle.machine.specs.Reads.{host_saved, SavedTo, host_save_as, host_save, value_read, task_read}
use Rattle.machine.specs.declared.Verb.{Verb}
use Rattle.machine.specs.declared.Verb.TheVariants.{Start, Rerun, Continue}
use Rattle.machine.specs.Calls.{Permission}
use Rattle.machine.specs.History.{world_after, world_saved, HostCall, runs, saves as host-saves, reads_value, reads_task, left_by, history}
use Rattle.laws.specs.Sound.{Passes, Sound}
use Rattle.laws.proofs.Either.{either}
use Rattle.laws.proofs.Parts.{Machined, Kept, passes_kept, sound_kept, kept_passes, kept_sound}
use Rattle.laws.proofs.Frames.{main_alone_sound, placed_sound}
use Rattle.laws.proofs.Saves.{Saves, saves, not_saves, save_keeps, image_sound}
use Rattle.laws.proofs.Runs.{run_kept}

-- another save buffer
abbrev with_save : World → List ℕ → World
with_save w save = world w.machine w.table w.stack w.memory w.pool w.ends save

-- the machine that a rerun begins with
fresh_sound : {asked : Type 0} {memory pool save : ℕ} {stack ends : List ℕ} {machine : Machine} → Machined asked memory pool save stack ends machine → Machined asked memory pool save stack ends (fresh machine)
fresh_sound m = record {
  values = record { high = omega arith; few = m.values.few; there = omega arith; stack_long = m.values.stack_long; inside = λ _ i less. absurd (omega arith) };
  entries = m.entries;
  frames = m.frames;
  kept = m.kept;
}

-- the machine at main
main_sound : {asked : Type 0} {memory pool save : ℕ} {stack ends : List ℕ} {machine : Machine} → Machined asked memory pool save stack ends machine → Machined asked memory pool save stack ends (at_main machine)
main_sound {machine = machine} m = record {
  values = record { high = m.values.high; few = omega arith; there = m.values.there; stack_long = m.values.stack_long; inside = m.values.inside };
  entries = m.entries;
  frames = main_alone_sound machine.frames machine.entries m.frames;
  kept = m.kept;
}

pub main_kept : {asked : Type 0} (w : World) → Kept asked w → Kept asked (with_machine w (at_main w.machine))
main_kept w s = record { machine_kept = main_sound s.machine_kept; table_kept = s.table_kept }

-- another phase
phased_sound : {asked : Type 0} {memory pool save : ℕ} {stack ends : List ℕ} {machine : Machine} (phase : Phase) → Machined asked memory pool save stack ends machine
    → Machined asked memory pool save stack ends (phased machine phase)
phased_sound phase m = record { values = m.values; entries = m.entries; frames = m.frames; kept = m.kept }

-- the machine at the end of a run
pub ended_kept : {asked : Type 0} (w : World) (outcome : Outcome) → Kept asked w → Kept asked (with_machine w (ended w.machine outcome))
unfolding ended rewound placed settled registers_of
ended_kept w outcome.Done s = record { machine_kept = phased_sound Done (placed_sound 0 w.machine.height s.machine_kept (omega arith)); table_kept = s.table_kept }
ended_kept w outcome.Paused s = record { machine_kept = phased_sound Paused s.machine_kept; table_kept = s.table_kept }
ended_kept w (outcome.Refused refusal) s = record { machine_kept = phased_sound Stopped s.machine_kept; table_kept = s.table_kept }

-- the machine that a call begins with
pub allowed_kept : {asked : Type 0} (w : World) (test : Bool) (verb : Verb) → Kept asked w → Kept asked (with_machine w (allowed w.machine test verb).machine)
unfolding allowed
allowed_kept {asked} w test Start s =
    either (λ (a : Permission). Kept asked (with_machine w a.machine)) test _ _ (λ _. record { machine_kept = fresh_sound (main_sound s.machine_kept); table_kept = s.table_kept }) (λ _. s)
allowed_kept {asked} w test Rerun s =
    either (λ (a : Permission). Kept asked (with_machine w a.machine)) test _ _ (λ _. record { machine_kept = fresh_sound s.machine_kept; table_kept = s.table_kept }) (λ _. s)
allowed_kept {asked} w test Continue s = either (λ (a : Permission). Kept asked (with_machine w a.machine)) test _ _ (λ _. s) (λ _. s)

with_kept : {asked : Type 0} (fuel : ℕ) (w : World) (a : Permission) → Kept asked w → Kept asked (with_machine w a.machine) → Kept asked (world_after (call_with fuel w a))
unfolding call_with report
with_kept {asked} fuel w a s begins =
    either (λ (r : Reported). Kept asked (world_after r)) a.allowed _ _
    (λ _. ended_kept (run fuel (with_machine w a.machine)).world (run fuel (with_machine w a.machine)).outcome (run_kept fuel (with_machine w a.machine) begins)) (λ _. s)

call_kept : {asked : Type 0} (verb : Verb) (fuel : ℕ) (w : World) → Kept asked w → Kept asked (world_after (call verb fuel w))
unfolding call
call_kept verb fuel w s = with_kept fuel w (allowed w.machine (is_sound w) verb) s (allowed_kept w (is_sound w) verb s)

-- ---- the save by the host

host_saved_kept : {asked : Type 0} (w : World) (a : SavedTable) → Kept asked w → Saves w.save a → Kept asked (world_saved (host_save_as w a))
unfolding host_saved
host_saved_kept w _ s (saves size save fits long) = record { machine_kept = image_sound size s.machine_kept (omega (arith, fits, long)); table_kept = s.table_kept }
host_saved_kept w _ s (not_saves refusal) = s

save_kept : {asked : Type 0} (w : World) → Kept asked w → Kept asked (world_saved (host_save w))
unfolding host_save
save_kept {asked} w s =
    either (λ (r : SavedTo). Kept asked (world_saved r)) (is_sound w) _ _
    (λ _. host_saved_kept w _ s (save_keeps w.machine.next_id.0 w.table w.pool w.ends w.machine.entries w.save)) (λ _. s)

-- ---- a history

left_kept : {asked : Type 0} (one : HostCall) (w : World) → Kept asked w → Kept asked (left_by one w)
unfolding left_by value_read task_read
left_kept (runs verb fuel) w s = call_kept verb fuel w s
left_kept host-saves w s = save_kept w s
left_kept (reads_value position) w s = s
left_kept (reads_task id) w s = s

history_kept : {asked : Type 0} (calls : List HostCall) (w : World) → Kept asked w → Kept asked (history calls w)
unfolding history
history_kept [] w s = s
history_kept (one ∷ others) w s = history_kept others (left_by one w) (left_kept one w s)

-- ---- what is said of each

-- the end of a run leaves a sound world sound
pub ended_sound : (w : World) (outcome : Outcome) → Sound w → Sound (with_machine w (ended w.machine outcome))
ended_sound w outcome s = kept_sound (with_machine w (ended w.machine outcome)) (ended_kept w outcome (sound_kept w s))

-- a call begins with a sound world
pub allowed_sound : (w : World) (test : Bool) (verb : Verb) → Sound w → Sound (with_machine w (allowed w.machine test verb).machine)
allowed_sound w test verb s = kept_sound (with_machine w (allowed w.machine test verb).machine) (allowed_kept w test verb (sound_kept w s))

-- the machine at main is sound, and passes the test of 26, where the machine is and does
pub at_main_sound : (w : World) → Sound w → Sound (with_machine w (at_main w.machine))
at_main_sound w s = kept_sound (with_machine w (at_main w.machine)) (main_kept w (sound_kept w s))

pub at_main_passes : (w : World) → Passes w → Passes (with_machine w (at_main w.machine))
at_main_passes w p = kept_passes (with_machine w (at_main w.machine)) (main_kept w (passes_kept w p))

-- a start, a rerun or a continue leaves a sound world sound
pub call_sound : (verb : Verb) (fuel : ℕ) (w : World) → Sound w → Sound (world_after (call verb fuel w))
call_sound verb fuel w s = kept_sound (world_after (call verb fuel w)) (call_kept verb fuel w (sound_kept w s))

pub start_sound : (fuel : ℕ) (w : World) → Sound w → Sound (world_after (start fuel w))
start_sound fuel w s = call_sound Start fuel w s

-- and so does a save by the host
pub save_sound : (w : World) → Sound w → Sound (world_saved (host_save w))
save_sound w s = kept_sound (world_saved (host_save w)) (save_kept w (sound_kept w s))

-- each call of a host leaves a sound world sound
pub left_sound : (one : HostCall) (w : World) → Sound w → Sound (left_by one w)
left_sound one w s = kept_sound (left_by one w) (left_kept one w (sound_kept w s))

-- and so does a history
pub history_sound : (calls : List HostCall) (w : World) → Sound w → Sound (history calls w)
history_sound calls w s = kept_sound (history calls w) (history_kept calls w (sound_kept w s))

-- a call begins with what passes the test of 26
pub allowed_passes : (w : World) (test : Bool) (verb : Verb) → Passes w → Passes (with_machine w (allowed w.machine test verb).machine)
allowed_passes w test verb p = kept_passes (with_machine w (allowed w.machine test verb).machine) (allowed_kept w test verb (passes_kept w p))

-- what passes the test of 26 passes it after each call of a host
pub left_passes : (one : HostCall) (w : World) → Passes w → Passes (left_by one w)
left_passes one w p = kept_passes (left_by one w) (left_kept one w (passes_kept w p))

-- and after a history
pub history_passes : (calls : List HostCall) (w : World) → Passes w → Passes (history calls w)
history_passes calls w p = kept_passes (history calls w) (history_kept calls w (passes_kept w p))
