-- The history of a host beside the Rust: what each call does to the Rust, and what a start, a rerun or a continue answers beside the Rust's run.
use Rattle.std.specs.Prelude.{ℕ, ◌<◌, Bool, true, false, ◌≡◌, List, [], ◌∷◌, get_or}
use Rattle.errors.specs.declared.Refusal.{Refusal}
use Rattle.errors.specs.declared.Refusal.TheVariants as refusal
use Rattle.inlinevec.specs.Stacks.{values_of}
use Rattle.machine.specs.declared.Outcome.TheVariants as outcome
use Rattle.machine.specs.declared.Verb.{Verb}
use Rattle.machine.specs.declared.Verb.TheVariants.{Start, Rerun, Continue}
use Rattle.machine.specs.World.{World, place, memory_in_use}
use Rattle.machine.specs.Calls.{Reported}
use Rattle.machine.specs.Reads.{value_read}
use Rattle.machine.specs.History.{HostCall, runs, saves, reads_value, reads_task, world_after}
use Rattle.rust.specs.Errors.{VMError, ok, err, panic}
use Rattle.rust.specs.Vm.{VM, InstructionsFrame, at, with_control_stack, with_call_stack, in_frame, step}
use Rattle.rust.specs.Run.{Ran, returned, running, failed, panicked, while, run}
use Rattle.rust.specs.Unbox.{unbox_value}
use Rattle.agreement.specs.View.{view}
use Rattle.agreement.specs.Reads.{Reads}
use Rattle.agreement.specs.Agreement.{Over, refusal_of}

-- ---- the Rust in a history

-- main at place 0: the program is the first entry
abbrev pub rust_main : InstructionsFrame
rust_main = record { instructions_ref = 0; pc = 0 }

-- the machine of the Rust with the same tasks, pool and storage, one frame at main, place 0, and an empty control stack
unfoldable pub from_main : VM → VM
from_main vm = in_frame (with_call_stack (with_control_stack vm []) (rust_main ∷ [])) rust_main

-- on from a machine of the Rust that rests; any other stays as it is
unfoldable pub if_rests : (VM → Ran) → Ran → Ran
if_rests begin (returned values vm) = begin vm
if_rests begin (running vm) = running vm
if_rests begin (failed error before) = failed error before
if_rests begin panicked = panicked

-- on from one that is in a run; any other stays as it is
unfoldable pub if_running : (VM → Ran) → Ran → Ran
if_running go_on (returned values vm) = returned values vm
if_running go_on (running vm) = go_on vm
if_running go_on (failed error before) = failed error before
if_running go_on panicked = panicked

-- a start runs a machine that rests from main, a rerun runs it from where its last run ended, a continue goes on with a run
unfoldable pub rust_call : Verb → ℕ → Ran → Ran
rust_call Start fuel ran = if_rests (λ vm. run fuel (from_main vm)) ran
rust_call Rerun fuel ran = if_rests (λ vm. run fuel vm) ran
rust_call Continue fuel ran = if_running (λ vm. while fuel vm) ran

-- whether the Rust rests, or is in a run
unfoldable pub rests : Ran → Bool
rests (returned values vm) = true
rests (running vm) = false
rests (failed error before) = false
rests panicked = false

unfoldable pub is_running : Ran → Bool
is_running (returned values vm) = false
is_running (running vm) = true
is_running (failed error before) = false
is_running panicked = false

-- the Rust takes a start and a rerun where it rests, a continue where it is in a run
unfoldable pub rust_takes : Verb → Ran → Bool
rust_takes Start ran = rests ran
rust_takes Rerun ran = rests ran
rust_takes Continue ran = is_running ran

-- a save and a read leave the Rust as it is
unfoldable pub rust_left_by : HostCall → Ran → Ran
rust_left_by (runs verb fuel) ran = rust_call verb fuel ran
rust_left_by saves ran = ran
rust_left_by (reads_value position) ran = ran
rust_left_by (reads_task id) ran = ran

-- one call after the other; a new machine of the Rust has returned nothing
unfoldable pub rust_history : List HostCall → Ran → Ran
rust_history [] ran = ran
rust_history (one ∷ others) ran = rust_history others (rust_left_by one ran)

-- ---- what both have

-- a machine that does not run: its values were handed out, and call_stack has the place of the last frame
abbrev pub at_rest : World → VM
at_rest w = at (view (place w) w) (place w) []

-- each value, by its position from the bottom, is read as the Rust reads it
abbrev pub ReadAlike : World → VM → Type 0
ReadAlike w vm = (i : ℕ) → i < w.machine.height → Reads (memory_in_use w) w.pool w.ends (value_read i w).answer (unbox_value vm (get_or w.stack i 0))

-- a report beside what the Rust's run comes to
pub data Answers (r : Reported) : Ran → Type 0 where
  -- both are done: the same values in the same order, each read alike, and the same machine
  ends : r.report.outcome ≡ outcome.Done → ReadAlike (world_after r) (at_rest (world_after r))
      → Answers r (returned (values_of r.report.machine.height r.stack) (at_rest (world_after r)))
  -- both go on from the same machine
  pauses : (stale : ℕ) → r.report.outcome ≡ outcome.Paused → Answers r (running (view stale (world_after r)))
  -- the Rust errs at the instruction that is refused, with that error, and before it both are the same machine
  errs : (stale : ℕ) (error : VMError) → r.report.outcome ≡ outcome.Refused (refusal_of error) → step (view stale (world_after r)) ≡ err error
      → Answers r (failed error (view stale (world_after r)))
  -- the Rust panics at the instruction that is refused with 2
  panics : (stale : ℕ) → r.report.outcome ≡ outcome.Refused refusal.UnexpectedEOB → step (view stale (world_after r)) ≡ panic → Answers r panicked
  -- a limit that this port adds is reached: the Rust finishes that instruction with a machine that does not fit what is lent, and goes on
  meets : (stale : ℕ) {number : Refusal} {vm : VM} → r.report.outcome ≡ outcome.Refused number → step (view stale (world_after r)) ≡ ok vm → Over (world_after r) number vm → (ran : Ran) → Answers r ran
