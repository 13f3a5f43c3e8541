-- Start, rerun and continue beside the Rust's run, and the Rust's loop at any split of its turns.
use Prim.Native.Nat.{ℕ, zero, suc, ◌+◌, ◌<◌}
use mathlib.Core.Bool.{Bool, true, false}
use mathlib.Core.Path.{◌≡◌, refl, sym, ap, subst, ◌∙◌}
use mathlib.Core.List.{List, [], ◌∷◌}
use native.Mathlib.Omega.{arith}
use native.Mathlib.Decide.{ℕ_discrete}
use lib.Dec.{ltb}
use lib.ListN.{length, get_or}
use borrow.Author.Tests.{lt-ltb}
use Rattle.errors.specs.declared.Refusal.{Refusal}
use Rattle.errors.specs.declared.Refusal.TheVariants as refusal
use Rattle.slices.specs.Numbers.{Bytes}
use Rattle.inlinevec.specs.Stacks.{values_of, two_of, last_two}
use Rattle.inlinevec.specs.declared.Frame.{Frame}
use Rattle.pools.proofs.Laws.{length_entries}
use Rattle.machine.specs.declared.Machine.{Machine}
use Rattle.machine.specs.declared.Phase.{Phase}
use Rattle.machine.specs.declared.Phase.TheVariants.{Paused, Done, Stopped}
use Rattle.machine.specs.Machines.{current, at_main}
use Rattle.mechanism.specs.Registers.{registers_of, settled}
use Rattle.machine.specs.Machines.{rewound, placed}
use Rattle.machine.specs.declared.Outcome.{Outcome}
use Rattle.machine.specs.declared.Outcome.TheVariants as outcome
use Rattle.machine.specs.World.{World, place, memory_in_use, with_machine}
use Rattle.machine.specs.Run.{End, run}
use Rattle.machine.specs.Calls.{may_start, may_continue, fresh, allowed, ended, report, Reported, reported_end, call_with, call, start, rerun, go_on}
use Rattle.machine.specs.declared.Verb.TheVariants.{Start, Rerun, Continue}
use Rattle.machine.specs.Creation.{main_frame}
use Rattle.machine.specs.Reads.{is_done, readable, value_at, value_read}
use Rattle.machine.specs.History.{runs, world_after}
use Rattle.memory.specs.Unbox as unbox
use Rattle.laws.specs.Sound.{Sound}
use Rattle.laws.proofs.SoundnessCalls.{ended_sound, allowed_sound, at_main_sound}
use Rattle.laws.proofs.Starts.{start_is_rerun}
use Rattle.rust.specs.Errors.{VMError, Out, ok, err, panic}
use Rattle.rust.specs.InlineVec as inlinevec
use Rattle.rust.specs.Instructions as instructions
use Rattle.rust.specs.Vm as rust
use Rattle.rust.specs.Vm.{VM, at}
use Rattle.rust.specs.Run as loop
use Rattle.rust.specs.Run.{Ran, returned, running, failed, panicked, onward, finish, finished, while, begin}
use Rattle.agreement.specs.View.{callers, view}
use Rattle.agreement.specs.Agreement.{Over, many_tasks, long_title, many_entries, many_bytes, long_memory, long_image, refusal_of}
use Rattle.agreement.specs.Reads.{Aligned}
use Rattle.agreement.specs.Runs.{from_main, if_rests, if_running, rust_call, rust_left_by, rust_history, at_rest, ReadAlike, Answers, ends, pauses, errs, panics, meets}
use Rattle.agreement.specs.Exceptions.{permitted_comes, call_comes}
use Rattle.agreement.proofs.Facts.{facts}
use Rattle.agreement.proofs.Views.{current_is, callers_are}
use Rattle.agreement.proofs.Aligned.{Lined, above, Given, given}
use Rattle.agreement.proofs.Unbox.{unbox_agrees}
use Rattle.agreement.proofs.Run as same
use Rattle.agreement.proofs.Run.{Same, run_same}

-- ---- a report of a run

-- a limit that this port adds is reached whatever the machine's phase is
over_same : (w : World) (machine : Machine) {number : Refusal} {vm : VM} → Over w number vm → Over (with_machine w machine) number vm
over_same w machine (many_tasks over) = many_tasks over
over_same w machine (long_title id task is over) = long_title id task is over
over_same w machine (many_entries over) = many_entries over
over_same w machine (many_bytes over) = many_bytes over
over_same w machine (long_memory over) = long_memory over
over_same w machine (long_image over) = long_image over

-- what a call leaves: sound, the pool of bytes, and a phase by its outcome
unfoldable pub phase_by : Outcome → Phase
phase_by outcome.Done = Done
phase_by outcome.Paused = Paused
phase_by (outcome.Refused number) = Stopped

pub record Leaves (r : Reported) : Type 0 where
  pub is_sound : Sound (world_after r)
  pub bytes : Bytes r.pool
  pub phase : r.report.machine.phase ≡ phase_by r.report.outcome

-- an answer to the Rust's run, and what it leaves unless a limit that this port adds is reached
pub data Told (r : Reported) : Ran → Type 0 where
  told_end : r.report.outcome ≡ outcome.Done → Leaves r → Told r (returned (values_of r.report.machine.height r.stack) (at_rest (world_after r)))
  told_pause : (stale : ℕ) → r.report.outcome ≡ outcome.Paused → Leaves r → Told r (running (view stale (world_after r)))
  told_err : (stale : ℕ) (error : VMError) → r.report.outcome ≡ outcome.Refused (refusal_of error) → Leaves r → rust.step (view stale (world_after r)) ≡ err error
      → Told r (failed error (view stale (world_after r)))
  told_panic : (stale : ℕ) → r.report.outcome ≡ outcome.Refused refusal.UnexpectedEOB → Leaves r → rust.step (view stale (world_after r)) ≡ panic → Told r panicked
  told_met : (stale : ℕ) (number : Refusal) (vm : VM) → r.report.outcome ≡ outcome.Refused number → rust.step (view stale (world_after r)) ≡ ok vm → Over (world_after r) number vm → (ran : Ran) → Told r ran

-- a machine that is done, as the Rust leaves it
abbrev left_done : World → VM
left_done w = at (rust.with_call_stack (view 0 w) (record { instructions_ref = (current w.machine.frames).entry.0; pc = 0 } ∷ callers w.machine.frames)) 0 []

finished_is : (stale : ℕ) (w : World) → finished (view stale w) ≡ returned (values_of w.machine.height w.stack) (left_done w)
unfolding finished finish onward inlinevec.last rust.last_pc view
finished_is stale w = refl

at_start : (w : World) → place (with_machine w (ended w.machine outcome.Done)) ≡ 0
unfolding ended rewound placed settled registers_of
at_start w = ap (λ (f : Frame). f.place) (current_is w.machine.frames (record { entry = (current w.machine.frames).entry; place = 0 }))

rests_done : (w : World) → at_rest (with_machine w (ended w.machine outcome.Done)) ≡ left_done w
unfolding view ended rewound placed settled registers_of
rests_done w =
    rw (at_start w, current_is w.machine.frames (record { entry = (current w.machine.frames).entry; place = 0 }), callers_are w.machine.frames (record { entry = (current w.machine.frames).entry; place = 0 }))

done_is : (stale : ℕ) (w : World) → finished (view stale w) ≡ returned (values_of w.machine.height w.stack) (at_rest (with_machine w (ended w.machine outcome.Done)))
done_is stale w = finished_is stale w ∙ ap (returned (values_of w.machine.height w.stack)) (sym (rests_done w))

leaves_by : (w : World) (outcome : Outcome) (fuel left : ℕ) → Sound w → Bytes w.pool → Leaves (reported_end fuel (record { world = w; left = left; outcome = outcome }))
unfolding report ended phase_by rewound placed settled
leaves_by w outcome.Done fuel left s bytes = record { is_sound = ended_sound w outcome.Done s; bytes = bytes; phase = refl }
leaves_by w outcome.Paused fuel left s bytes = record { is_sound = ended_sound w outcome.Paused s; bytes = bytes; phase = refl }
leaves_by w (outcome.Refused number) fuel left s bytes = record { is_sound = ended_sound w (outcome.Refused number) s; bytes = bytes; phase = refl }

told : (fuel : ℕ) (e : End) (ran : Ran) → Same e ran → Told (reported_end fuel e) ran
unfolding report ended view rewound placed
told fuel _ _ (same.both_end stale w left s bytes) = rw (done_is stale w) (told_end refl (leaves_by w outcome.Done fuel left s bytes))
told fuel _ _ (same.both_pause stale w s bytes) = told_pause stale refl (leaves_by w outcome.Paused fuel 0 s bytes)
told fuel _ _ (same.both_err stale w left error s bytes e) = told_err stale error refl (leaves_by w (outcome.Refused (refusal_of error)) fuel left s bytes) e
told fuel _ _ (same.both_panic stale w left s bytes e) = told_panic stale refl (leaves_by w (outcome.Refused refusal.UnexpectedEOB) fuel left s bytes) e
told fuel _ _ (same.meets stale w left number vm ran e over) = told_met stale number vm refl e (over_same w _ over) ran

-- ---- the Rust's loop after more turns

more_finished : (turns : ℕ) (before : VM) (o : Out VM)
    → rust_call Continue turns (onward (λ after. returned after.stack (at after 0 [])) before o) ≡ onward (λ after. returned after.stack (at after 0 [])) before o
unfolding rust_call if_running onward
more_finished turns before (ok vm) = refl
more_finished turns before (err error) = refl
more_finished turns before panic = refl

none_turned : (turns : ℕ) (vm : VM) → ltb vm.pc (length (rust.instructions vm)) ≡ false → while turns vm ≡ finished vm
unfolding while
none_turned zero vm e = rw e
none_turned (suc turns) vm e = rw e

some_turned : (vm : VM) → ltb vm.pc (length (rust.instructions vm)) ≡ true → while 0 vm ≡ running vm
unfolding while
some_turned vm e = rw e

one_turned : (turns : ℕ) (vm : VM) → ltb vm.pc (length (rust.instructions vm)) ≡ true → while (suc turns) vm ≡ onward (while turns) vm (rust.step vm)
unfolding while
one_turned turns vm e = rw e

more_stays : (turns : ℕ) (vm : VM) → rust_call Continue turns (finished vm) ≡ finished vm
unfolding finished
more_stays turns vm = more_finished turns vm (finish vm)

more_onward : (a b : ℕ) (before : VM) (o : Out VM) → ((vm : VM) → while (a + b) vm ≡ rust_call Continue b (while a vm))
    → onward (while (a + b)) before o ≡ rust_call Continue b (onward (while a) before o)
unfolding onward rust_call if_running
more_onward a b before (ok vm) later = later vm
more_onward a b before (err error) later = refl
more_onward a b before panic later = refl

-- a turns, then b, are a + b
more_turns : (a b : ℕ) (vm : VM) → while (a + b) vm ≡ rust_call Continue b (while a vm)
unfolding rust_call if_running
more_turns zero b vm = by (ltb vm.pc (length (rust.instructions vm))) refl
  where
    by : (t : Bool) → ltb vm.pc (length (rust.instructions vm)) ≡ t → while (0 + b) vm ≡ rust_call Continue b (while 0 vm)
    by true e = let z : 0 + b ≡ b = omega arith in rw (z, some_turned vm e)
    by false e = rw (none_turned (0 + b) vm e, none_turned 0 vm e) (sym (more_stays b vm))
more_turns (suc a) b vm = by (ltb vm.pc (length (rust.instructions vm))) refl (λ v. more_turns a b v)
  where
    by : (t : Bool) → ltb vm.pc (length (rust.instructions vm)) ≡ t → ((v : VM) → while (a + b) v ≡ rust_call Continue b (while a v)) → while (suc a + b) vm ≡ rust_call Continue b (while (suc a) vm)
    by true e later = let z : suc a + b ≡ suc (a + b) = omega arith in rw (z, one_turned (a + b) vm e, one_turned a vm e) (more_onward a b vm (rust.step vm) later)
    by false e later = rw (none_turned (suc a + b) vm e, none_turned (suc a) vm e) (sym (more_stays b vm))

-- a run of a turns, and b more, are a run of a + b
run_split : (a b : ℕ) (vm : VM) → rust_call Continue b (loop.run a vm) ≡ loop.run (a + b) vm
unfolding loop.run
run_split a b vm = sym (more_onward a b vm (begin vm) (more_turns a b))

-- a start with fuel a and a continue with fuel b leave the Rust as a start with fuel a + b does
pub start_split : (a b : ℕ) (values : List ℕ) (vm : VM) → rust_history (runs Start a ∷ runs Continue b ∷ []) (returned values vm) ≡ rust_history (runs Start (a + b) ∷ []) (returned values vm)
unfolding rust_history rust_left_by rust_call if_rests
start_split a b values vm = run_split a b _

-- and so do a rerun and a continue
pub rerun_split : (a b : ℕ) (values : List ℕ) (vm : VM) → rust_history (runs Rerun a ∷ runs Continue b ∷ []) (returned values vm) ≡ rust_history (runs Rerun (a + b) ∷ []) (returned values vm)
unfolding rust_history rust_left_by rust_call if_rests
rerun_split a b values vm = run_split a b _

-- and two continues as one, wherever the Rust is
pub continue_split : (a b : ℕ) (ran : Ran) → rust_history (runs Continue a ∷ runs Continue b ∷ []) ran ≡ rust_history (runs Continue (a + b) ∷ []) ran
unfolding rust_history rust_left_by rust_call if_running
continue_split a b (returned values vm) = refl
continue_split a b (running vm) = sym (more_turns a b vm)
continue_split a b (failed error before) = refl
continue_split a b panicked = refl

-- ---- a machine that may start or rerun

pub record Ready (w : World) : Type 0 where
  pub is_sound : Sound w
  pub bytes : Bytes w.pool
  pub phase : may_start w.machine.phase ≡ true

-- what a rerun begins with
abbrev begun : World → World
begun w = with_machine w (fresh w.machine)

begun_sound : (w : World) → Sound w → Sound (begun w)
unfolding allowed
begun_sound w s = allowed_sound w true Rerun s

rerun_is : (fuel : ℕ) (w : World) → Ready w → rerun fuel w ≡ reported_end fuel (run fuel (begun w))
unfolding call call_with allowed
rerun_is fuel w ready = rw (ready.is_sound.tested, ready.phase)

go_on_is : (fuel : ℕ) (w : World) → Sound w → may_continue w.machine.phase ≡ true → go_on fuel w ≡ reported_end fuel (run fuel w)
unfolding call call_with allowed
go_on_is fuel w s may = rw (s.tested, may)

-- the Rust begins with the same
begins : (w : World) → Sound w → begin (at_rest w) ≡ ok (view (place w) (begun w))
unfolding begin inlinevec.last instructions.get view values_of
begins w s = rw (length_entries w.pool w.ends w.machine.entries, lt-ltb (current w.machine.frames).entry.0 w.machine.entries (facts s).frame)

run_is : (turns : ℕ) (w : World) → Sound w → loop.run turns (at_rest w) ≡ while turns (view (place w) (begun w))
unfolding loop.run onward
run_is turns w s = rw (begins w s)

-- so a rerun answers the Rust's run, and a continue its loop, if they come to no instruction that is left out
pub rerun_told : (fuel : ℕ) (w : World) → Ready w → call_comes Rerun fuel w ≡ false → Told (rerun fuel w) (loop.run fuel (at_rest w))
unfolding call_comes permitted_comes allowed
rerun_told fuel w ready common =
    rw (rerun_is fuel w ready, run_is fuel w ready.is_sound)
    (told fuel _ _ (run_same fuel (begun w) (place w) (begun_sound w ready.is_sound) ready.bytes (simp (ready.is_sound.tested, ready.phase) at common)))

pub go_on_told : (fuel stale : ℕ) (w : World) → Sound w → Bytes w.pool → may_continue w.machine.phase ≡ true → call_comes Continue fuel w ≡ false → Told (go_on fuel w) (while fuel (view stale w))
unfolding call_comes permitted_comes allowed
go_on_told fuel stale w s bytes may common = rw (go_on_is fuel w s may) (told fuel _ _ (run_same fuel w stale s bytes (simp (s.tested, may) at common)))

-- ---- a start is a rerun at main

abbrev main_world : World → World
main_world w = with_machine w (at_main w.machine)

main_ready : (w : World) → Ready w → Ready (main_world w)
main_ready w ready = record { is_sound = at_main_sound w ready.is_sound; bytes = ready.bytes; phase = ready.phase }

-- what the machine at main shows is the Rust's machine with one frame at main and no loop open
rests_at_main : (w : World) → w.machine.frames.first.entry.0 ≡ 0 → at_rest (main_world w) ≡ from_main (at_rest w)
unfolding from_main view current last_two callers two_of
rests_at_main w main = rw main

comes_at_main : (fuel : ℕ) (w : World) → Ready w → call_comes Start fuel w ≡ call_comes Rerun fuel (main_world w)
unfolding call_comes permitted_comes allowed
comes_at_main fuel w ready = rw (ready.is_sound.tested, (main_ready w ready).is_sound.tested, ready.phase)

starts_as : (fuel : ℕ) (w : World) → Ready w → start fuel w ≡ rerun fuel (main_world w)
starts_as fuel w ready = start_is_rerun fuel w (record { tested = ready.is_sound.tested; ends_lent = ready.is_sound.ends_lent }) ready.phase

-- so a start answers the Rust's run from main
pub start_told : (fuel : ℕ) (w : World) → Ready w → w.machine.frames.first.entry.0 ≡ 0 → call_comes Start fuel w ≡ false → Told (start fuel w) (loop.run fuel (from_main (at_rest w)))
start_told fuel w ready main common =
    subst (λ (r : Reported). Told r (loop.run fuel (from_main (at_rest w)))) (sym (starts_as fuel w ready))
    (subst (λ (vm : VM). Told (rerun fuel (main_world w)) (loop.run fuel vm)) (rests_at_main w main)
    (rerun_told fuel (main_world w) (main_ready w ready) (sym (comes_at_main fuel w ready) ∙ common)))

-- after a run that ended in main with no loop open the Rust begins a start and a rerun with one machine
pub same_in_main : (w : World) → w.machine.frames.count ≡ 1 → w.machine.frames.first ≡ main_frame → w.machine.loops.count ≡ 0 → from_main (at_rest w) ≡ at_rest w
unfolding from_main view current last_two callers two_of
same_in_main w one main none = rw (one, main, none)

-- ---- the values

-- a value on the stack of aligned ones
lined_at : (stack : List ℕ) (height i : ℕ) → Lined (values_of height stack) → i < height → Aligned (get_or stack i 0)
unfolding values_of
lined_at stack zero i lined less = absurd (omega arith)
lined_at stack (suc height) i (above a more) less = by (ℕ_discrete i height) (λ below. lined_at stack height i more below)
  where
    by : Dec (i ≡ height) → (i < height → Aligned (get_or stack i 0)) → Aligned (get_or stack i 0)
    by (yes e) later = subst (λ (n : ℕ). Aligned (get_or stack n 0)) (sym e) a
    by (no e) later = later (omega arith)

-- a done run lets its values be read
readable_done : (w : World) (i : ℕ) → Sound w → is_done w.machine.phase ≡ true → i < w.machine.height
    → (value_read i w).answer ≡ unbox.unbox_value (memory_in_use w) w.ends w.machine.entries (get_or w.stack i 0)
unfolding value_read value_at readable
readable_done w i s done less = rw (s.tested, done, lt-ltb i w.machine.height less)

-- where there are values, the run is done
abbrev pub DoneIfAny : World → Type 0
DoneIfAny w = (i : ℕ) → i < w.machine.height → is_done w.machine.phase ≡ true

pub read_alike : (w : World) → Sound w → DoneIfAny w → Lined (values_of w.machine.height w.stack) → ReadAlike w (at_rest w)
unfolding view
read_alike w s done lined i less =
    rw (readable_done w i s (done i less) less) (unbox_agrees w (facts s) (at_rest w) refl refl i less (lined_at w.stack w.machine.height i lined less))

pub done_if_any : (r : Reported) → r.report.outcome ≡ outcome.Done → Leaves r → DoneIfAny (world_after r)
unfolding is_done phase_by
done_if_any r e leaves i less = rw (leaves.phase, e)

-- what is told is an answer
pub answers : {r : Reported} {ran : Ran} → Told r ran → Given ran → Answers r ran
answers {r} (told_end e leaves) (given _ _ lined) = ends e (read_alike (world_after r) leaves.is_sound (done_if_any r e leaves) lined)
answers (told_pause stale e leaves) g = pauses stale e
answers (told_err stale error e leaves f) g = errs stale error e f
answers (told_panic stale e leaves f) g = panics stale e f
answers (told_met stale number vm e f over ran) g = meets stale e f over ran
