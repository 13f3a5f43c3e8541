-- The history of a host beside the Rust: what both have between two calls.
use Prim.Native.Nat.{ℕ}
use mathlib.Core.Bool.{Bool, true, false, true≢false}
use mathlib.Core.Path.{◌≡◌, refl, sym, ap, subst, ◌∙◌}
use mathlib.Core.List.{List, [], ◌∷◌}
use Rattle.errors.specs.declared.Refusal.{Refusal}
use Rattle.slices.specs.Numbers.{Bytes}
use Rattle.inlinevec.specs.Stacks.{values_of}
use Rattle.machine.specs.declared.Phase.{Phase}
use Rattle.machine.specs.declared.Phase.TheVariants.{New, Paused, Done, Stopped}
use Rattle.machine.specs.declared.Outcome.{Outcome}
use Rattle.machine.specs.declared.Outcome.TheVariants as outcome
use Rattle.machine.specs.declared.Verb.{Verb}
use Rattle.machine.specs.declared.Verb.TheVariants.{Start, Rerun, Continue}
use Rattle.machine.specs.Machines.{with_saved}
use Rattle.machine.specs.World.{World, world}
use Rattle.machine.specs.Calls.{may_start, may_continue, not_allowed, Reported, reports, is_sound, call}
use Rattle.machine.specs.Reads.{value_read, task_read, host_saved, host_save_as, host_save}
use Rattle.machine.specs.History.{HostCall, runs, saves, reads_value, reads_task, left_by, history, world_after, world_saved}
use Rattle.laws.specs.Sound.{Sound}
use Rattle.laws.proofs.SoundnessCalls.{left_sound}
use Rattle.laws.proofs.Main.{left_main}
use Rattle.laws.proofs.Refused.{start_in_phase, rerun_in_phase, continue_in_phase}
use Rattle.rust.specs.Errors.{VMError}
use Rattle.rust.specs.Vm.{VM}
use Rattle.rust.specs.Run as loop
use Rattle.rust.specs.Run.{Ran, returned, running, failed, panicked}
use Rattle.agreement.specs.View.{view}
use Rattle.agreement.specs.Agreement.{Over, many_tasks, long_title, many_entries, many_bytes, long_memory, long_image}
use Rattle.agreement.specs.Runs.{from_main, if_rests, if_running, rust_call, rests, is_running, rust_takes, rust_left_by, rust_history, at_rest}
use Rattle.agreement.specs.Demand.{is_added, meets_added, call_meets, NoneMet, no_call, not_met}
use Rattle.agreement.specs.Exceptions.{call_comes, host_call_comes}
use Rattle.agreement.proofs.Aligned.{Lined, Given, given, not_yet, while_given, run_given}
use Rattle.agreement.proofs.Calls.{phase_by, Leaves, Told, told_end, told_pause, told_err, told_panic, told_met, Ready, DoneIfAny, done_if_any, start_told, rerun_told, go_on_told}
use Rattle.std.specs.Prelude.{Ok, Err, Result}

-- a machine beside the Rust: both rest, both are in a run, the Rust has failed, the Rust has panicked
pub data Related (w : World) : Ran → Type 0 where
  both_rest : {values : List ℕ} {vm : VM} → Ready w → DoneIfAny w → Lined (values_of w.machine.height w.stack) → values_of w.machine.height w.stack ≡ values → at_rest w ≡ vm → Related w (returned values vm)
  both_run : {vm : VM} (stale : ℕ) → Sound w → Bytes w.pool → w.machine.phase ≡ Paused → Lined (values_of w.machine.height w.stack) → view stale w ≡ vm → Related w (running vm)
  it_failed : {error : VMError} {before : VM} (stale : ℕ) → Sound w → w.machine.phase ≡ Stopped → view stale w ≡ before → Related w (failed error before)
  it_panicked : Sound w → w.machine.phase ≡ Stopped → Related w panicked

-- ---- a limit that this port adds

-- what is met is one of 20 to 24
over_added : {w : World} {number : Refusal} {vm : VM} → Over w number vm → is_added number ≡ true
unfolding is_added
over_added (many_tasks over) = refl
over_added (long_title id task is over) = refl
over_added (many_entries over) = refl
over_added (many_bytes over) = refl
over_added (long_memory over) = refl
over_added (long_image over) = refl

pub is_met : {A : Type 0} {w : World} {number : Refusal} {vm : VM} (o : Outcome) → o ≡ outcome.Refused number → Over w number vm → meets_added o ≡ false → A
unfolding meets_added
is_met o e over not-added = absurd (true≢false (sym (over_added over) ∙ sym (ap meets_added e) ∙ not-added))

-- ---- a start, a rerun or a continue

-- one that may start may not continue
may_not : (phase : Phase) → may_start phase ≡ true → may_continue phase ≡ false
unfolding may_start may_continue
may_not New may = refl
may_not Paused may = absurd (true≢false (sym may))
may_not Done may = refl
may_not Stopped may = refl

-- where the Rust rests, so does the machine
data BothRest (w : World) : Ran → Type 0 where
  resting : {values : List ℕ} {vm : VM} → Ready w → at_rest w ≡ vm → BothRest w (returned values vm)

-- where it is in a run, so is the machine
data BothGo (w : World) : Ran → Type 0 where
  going : {vm : VM} (stale : ℕ) → Sound w → Bytes w.pool → w.machine.phase ≡ Paused → Lined (values_of w.machine.height w.stack) → view stale w ≡ vm → BothGo w (running vm)

module _ {w : World} where
  at_rest_both : {ran : Ran} → Related w ran → rests ran ≡ true → BothRest w ran
  unfolding rests
  at_rest_both (both_rest ready done lined values-are is) it-is = resting ready is
  at_rest_both (both_run stale s bytes phase lined is) it-is = absurd (true≢false (sym it-is))
  at_rest_both (it_failed stale s phase is) it-is = absurd (true≢false (sym it-is))
  at_rest_both (it_panicked s phase) it-is = absurd (true≢false (sym it-is))

  in_a_run_both : {ran : Ran} → Related w ran → is_running ran ≡ true → BothGo w ran
  unfolding is_running
  in_a_run_both (both_rest ready done lined values-are is) it-is = absurd (true≢false (sym it-is))
  in_a_run_both (both_run stale s bytes phase lined is) it-is = going stale s bytes phase lined is
  in_a_run_both (it_failed stale s phase is) it-is = absurd (true≢false (sym it-is))
  in_a_run_both (it_panicked s phase) it-is = absurd (true≢false (sym it-is))

  -- where it does not rest, the phase allows no start; where it is in no run, no continue
  no_start : {ran : Ran} → Related w ran → rests ran ≡ false → may_start w.machine.phase ≡ false
  unfolding rests may_start
  no_start (both_rest ready done lined values-are is) not_there = absurd (true≢false not_there)
  no_start (both_run stale s bytes phase lined is) not_there = ap may_start phase
  no_start (it_failed stale s phase is) not_there = ap may_start phase
  no_start (it_panicked s phase) not_there = ap may_start phase

  no_continue : {ran : Ran} → Related w ran → is_running ran ≡ false → may_continue w.machine.phase ≡ false
  unfolding is_running may_continue
  no_continue (both_rest ready done lined values-are is) not_there = may_not w.machine.phase ready.phase
  no_continue (both_run stale s bytes phase lined is) not_there = absurd (true≢false not_there)
  no_continue (it_failed stale s phase is) not_there = ap may_continue phase
  no_continue (it_panicked s phase) not_there = ap may_continue phase

  -- each of them that the Rust takes
  told_start : {ran : Ran} (fuel : ℕ) → BothRest w ran → w.machine.frames.first.entry.0 ≡ 0 → call_comes Start fuel w ≡ false → Told (call Start fuel w) (rust_call Start fuel ran)
  unfolding rust_call if_rests
  told_start fuel (resting ready is) main common = subst (λ (v : VM). Told (call Start fuel w) (loop.run fuel (from_main v))) is (start_told fuel w ready main common)

  told_rerun : {ran : Ran} (fuel : ℕ) → BothRest w ran → call_comes Rerun fuel w ≡ false → Told (call Rerun fuel w) (rust_call Rerun fuel ran)
  unfolding rust_call if_rests
  told_rerun fuel (resting ready is) common = subst (λ (v : VM). Told (call Rerun fuel w) (loop.run fuel v)) is (rerun_told fuel w ready common)

  told_continue : {ran : Ran} (fuel : ℕ) → BothGo w ran → call_comes Continue fuel w ≡ false → Told (call Continue fuel w) (rust_call Continue fuel ran)
  unfolding rust_call if_running may_continue
  told_continue fuel (going stale s bytes phase lined is) common = subst (λ (v : VM). Told (call Continue fuel w) (loop.while fuel v)) is (go_on_told fuel stale w s bytes (ap may_continue phase) common)

  pub told_call : {ran : Ran} (verb : Verb) (fuel : ℕ) → Related w ran → w.machine.frames.first.entry.0 ≡ 0 → rust_takes verb ran ≡ true → call_comes verb fuel w ≡ false → Told (call verb fuel w) (rust_call verb fuel ran)
  unfolding rust_takes
  told_call Start fuel related main takes common = told_start fuel (at_rest_both related takes) main common
  told_call Rerun fuel related main takes common = told_rerun fuel (at_rest_both related takes) common
  told_call Continue fuel related main takes common = told_continue fuel (in_a_run_both related takes) common

  given_start : {ran : Ran} (fuel : ℕ) → BothRest w ran → Given (rust_call Start fuel ran)
  unfolding rust_call if_rests from_main view
  given_start fuel (resting ready is) = subst (λ (v : VM). Given (loop.run fuel (from_main v))) is (run_given fuel (from_main (at_rest w)) refl)

  given_rerun : {ran : Ran} (fuel : ℕ) → BothRest w ran → Given (rust_call Rerun fuel ran)
  unfolding rust_call if_rests view
  given_rerun fuel (resting ready is) = subst (λ (v : VM). Given (loop.run fuel v)) is (run_given fuel (at_rest w) refl)

  given_continue : {ran : Ran} (fuel : ℕ) → BothGo w ran → Given (rust_call Continue fuel ran)
  unfolding rust_call if_running view
  given_continue fuel (going stale s bytes phase lined is) = subst (λ (v : VM). Given (loop.while fuel v)) is (while_given fuel (view stale w) lined)

  pub given_call : {ran : Ran} (verb : Verb) (fuel : ℕ) → Related w ran → rust_takes verb ran ≡ true → Given (rust_call verb fuel ran)
  unfolding rust_takes
  given_call Start fuel related takes = given_start fuel (at_rest_both related takes)
  given_call Rerun fuel related takes = given_rerun fuel (at_rest_both related takes)
  given_call Continue fuel related takes = given_continue fuel (in_a_run_both related takes)

  -- each that the Rust does not take: 26
  pub refused_call : {ran : Ran} (verb : Verb) (fuel : ℕ) → Related w ran → rust_takes verb ran ≡ false → call verb fuel w ≡ reports (not_allowed w.machine) w
  unfolding rust_takes
  refused_call Start fuel related takes = start_in_phase fuel w (no_start related takes)
  refused_call Rerun fuel related takes = rerun_in_phase fuel w (no_start related takes)
  refused_call Continue fuel related takes = continue_in_phase fuel w (no_continue related takes)

-- the Rust stays as it is
stays_unless_resting : (begin : VM → Ran) (ran : Ran) → rests ran ≡ false → if_rests begin ran ≡ ran
unfolding rests if_rests
stays_unless_resting begin (returned values vm) not_there = absurd (true≢false not_there)
stays_unless_resting begin (running vm) not_there = refl
stays_unless_resting begin (failed error before) not_there = refl
stays_unless_resting begin panicked not_there = refl

stays_unless_running : (go_on : VM → Ran) (ran : Ran) → is_running ran ≡ false → if_running go_on ran ≡ ran
unfolding is_running if_running
stays_unless_running go_on (returned values vm) not_there = refl
stays_unless_running go_on (running vm) not_there = absurd (true≢false not_there)
stays_unless_running go_on (failed error before) not_there = refl
stays_unless_running go_on panicked not_there = refl

not_taken : (verb : Verb) (fuel : ℕ) (ran : Ran) → rust_takes verb ran ≡ false → rust_call verb fuel ran ≡ ran
unfolding rust_takes rust_call
not_taken Start fuel ran takes = stays_unless_resting (λ vm. loop.run fuel (from_main vm)) ran takes
not_taken Rerun fuel ran takes = stays_unless_resting (λ vm. loop.run fuel vm) ran takes
not_taken Continue fuel ran takes = stays_unless_running (λ vm. loop.while fuel vm) ran takes

done_ready : (r : Reported) → r.report.outcome ≡ outcome.Done → Leaves r → Ready (world_after r)
unfolding phase_by may_start
done_ready r e leaves = record { is_sound = leaves.is_sound; bytes = leaves.bytes; phase = rw (leaves.phase, e) }

paused_is : (r : Reported) → r.report.outcome ≡ outcome.Paused → Leaves r → r.report.machine.phase ≡ Paused
unfolding phase_by
paused_is r e leaves = leaves.phase ∙ ap phase_by e

stopped_is : (r : Reported) {number : Refusal} → r.report.outcome ≡ outcome.Refused number → Leaves r → r.report.machine.phase ≡ Stopped
unfolding phase_by
stopped_is r e leaves = leaves.phase ∙ ap phase_by e

left_related : {r : Reported} {ran : Ran} → Told r ran → Given ran → meets_added r.report.outcome ≡ false → Related (world_after r) ran
unfolding view
left_related {r} (told_end e leaves) (given _ _ lined) none-met = both_rest (done_ready r e leaves) (done_if_any r e leaves) lined refl refl
left_related {r} (told_pause stale e leaves) (not_yet _ lined) none-met = both_run stale leaves.is_sound leaves.bytes (paused_is r e leaves) lined refl
left_related {r} (told_err stale error e leaves f) g none-met = it_failed stale leaves.is_sound (stopped_is r e leaves) refl
left_related {r} (told_panic stale e leaves f) g none-met = it_panicked leaves.is_sound (stopped_is r e leaves)
left_related {r} (told_met stale number vm e f over ran) g none-met = is_met r.report.outcome e over none-met

call_related : {w : World} {ran : Ran} (verb : Verb) (fuel : ℕ) → Related w ran → w.machine.frames.first.entry.0 ≡ 0 → meets_added (call verb fuel w).report.outcome ≡ false → call_comes verb fuel w ≡ false → Related (world_after (call verb fuel w)) (rust_call verb fuel ran)
call_related {w} {ran} verb fuel related main none-met common = by (rust_takes verb ran) refl
  where
    by : (b : Bool) → rust_takes verb ran ≡ b → Related (world_after (call verb fuel w)) (rust_call verb fuel ran)
    by true takes = left_related (told_call verb fuel related main takes common) (given_call verb fuel related takes) none-met
    by false takes =
        subst (λ (r : Reported). Related (world_after r) (rust_call verb fuel ran)) (sym (refused_call verb fuel related takes)) (subst (λ (x : Ran). Related w x) (sym (not_taken verb fuel ran takes)) related)

-- ---- a save

-- writes the save buffer and the saved length alone
abbrev with_image : World → ℕ → List ℕ → World
with_image w length save = world (with_saved w.machine length) w.table w.stack w.memory w.pool w.ends save

data SavesOnly (w : World) : World → Type 0 where
  saves_only : (length : ℕ) (save : List ℕ) → SavesOnly w (with_image w length save)

saved_only : (w : World) (save : List ℕ) (result : Result ℕ Refusal) → SavesOnly w (world_saved (host_save_as w (record { answer = result; save = save })))
unfolding host_saved
saved_only w save (Ok length) = saves_only length save
saved_only w save (Err refusal) = saves_only w.machine.saved save

save_is : (w : World) → SavesOnly w (world_saved (host_save w))
unfolding host_save
save_is w = by (is_sound w) refl
  where
    by : (b : Bool) → is_sound w ≡ b → SavesOnly w (world_saved (host_save w))
    by true e = rw e (saved_only w _ _)
    by false e = rw e (saves_only w.machine.saved w.save)

image_related : {w v : World} {ran : Ran} → SavesOnly w v → Sound v → Related w ran → Related v ran
unfolding view
image_related (saves_only length save) s (both_rest ready done lined values-are is) = both_rest (record { is_sound = s; bytes = ready.bytes; phase = ready.phase }) done lined values-are is
image_related (saves_only length save) s (both_run stale before bytes phase lined is) = both_run stale s bytes phase lined is
image_related (saves_only length save) s (it_failed stale before phase is) = it_failed stale s phase is
image_related (saves_only length save) s (it_panicked before phase) = it_panicked s phase

-- what is related is sound
pub sound_related : {w : World} {ran : Ran} → Related w ran → Sound w
sound_related (both_rest ready done lined values-are is) = ready.is_sound
sound_related (both_run stale s bytes phase lined is) = s
sound_related (it_failed stale s phase is) = s
sound_related (it_panicked s phase) = s

-- ---- a history

left_by_related : {w : World} {ran : Ran} (one : HostCall) → Related w ran → w.machine.frames.first.entry.0 ≡ 0 → call_meets one w ≡ false → host_call_comes one w ≡ false → Related (left_by one w) (rust_left_by one ran)
unfolding left_by rust_left_by call_meets host_call_comes value_read task_read
left_by_related (runs verb fuel) related main none-met common = call_related verb fuel related main none-met common
left_by_related {w} saves related main none-met common = image_related (save_is w) (left_sound saves w (sound_related related)) related
left_by_related (reads_value position) related main none-met common = related
left_by_related (reads_task id) related main none-met common = related

-- main is the program all along
pub history_related : {w : World} {ran : Ran} (calls : List HostCall) → NoneMet calls w → w.machine.frames.first.entry.0 ≡ 0 → Related w ran → Related (history calls w) (rust_history calls ran)
unfolding history rust_history
history_related {w = w} [] no_call main related = related
history_related {w = w} (one ∷ others) (not_met none-met common later) main related =
    let s = sound_related related in
    history_related {w = left_by one w} others later (left_main one w (record { tested = s.tested; ends_lent = s.ends_lent }) ∙ main) (left_by_related one related main none-met common)
