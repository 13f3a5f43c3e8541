-- A call that is refused outside an instruction writes nothing: creation, start, rerun, continue, the save by the host and the reads.
use Prim.Native.Nat.{ℕ, ◌+◌}
use mathlib.Core.Bool.{Bool, true, false, false≢true, true≢false}
use mathlib.Core.List.{List}
use mathlib.Core.Path.{◌≡◌, refl, sym, ap, ◌∙◌, subst}
use native.Mathlib.Omega.{arith}
use lib.ListN.{length}
use Rattle.errors.specs.declared.Refusal.{Refusal}
use Rattle.errors.specs.declared.Refusal.TheVariants.{WrongPhaseOrUnsound}
use Rattle.pools.specs.Pool.{Pooled, has_room, new_entry, interned}
use Rattle.pools.proofs.Interns.{when_room, when_full}
use Rattle.storage.specs.declared.Task.{Task}
use Rattle.storage.specs.declared.TaskId.{TaskId}
use Rattle.image.specs.Table.{SavedTable}
use Rattle.table_image.specs.Creation.{creation_tests}
use Rattle.machine.specs.declared.Verb.{Verb}
use Rattle.machine.specs.declared.Verb.TheVariants.{Start, Rerun, Continue}
use Rattle.machine.specs.declared.Outcome.TheVariants.{Refused}
use Rattle.machine.specs.World.{World, with_machine}
use Rattle.machine.specs.Run.{run}
use Rattle.machine.specs.Calls.{may_start, may_continue, allowed, report, not_allowed, Reported, reports, reported_end, is_sound, call_with, call, start, rerun, go_on}
use Rattle.machine.specs.Reads.{readable, value_at, read_to, value_read, task_read, host_saved, SavedTo, saved_to, host_save_as, host_save}
use Rattle.machine.specs.Creation.{Made, made, create_behind, create_fit, create}
use Rattle.machine.specs.History.{world_after, world_saved, HostCall, reads_value, reads_task, left_by}
use Rattle.laws.specs.Sound.{Passes}
use Rattle.laws.specs.Counted.{allowance}
use Rattle.laws.specs.Refused.{RefusedOutside, not_run, not_saved, no_value, no_task}
use Rattle.laws.proofs.Either.{either}
use Rattle.laws.proofs.Saves.{Saves, saves, not_saves, save_keeps}
use Rattle.laws.proofs.SoundnessCalls.{allowed_passes}
use Rattle.laws.proofs.RefusedInside.{run_other}
use Rattle.std.specs.Prelude.{Ok, Err, Result}
use Rattle.machine.specs.declared.Machine.{Machine}
use Rattle.pools.specs.declared.InstructionsRef.{InstructionsRef}
use Rattle.table_image.specs.declared.creation.Fit.{Fit}

-- ---- start, rerun and continue: 26

-- a call that is allowed runs
pub call_allowed : (verb : Verb) (fuel : ℕ) (w : World) → (allowance verb w).allowed ≡ true → call verb fuel w ≡ reported_end fuel (run fuel (with_machine w (allowance verb w).machine))
unfolding call call_with
call_allowed verb fuel w e = simp e

unsound_not_allowed : (verb : Verb) (w : World) → (allowed w.machine false verb).allowed ≡ false
unfolding allowed
unsound_not_allowed verb w = refl

-- and its record passes the test of 26
pub sound_if_allowed : (verb : Verb) (w : World) → (allowance verb w).allowed ≡ true → is_sound w ≡ true
sound_if_allowed verb w e = by (is_sound w) refl e
  where
    by : (b : Bool) → is_sound w ≡ b → (allowed w.machine b verb).allowed ≡ true → is_sound w ≡ true
    by true is yes-it-is = is
    by false is yes-it-is = absurd (false≢true (sym (unsound_not_allowed verb w) ∙ yes-it-is))

-- one that is not allowed, for the record or for its phase, answers 26 and leaves everything
pub call_not_allowed : (verb : Verb) (fuel : ℕ) (w : World) → (allowance verb w).allowed ≡ false → call verb fuel w ≡ reports (not_allowed w.machine) w
unfolding call call_with
call_not_allowed verb fuel w e = simp e

by_phase : (w : World) (verb : Verb) (sound : Bool) → (allowed w.machine true verb).allowed ≡ false → (allowed w.machine sound verb).allowed ≡ false
unfolding allowed
by_phase w verb true e = e
by_phase w verb false e = refl

-- a start on a machine that is paused or stopped
pub start_in_phase : (fuel : ℕ) (w : World) → may_start w.machine.phase ≡ false → start fuel w ≡ reports (not_allowed w.machine) w
unfolding allowed
start_in_phase fuel w e = call_not_allowed Start fuel w (by_phase w Start (is_sound w) e)

-- and a rerun
pub rerun_in_phase : (fuel : ℕ) (w : World) → may_start w.machine.phase ≡ false → rerun fuel w ≡ reports (not_allowed w.machine) w
unfolding allowed
rerun_in_phase fuel w e = call_not_allowed Rerun fuel w (by_phase w Rerun (is_sound w) e)

-- a continue on one that is not paused
pub continue_in_phase : (fuel : ℕ) (w : World) → may_continue w.machine.phase ≡ false → go_on fuel w ≡ reports (not_allowed w.machine) w
unfolding allowed
continue_in_phase fuel w e = call_not_allowed Continue fuel w (by_phase w Continue (is_sound w) e)

-- ---- the read of a value: 26 for the record, for its phase and for the position

pub value_not_readable : (position : ℕ) (w : World) → readable w.machine (is_sound w) position ≡ false → value_read position w ≡ read_to (Err WrongPhaseOrUnsound) w
unfolding value_read value_at
value_not_readable position w e = simp e

-- no read writes, refused or not
pub value_leaves : (position : ℕ) (w : World) → left_by (reads_value position) w ≡ w
unfolding left_by value_read
value_leaves position w = refl

pub task_leaves : (id : TaskId) (w : World) → left_by (reads_task id) w ≡ w
unfolding left_by task_read
task_leaves id w = refl

-- ---- the save by the host: 26, 12, 15, 24

-- an answer, with everything as it was
abbrev answered : World → Result ℕ Refusal → SavedTo
answered w result = saved_to (record { machine = w.machine; result = result }) w.table w.stack w.memory w.pool w.ends w.save

table_not_saved : (w : World) (refusal : Refusal) (a : SavedTable) → Saves w.save a → (host_save_as w a).report.result ≡ Err refusal → host_save_as w a ≡ answered w (Err refusal)
unfolding host_saved
table_not_saved w refusal _ (saves size after fits long) e = absurd (let z : ◌≡◌ {A = ℕ} 0 1 = cc in omega arith)
table_not_saved w refusal _ (not_saves other) e = ap (answered w) e

-- whatever it is refused for
pub save_not_saved : (w : World) (refusal : Refusal) → (host_save w).report.result ≡ Err refusal
    → host_save w ≡ saved_to (record { machine = w.machine; result = Err refusal }) w.table w.stack w.memory w.pool w.ends w.save
unfolding host_save
save_not_saved w refusal =
    either (λ (s : SavedTo). s.report.result ≡ Err refusal → s ≡ answered w (Err refusal)) (is_sound w) _ _
    (λ _. table_not_saved w refusal _ (save_keeps w.machine.next_id.0 w.table w.pool w.ends w.machine.entries w.save)) (λ _ e. ap (answered w) e)

-- ---- each

-- an instruction is never refused with 26, so a start or a continue that answers 26 was not allowed
run_outcome : (fuel : ℕ) (w : World) → (reported_end fuel (run fuel w)).report.outcome ≡ (run fuel w).outcome
unfolding report
run_outcome fuel w = refl

not_allowed_if_26 : (verb : Verb) (fuel : ℕ) (w : World) → length w.ends ≡ 1024 → (call verb fuel w).report.outcome ≡ Refused WrongPhaseOrUnsound → (b : Bool) → (allowance verb w).allowed ≡ b
    → (allowance verb w).allowed ≡ false
not_allowed_if_26 verb fuel w lent e false is = is
not_allowed_if_26 verb fuel w lent e true is =
    let begins = with_machine w (allowance verb w).machine in
    let passes : Passes begins = allowed_passes w (is_sound w) verb (record { tested = sound_if_allowed verb w is; ends_lent = lent }) in
    let refused : (run fuel begins).outcome ≡ Refused WrongPhaseOrUnsound = sym (run_outcome fuel begins) ∙ ap (λ (r : Reported). r.report.outcome) (sym (call_allowed verb fuel w is)) ∙ e in
    absurd (true≢false (run_other fuel begins WrongPhaseOrUnsound passes refused))

-- docs/REFERENCE.md, 'The calls of a host': a call that is refused outside an instruction writes nothing; 1,024 ends are what the type says
pub nothing_written : (w : World) → length w.ends ≡ 1024 → (host-call : HostCall) → RefusedOutside w host-call → left_by host-call w ≡ w
unfolding left_by
nothing_written w lent _ (not_run verb fuel e) = ap world_after (call_not_allowed verb fuel w (not_allowed_if_26 verb fuel w lent e (allowance verb w).allowed refl))
nothing_written w lent _ (not_saved refusal e) = ap world_saved (save_not_saved w refusal e)
nothing_written w lent _ (no_value position refusal e) = value_leaves position w
nothing_written w lent _ (no_task id refusal e) = task_leaves id w

-- ---- creation: 26, 1, 28, 25, 22

module _ (table : List Task) (pool ends image program : List ℕ) (refusal : Refusal) where
  abbrev Nothing : Made → Type 0
  Nothing m = m.answer ≡ Err refusal → m ≡ made (Err refusal) table pool ends

  full : (next_id s_len : ℕ) (other : Refusal) → Nothing (create_behind table image next_id s_len pool ends (Err other))
  unfolding create_behind
  full next_id s_len other e = ap (λ (r : Result Machine Refusal). made r table pool ends) e

  fits : (next_id s_len : ℕ) (after more : List ℕ) (result : Result (InstructionsRef × ℕ) Refusal) → result ≡ new_entry 0 (0 + length program) → Nothing (create_behind table image next_id s_len after more result)
  unfolding create_behind
  fits next_id s_len after more (Ok (entry, bytes)) is e = absurd (let z : ◌≡◌ {A = ℕ} 0 1 = cc in omega arith)
  fits next_id s_len after more (Err other) is e = absurd (let z : ◌≡◌ {A = ℕ} 0 1 = cc in omega arith)

  behind : (next_id s_len : ℕ) (test : Bool) → has_room (length pool) 0 0 (length program) ≡ test
      → Nothing (create_behind table image next_id s_len (interned pool ends 0 0 program).pool (interned pool ends 0 0 program).ends (interned pool ends 0 0 program).answer)
  behind next_id s_len true held = fits next_id s_len _ _ _ (ap (λ (p : Pooled). p.answer) (when_room pool ends 0 0 program held))
  behind next_id s_len false failed =
      subst (λ (p : Pooled). Nothing (create_behind table image next_id s_len p.pool p.ends p.answer)) (sym (when_full pool ends 0 0 program failed)) (full next_id s_len _)

  by_tests : (result : Result Fit Refusal) → Nothing (create_fit table pool ends image program result)
  unfolding create_fit
  by_tests (Ok fit) = behind fit.next_id.0 fit.s_len (has_room (length pool) 0 0 (length program)) refl
  by_tests (Err other) = λ e. ap (λ (r : Result Machine Refusal). made r table pool ends) e

  -- whatever it is refused for, creation writes nothing
  pub creation_not_created : (create table pool ends image program).answer ≡ Err refusal → create table pool ends image program ≡ made (Err refusal) table pool ends
  unfolding create
  creation_not_created e = by_tests (creation_tests (length table) (length pool) (length program) image) e
