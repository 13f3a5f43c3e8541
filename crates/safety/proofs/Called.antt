-- Calls of a host to a machine that holds an admitted program: what each leaves, and what it is refused with.
use Prim.Native.Nat.{ℕ, ◌≤◌}
use mathlib.Core.Path.{◌≡◌, refl, sym, ap, ◌∙◌, subst}
use mathlib.Core.Bool.{Bool, true, false, false≢true}
use mathlib.Core.List.{List, [], ◌∷◌}
use native.Mathlib.Omega.{arith}
use lib.Dec.{leb}
use lib.ListN.{length}
use borrow.Author.Tests.{leb-true, leb-false, lt-leb, ne_eqb}
use Rattle.errors.specs.declared.Refusal.{Refusal}
use Rattle.errors.specs.Refusals.{number_of}
use Rattle.inlinevec.specs.Stacks.{last_two}
use Rattle.inlinevec.specs.declared.Frame.{Frame}
use Rattle.machine.specs.declared.Machine.{Machine}
use Rattle.machine.specs.Machines.{current, at_main}
use Rattle.mechanism.specs.Registers.{registers_of, settled}
use Rattle.machine.specs.Machines.{rewound, placed}
use Rattle.machine.specs.declared.Outcome.TheVariants.{Done, Paused, Refused}
use Rattle.machine.specs.World.{World, place, at_end}
use Rattle.machine.specs.Opcodes.{saving}
use Rattle.machine.specs.Run.{End, end_at}
use Rattle.mechanism.proofs.Settled.{current_changed}
use Rattle.machine.specs.Calls.{may_start, may_continue, allows, fresh, allowing, allowed, ended, report, Reported, reports, not_allowed, is_sound, call_with, call}
use Rattle.machine.specs.World.{with_machine}
use Rattle.machine.specs.Calls as calls
use Rattle.machine.specs.declared.Verb.{Verb}
use Rattle.machine.specs.declared.Verb.TheVariants.{Start, Rerun, Continue}
use Rattle.machine.specs.Reads.{host_saved, SavedTo, saved_to, host_save, value_read, task_read}
use Rattle.labels.specs.declared.Kind.{Kind}
use Rattle.labels.specs.Labels.{Label, zeroth, Labelled}
use Rattle.mechanism.proofs.Either.{either}
use Rattle.machine.specs.History.{world_after, world_saved, HostCall, runs, saves, reads_value, reads_task, left_by, history}
use Rattle.safety.specs.Safe.{ruled_out, may_come, Safe}
use Rattle.safety.proofs.Kinded.{nil}
use Rattle.safety.proofs.Rules.{on_bool}
use Rattle.safety.proofs.Holds.{May, Looping, none_open, Holds, starts}
use Rattle.safety.proofs.Stands.{Main, Stands, moved_main}
use Rattle.safety.proofs.Runs.{listed, Runs, runs_done, runs_paused, runs_refused, run_good, end_good}
use Rattle.std.specs.Prelude.{Ok, Err, Result}
use Rattle.inlinevec.specs.declared.Two.{Two}
use Rattle.inlinevec.specs.declared.Loop.{Loop}

-- what may come is not ruled out
least : (n : ℕ) → may_come n ≡ true → 7 ≤ n
least n e =
    on_bool (leb 7 n) (λ t. leb-true 7 n t)
    (λ f. let low = leb-false 7 n f in absurd (false≢true (simp (f, lt-leb 11 n (omega arith), lt-leb 20 n (omega arith)) at e)))

not_ten : (n : ℕ) → may_come n ≡ true → n ≡ 10 → ⊥
not_ten n e ten = false≢true (subst (λ (k : ℕ). may_come k ≡ true) ten e)

not_ruled_out : (n : ℕ) → may_come n ≡ true → ruled_out n ≡ false
not_ruled_out n e =
    let low = least n e in
    simp (ne_eqb n 2 (λ q. omega arith), ne_eqb n 3 (λ q. omega arith), ne_eqb n 4 (λ q. omega arith), ne_eqb n 5 (λ q. omega arith), ne_eqb n 6 (λ q. omega arith), ne_eqb n 10 (not_ten n e))

module _ (program : List ℕ) (kinds : List Kind) (labelled : Labelled program kinds) where
  abbrev labels : ℕ → Label
  labels = labelled.labels

  -- ---- between calls

  -- a machine that may be started: at its code's start, no loop open
  pub record Rests (w : World) : Type 0 where
    pub lent : length w.stack ≡ 1000
    pub main : Main program w.machine.frames w.machine.pool w.machine.entries w.pool w.ends
    pub at_zero : place w ≡ 0
    pub closed : w.machine.loops.count ≡ 0

  -- new or done it rests; paused or stopped it stands in the program
  pub data Ready (w : World) : Type 0 where
    rests : may_continue w.machine.phase ≡ false → Rests w → Ready w
    on_its_way : may_start w.machine.phase ≡ false → Stands program labels w → Ready w

  -- a rerun from rest
  closed_looping : (loops : Two Loop) → loops.count ≡ 0 → Looping program labels loops []
  closed_looping loops e = subst (λ (n : ℕ). Looping program labels (record { count = n; first = loops.first; second = loops.second }) []) (sym e) none_open

  starts_over : (w : World) → Rests w → Stands program labels (with_machine w (fresh w.machine))
  starts_over w r = record {
    lent = r.lent;
    main = r.main;
    holds = subst (λ (i : ℕ). Holds program labels i 0 w.machine.loops w.stack) (sym r.at_zero)
        (starts (record { start = zeroth; label_is = labelled.labelling.zeroth_empty; few_kinds = omega arith; few_loops = omega arith }) nil (closed_looping w.machine.loops r.closed));
  }

  -- a start from rest, at main: all that it takes from the run before is the program, as the pool's first entry
  at_main_rests : (w : World) → Rests w → Rests (with_machine w (at_main w.machine))
  unfolding current last_two
  at_main_rests w r = record {
    lent = r.lent;
    main = record { one_frame = refl; in_main = rw r.main.one_frame at r.main.in_main; ends_lent = r.main.ends_lent; pooled = r.main.pooled; some_entries = r.main.some_entries; program = r.main.program };
    at_zero = refl;
    closed = refl;
  }

  starts_at_main : (w : World) → Rests w → Stands program labels (with_machine w (fresh (at_main w.machine)))
  starts_at_main w r = starts_over (with_machine w (at_main w.machine)) (at_main_rests w r)

  -- ---- what a call reports

  -- a call keeps the machine ready, and is safe
  pub record Keeps (r : Reported) : Type 0 where
    pub ready : Ready (world_after r)
    pub safe : Safe kinds r

  keeps_done : {v : World} (fuel left : ℕ) → Stands program labels v → at_end v ≡ true → Keeps (calls.reported_end fuel (end_at v left Done))
  unfolding report ended rewound placed settled registers_of may_continue
  keeps_done {v} fuel left stands over =
      let e = end_good program kinds labelled v stands over in
      record {
        ready = rests refl (record {
          lent = stands.lent;
          main = moved_main 0 stands.main;
          at_zero = ap (λ (f : Frame). f.place) (current_changed v.machine.frames (record { entry = (current v.machine.frames).entry; place = 0 }));
          closed = e.closed;
        });
        safe = record {
          never_refused = λ refusal q. absurd (let z : ◌≡◌ {A = ℕ} 0 1 = cc in omega arith);
          listed_kinds = λ q. listed (world_after (calls.reported_end fuel (end_at v left Done))) e.kinded;
        };
      }

  keeps_paused : {v : World} (fuel left : ℕ) → Stands program labels v → Keeps (calls.reported_end fuel (end_at v left Paused))
  unfolding report ended may_start
  keeps_paused fuel left stands = record {
    ready = on_its_way refl (record { lent = stands.lent; main = stands.main; holds = stands.holds });
    safe = record {
      never_refused = λ refusal q. absurd (let z : ◌≡◌ {A = ℕ} 0 1 = cc in omega arith);
      listed_kinds = λ q. absurd (let z : ◌≡◌ {A = ℕ} 0 1 = cc in omega arith);
    };
  }

  -- a refusal that admission does not rule out is safe
  safe_refusal : (r : Reported) (found : Refusal) → r.report.outcome ≡ Refused found → ruled_out (number_of found) ≡ false → Safe kinds r
  safe_refusal r found is other = record {
    never_refused = λ refusal q. let same : found ≡ refusal = cc in subst (λ (x : Refusal). ruled_out (number_of x) ≡ false) same other;
    listed_kinds = λ q. absurd (let z : ◌≡◌ {A = ℕ} 0 1 = cc in omega arith);
  }

  keeps_refused : {v : World} (refusal : Refusal) (fuel left : ℕ) → Stands program labels v → May refusal → Keeps (calls.reported_end fuel (end_at v left (Refused refusal)))
  unfolding report ended may_start
  keeps_refused refusal fuel left stands may = record {
    ready = on_its_way refl (record { lent = stands.lent; main = stands.main; holds = stands.holds });
    safe = safe_refusal _ refusal refl (not_ruled_out (number_of refusal) may);
  }

  keeps_run : {e : End} (fuel : ℕ) → Runs program kinds labelled e → Keeps (calls.reported_end fuel e)
  keeps_run fuel (runs_done {left = left} stands over) = keeps_done fuel left stands over
  keeps_run fuel (runs_paused {left = left} stands) = keeps_paused fuel left stands
  keeps_run fuel (runs_refused {left = left} {refusal = refusal} stands may) = keeps_refused refusal fuel left stands may

  -- 26 leaves everything
  keeps_all : (w : World) → Ready w → Keeps (reports (not_allowed w.machine) w)
  keeps_all w ready = record { ready = ready; safe = safe_refusal _ _ refl refl }

  call_allowed : (fuel : ℕ) (w : World) (may : Bool) (machine : Machine) → Ready w → (may ≡ true → Stands program labels (with_machine w machine)) → Keeps (call_with fuel w (allowing may machine))
  unfolding call_with
  call_allowed fuel w true machine ready stands = keeps_run fuel (run_good program kinds labelled fuel (with_machine w machine) (stands refl))
  call_allowed fuel w false machine ready stands = keeps_all w ready

  -- which of them begins, by the phase
  call_by : (fuel : ℕ) (w : World) (sound : Bool) (verb : Verb) → Ready w → Keeps (call_with fuel w (allowed w.machine sound verb))
  unfolding allowed
  call_by fuel w false verb ready = call_allowed fuel w false w.machine ready (λ t. absurd (false≢true t))
  call_by fuel w true Start (rests c r) = call_allowed fuel w (may_start w.machine.phase) (fresh (at_main w.machine)) (rests c r) (λ t. starts_at_main w r)
  call_by fuel w true Start (on_its_way s stands) = call_allowed fuel w (may_start w.machine.phase) (fresh (at_main w.machine)) (on_its_way s stands) (λ t. absurd (false≢true (sym s ∙ t)))
  call_by fuel w true Rerun (rests c r) = call_allowed fuel w (may_start w.machine.phase) (fresh w.machine) (rests c r) (λ t. starts_over w r)
  call_by fuel w true Rerun (on_its_way s stands) = call_allowed fuel w (may_start w.machine.phase) (fresh w.machine) (on_its_way s stands) (λ t. absurd (false≢true (sym s ∙ t)))
  call_by fuel w true Continue (rests c r) = call_allowed fuel w (may_continue w.machine.phase) w.machine (rests c r) (λ t. absurd (false≢true (sym c ∙ t)))
  call_by fuel w true Continue (on_its_way s stands) = call_allowed fuel w (may_continue w.machine.phase) w.machine (on_its_way s stands) (λ t. stands)

  -- start, rerun or continue, allowed or not
  pub call_keeps : (w : World) (verb : Verb) (fuel : ℕ) → Ready w → Keeps (call verb fuel w)
  unfolding call
  call_keeps w verb fuel ready = call_by fuel w (is_sound w) verb ready

  -- ---- what an allowed call is refused with

  only_run : {e : End} (fuel : ℕ) (refusal : Refusal) → Runs program kinds labelled e → (calls.reported_end fuel e).report.outcome ≡ Refused refusal → May refusal
  unfolding report
  only_run fuel refusal (runs_done stands over) q = absurd (let z : ◌≡◌ {A = ℕ} 0 1 = cc in omega arith)
  only_run fuel refusal (runs_paused stands) q = absurd (let z : ◌≡◌ {A = ℕ} 0 1 = cc in omega arith)
  only_run fuel refusal (runs_refused {refusal = found} stands may) q = let same : found ≡ refusal = cc in subst May same may

  only_allowed : (fuel : ℕ) (w : World) (may : Bool) (machine : Machine) (refusal : Refusal) → may ≡ true → Stands program labels (with_machine w machine)
      → (call_with fuel w (allowing may machine)).report.outcome ≡ Refused refusal → May refusal
  unfolding call_with
  only_allowed fuel w true machine refusal t stands q = only_run fuel refusal (run_good program kinds labelled fuel (with_machine w machine) stands) q
  only_allowed fuel w false machine refusal t stands q = absurd (false≢true t)

  only_by : (fuel : ℕ) (w : World) (sound : Bool) (verb : Verb) (refusal : Refusal) → sound ≡ true → allows verb w.machine.phase ≡ true → Ready w
      → (call_with fuel w (allowed w.machine sound verb)).report.outcome ≡ Refused refusal → May refusal
  unfolding allowed
  only_by fuel w false verb refusal s t ready q = absurd (false≢true s)
  only_by fuel w true Start refusal s t (rests c r) q = only_allowed fuel w (may_start w.machine.phase) (fresh (at_main w.machine)) refusal t (starts_at_main w r) q
  only_by fuel w true Start refusal s t (on_its_way f stands) q = absurd (false≢true (sym f ∙ t))
  only_by fuel w true Rerun refusal s t (rests c r) q = only_allowed fuel w (may_start w.machine.phase) (fresh w.machine) refusal t (starts_over w r) q
  only_by fuel w true Rerun refusal s t (on_its_way f stands) q = absurd (false≢true (sym f ∙ t))
  only_by fuel w true Continue refusal s t (rests c r) q = absurd (false≢true (sym c ∙ t))
  only_by fuel w true Continue refusal s t (on_its_way f stands) q = only_allowed fuel w (may_continue w.machine.phase) w.machine refusal t stands q

  pub call_only : (w : World) (verb : Verb) (fuel : ℕ) (refusal : Refusal) → is_sound w ≡ true → allows verb w.machine.phase ≡ true → Ready w → (call verb fuel w).report.outcome ≡ Refused refusal → May refusal
  unfolding call
  call_only w verb fuel refusal sound t ready q = only_by fuel w (is_sound w) verb refusal sound t ready q

  -- ---- the save by the host

  save_by : (w : World) (answer : Result ℕ Refusal) (save : List ℕ) → Ready w → Ready (world_saved (saved_to (host_saved w.machine answer) w.table w.stack w.memory w.pool w.ends save))
  unfolding host_saved
  save_by w (Ok size) save (rests c r) = rests c (record { lent = r.lent; main = r.main; at_zero = r.at_zero; closed = r.closed })
  save_by w (Ok size) save (on_its_way s t) = on_its_way s (record { lent = t.lent; main = t.main; holds = t.holds })
  save_by w (Err refusal) save (rests c r) = rests c (record { lent = r.lent; main = r.main; at_zero = r.at_zero; closed = r.closed })
  save_by w (Err refusal) save (on_its_way s t) = on_its_way s (record { lent = t.lent; main = t.main; holds = t.holds })

  save_keeps : (w : World) → Ready w → Ready (world_saved (host_save w))
  unfolding host_save
  save_keeps w ready =
      either (λ (s : SavedTo). Ready (world_saved s)) (is_sound w) _ _
      (save_by w (saving w).answer (saving w).save ready) ready

  -- ---- a history

  left_ready : (one : HostCall) (w : World) → Ready w → Ready (left_by one w)
  unfolding left_by value_read task_read
  left_ready (runs verb fuel) w ready = (call_keeps w verb fuel ready).ready
  left_ready saves w ready = save_keeps w ready
  left_ready (reads_value position) w ready = ready
  left_ready (reads_task id) w ready = ready

  pub history_ready : (calls : List HostCall) (w : World) → Ready w → Ready (history calls w)
  unfolding history
  history_ready [] w ready = ready
  history_ready (one ∷ others) w ready = history_ready others (left_by one w) (left_ready one w ready)
