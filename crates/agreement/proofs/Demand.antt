-- Demand 2 as its own statement: from creation on, at every call of every history of a host.
use Prim.Native.Nat.{ℕ, ◌<◌}
use mathlib.Core.Bool.{Bool, true, false, cond, true≢false}
use mathlib.Core.Path.{◌≡◌, refl, sym, ap, subst, ◌∙◌}
use mathlib.Core.List.{List, []}
use native.Mathlib.Omega.{arith}
use Rattle.slices.specs.Numbers.{Bytes}
use Rattle.image.specs.Image.{Image, sound, read_image}
use Rattle.inlinevec.specs.Stacks.{values_of}
use Rattle.storage.specs.declared.Task.{Task}
use Rattle.storage.specs.declared.TaskId.{TaskId}
use Rattle.machine.specs.declared.Outcome.{Outcome}
use Rattle.machine.specs.declared.Outcome.TheVariants as outcome
use Rattle.machine.specs.declared.Verb.{Verb}
use Rattle.machine.specs.Machines.{code_of, op_at}
use Rattle.machine.specs.World.{World, at_end, with_machine}
use Rattle.machine.specs.Run.{end_at}
use Rattle.machine.specs.Calls.{Reported, not_allowed, reports, allowed, is_sound, ended, report, reported_end, call_with, call}
use Rattle.machine.specs.Reads.{task_read}
use Rattle.machine.specs.Creation.{create_behind, create_fit, create}
use Rattle.machine.specs.History.{FreshWorld, is_created, HostCall, history, world_after}
use Rattle.laws.specs.Sound.{Sound}
use Rattle.laws.proofs.Main.{fresh_main, main_is_the_program}
use Rattle.rust.specs.Errors.{ok}
use Rattle.rust.specs.Vm.{VM}
use Rattle.rust.specs.Run.{Ran, returned, running, init}
use Rattle.rust.specs.Unbox.{print_task}
use Rattle.agreement.specs.View.{view}
use Rattle.agreement.specs.Reads.{TaskReads}
use Rattle.agreement.specs.Runs.{rust_call, rust_takes, rust_history, at_rest, ReadAlike, Answers}
use Rattle.agreement.specs.Creation.{stored}
use Rattle.agreement.specs.Demand.{lent_pool, Beginning, RustEnds, it_returns, it_fails, meets_added, NoneMet, SameMachine, SameValues, Equal, same_end, same_refusal, UpTo, MachineOf, it_rests, in_a_run, before_failing}
use Rattle.agreement.specs.Exceptions.{excepted, comes_to_excepted, permitted_comes, call_comes}
use Rattle.agreement.proofs.Aligned.{empty, Given, given}
use Rattle.agreement.proofs.Exceptions.{answers_excepted, rust_answers_excepted, comes_before}
use Rattle.agreement.proofs.Calls.{Told, told_end, told_pause, told_err, told_panic, told_met, done_if_any, read_alike, answers}
use Rattle.agreement.proofs.Histories.{Related, both_rest, both_run, it_failed, it_panicked, is_met, told_call, given_call, refused_call, sound_related, history_related}
use Rattle.agreement.proofs.SameMachines as same
use Rattle.agreement.proofs.Creation.{FromCreation, created_agrees, ok_is, sound_is}
use Rattle.std.specs.Prelude.{Ok, Err, Result}
use Rattle.errors.specs.declared.Refusal.{Refusal}
use Rattle.machine.specs.declared.Machine.{Machine}
use Rattle.pools.specs.declared.InstructionsRef.{InstructionsRef}
use Rattle.table_image.specs.declared.creation.Fit.{Fit}

-- ---- a created machine

-- it has no values
height_of : Result Machine Refusal → ℕ
height_of (Ok machine) = machine.height
height_of (Err refusal) = 0

behind_empty : (table : List Task) (image : List ℕ) (next_id s_len : ℕ) (pool ends : List ℕ) (i : Result (InstructionsRef × ℕ) Refusal) → height_of (create_behind table image next_id s_len pool ends i).answer ≡ 0
unfolding create_behind height_of
behind_empty table image next_id s_len pool ends (Ok (entry, bytes)) = refl
behind_empty table image next_id s_len pool ends (Err refusal) = refl

fit_empty : (table : List Task) (pool ends image program : List ℕ) (result : Result Fit Refusal) → height_of (create_fit table pool ends image program result).answer ≡ 0
unfolding create_fit height_of
fit_empty table pool ends image program (Ok fit) = behind_empty table image _ fit.s_len _ _ _
fit_empty table pool ends image program (Err refusal) = refl

created_empty : (table : List Task) (pool ends image program : List ℕ) → height_of (create table pool ends image program).answer ≡ 0
unfolding create
created_empty table pool ends image program = fit_empty table pool ends image program _

-- it is the Rust's VM of the same program and tasks, and may start
created_is : {program bytes : List ℕ} {w : World} (fresh : FreshWorld program bytes w) → Bytes (lent_pool fresh) → Bytes bytes → Bytes program → FromCreation bytes program w
unfolding lent_pool
created_is {program} {bytes} (is_created table pool ends machine stack memory save ends_lent stack_lent answered) pool_bytes image_bytes program_bytes =
    created_agrees table pool ends bytes program ends_lent pool_bytes image_bytes program_bytes stack memory save machine answered stack_lent

created_none : {program bytes : List ℕ} {w : World} → FreshWorld program bytes w → w.machine.height ≡ 0
unfolding height_of
created_none {program} {bytes} (is_created table pool ends machine stack memory save ends_lent stack_lent answered) = sym (ap height_of answered) ∙ created_empty table pool ends bytes program

-- the two of them before the first call
first_related : {program bytes : List ℕ} {w : World} → FreshWorld program bytes w → FromCreation bytes program w → Related w (returned [] (at_rest w))
unfolding values_of
first_related {w = w} fresh made =
    let none_there = created_none fresh in
    both_rest made.ready (λ i less. absurd (omega (arith, none_there))) (rw none_there empty) (ap (λ (n : ℕ). values_of n w.stack) none_there) refl

-- ---- what is equal

-- what the machine shows is what the Rust has
machine_same : {w : World} {ran : Ran} {vm : VM} → Related w ran → MachineOf ran vm → SameMachine w vm
unfolding view
machine_same {w} (both_rest ready done lined values-are is) it_rests = subst (λ (v : VM). SameMachine w v) is (same.same_machine w ready.is_sound (at_rest w) refl refl refl)
machine_same {w} (both_run stale s bytes phase lined is) in_a_run = subst (λ (v : VM). SameMachine w v) is (same.same_machine w s (view stale w) refl refl refl)
machine_same {w} (it_failed stale s phase is) before_failing = subst (λ (v : VM). SameMachine w v) is (same.same_machine w s (view stale w) refl refl refl)
machine_same (it_panicked s phase) has = elim has [ ]

values_same : {w : World} {values : List ℕ} {vm : VM} → Related w (returned values vm) → SameValues w values vm
values_same {w} (both_rest ready done lined values-are is) = record { same = values-are; read_alike = subst (λ (v : VM). ReadAlike w v) is (read_alike w ready.is_sound done lined) }

equal : {r : Reported} {ran : Ran} → Told r ran → Given ran → meets_added r.report.outcome ≡ false → RustEnds ran → Equal r ran
unfolding view
equal {r} (told_end e leaves) (given _ _ lined) none-met it_returns =
    same_end e (record { same = refl; read_alike = read_alike (world_after r) leaves.is_sound (done_if_any r e leaves) lined }) (same.same_machine (world_after r) leaves.is_sound (at_rest (world_after r)) refl refl refl)
equal {r} (told_err stale error e leaves f) g none-met it_fails = same_refusal e (same.same_machine (world_after r) leaves.is_sound (view stale (world_after r)) refl refl refl)
equal (told_pause stale e leaves) g none-met ends = elim ends [ ]
equal (told_panic stale e leaves f) g none-met ends = elim ends [ ]
equal {r} (told_met stale number vm e f over ran) g none-met ends = is_met r.report.outcome e over none-met

-- ---- up to the first instruction that is left out

unfoldable is_paused : Outcome → Bool
is_paused outcome.Done = false
is_paused outcome.Paused = true
is_paused (outcome.Refused number) = false

-- where a call is paused, the Rust is in a run with the same machine
record BothRun (r : Reported) (ran : Ran) : Type 0 where
  stale : ℕ
  same : ran ≡ running (view stale (world_after r))
  is_sound : Sound (world_after r)

paused_both : {r : Reported} {ran : Ran} → Told r ran → is_paused r.report.outcome ≡ true → BothRun r ran
unfolding is_paused
paused_both (told_end e leaves) paused = absurd (true≢false (sym paused ∙ ap is_paused e))
paused_both (told_pause stale e leaves) paused = record { stale = stale; same = refl; is_sound = leaves.is_sound }
paused_both (told_err stale error e leaves f) paused = absurd (true≢false (sym paused ∙ ap is_paused e))
paused_both (told_panic stale e leaves f) paused = absurd (true≢false (sym paused ∙ ap is_paused e))
paused_both (told_met stale number vm e f over ran) paused = absurd (true≢false (sym paused ∙ ap is_paused e))

-- a call that comes to one: it is allowed, and paused after the instructions before that one
record Comes (verb : Verb) (fuel : ℕ) (w : World) : Type 0 where
  finished : ℕ
  fewer : finished < fuel
  none : call_comes verb finished w ≡ false
  paused : (call verb finished w).report.outcome ≡ outcome.Paused
  before_end : at_end (world_after (call verb finished w)) ≡ false
  left_out : excepted (world_after (call verb finished w)) ≡ true

-- what a paused call leaves is at the same instruction
rests_at : (fuel : ℕ) (reached : World) → at_end reached ≡ false → excepted reached ≡ true
    → (at_end (world_after (reported_end fuel (end_at reached 0 outcome.Paused))) ≡ false) × (excepted (world_after (reported_end fuel (end_at reached 0 outcome.Paused))) ≡ true)
unfolding report ended at_end excepted code_of op_at
rests_at fuel reached before left_out = (before, left_out)

comes : (verb : Verb) (fuel : ℕ) (w : World) → call_comes verb fuel w ≡ true → Comes verb fuel w
unfolding call_comes permitted_comes call call_with report
comes verb fuel w e = by (allowed w.machine (is_sound w) verb).allowed refl e
  where
    begins : World
    begins = with_machine w (allowed w.machine (is_sound w) verb).machine

    by : (b : Bool) → (allowed w.machine (is_sound w) verb).allowed ≡ b → cond b (comes_to_excepted fuel begins) false ≡ true → Comes verb fuel w
    by true may e =
        let l = comes_before fuel begins e in
        let is : call verb l.finished w ≡ reported_end l.finished (end_at l.reached 0 outcome.Paused) = rw (may, l.paused) in
        let at = rests_at l.finished l.reached l.before_end l.is_excepted in
        record {
          finished = l.finished;
          fewer = l.fewer;
          none = rw may l.none;
          paused = ap (λ (r : Reported). r.report.outcome) is;
          before_end = subst (λ (r : Reported). at_end (world_after r) ≡ false) (sym is) at.0;
          left_out = subst (λ (r : Reported). excepted (world_after r) ≡ true) (sym is) at.1;
        }
    by false may e = absurd (true≢false (sym e))

-- ---- demand 2

-- the Rust's init, on the tasks that the image holds, makes what the created machine shows
pub init_agrees : {program bytes : List ℕ} {first : World} (fresh : FreshWorld program bytes first) → Bytes (lent_pool fresh) → Bytes bytes → Bytes program
    → (image : Image) → read_image bytes ≡ sound image → init program (stored image) ≡ ok (at_rest first)
init_agrees {program} fresh pool_bytes image_bytes program_bytes image read =
    let made = created_is fresh pool_bytes image_bytes program_bytes in
    ap (λ (i : Image). init program (stored i)) (sound_is (sym read ∙ made.read)) ∙ made.init_is

-- from creation on, any history of a host in which no limit that this port adds is reached and no instruction is left out
module _ {program image : List ℕ} {first : World} {vm : VM} (both : Beginning program image first vm) (calls : List HostCall) (none-met : NoneMet calls first) where
  -- the machine then, and the Rust
  abbrev later : World
  later = history calls first

  abbrev rust_later : Ran
  rust_later = rust_history calls (returned [] vm)

  related : Related later rust_later
  related =
      let shown : init program (stored both.holds) ≡ ok (at_rest first) = init_agrees both.fresh both.pool_bytes both.image_bytes both.program_bytes both.holds both.is_read in
      let made = created_is both.fresh both.pool_bytes both.image_bytes both.program_bytes in
      history_related calls none-met (fresh_main both.fresh) (subst (λ (v : VM). Related first (returned [] v)) (ok_is (sym shown ∙ both.is_initialised)) (first_related both.fresh made))

  -- main is the program
  main : later.machine.frames.first.entry.0 ≡ 0
  main = main_is_the_program program image first both.fresh calls

  -- a start, a rerun or a continue that the Rust takes answers the Rust's run of as many turns, a start the run from main, or reaches a limit that this port adds, with its reason
  pub call_answers : (verb : Verb) (fuel : ℕ) → rust_takes verb rust_later ≡ true → call_comes verb fuel later ≡ false → Answers (call verb fuel later) (rust_call verb fuel rust_later)
  call_answers verb fuel takes common = answers (told_call verb fuel related main takes common) (given_call verb fuel related takes)

  -- demand 2: values, tasks, memory and refusals equal the Rust's wherever the Rust ends without a panic and no limit that this port adds is reached, except where the Rust compares a scalar with a vector, or TRUE with FALSE
  pub demand_2 : (verb : Verb) (fuel : ℕ) → rust_takes verb rust_later ≡ true → meets_added (call verb fuel later).report.outcome ≡ false → call_comes verb fuel later ≡ false
      → RustEnds (rust_call verb fuel rust_later) → Equal (call verb fuel later) (rust_call verb fuel rust_later)
  demand_2 verb fuel takes not_met common ends = equal (told_call verb fuel related main takes common) (given_call verb fuel related takes) not_met ends

  -- up to the first instruction that is left out: a call that comes to one has the same machine as the Rust before it, and both answers there are known
  pub up_to_excepted : (verb : Verb) (fuel : ℕ) → rust_takes verb rust_later ≡ true → call_comes verb fuel later ≡ true → UpTo verb fuel later rust_later
  unfolding is_paused
  up_to_excepted verb fuel takes e =
      let c = comes verb fuel later e in
      let b = paused_both (told_call verb c.finished related main takes c.none) (ap is_paused c.paused) in
      record {
        finished = c.finished;
        fewer = c.fewer;
        paused = c.paused;
        stale = b.stale;
        same = b.same;
        left_out = c.left_out;
        answer = answers_excepted _ b.is_sound c.before_end c.left_out;
        rust_answer = rust_answers_excepted _ b.stale b.is_sound c.before_end c.left_out;
      }

  -- a start, a rerun or a continue that the Rust does not take is 26, and changes nothing
  pub not_taken : (verb : Verb) (fuel : ℕ) → rust_takes verb rust_later ≡ false → call verb fuel later ≡ reports (not_allowed later.machine) later
  not_taken verb fuel takes = refused_call verb fuel related takes

  -- between two calls: tasks, memory in use, pool and instructions are the Rust's
  pub same_between : (now : VM) → MachineOf rust_later now → SameMachine later now
  same_between now its = machine_same related its

  -- a read of a task is the Rust's print_task
  pub task_read_agrees : (now : VM) → MachineOf rust_later now → (id : TaskId) → TaskReads later.pool later.ends (task_read id later).answer (print_task now id.0)
  task_read_agrees now its id = let m = machine_same related its in same.task_reads later (sound_related related) now m.tasks m.pool id

  -- while the Rust rests, the values are those that its last run returned, and each is read alike
  pub values_agree : (values : List ℕ) (now : VM) → rust_later ≡ returned values now → SameValues later values now
  values_agree values now rests = values_same (subst (λ (ran : Ran). Related later ran) rests related)
