-- Fuel over two calls: a call that pauses and a continue after it are one call with the fuel of both, whatever the record was, since one that fails the test of 26 does not pause.
use Prim.Native.Nat.{ℕ, ◌+◌, ◌≤◌}
use mathlib.Core.Bool.{Bool, true, false}
use mathlib.Core.Path.{◌≡◌, refl, sym, ap, ◌∙◌, subst}
use native.Mathlib.Omega.{arith}
use lib.ListN.{length}
use Rattle.machine.specs.declared.Machine.{Machine}
use Rattle.machine.specs.declared.Phase.{Phase}
use Rattle.machine.specs.declared.Phase.TheVariants as phase
use Rattle.mechanism.specs.Registers.{registers_of, settled}
use Rattle.machine.specs.Machines.{rewound, placed}
use Rattle.machine.specs.declared.Outcome.{Outcome}
use Rattle.machine.specs.declared.Outcome.TheVariants.{Done, Paused, Refused}
use Rattle.machine.specs.World.{World}
use Rattle.machine.specs.Run.{End, end_at, run}
use Rattle.machine.specs.Calls.{may_continue, allowed, phased, ended, report, Reported, reported_end, is_sound, call_with, call, go_on}
use Rattle.machine.specs.World.{with_machine}
use Rattle.machine.specs.declared.Verb.{Verb}
use Rattle.machine.specs.declared.Verb.TheVariants.{Continue}
use Rattle.machine.specs.Calls.{Permission}
use Rattle.machine.specs.History.{world_after, runs, left_by}
use Rattle.laws.specs.Sound.{Passes}
use Rattle.laws.specs.Together.{Together}
use Rattle.laws.proofs.SoundnessCalls.{left_passes}
use Rattle.laws.proofs.Refused.{call_allowed, sound_if_allowed, call_not_allowed}
use Rattle.laws.proofs.Finished.{finished}
use Rattle.laws.specs.Finished.{Ends, is_done, is_paused, is_refused}
use Rattle.laws.proofs.Fuel.{outcome_number, fuel}
use Rattle.laws.proofs.Phases.{rephased, end_as, run_phase}

-- ---- the end of a run

-- a run that pauses has no fuel left
paused_end : (n : ℕ) (w : World) (e : End) → Ends n w e → e.outcome ≡ Paused → e ≡ end_at e.world 0 Paused
unfolding outcome_number
paused_end n w _ (is_done k left v sum way over) e = absurd (let z : ◌≡◌ {A = ℕ} 0 1 = ap outcome_number e in omega arith)
paused_end n w _ (is_paused v way over) e = refl
paused_end n w _ (is_refused k left v refusal sum way over refuses) e = absurd (let z : ◌≡◌ {A = ℕ} 2 1 = ap outcome_number e in omega arith)

-- no run leaves more fuel than it had
left_below : (n : ℕ) (w : World) (e : End) → Ends n w e → e.left ≤ n
left_below n w _ (is_done k left v sum way over) = omega (arith, sum)
left_below n w _ (is_paused v way over) = omega arith
left_below n w _ (is_refused k left v refusal sum way over refuses) = omega (arith, sum)

-- the phase before the end plays no part in the phase after it
ended_phase : (machine : Machine) (before : Phase) (outcome : Outcome) → ended (phased machine before) outcome ≡ ended machine outcome
unfolding ended rewound placed settled registers_of
ended_phase machine before Done = refl
ended_phase machine before Paused = refl
ended_phase machine before (Refused refusal) = refl

-- a run after a pause, and the whole run
continued : (a b : ℕ) (v : World) → Together (reported_end a (end_at v 0 Paused)) (reported_end b (end_as phase.Paused (run b v))) (reported_end (a + b) (run b v))
unfolding report
continued a b v =
    let e = run b v in
    let l : e.left ≤ b = left_below b v (run b v) (finished b v) in
    record {
      same_world = ap (λ (machine : Machine). with_machine e.world machine) (ended_phase e.world.machine phase.Paused e.outcome);
      same_outcome = refl;
      added = omega (arith, l);
    }

-- ---- the calls

-- a continue on a paused machine that is sound
go_on_is : (b : ℕ) (v : World) → is_sound (rephased phase.Paused v) ≡ true → go_on b (rephased phase.Paused v) ≡ reported_end b (run b (rephased phase.Paused v))
unfolding call call_with allowed may_continue
go_on_is b v test = ap (λ (t : Bool). call_with b (rephased phase.Paused v) (allowed (phased v.machine phase.Paused) t Continue)) test

-- what a paused run leaves is that machine
left_paused : (a : ℕ) (v : World) → world_after (reported_end a (end_at v 0 Paused)) ≡ rephased phase.Paused v
unfolding report ended
left_paused a v = refl

module _ (verb : Verb) (w : World) where
  abbrev allows : Permission
  allows = allowed w.machine (is_sound w) verb

  -- the world that the call's run begins with
  abbrev begins : World
  begins = with_machine w allows.machine

  -- a call that pauses was allowed
  was_allowed : (n : ℕ) (b : Bool) → allows.allowed ≡ b → (call verb n w).report.outcome ≡ Paused → allows.allowed ≡ true
  unfolding outcome_number
  was_allowed n true e paused = e
  was_allowed n false e paused =
      absurd (let z : ◌≡◌ {A = ℕ} 2 1 = ap (λ (r : Reported). outcome_number r.report.outcome) (sym (call_not_allowed verb n w e)) ∙ ap outcome_number paused in omega arith)

  run_outcome : (n : ℕ) → (reported_end n (run n begins)).report.outcome ≡ (run n begins).outcome
  unfolding report
  run_outcome n = refl

  module _ (ends_lent : length w.ends ≡ 1024) (a b : ℕ) (paused : (call verb a w).report.outcome ≡ Paused) where
    allowance : allows.allowed ≡ true
    allowance = was_allowed a allows.allowed refl paused

    -- where the first run pauses
    abbrev there : World
    there = (run a begins).world

    run_pauses : run a begins ≡ end_at there 0 Paused
    run_pauses =
        paused_end a begins (run a begins) (finished a begins)
        (sym (run_outcome a) ∙ ap (λ (r : Reported). r.report.outcome) (sym (call_allowed verb a w allowance)) ∙ paused)

    first_is : call verb a w ≡ reported_end a (end_at there 0 Paused)
    first_is = call_allowed verb a w allowance ∙ ap (reported_end a) run_pauses

    left_is : world_after (call verb a w) ≡ rephased phase.Paused there
    left_is = ap world_after first_is ∙ left_paused a there

    passes : Passes w
    passes = record { tested = sound_if_allowed verb w allowance; ends_lent = ends_lent }

    left_passing : Passes (world_after (call verb a w))
    unfolding left_by
    left_passing = left_passes (runs verb a) w passes

    still_sound : is_sound (rephased phase.Paused there) ≡ true
    still_sound = subst (λ (v : World). is_sound v ≡ true) left_is left_passing.tested

    second_is : go_on b (world_after (call verb a w)) ≡ reported_end b (end_as phase.Paused (run b there))
    second_is = ap (go_on b) left_is ∙ go_on_is b there still_sound ∙ ap (reported_end b) (run_phase phase.Paused b there)

    whole_is : call verb (a + b) w ≡ reported_end (a + b) (run b there)
    whole_is = call_allowed verb (a + b) w allowance ∙ ap (reported_end (a + b)) (fuel a b begins there run_pauses)

    -- a call with fuel a that pauses, and a continue with fuel b after it, are one call with fuel a + b; 1,024 ends are what the type says
    pub fuel_of_calls : Together (call verb a w) (go_on b (world_after (call verb a w))) (call verb (a + b) w)
    fuel_of_calls =
        subst (λ (r : Reported). Together r (go_on b (world_after (call verb a w))) (call verb (a + b) w)) (sym first_is)
        (subst (λ (r : Reported). Together (reported_end a (end_at there 0 Paused)) r (call verb (a + b) w)) (sym second_is)
        (subst (λ (r : Reported). Together (reported_end a (end_at there 0 Paused)) (reported_end b (end_as phase.Paused (run b there))) r) (sym whole_is) (continued a b there)))
