-- The finished instructions of a call are as many as it reports.
use Prim.Native.Nat.{ℕ, zero, suc, ◌+◌}
use mathlib.Core.Bool.{Bool, true, false, cond}
use mathlib.Core.List.{[]}
use mathlib.Core.Path.{◌≡◌, refl, sym, ap, ◌∙◌}
use native.Mathlib.Omega.{arith}
use lib.ListN.{length}
use Rattle.machine.specs.declared.Verb.{Verb}
use Rattle.machine.specs.declared.Outcome.TheVariants.{Done}
use Rattle.machine.specs.World.{World, at_end, with_machine}
use Rattle.machine.specs.Words.{StepResult, next, refused}
use Rattle.machine.specs.Step.{step}
use Rattle.machine.specs.Run.{End, end_at, follow, run}
use Rattle.machine.specs.Calls as calls
use Rattle.machine.specs.Calls.{report, Reported, call}
use Rattle.machine.specs.History.{runs}
use Rattle.laws.specs.Counted.{with_others, run_finished, allowance, call_finished}
use Rattle.laws.proofs.Either.{either}
use Rattle.laws.proofs.Refused.{call_allowed, call_not_allowed}

followed : (fuel : ℕ) (w : World) → ((v : World) → length (run_finished fuel v) + (run fuel v).left ≡ fuel) → (s : StepResult)
    → length (with_others w (λ v. run_finished fuel v) s) + (follow (λ v. run fuel v) w (suc fuel) s).left ≡ suc fuel
unfolding with_others follow
followed fuel w others (next v) = let n = others v in omega (arith, n)
followed fuel w others (refused refusal) = omega arith

turn : (fuel : ℕ) (w : World) → ((v : World) → length (run_finished fuel v) + (run fuel v).left ≡ fuel) → (b : Bool)
    → length (cond b [] (with_others w (λ v. run_finished fuel v) (step w))) + (cond b (end_at w (suc fuel) Done) (follow (λ v. run fuel v) w (suc fuel) (step w))).left ≡ suc fuel
turn fuel w others true = omega arith
turn fuel w others false = followed fuel w others (step w)

-- those of a run, and the fuel that is left, are its fuel
pub run_counted : (fuel : ℕ) (w : World) → length (run_finished fuel w) + (run fuel w).left ≡ fuel
unfolding run run_finished
run_counted zero w = either (λ (e : End). 0 + e.left ≡ 0) (at_end w) _ _ (λ _. refl) (λ _. refl)
run_counted (suc fuel) w = turn fuel w (run_counted fuel) (at_end w)

reported_is : (fuel : ℕ) (w : World) → length (run_finished fuel w) ≡ (calls.reported_end fuel (run fuel w)).report.finished
unfolding report
reported_is fuel w = let n = run_counted fuel w in omega (arith, n)

called : (verb : Verb) (fuel : ℕ) (w : World) (b : Bool) → (allowance verb w).allowed ≡ b → length (call_finished (runs verb fuel) w) ≡ (call verb fuel w).report.finished
unfolding call_finished
called verb fuel w true e = simp e (reported_is fuel (with_machine w (allowance verb w).machine) ∙ ap (λ (r : Reported). r.report.finished) (sym (call_allowed verb fuel w e)))
called verb fuel w false e = simp e (ap (λ (r : Reported). r.report.finished) (sym (call_not_allowed verb fuel w e)))

-- those of a start or a continue are as many as it reports
pub call_counted : (verb : Verb) (fuel : ℕ) (w : World) → length (call_finished (runs verb fuel) w) ≡ (call verb fuel w).report.finished
call_counted verb fuel w = called verb fuel w (allowance verb w).allowed refl
