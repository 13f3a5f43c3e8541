-- A run is its finished instructions one after the other; the refused one leaves everything as they left it.
use Prim.Native.Nat.{ℕ, zero, suc}
use mathlib.Core.Bool.{Bool, true, false}
use mathlib.Core.Path.{◌≡◌, refl, sym, subst}
use native.Mathlib.Omega.{arith}
use Rattle.errors.specs.declared.Refusal.{Refusal}
use Rattle.machine.specs.declared.Outcome.TheVariants.{Done, Paused, Refused}
use Rattle.machine.specs.World.{World, at_end}
use Rattle.machine.specs.Words.{StepResult, next, refused}
use Rattle.machine.specs.Step.{step}
use Rattle.machine.specs.Run.{End, end_at, follow, run}
use Rattle.laws.specs.Finished.{here, onto, Ends, is_done, is_paused, is_refused}

-- by a test
on_bool : {A : Type 0} (b : Bool) → (b ≡ true → A) → (b ≡ false → A) → A
on_bool true f g = f refl
on_bool false f g = g refl

-- one instruction more
after_one : (fuel : ℕ) (w v : World) (e : End) → at_end w ≡ false → step w ≡ next v → Ends fuel v e → Ends (suc fuel) w e
after_one fuel w v _ inside s (is_done n left u sum way over) = is_done (suc n) left u (omega (arith, sum)) (onto n w v u inside s way) over
after_one fuel w v _ inside s (is_paused u way over) = is_paused u (onto fuel w v u inside s way) over
after_one fuel w v _ inside s (is_refused n left u refusal sum way over refuses) = is_refused (suc n) left u refusal (omega (arith, sum)) (onto n w v u inside s way) over refuses

followed : (fuel : ℕ) (w : World) → ((v : World) → Ends fuel v (run fuel v)) → at_end w ≡ false → (s : StepResult) → step w ≡ s → Ends (suc fuel) w (follow (λ v. run fuel v) w (suc fuel) s)
unfolding follow
followed fuel w others inside (next v) s = after_one fuel w v _ inside s (others v)
followed fuel w others inside (refused refusal) s = is_refused 0 (suc fuel) w refusal (omega arith) (here w) inside s

done_at : (fuel : ℕ) (w : World) → at_end w ≡ true → run fuel w ≡ end_at w fuel Done
unfolding run
done_at zero w over = simp (over)
done_at (suc fuel) w over = simp (over)

paused_at : (w : World) → at_end w ≡ false → run zero w ≡ end_at w 0 Paused
unfolding run
paused_at w inside = simp (inside)

pub steps_to : (fuel : ℕ) (w : World) → at_end w ≡ false → run (suc fuel) w ≡ follow (λ v. run fuel v) w (suc fuel) (step w)
unfolding run
steps_to fuel w inside = simp (inside)

-- every run ends in one of these ways
pub finished : (fuel : ℕ) (w : World) → Ends fuel w (run fuel w)
finished zero w =
    on_bool (at_end w) (λ over. subst (Ends 0 w) (sym (done_at 0 w over)) (is_done 0 0 w (omega arith) (here w) over))
    (λ inside. subst (Ends 0 w) (sym (paused_at w inside)) (is_paused w (here w) inside))
finished (suc fuel) w =
    on_bool (at_end w) (λ over. subst (Ends (suc fuel) w) (sym (done_at (suc fuel) w over)) (is_done 0 (suc fuel) w (omega arith) (here w) over))
    (λ inside. subst (Ends (suc fuel) w) (sym (steps_to fuel w inside)) (followed fuel w (finished fuel) inside (step w) refl))

-- a refused run stands where its finished instructions left it, before the instruction that is refused
pub refused_leaves : (fuel left : ℕ) (w v : World) (refusal : Refusal) → run fuel w ≡ end_at v left (Refused refusal) → Ends fuel w (end_at v left (Refused refusal))
refused_leaves fuel left w v refusal e = subst (Ends fuel w) e (finished fuel w)
