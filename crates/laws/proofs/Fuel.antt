-- Fuel a, then b, is fuel a + b, if the first run pauses.
use Prim.Native.Nat.{ℕ, zero, suc, ◌+◌}
use mathlib.Core.Path.{◌≡◌, ap, ◌∙◌, subst}
use native.Mathlib.Omega.{arith}
use Rattle.machine.specs.declared.Outcome.{Outcome}
use Rattle.machine.specs.declared.Outcome.TheVariants.{Done, Paused, Refused}
use Rattle.machine.specs.World.{World}
use Rattle.machine.specs.Run.{End, end_at, follow, run}
use Rattle.laws.proofs.Finished.{steps_to, finished}
use Rattle.laws.specs.Finished.{Reaches, here, onto, Ends, is_done, is_paused, is_refused}

none_more : (b : ℕ) → 0 + b ≡ b
none_more b = omega arith

one_more : (n b : ℕ) → suc n + b ≡ suc (n + b)
one_more n b = omega arith

-- the run that goes on after some instructions
pub goes_on : (n b : ℕ) (w v : World) → Reaches n w v → run (n + b) w ≡ run b v
unfolding follow
goes_on zero b w _ (here _) = ap (λ (k : ℕ). run k w) (none_more b)
goes_on (suc n) b w v (onto _ _ u _ inside s way) =
    ap (λ (k : ℕ). run k w) (one_more n b) ∙ steps_to (n + b) w inside ∙ ap (follow (λ v. run (n + b) v) w (suc (n + b))) s ∙ goes_on n b u v way

-- an outcome as a number
unfoldable pub outcome_number : Outcome → ℕ
outcome_number Done = 0
outcome_number Paused = 1
outcome_number (Refused refusal) = 2

paused_reaches : (a : ℕ) (w v : World) (e : End) → Ends a w e → e ≡ end_at v 0 Paused → Reaches a w v
unfolding outcome_number
paused_reaches a w v _ (is_done n left u sum way over) e =
    absurd (let z : ◌≡◌ {A = ℕ} 0 1 = ap (λ (x : End). outcome_number x.outcome) e in omega arith)
paused_reaches a w v _ (is_paused u way over) e = subst (Reaches a w) (ap (λ (x : End). x.world) e) way
paused_reaches a w v _ (is_refused n left u refusal sum way over refuses) e =
    absurd (let z : ◌≡◌ {A = ℕ} 2 1 = ap (λ (x : End). outcome_number x.outcome) e in omega arith)

-- the fuel law: what is left is left of both
pub fuel : (a b : ℕ) (w v : World) → run a w ≡ end_at v 0 Paused → run (a + b) w ≡ run b v
fuel a b w v pauses = goes_on a b w v (paused_reaches a w v (run a w) (finished a w) pauses)
