-- A run leaves what passes the test of 26 passing and a sound world sound, and the pool's entries as they were.
use Prim.Native.Nat.{ℕ, zero, suc}
use mathlib.Core.Path.{◌≡◌, refl, ◌∙◌}
use native.Mathlib.Omega.{arith}
use Rattle.machine.specs.World.{World, at_end}
use Rattle.machine.specs.Words.{StepResult, next, refused}
use Rattle.machine.specs.Step.{step}
use Rattle.machine.specs.Run.{End, follow, run}
use Rattle.laws.specs.Sound.{Passes, Sound}
use Rattle.laws.proofs.Either.{either}
use Rattle.laws.proofs.Parts.{Kept, passes_kept, sound_kept, kept_passes, kept_sound}
use Rattle.laws.proofs.Pool.{same_pool}
use Rattle.laws.proofs.Step.{Pools, step_kept, step_passes, entries_stay, entries_grow}

-- what holds of each world and is passed on by each finished instruction holds where a run ends
module _ (P : World → World → Type 0) (here : (w : World) → P w w) (onto : (w v u : World) → Passes w → step w ≡ next v → P v u → P w u) where
  followed : (others : World → End) (w : World) (left : ℕ) (s : StepResult) → Passes w → step w ≡ s → ((v : World) → Passes v → P v (others v).world) → P w (follow others w left s).world
  unfolding follow
  followed others w left (next v) passes e all = onto w v _ passes e (all v (step_passes w v passes e))
  followed others w left (refused refusal) passes e all = here w

  pub along : (fuel : ℕ) (w : World) → Passes w → P w (run fuel w).world
  unfolding run
  along zero w passes = either (λ (e : End). P w e.world) (at_end w) _ _ (λ _. here w) (λ _. here w)
  along (suc fuel) w passes =
      either (λ (e : End). P w e.world) (at_end w) _ _ (λ _. here w) (λ _. followed (λ v. run fuel v) w (suc fuel) (step w) passes refl (λ v p. along fuel v p))

pub run_kept : {asked : Type 0} (fuel : ℕ) (w : World) → Kept asked w → Kept asked (run fuel w).world
run_kept {asked} fuel w s = along (λ w v. Kept asked w → Kept asked v) (λ w k. k) (λ w v u p e later k. later (step_kept w v k e)) fuel w (kept_passes w s) s

-- a run leaves a sound world sound
pub run_sound : (fuel : ℕ) (w : World) → Sound w → Sound (run fuel w).world
run_sound fuel w s = kept_sound (run fuel w).world (run_kept fuel w (sound_kept w s))

-- what passes the test of 26 passes it after a run
pub run_passes : (fuel : ℕ) (w : World) → Passes w → Passes (run fuel w).world
run_passes fuel w p = kept_passes (run fuel w).world (run_kept fuel w (passes_kept w p))

-- no entry of the pool is lost or changed by a run
pub run_grows : (fuel : ℕ) (w : World) → Passes w → Pools w (run fuel w).world
run_grows = along Pools (λ w. same_pool w.pool w.ends w.machine.entries) more
  where
    more : (w v u : World) → Passes w → step w ≡ next v → Pools v u → Pools w u
    more w v u passes e later =
        let n = entries_grow w v passes e in
        record {
          no_fewer = omega (arith, n, later.no_fewer);
          same = λ i less. later.same i (omega (arith, n)) ∙ entries_stay w v passes e i less;
        }
