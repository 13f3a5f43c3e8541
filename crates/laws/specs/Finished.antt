-- The finished instructions of a run: what leads from one world to another, and how a run ends.
use Rattle.std.specs.Prelude.{ℕ, suc, ◌+◌, true, false, ◌≡◌}
use Rattle.errors.specs.declared.Refusal.{Refusal}
use Rattle.machine.specs.declared.Outcome.TheVariants.{Done, Paused, Refused}
use Rattle.machine.specs.World.{World, at_end}
use Rattle.machine.specs.Words.{next, refused}
use Rattle.machine.specs.Step.{step}
use Rattle.machine.specs.Run.{End, end_at}

-- so many finished instructions lead from one world to another
pub data Reaches : ℕ → World → World → Type 0 where
  here : (w : World) → Reaches 0 w w
  onto : (n : ℕ) (w v u : World) → at_end w ≡ false → step w ≡ next v → Reaches n v u → Reaches (suc n) w u

-- how a run ends: at the code's end, without fuel, or before an instruction that is refused; each finished instruction took one unit of fuel, and
-- nothing else than the finished instructions has changed anything
pub data Ends (fuel : ℕ) (w : World) : End → Type 0 where
  is_done : (n left : ℕ) (v : World) → n + left ≡ fuel → Reaches n w v → at_end v ≡ true → Ends fuel w (end_at v left Done)
  is_paused : (v : World) → Reaches fuel w v → at_end v ≡ false → Ends fuel w (end_at v 0 Paused)
  is_refused : (n left : ℕ) (v : World) (refusal : Refusal) → n + left ≡ fuel → Reaches n w v → at_end v ≡ false → step v ≡ refused refusal
      → Ends fuel w (end_at v left (Refused refusal))
