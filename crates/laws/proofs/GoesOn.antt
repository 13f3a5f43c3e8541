-- The law of fuel over calls for each verb: a call that pauses, then a continue, is one call with the fuel of both.
use Prim.Native.Nat.{ℕ, ◌+◌}
use mathlib.Core.Path.{◌≡◌}
use lib.ListN.{length}
use Rattle.machine.specs.declared.Outcome.TheVariants.{Paused}
use Rattle.machine.specs.declared.Verb.TheVariants.{Start, Rerun, Continue}
use Rattle.machine.specs.World.{World}
use Rattle.machine.specs.Calls.{start, rerun, go_on}
use Rattle.machine.specs.History.{world_after}
use Rattle.laws.specs.Together.{Together}
use Rattle.laws.proofs.Calls.{fuel_of_calls}

-- a start that pauses, then a continue
pub start_then_go_on : (a b : ℕ) (w : World) → length w.ends ≡ 1024 → (start a w).report.outcome ≡ Paused → Together (start a w) (go_on b (world_after (start a w))) (start (a + b) w)
start_then_go_on a b w ends_lent paused = fuel_of_calls Start w ends_lent a b paused

-- a rerun that pauses, then a continue
pub rerun_then_go_on : (a b : ℕ) (w : World) → length w.ends ≡ 1024 → (rerun a w).report.outcome ≡ Paused → Together (rerun a w) (go_on b (world_after (rerun a w))) (rerun (a + b) w)
rerun_then_go_on a b w ends_lent paused = fuel_of_calls Rerun w ends_lent a b paused

-- a continue that pauses, then another
pub go_on_then_go_on : (a b : ℕ) (w : World) → length w.ends ≡ 1024 → (go_on a w).report.outcome ≡ Paused → Together (go_on a w) (go_on b (world_after (go_on a w))) (go_on (a + b) w)
go_on_then_go_on a b w ends_lent paused = fuel_of_calls Continue w ends_lent a b paused
