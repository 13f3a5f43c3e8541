-- The number of living tasks: those loaded, plus the finished T_CREATEs, less the finished T_DELETEs.
use Prim.Native.Nat.{ℕ, ◌+◌, ◌-◌}
use mathlib.Core.List.{List, [], ◌∷◌, ◌++◌}
use mathlib.Core.Path.{◌≡◌, ap, subst}
use native.Mathlib.Omega.{arith}
use Rattle.storage.specs.Table.{living_of}
use Rattle.image.specs.Image.{task_count}
use Rattle.machine.specs.World.{World}
use Rattle.machine.specs.Words.{next}
use Rattle.machine.specs.Step.{step}
use Rattle.machine.specs.Run.{End, run}
use Rattle.machine.specs.Calls.{spent}
use Rattle.machine.specs.History.{FreshWorld, HostCall, left_by, history}
use Rattle.laws.specs.Sound.{Passes}
use Rattle.laws.specs.Counted.{run_finished, call_finished, history_finished, creates, deletes, total}
use Rattle.laws.proofs.Step.{step_living}
use Rattle.laws.proofs.Along.{Beside, along_run, along_call, along_history}
use Rattle.laws.proofs.Creation.{fresh_passes, fresh_living}
use Rattle.laws.proofs.Finished.{finished}
use Rattle.laws.specs.Finished.{Reaches, Ends, is_done, is_paused, is_refused}

-- the finished instructions that a run reports lead to its end
pub finished_told : (fuel : ℕ) (w : World) → Reaches (spent fuel (run fuel w).left) w (run fuel w).world
finished_told fuel w = told fuel w (run fuel w) (finished fuel w)
  where
    told : (fuel : ℕ) (w : World) (e : End) → Ends fuel w e → Reaches (spent fuel e.left) w e.world
    told fuel w _ (is_done n left v sum way over) = subst (λ (k : ℕ). Reaches k w v) (let z : n ≡ fuel - left = omega (arith, sum) in z) way
    told fuel w _ (is_paused v way over) = subst (λ (k : ℕ). Reaches k w v) (let z : fuel ≡ fuel - 0 = omega arith in z) way
    told fuel w _ (is_refused n left v refusal sum way over refuses) = subst (λ (k : ℕ). Reaches k w v) (let z : n ≡ fuel - left = omega (arith, sum) in z) way

-- the living tasks of a second world, and the T_DELETEs among the finished instructions that lead to it, are the living ones of the first, and the T_CREATEs
abbrev Balanced : World → List World → World → Type 0
Balanced w finished v = living_of v.table + total deletes finished ≡ living_of w.table + total creates finished

none : (w v : World) → Beside w v → Balanced w [] v
unfolding total
none w v beside = let n = ap living_of beside.table in omega (arith, n)

one : (w v : World) → Passes w → step w ≡ next v → Balanced w (w ∷ []) v
unfolding total
one w v passes s = let n = step_living w v passes s in omega (arith, n)

total_both : (counted : ℕ → ℕ) (first second : List World) → total counted (first ++ second) ≡ total counted first + total counted second
unfolding total
total_both counted [] second = omega arith
total_both counted (w ∷ first) second = let n = total_both counted first second in omega (arith, n)

chain : (w v u : World) (first second : List World) → Balanced w first v → Balanced v second u → Balanced w (first ++ second) u
chain w v u first second before after =
    let made = total_both creates first second in
    let deleted = total_both deletes first second in
    omega (arith, before, after, made, deleted)

-- of a run
pub living_after_run : (fuel : ℕ) (w : World) → Passes w
    → living_of (run fuel w).world.table + total deletes (run_finished fuel w) ≡ living_of w.table + total creates (run_finished fuel w)
living_after_run = along_run Balanced none one chain

-- of each call of a host
pub living_after_call : (host-call : HostCall) (w : World) → Passes w
    → living_of (left_by host-call w).table + total deletes (call_finished host-call w) ≡ living_of w.table + total creates (call_finished host-call w)
living_after_call = along_call Balanced none one chain

-- docs/REFERENCE.md, 'Memory, pool and tasks': the number of living tasks always equals those loaded plus finished T_CREATEs less finished T_DELETEs
pub living_always : (program image : List ℕ) (first : World) → FreshWorld program image first → (calls : List HostCall)
    → living_of (history calls first).table + total deletes (history_finished calls first) ≡ task_count image + total creates (history_finished calls first)
living_always program image first fresh calls =
    let loaded = fresh_living program image first fresh in
    let all = along_history Balanced none one chain calls first (fresh_passes program image first fresh) in
    omega (arith, loaded, all)
