-- What the calls of a run answer, put together: it begins, a turn and the turn after it.
use Rattle.std.proofs.Common.{◌≡◌, ℕ, ◌^◌, ◌<◌, List, length, sym, ap, ◌∙◌, subst}
use Rattle.storage.specs.declared.Task.{Task}
use Rattle.machine.specs.declared.Machine.{Machine}
use Rattle.mechanism.specs.Advance.{ProgressOn, progress_on, advance}
use Rattle.mechanism.specs.Turns.{going_on}
use Rattle.mechanism.specs.declared.Progress.{Progress}
use Rattle.machine.specs.World.{world}
use Rattle.machine.specs.Run.{End, run}
use Rattle.runner.specs.Going.{Going, going, turn, beside, begins, goes_on}
use Rattle.runner.proofs.Runs.{comes_by, comes_to, turns_left, Onward, went_on, fewer}

-- it begins
pub begins_same : (machine : Machine) (fuel : ℕ) (table : List Task) (stack memory pool ends save : List ℕ) {r : Progress} → r ≡ going_on machine fuel
    → comes_to (going r table stack memory pool ends save) ≡ run fuel (world machine table stack memory pool ends save)
unfolding comes_by
begins_same machine fuel table stack memory pool ends save e = ap (λ (g : Progress). comes_to (going g table stack memory pool ends save)) e

-- the current code, and the instruction that it comes to
pub goes_at : (g : Going) {r r' : Progress} {table' : List Task} {stack memory pool ends stack' memory' pool' ends' save' : List ℕ}
    → progress_on r stack memory pool ends ≡ advance g.stack g.memory g.pool g.ends g.progress.machine g.progress.left
    → going r' table' stack' memory' pool' ends' save' ≡ turn (going r g.table stack memory pool ends g.save) → going r' table' stack' memory' pool' ends' save' ≡ goes_on g
unfolding goes_on begins
goes_at g e f = f ∙ ap (λ (a : ProgressOn). turn (beside a g.table g.save)) e

-- it comes to the same end
pub goes_same : (g : Going) {now : Going} {end : End} → length g.pool < 2 ^ 64 → now ≡ goes_on g → Onward g → comes_to g ≡ end → comes_to now ≡ end
goes_same g fits e onward so_far = ap comes_to e ∙ went_on g fits onward ∙ so_far

-- with fewer turns to come
pub goes_fewer : (g : Going) {now : Going} → length g.pool < 2 ^ 64 → now ≡ goes_on g → Onward g → turns_left now < turns_left g
goes_fewer g fits e onward = subst (λ (h : Going). turns_left h < turns_left g) (sym e) (fewer g fits onward)
