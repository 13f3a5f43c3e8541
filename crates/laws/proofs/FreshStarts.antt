-- On a fresh machine a start and a rerun are the same.
use Prim.Native.Nat.{ℕ}
use mathlib.Core.List.{List}
use mathlib.Core.Path.{◌≡◌, sym, ap, ◌∙◌}
use Rattle.machine.specs.declared.Machine.{Machine}
use Rattle.machine.specs.Machines.{at_main}
use Rattle.machine.specs.World.{World, with_machine}
use Rattle.machine.specs.Calls.{may_start, start, rerun}
use Rattle.machine.specs.Creation.{Made}
use Rattle.machine.specs.History.{FreshWorld, is_created}
use Rattle.laws.specs.Sound.{Passes}
use Rattle.laws.proofs.Creation.{fresh_passes, fresh_new}
use Rattle.laws.proofs.Creates.{created_as, created_is, creates_exactly}
use Rattle.laws.proofs.Starts.{start_is_rerun}

-- a machine that was created is at main already
fresh_at_main : {program image : List ℕ} {w : World} → FreshWorld program image w → at_main w.machine ≡ w.machine
fresh_at_main {program} {image} (is_created table pool ends machine stack memory save lent long e) =
    let c = (creates_exactly table pool ends image program).0 (machine, e) in
    let m = created_is (sym e ∙ ap (λ (x : Made). x.answer) (created_as table pool ends image program c)) in
    ap (λ (x : Machine). at_main x) m ∙ sym m

-- so on a fresh machine it is the rerun of that very machine
pub fresh_start_is_rerun : (program image : List ℕ) (first : World) → FreshWorld program image first → (fuel : ℕ) → start fuel first ≡ rerun fuel first
unfolding may_start
fresh_start_is_rerun program image first fresh fuel =
    let passes : Passes first = fresh_passes program image first fresh in
    start_is_rerun fuel first passes (ap may_start (fresh_new program image first fresh))
    ∙ ap (λ (x : Machine). rerun fuel (with_machine first x)) (fresh_at_main fresh)
