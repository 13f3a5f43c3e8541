-- Demand 3, second sentence: what admission is worth at run.
use Prim.Native.Nat.{ℕ}
use mathlib.Core.Bool.{true}
use mathlib.Core.List.{List}
use mathlib.Core.Path.{◌≡◌}
use Rattle.errors.specs.declared.Refusal.{Refusal}
use Rattle.errors.specs.Refusals.{number_of}
use Rattle.machine.specs.declared.Outcome.TheVariants.{Refused}
use Rattle.machine.specs.World.{World}
use Rattle.machine.specs.Calls.{allows, call}
use Rattle.machine.specs.History.{FreshWorld, is_created, HostCall, history}
use Rattle.machine.specs.declared.Verb.{Verb}
use Rattle.laws.specs.Sound.{Sound}
use Rattle.laws.proofs.Creation.{fresh_sound}
use Rattle.laws.proofs.SoundnessCalls.{history_sound}
use Rattle.labels.specs.declared.Kind.{Kind}
use Rattle.labels.specs.Labels.{Labelled}
use Rattle.labels.specs.Check.{admitted, admission}
use Rattle.labels.proofs.Exactly.{exactly}
use Rattle.safety.specs.Safe.{may_come, Safe}
use Rattle.safety.proofs.Called.{Ready, call_keeps, call_only, history_ready}
use Rattle.safety.proofs.Created.{created_ready}

-- a fresh machine rests at the start of its program
fresh_ready : (program image : List ℕ) (kinds : List Kind) (labelled : Labelled program kinds) (first : World) → FreshWorld program image first → Ready program kinds labelled first
fresh_ready program image kinds labelled _ (is_created table pool ends machine stack memory save lent long e) =
    created_ready program kinds labelled table pool ends image machine stack memory save lent long e

-- it stands in its program, or rests at its start, after any calls
ready : (program image : List ℕ) (kinds : List Kind) (labelled : Labelled program kinds) (first : World) → FreshWorld program image first → (calls : List HostCall)
    → Ready program kinds labelled (history calls first)
ready program image kinds labelled first fresh calls = history_ready program kinds labelled calls first (fresh_ready program image kinds labelled first fresh)

-- a machine created for an admitted program, over any sound image and after any calls of the host: no call of any fuel is refused for cut-off code, stack,
-- type or field number (2 to 6 and 10), and if it ends done, its values have the admitted kinds, bottom first, and there are no more
pub admitted_runs : (program : List ℕ) (kinds : List Kind) → admission program ≡ admitted kinds → (image : List ℕ) (first : World) → FreshWorld program image first → (calls : List HostCall)
    (verb : Verb) (fuel : ℕ) → Safe kinds (call verb fuel (history calls first))
admitted_runs program kinds admits image first fresh calls verb fuel =
    let labelled = (exactly program kinds).0 admits in
    (call_keeps program kinds labelled (history calls first) verb fuel (ready program image kinds labelled first fresh calls)).safe

-- a machine's record is sound after any calls of the host, so 26 is for the phase alone
pub lives_sound : (program image : List ℕ) (first : World) → FreshWorld program image first → (calls : List HostCall) → Sound (history calls first)
lives_sound program image first fresh calls = history_sound calls first (fresh_sound program image first fresh)

-- refusals 7 to 9, 11 to 15 and 20 to 24 may still come at run, and no other: a call that the machine's phase allows is refused with one of these or not at all
pub may_still_come : (program : List ℕ) (kinds : List Kind) → admission program ≡ admitted kinds → (image : List ℕ) (first : World) → FreshWorld program image first → (calls : List HostCall)
    (verb : Verb) (fuel : ℕ) → allows verb (history calls first).machine.phase ≡ true
    → (refusal : Refusal) → (call verb fuel (history calls first)).report.outcome ≡ Refused refusal → may_come (number_of refusal) ≡ true
may_still_come program kinds admits image first fresh calls verb fuel allowed refusal e =
    let labelled = (exactly program kinds).0 admits in
    call_only program kinds labelled (history calls first) verb fuel refusal (lives_sound program image first fresh calls).tested allowed (ready program image kinds labelled first fresh calls) e
