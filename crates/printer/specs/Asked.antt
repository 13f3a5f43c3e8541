-- What a host asks of a machine as nine bytes, and what came of it.
use Rattle.std.specs.Prelude.{ℕ, ◌*◌, ◌/◌, cond, List, [], eqb, leb, length, take, drop, get_or, Ok, Err, Result}
use Rattle.slices.specs.Numbers.{number_at}
use Rattle.listing.specs.declared.Head.{Head}
use Rattle.listing.specs.declared.Head.TheVariants as head
use Rattle.machine.specs.declared.Machine.{Machine}
use Rattle.machine.specs.declared.Outcome.{Outcome}
use Rattle.machine.specs.declared.Outcome.TheVariants.{Done, Paused, Refused}
use Rattle.machine.specs.declared.Report.{Report}
use Rattle.machine.specs.declared.SaveReport.{SaveReport}
use Rattle.machine.specs.declared.Verb.{Verb}
use Rattle.machine.specs.declared.Verb.TheVariants.{Start, Rerun, Continue}
use Rattle.printer.specs.declared.CallOutcome.{CallOutcome}
use Rattle.errors.specs.declared.Refusal.{Refusal}

-- ---- calls as bytes

-- the nine bytes of the call of a number, of those that stand from a place on; none past the last one
unfoldable pub call_at : List ℕ → ℕ → ℕ → List ℕ
call_at calls from number = cond (leb (length (drop from calls) / 9) number) [] (take 9 (drop (number * 9) (drop from calls)))

-- its verb, in its first byte; a save past the last one
unfoldable pub verb_at : List ℕ → ℕ → ℕ → ℕ
verb_at calls from number = get_or (call_at calls from number) 0 2

-- its fuel, in the eight bytes behind it
unfoldable pub fuel_at : List ℕ → ℕ → ℕ → ℕ
fuel_at calls from number = number_at 8 (call_at calls from number) 1

-- what it asks of a run: 0 to start, 3 to rerun, any other to continue
unfoldable pub verb_of : ℕ → Verb
verb_of number = cond (eqb number 0) Start (cond (eqb number 3) Rerun Continue)

-- ---- what came of a call

abbrev pub answered : Machine → Head → CallOutcome
answered machine head = record { machine = machine; head = head }

-- how a run ended
unfoldable pub ended : ℕ → Outcome → Head
ended finished Done = head.Done finished
ended finished Paused = head.Paused finished
ended finished (Refused refusal) = head.Refused refusal

unfoldable pub ran : Report → CallOutcome
ran report = answered report.machine (ended report.finished report.outcome)

-- how a save ended
unfoldable pub kept : Result ℕ Refusal → Head
kept (Ok length) = head.Saved length
kept (Err refusal) = head.Refused refusal

unfoldable pub saved : SaveReport → CallOutcome
saved report = answered report.machine (kept report.result)

-- ---- before the first call

-- how many calls are performed: none without a machine
unfoldable pub count_of : Result Machine Refusal → ℕ → ℕ
count_of (Ok machine) count = count
count_of (Err refusal) count = 0
