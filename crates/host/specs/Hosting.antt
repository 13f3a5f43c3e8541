-- A run for a host: a machine is created, started, saved where the run was not refused, and listed.
use Rattle.std.specs.Prelude.{ℕ, List, Result}
use Rattle.storage.specs.declared.Task.{Task}
use Rattle.machine.specs.declared.Machine.{Machine}
use Rattle.machine.specs.Machines.{with_ids}
use Rattle.machine.specs.declared.Outcome.{Outcome}
use Rattle.machine.specs.declared.Outcome.TheVariants.{Done, Paused, Refused}
use Rattle.machine.specs.World.{world}
use Rattle.machine.specs.declared.Report.{Report}
use Rattle.machine.specs.declared.SaveReport.{SaveReport}
use Rattle.machine.specs.Calls.{Reported, start}
use Rattle.machine.specs.Creation.{machine_of, blank_table, Made, create}
use Rattle.machine.specs.Reads.{SavedTo, host_save}
use Rattle.host.specs.Listings.{head_of, ListedIn, list_run}
use Rattle.host.specs.declared.answering.ListingLengths.{ListingLengths}
use Rattle.host.specs.declared.hosting.RunSummary.{RunSummary}
use Rattle.errors.specs.declared.Refusal.{Refusal}

-- ---- between the calls

-- a machine that no save takes: its next id is above 256
abbrev pub unsavable : Machine → Machine
unsavable machine = with_ids machine 257 machine.count

-- the machine that is saved: one that no save takes, if the run was refused
unfoldable pub machine_to_save : Outcome → Machine → Machine
machine_to_save Done machine = machine
machine_to_save Paused machine = machine
machine_to_save (Refused refusal) machine = unsavable machine

abbrev pub to_save : Report → Machine
to_save report = machine_to_save report.outcome report.machine

-- what came of it all
unfoldable pub performed : Result Machine Refusal → Report → SaveReport → ListingLengths → RunSummary
performed creation report saved listing = record {
  head = head_of creation report;
  finished = report.finished;
  save = saved.result;
  saved = saved.machine.saved;
  listing = listing;
}

-- ---- one call after the other

-- what came of it, and everything lent to be written, after it
pub record RunSummaryIn : Type 0 where
  pub answer : RunSummary
  pub table : List Task
  pub stack : List ℕ
  pub memory : List ℕ
  pub pool : List ℕ
  pub ends : List ℕ
  pub save : List ℕ
  pub listing : List ℕ

abbrev pub performed_in : RunSummary → List Task → List ℕ → List ℕ → List ℕ → List ℕ → List ℕ → List ℕ → RunSummaryIn
performed_in answer table stack memory pool ends save listing =
    record { answer = answer; table = table; stack = stack; memory = memory; pool = pool; ends = ends; save = save; listing = listing }

-- the listing comes last
unfoldable pub with_listing : Result Machine Refusal → Report → SaveReport → List ℕ → ListedIn → RunSummaryIn
with_listing creation report saved save l =
    performed_in (performed creation report saved l.answer) l.table l.stack l.memory l.pool l.ends save l.listing

-- before it the save
unfoldable pub with_saved_image : Result Machine Refusal → Report → List ℕ → SavedTo → RunSummaryIn
with_saved_image creation report listing s =
    with_listing creation report s.report s.save (list_run creation report s.table s.stack s.memory s.pool s.ends listing)

-- before it the run
unfoldable pub with_run : Result Machine Refusal → List ℕ → Reported → RunSummaryIn
with_run creation listing r =
    with_saved_image creation r.report listing
    (host_save (world (to_save r.report) r.table r.stack r.memory r.pool r.ends r.save))

-- before it the creation
unfoldable pub with_creation : ℕ → List ℕ → List ℕ → List ℕ → List ℕ → Made → RunSummaryIn
with_creation fuel stack memory save listing m =
    with_run m.answer listing
    (start fuel (world (machine_of m.answer) m.table stack memory m.pool m.ends save))

unfoldable pub perform : ℕ → List Task → List ℕ → List ℕ → List ℕ → List ℕ → List ℕ → List ℕ → List ℕ → List ℕ → RunSummaryIn
perform fuel table stack memory pool ends save image program listing =
    with_creation fuel stack memory save listing (create table pool ends image program)

-- ---- over a table of its own

-- what came of it, and everything lent to be written but the table
pub record Owned : Type 0 where
  pub answer : RunSummary
  pub stack : List ℕ
  pub memory : List ℕ
  pub pool : List ℕ
  pub ends : List ℕ
  pub save : List ℕ
  pub listing : List ℕ

abbrev pub owned : RunSummary → List ℕ → List ℕ → List ℕ → List ℕ → List ℕ → List ℕ → Owned
owned answer stack memory pool ends save listing =
    record { answer = answer; stack = stack; memory = memory; pool = pool; ends = ends; save = save; listing = listing }

abbrev pub without_table : RunSummaryIn → Owned
without_table p = owned p.answer p.stack p.memory p.pool p.ends p.save p.listing

unfoldable pub own : ℕ → List ℕ → List ℕ → List ℕ → List ℕ → List ℕ → List ℕ → List ℕ → List ℕ → Owned
own fuel stack memory pool ends save image program listing =
    without_table (perform fuel blank_table stack memory pool ends save image program listing)
