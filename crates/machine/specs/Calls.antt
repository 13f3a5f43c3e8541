-- Start, rerun and continue: what each is allowed on, what it begins with, and what it reports of the run.
use Rattle.std.specs.Prelude.{ℕ, ◌-◌, Bool, true, false, cond, List}
use Rattle.errors.specs.declared.Refusal.TheVariants.{WrongPhaseOrUnsound}
use Rattle.storage.specs.declared.Task.{Task}
use Rattle.machine.specs.declared.Machine.{Machine}
use Rattle.machine.specs.declared.Phase.{Phase}
use Rattle.machine.specs.declared.Phase.TheVariants.{New, Paused, Done, Stopped}
use Rattle.machine.specs.Machines.{rewound, at_main}
use Rattle.machine.specs.declared.RunEnd.{RunEnd}
use Rattle.machine.specs.declared.Outcome.{Outcome}
use Rattle.machine.specs.declared.Outcome.TheVariants as outcome
use Rattle.machine.specs.World.{World, with_machine}
use Rattle.machine.specs.Run.{End, run}
use Rattle.machine.specs.Sound.{sound_world}
use Rattle.machine.specs.declared.Verb.{Verb}
use Rattle.machine.specs.declared.Verb.TheVariants.{Start, Rerun, Continue}
use Rattle.machine.specs.declared.Report.{Report}

-- start and rerun are for a machine that is new or done
unfoldable pub may_start : Phase → Bool
may_start New = true
may_start Paused = false
may_start Done = true
may_start Stopped = false

-- continue is for one that is paused
unfoldable pub may_continue : Phase → Bool
may_continue New = false
may_continue Paused = true
may_continue Done = false
may_continue Stopped = false

-- start and rerun set memory in use to 0 and the result empty
abbrev pub fresh : Machine → Machine
fresh machine = record {
  phase = machine.phase;
  height = 0;
  loops = machine.loops;
  frames = machine.frames;
  memory = 0;
  pool = machine.pool;
  entries = machine.entries;
  next_id = machine.next_id;
  count = machine.count;
  saved = machine.saved;
}

-- whether a phase allows a call
abbrev pub allows : Verb → Phase → Bool
allows Start phase = may_start phase
allows Rerun phase = may_start phase
allows Continue phase = may_continue phase

-- what a call begins with: start at main, with no loop open; rerun with frames and loops as the run before left them
abbrev pub begun : Verb → Machine → Machine
begun Start machine = fresh (at_main machine)
begun Rerun machine = fresh machine
begun Continue machine = machine

-- whether a call is allowed, and the machine that it begins with
pub record Permission : Type 0 where
  pub allowed : Bool
  pub machine : Machine

abbrev pub allowing : Bool → Machine → Permission
allowing allowed machine = record { allowed = allowed; machine = machine }

-- where the record is sound
unfoldable pub allowed : Machine → Bool → Verb → Permission
allowed machine sound verb = cond sound (allowing (allows verb machine.phase) (begun verb machine)) (allowing false machine)

-- a machine in a phase
abbrev pub phased : Machine → Phase → Machine
phased machine phase = record {
  phase = phase;
  height = machine.height;
  loops = machine.loops;
  frames = machine.frames;
  memory = machine.memory;
  pool = machine.pool;
  entries = machine.entries;
  next_id = machine.next_id;
  count = machine.count;
  saved = machine.saved;
}

-- done: the current frame's place becomes 0; a refused machine is stopped
unfoldable pub ended : Machine → Outcome → Machine
ended machine outcome.Done = phased (rewound machine) Done
ended machine outcome.Paused = phased machine Paused
ended machine (outcome.Refused refusal) = phased machine Stopped

-- one unit of fuel to a finished instruction
abbrev pub spent : ℕ → ℕ → ℕ
spent fuel left = fuel - left

-- what a run reports
unfoldable pub report : ℕ → RunEnd → Report
report fuel ran = record { machine = ended ran.machine ran.outcome; finished = spent fuel ran.left; outcome = ran.outcome }

-- 26: the machine as it was, no instruction finished
abbrev pub not_allowed : Machine → Report
not_allowed machine = record { machine = machine; finished = 0; outcome = outcome.Refused WrongPhaseOrUnsound }

-- a report, and everything lent after it
pub record Reported : Type 0 where
  pub report : Report
  pub table : List Task
  pub stack : List ℕ
  pub memory : List ℕ
  pub pool : List ℕ
  pub ends : List ℕ
  pub save : List ℕ

abbrev pub reported : Report → List Task → List ℕ → List ℕ → List ℕ → List ℕ → List ℕ → Reported
reported report table stack memory pool ends save =
    record { report = report; table = table; stack = stack; memory = memory; pool = pool; ends = ends; save = save }

abbrev pub reports : Report → World → Reported
reports report w = reported report w.table w.stack w.memory w.pool w.ends w.save

-- the end of a run, reported
abbrev pub reported_end : ℕ → End → Reported
reported_end fuel end =
    reports (report fuel (record { machine = end.world.machine; left = end.left; outcome = end.outcome })) end.world

abbrev pub is_sound : World → Bool
is_sound w = sound_world w.table w.memory w.pool w.ends w.save w.machine

-- a run where it is allowed, else 26
unfoldable pub call_with : ℕ → World → Permission → Reported
call_with fuel w a = cond a.allowed (reported_end fuel (run fuel (with_machine w a.machine))) (reports (not_allowed w.machine) w)

unfoldable pub call : Verb → ℕ → World → Reported
call verb fuel w = call_with fuel w (allowed w.machine (is_sound w) verb)

-- start, rerun and continue
abbrev pub start : ℕ → World → Reported
start fuel w = call Start fuel w

abbrev pub rerun : ℕ → World → Reported
rerun fuel w = call Rerun fuel w

abbrev pub go_on : ℕ → World → Reported
go_on fuel w = call Continue fuel w
