-- The calls of a host on a machine of its own, one after the other.
use Rattle.std.specs.Prelude.{ℕ, zero, suc, cond, List, eqb}
use Rattle.storage.specs.declared.Task.{Task}
use Rattle.machine.specs.World.{World, world}
use Rattle.machine.specs.Calls.{Reported, call}
use Rattle.machine.specs.Creation.{machine_of, blank_table, Made, create}
use Rattle.machine.specs.Reads.{SavedTo, host_save}
use Rattle.printer.specs.declared.CallOutcome.{CallOutcome}
use Rattle.printer.specs.Asked.{verb_at, fuel_at, verb_of, ran, saved, count_of}

-- ---- one call

-- what came of a call, and everything lent after it
pub record CallOn : Type 0 where
  pub answered : CallOutcome
  pub table : List Task
  pub stack : List ℕ
  pub memory : List ℕ
  pub pool : List ℕ
  pub ends : List ℕ
  pub save : List ℕ

abbrev pub acted : CallOutcome → List Task → List ℕ → List ℕ → List ℕ → List ℕ → List ℕ → CallOn
acted answered table stack memory pool ends save =
    record { answered = answered; table = table; stack = stack; memory = memory; pool = pool; ends = ends; save = save }

abbrev pub as_run : Reported → CallOn
as_run r = acted (ran r.report) r.table r.stack r.memory r.pool r.ends r.save

abbrev pub as_save : SavedTo → CallOn
as_save s = acted (saved s.report) s.table s.stack s.memory s.pool s.ends s.save

-- a call by its verb: 2 saves, any other is a run
unfoldable pub performed : ℕ → ℕ → World → CallOn
performed verb fuel w = cond (eqb verb 2) (as_save (host_save w)) (as_run (call (verb_of verb) fuel w))

-- the machine after it, with everything lent to it
abbrev pub left : CallOn → World
left a = world a.answered.machine a.table a.stack a.memory a.pool a.ends a.save

-- ---- one call after the other

-- after the call of a number
unfoldable pub after_call : List ℕ → ℕ → ℕ → World → World
after_call calls from number w = left (performed (verb_at calls from number) (fuel_at calls from number) w)

-- after the first so many calls
unfoldable pub after_calls : List ℕ → ℕ → ℕ → World → World
after_calls calls from zero w = w
after_calls calls from (suc number) w = after_call calls from number (after_calls calls from number w)

-- ---- over a table of its own

-- everything lent to be written but the table
pub record Lent : Type 0 where
  pub stack : List ℕ
  pub memory : List ℕ
  pub pool : List ℕ
  pub ends : List ℕ
  pub save : List ℕ
  pub calls : List ℕ

abbrev pub lent : List ℕ → List ℕ → List ℕ → List ℕ → List ℕ → List ℕ → Lent
lent stack memory pool ends save calls = record { stack = stack; memory = memory; pool = pool; ends = ends; save = save; calls = calls }

abbrev pub without_table : List ℕ → World → Lent
without_table calls w = lent w.stack w.memory w.pool w.ends w.save calls

-- the calls on what was created: none, if creation was refused
unfoldable pub played : ℕ → ℕ → List ℕ → List ℕ → List ℕ → List ℕ → Made → Lent
played from count stack memory save calls m =
    without_table calls
    (after_calls calls from (count_of m.answer count) (world (machine_of m.answer) m.table stack memory m.pool m.ends save))

-- a creation over a blank table, then the calls
unfoldable pub own : ℕ → ℕ → List ℕ → List ℕ → List ℕ → List ℕ → List ℕ → List ℕ → List ℕ → List ℕ → Lent
own from count stack memory pool ends save image program calls =
    played from count stack memory save calls (create blank_table pool ends image program)
