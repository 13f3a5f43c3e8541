-- What the loop of `host::lines::tell_tasks` keeps: the lines of the slots so far.
use Rattle.std.proofs.Common.{◌≡◌, drop}
use Rattle.std.specs.Prelude.{Ok}
use Rattle.text.specs.Lines.{lined}
use Rattle.host.specs.Lines.{tell_slots, tell_tasks}
use Rattle.host.proofs.lines.tell_tasks.Given as goal

abbrev pub invariant-loop-task : goal.invariant-loop-task
invariant-loop-task l = tell_slots l.writes (lined (Ok l.at) l.out) (drop l.task-index l.task-items) ≡ tell_tasks l.writes (lined (Ok l.begin) l.fn.out) l.fn.table
