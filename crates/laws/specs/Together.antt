-- Two calls as one.
use Rattle.std.specs.Prelude.{◌+◌, ◌≡◌}
use Rattle.machine.specs.Calls.{Reported}
use Rattle.machine.specs.History.{world_after}

-- a second call ends as a whole one does, and the finished instructions of both are those of the whole one
pub record Together (first second whole : Reported) : Type 0 where
  pub same_world : world_after second ≡ world_after whole
  pub same_outcome : second.report.outcome ≡ whole.report.outcome
  pub added : first.report.finished + second.report.finished ≡ whole.report.finished
