-- So many calls have been performed, and the calls stay.
use Rattle.std.proofs.Common.{◌≡◌}
use Rattle.machine.specs.World.{world}
use Rattle.printer.specs.Shows.{after_calls}
use Rattle.printer.proofs.shows.play.Given as goal

abbrev pub invariant-loop-number : goal.invariant-loop-number
invariant-loop-number l =
    (world l.machine l.table l.stack l.memory l.pool l.ends l.save ≡ after_calls l.fn.calls l.from l.number (world l.fn.begun l.fn.table l.fn.stack l.fn.memory l.fn.pool l.fn.ends l.fn.save))
    × (l.calls ≡ l.fn.calls)
