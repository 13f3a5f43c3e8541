-- What the loop of `memory::change::scaled` keeps.
use Rattle.std.proofs.Common.{◌≡◌}
use Rattle.memory.specs.Change.{scaled}
use Rattle.memory.proofs.change.scaled.Given as goal

abbrev pub invariant-loop : goal.invariant-loop
invariant-loop l = l.sum ≡ scaled l.index.0 l.counter
