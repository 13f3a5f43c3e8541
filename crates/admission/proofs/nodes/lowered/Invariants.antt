-- As many as are left below the place is where so many below the node is.
use Rattle.std.proofs.Common.{◌≡◌, ◌-◌}
use Rattle.admission.specs.Nodes.{lowered}
use Rattle.admission.proofs.nodes.lowered.Given as goal

abbrev pub invariant-loop : goal.invariant-loop
invariant-loop l = lowered (l.taken - l.counter) l.cells l.at ≡ lowered l.taken l.cells l.node
