-- The arrays hold the labels up to the place.
use Rattle.std.proofs.Common.{◌-◌, length}
use Rattle.admission.specs.Marks.{nodes_of, loops_of}
use Rattle.admission.specs.Noted.{Standing}
use Rattle.admission.proofs.sweep.sweep.Given as goal

abbrev pub invariant-loop-here : goal.invariant-loop-here
invariant-loop-here l = Standing (length (loops_of l.fn.marks)) l.program.code.now l.cells (nodes_of l.marks) (loops_of l.marks) l.here.0 l.here.1.0 l.here.1.1.0

abbrev pub decreases-loop-here : goal.decreases-loop-here
decreases-loop-here l = length l.program.code.now - l.here.0
