-- `image::reading::walk` meets its contract.
use Rattle.std.proofs.Common.{arith}
use Rattle.image.proofs.Walks.{turn, fits, stuck, ended}
use Rattle.image.proofs.reading.walk.Goals as goal

pub returns-in_default : goal.returns-in_default
returns-in_default c =
    stuck c.loop-at.invariant c.loop-at-test.true c.front.ensures c.in_default.is

pub overflow_add-low : goal.overflow_add-low
overflow_add-low c =
    omega (arith, fits c.loop-at.invariant c.loop-at-test.true c.front.ensures c.in-Some.is)

pub overflow_add-at : goal.overflow_add-at
overflow_add-at c =
    omega (arith, fits c.loop-at.invariant c.loop-at-test.true c.front.ensures c.in-Some.is)

pub overflow_add-sum : goal.overflow_add-sum
overflow_add-sum c =
    omega (arith, fits c.loop-at.invariant c.loop-at-test.true c.front.ensures c.in-Some.is)

pub loop-at-smaller : goal.loop-at-smaller
loop-at-smaller c =
    omega (arith, fits c.loop-at.invariant c.loop-at-test.true c.front.ensures c.in-Some.is)

pub loop-at-preserved : goal.loop-at-preserved
loop-at-preserved c =
    turn c.loop-at.invariant c.loop-at-test.true c.front.ensures c.in-Some.is

pub returns : goal.returns
returns c =
    ended c.loop-at.invariant c.loop-at-test.false
