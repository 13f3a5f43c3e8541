-- A turn of the loop notes one label; where it can't, or at the end, the sweep is done.
use Rattle.std.proofs.Common.{◌≡◌, arith}
use Rattle.std.proofs.lemmas.Result.{err_from_is_err_and}
use Rattle.admission.proofs.Turns.{begun, stuck_here, goes_far, goes_on, done}
use Rattle.admission.proofs.sweep.sweep.Goals as goal

pub loop-here-init : goal.loop-here-init
loop-here-init c = rw (c.put_mark.ensures.0, c.put_mark.ensures.1) (begun _ _ _ _ _ c.requires)

pub returns-in_err-here : goal.returns-in_err-here
returns-in_err-here c =
    let p = err_from_is_err_and c.from_residual.result c.from_residual.ensures.1 in
    let value = rw c.in_err-here.ensures.ok_part at c.in_err-here.ensures.value in
    let place : c.in_err-here.field-0.0 ≡ c.loop-here.here.0 = cc value in
    rw (p.1, p.2, place) (stuck_here c.loop-here.invariant c.loop-here-test.true c.args.program.short c.step-next.ensures c.in_err-here.ensures.ok_part)

pub loop-here-smaller : goal.loop-here-smaller
loop-here-smaller c = omega (arith, goes_far c.loop-here.invariant c.loop-here-test.true c.args.program.short c.step-next.ensures c.in_ok-here.ensures.ok_part)

pub loop-here-preserved : goal.loop-here-preserved
loop-here-preserved c = goes_on c.loop-here.invariant c.loop-here-test.true c.args.program.short c.step-next.ensures c.in_ok-here.ensures.ok_part

pub returns : goal.returns
returns c = done _ _ _ _ _ _ _ _ c.loop-here.invariant c.loop-here-test.false
