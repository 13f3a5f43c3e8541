-- `text::pieces::put_decimal` meets its contract.
use native.Mathlib.Omega.{arith}
use Rattle.text.proofs.Decimals.{putting_above, putting_turned}
use Rattle.text.proofs.pieces.put_decimal.Goals as goal

pub overflow_sub-last-in-loop-rest : goal.overflow_sub-last-in-loop-rest
overflow_sub-last-in-loop-rest c = omega (arith, putting_above _ _ _ c.loop-rest.invariant c.loop-rest-test.true)

pub loop-rest-preserved : goal.loop-rest-preserved
loop-rest-preserved c = putting_turned _ _ _ c.loop-rest.invariant c.digit.ensures c.loop-rest-test.true
