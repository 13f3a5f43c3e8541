-- `text::pieces::digit_count` meets its contract.
use native.Mathlib.Omega.{arith}
use Rattle.text.proofs.Decimals.{twenty_digits, counting_turned, counting_ended}
use Rattle.text.proofs.pieces.digit_count.Goals as goal

pub loop-rest-preserved : goal.loop-rest-preserved
loop-rest-preserved c = counting_turned c.loop-rest-test.true c.loop-rest.invariant

pub returns : goal.returns
returns c =
    let is = counting_ended c.loop-rest-test.false c.loop-rest.invariant in (is, omega (arith, twenty_digits c.args.number (omega arith)))
