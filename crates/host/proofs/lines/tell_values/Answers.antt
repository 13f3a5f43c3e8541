-- `host::lines::tell_values` meets its contract.
use Rattle.std.proofs.Common.{◌≡◌, rules}
use Rattle.std.specs.Prelude.{Err}
use Rattle.host.proofs.Passes.{telling_begun, telling_turned, telling_stuck, telling_ended}
use Rattle.host.proofs.lines.tell_values.Goals as goal

pub loop-word-init : goal.loop-word-init
loop-word-init c = telling_begun _ _ _ _ _ _ _ _

pub returns-in_err-at : goal.returns-in_err-at
returns-in_err-at c =
    let r : c.from_residual.result ≡ Err c.in_err-at.field-0.0 = search rules in
    rw r (telling_stuck _ _ _ _ _ _ c.loop-word-test.true c.tell_value.ensures c.loop-word.invariant c.in_err-at.was)

pub loop-word-preserved : goal.loop-word-preserved
loop-word-preserved c = telling_turned _ _ _ _ _ _ c.loop-word-test.true c.tell_value.ensures c.loop-word.invariant c.in_ok-at.was

pub returns : goal.returns
returns c = telling_ended _ _ _ _ _ _ c.loop-word-test.false c.loop-word.invariant
