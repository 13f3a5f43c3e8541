-- `host::lines::tell_value` meets its contract.
use native.Mathlib.Omega.{arith}
use Rattle.host.proofs.Behind.{one_more, no_more}
use Rattle.host.proofs.lines.tell_value.Goals as goal

pub returns-then-out-start : goal.returns-then-out-start
returns-then-out-start c = no_more _ _ _ _ c.line_start-start.ensures c.if-out-start.true

pub returns : goal.returns
returns c = one_more _ _ _ _ c.line_start-start.ensures c.if-out-start.false (omega arith) (rw c.unbox_value-kind.ensures at c.value_line.ensures) c.counted.ensures
