-- `vm::creating::create` meets its contract.
use Rattle.std.proofs.Common.{◌≡◌, rules}
use Rattle.std.specs.Prelude.{Err}
use Rattle.mechanism.proofs.Answers.{creates, creates_none}
use Rattle.vm.proofs.creating.create.Goals as goal

pub returns-in_err-ready : goal.returns-in_err-ready
returns-in_err-ready c =
    let r : c.from_residual.result ≡ Err c.in_err-ready.field-0.0 = search rules in
    rw r
    (creates_none c.args.table.now c.args.pool.now c.args.ends.now c.args.image.now c.args.program.now
    (rw c.in_err-ready.was at c.prepare.ensures))

pub returns : goal.returns
returns c =
    rw c.created.ensures
    (creates c.args.table.now c.args.pool.now c.args.ends.now c.args.image.now c.args.program.now
    (rw c.in_ok-ready.was at c.prepare.ensures) c.load_table-used.ensures)
