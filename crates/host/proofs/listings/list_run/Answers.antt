-- `host::listings::list_run` meets its contract.
use Rattle.std.proofs.Common.{arith}
use Rattle.host.proofs.Whole.{lists_written, lists_unwritten, lists_uncounted}
use Rattle.host.proofs.listings.list_run.Goals as goal

pub returns-in_default : goal.returns-in_default
returns-in_default c =
    lists_uncounted c.args.creation c.args.report c.args.table.now c.args.stack.now c.args.memory.now c.args.pool.now c.args.ends.now c.args.listing.now (omega arith)
    c.tell_all.ensures c.in_default.is

pub returns-then-listing-needed : goal.returns-then-listing-needed
returns-then-listing-needed c =
    lists_unwritten c.args.creation c.args.report c.args.table.now c.args.stack.now c.args.memory.now c.args.pool.now c.args.ends.now c.args.listing.now (omega arith)
    c.tell_all.ensures c.in-Ok.is c.if-listing-needed.true

pub returns : goal.returns
returns c =
    rw c.unwrap_or.ensures
    (lists_written c.args.creation c.args.report c.args.table.now c.args.stack.now c.args.memory.now c.args.pool.now c.args.ends.now c.args.listing.now (omega arith)
    c.tell_all.ensures c.in-Ok.is c.if-listing-needed.false c.tell_all-told.ensures)
