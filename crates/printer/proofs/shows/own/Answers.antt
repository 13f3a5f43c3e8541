-- `printer::shows::own` meets its contract.
use Rattle.printer.proofs.Performing.{owns_it}
use Rattle.printer.proofs.shows.own.Goals as goal

pub returns : goal.returns
returns c =
    owns_it c.args.from c.args.count c.args.stack.now c.args.memory.now c.args.pool.now c.args.ends.now c.args.save.now c.args.image.now c.args.program.now c.args.calls.now
    c.blank-blank.ensures c.create-creation.ensures c.machine_of-begun.ensures c.count_of-allowed.ensures c.play.ensures
