-- `printer::shows::play` meets its contract.
use Rattle.machine.specs.World.{world}
use Rattle.printer.proofs.Performing.{goes_further, calls_stay}
use Rattle.printer.proofs.shows.play.Goals as goal

pub loop-number-preserved : goal.loop-number-preserved
loop-number-preserved c = (
  goes_further c.args.calls.now c.args.from c.loop-number.number (world c.args.begun c.args.table.now c.args.stack.now c.args.memory.now c.args.pool.now c.args.ends.now c.args.save.now)
      c.loop-number.invariant.0 c.loop-number.invariant.1 c.turn-machine.ensures,
  calls_stay c.loop-number.invariant.1 c.turn-machine.ensures,
)
