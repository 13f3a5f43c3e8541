-- `vm::value_reading::read_value` meets its contract.
use Rattle.mechanism.proofs.Answers.{reads_value}
use Rattle.vm.proofs.value_reading.read_value.Goals as goal

pub returns : goal.returns
returns c =
    reads_value c.args.machine c.args.table.now c.args.stack.now c.args.memory.now c.args.pool.now c.args.ends.now c.args.save.now
    c.sound-good.ensures c.args.position c.value_at.ensures
