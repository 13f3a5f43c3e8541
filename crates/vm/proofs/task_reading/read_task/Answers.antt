-- `vm::task_reading::read_task` meets its contract.
use Rattle.mechanism.proofs.Answers.{reads_task}
use Rattle.vm.proofs.task_reading.read_task.Goals as goal

pub returns : goal.returns
returns c =
    reads_task c.args.machine c.args.table.now c.args.stack.now c.args.memory.now c.args.pool.now c.args.ends.now c.args.save.now
    c.sound-good.ensures c.args.id c.slot_of.ensures c.get-task.ensures c.task_at.ensures
