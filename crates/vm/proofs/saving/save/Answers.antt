-- `vm::saving::save` meets its contract.
use Rattle.mechanism.proofs.Answers.{hosts_save, hosts_none}
use Rattle.vm.proofs.saving.save.Goals as goal

pub returns-then-not-sound : goal.returns-then-not-sound
returns-then-not-sound c =
    hosts_none c.args.machine c.args.table.now c.args.stack.now c.args.memory.now c.args.pool.now c.args.ends.now c.args.save.now
    c.sound.ensures c.if-not-sound.true c.not_saved.ensures

pub returns : goal.returns
returns c =
    hosts_save c.args.machine c.args.table.now c.args.stack.now c.args.memory.now c.args.pool.now c.args.ends.now c.args.save.now
    c.sound.ensures c.if-not-sound.false c.save_table-result.ensures c.host_saved.ensures
