-- `vm::sound::sound` meets its contract.
use Rattle.mechanism.proofs.Answers.{tests}
use Rattle.vm.proofs.sound.sound.Goals as goal

pub returns : goal.returns
returns c = tests c.args.table.now c.args.memory.now c.args.pool.now c.args.ends.now c.args.save.now c.args.machine c.sound-table_sound.ensures c.sound_record.ensures
