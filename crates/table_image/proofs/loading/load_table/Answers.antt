-- `table_image::loading::load_table` meets its contract.
use Rattle.table_image.proofs.Turns.{load_turn, load_ends}
use Rattle.table_image.proofs.loading.load_table.Goals as goal

pub loop-preserved : goal.loop-preserved
loop-preserved c =
    load_turn c.args.image.now c.args.count c.loop.counter c.loop.at c.loop.table c.loop.pool c.loop.ends c.loop.used c.load_record-record.result
    c.loop-test.true c.loop.invariant c.load_record-record.ensures c.slot_of.ensures c.put.ensures

pub returns : goal.returns
returns c =
    load_ends c.args.image.now c.args.count c.loop.counter c.loop.at c.loop.table c.loop.pool c.loop.ends c.loop.used
    c.loop-test.false c.loop.invariant
