-- `image::writing::write_record` meets its contract.
use Rattle.image.proofs.Puts.{record_put}
use Rattle.image.proofs.writing.write_record.Goals as goal

pub returns : goal.returns
returns c =
    record_put _ _ _ _ c.part-title.ensures c.opening-first.ensures c.put-behind.ensures c.put-behind_title.ensures c.put.ensures
