-- `host::owner::own` meets its contract.
use Rattle.host.proofs.Performing.{owns_it}
use Rattle.host.proofs.owner.own.Goals as goal

pub returns : goal.returns
returns c = owns_it _ _ _ _ _ _ _ _ _ c.blank-blank.ensures c.perform.ensures
