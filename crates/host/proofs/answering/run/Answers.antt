-- `host::answering::run` meets its contract.
use Rattle.host.proofs.Runs.{runs_it}
use Rattle.host.proofs.answering.run.Goals as goal

pub returns : goal.returns
returns c = runs_it _ _ _ _ _ _ _ c.own-performed.ensures c.tell.ensures
