-- `host::owner::perform` meets its contract.
use Rattle.host.proofs.Performing.{performs}
use Rattle.host.proofs.owner.perform.Goals as goal

pub returns : goal.returns
returns c =
    performs _ _ _ _ _ _ _ _ _ _ c.create-creation.ensures c.machine_of-begun.ensures c.call-report.ensures c.to_save.ensures c.save-saved.ensures c.list_run-listed.ensures c.performed.ensures
