-- `runner::calling::call`: the test of the record, then the run and its report.
use Rattle.mechanism.proofs.Answers.{calls_run}
use Rattle.runner.proofs.calling.call.Goals as goal

pub returns : goal.returns
returns c = calls_run _ _ _ _ _ _ _ c.sound-good.ensures _ _ c.allowed.ensures c.if-not-allowed.false c.begun-begins.ensures c.run-ran.ensures c.report.ensures
