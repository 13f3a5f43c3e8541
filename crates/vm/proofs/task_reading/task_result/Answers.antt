-- `vm::task_reading::task_result` meets its contract.
use Rattle.std.proofs.Common.{◌≡◌, ◌∙◌, sym, ap, rules}
use Rattle.std.specs.Prelude.{Err}
use Rattle.mechanism.proofs.Measured.{if_measured, found}
use Rattle.vm.proofs.task_reading.task_result.Goals as goal

pub returns-in_err-measure_slot : goal.returns-in_err-measure_slot
unfolding if_measured
returns-in_err-measure_slot c =
    let r : c.from_residual-in_err-measure_slot.result ≡ Err c.in_err-measure_slot.field-0.0 = search rules in
    rw r (found _ _ _ _ _ _ _ _ _ _ c.if-not-sound.false (sym c.find.ensures ∙ c.in_ok-find.was) c.measure_slot.ensures (ap if_measured c.in_err-measure_slot.was))

pub returns : goal.returns
unfolding if_measured
returns c = found _ _ _ _ _ _ _ _ _ _ c.if-not-sound.false (sym c.find.ensures ∙ c.in_ok-find.was) c.measure_slot.ensures (ap if_measured c.in_ok-measure_slot.was)
