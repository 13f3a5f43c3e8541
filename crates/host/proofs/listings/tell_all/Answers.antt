-- `host::listings::tell_all` meets its contract.
use Rattle.std.proofs.Common.{◌≡◌, ◌∙◌, sym, ap, rules}
use Rattle.std.specs.Prelude.{Err}
use Rattle.storage.specs.Tasks.{after}
use Rattle.text.specs.Lines.{Lined}
use Rattle.host.specs.Lines.{tell_tasks}
use Rattle.host.proofs.Passes.{stuck_tasks}
use Rattle.host.proofs.listings.tell_all.Goals as goal

pub returns-in_err-at : goal.returns-in_err-at
returns-in_err-at c =
    let r : c.from_residual.result ≡ Err c.in_err-at.field-0.0 = search rules in
    rw r (ap (λ (l : Lined). after l c.args.table.now) (sym (stuck_tasks _ _ _ _) ∙ ap (λ (l : Lined). tell_tasks c.args.writes l c.args.table.now) (rw c.in_err-at.was at c.tell_run.ensures)))

pub returns : goal.returns
returns c =
    c.tell_tasks.ensures ∙ ap (λ (l : Lined). after (tell_tasks c.args.writes l c.args.table.now) c.args.table.now) (rw c.in_ok-at.was at c.tell_run.ensures)
