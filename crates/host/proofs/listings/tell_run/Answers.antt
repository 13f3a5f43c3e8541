-- `host::listings::tell_run` meets its contract.
use Rattle.std.proofs.Common.{◌≡◌, rules}
use Rattle.std.specs.Prelude.{Err}
use Rattle.host.specs.Lines.{next_text}
use Rattle.host.proofs.Passes.{tells_no_head, tells_no_count, tells_run}
use Rattle.host.proofs.listings.tell_run.Goals as goal

pub returns-in_err-first : goal.returns-in_err-first
returns-in_err-first c =
    let r : c.from_residual.result ≡ Err c.in_err-first.field-0.0 = search rules in
    rw (r, ← c.part-used.ensures, ← c.head_of-head.ensures, ← c.height_of-height.ensures, ← c.words_of-words.ensures)
    (tells_no_head _ _ _ _ _ _ _ _ (rw c.in_err-first.was at c.head_line.ensures))

pub returns-in_err-second : goal.returns-in_err-second
returns-in_err-second c =
    let r : c.from_residual-in_err-second.result ≡ Err c.in_err-second.field-0.0 = search rules in
    rw (r, ← c.part-used.ensures, ← c.head_of-head.ensures, ← c.height_of-height.ensures, ← c.words_of-words.ensures)
    (tells_no_count _ _ _ _ _ _ _ _ (rw c.in_ok-first.was at c.head_line.ensures) (rw c.in_err-second.was at c.tell_count.ensures))

pub returns : goal.returns
unfolding next_text
returns c =
    rw (← c.part-used.ensures, ← c.head_of-head.ensures, ← c.height_of-height.ensures, ← c.words_of-words.ensures)
    (tells_run _ _ _ _ _ _ _ _ (rw c.in_ok-first.was at c.head_line.ensures) (rw c.in_ok-second.was at c.tell_count.ensures) c.tell_values.ensures)
