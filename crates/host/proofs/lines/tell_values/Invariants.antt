-- What the loop of `host::lines::tell_values` keeps.
use Rattle.std.specs.Prelude.{Ok}
use Rattle.text.specs.Lines.{lined}
use Rattle.listing.specs.Listing.{values_read}
use Rattle.host.specs.Lines.{tell_values}
use Rattle.host.proofs.Passes.{Telling}
use Rattle.host.proofs.lines.tell_values.Given as goal

abbrev pub invariant-loop-word : goal.invariant-loop-word
invariant-loop-word l =
    Telling l.memory l.pool l.ends l.entries l.writes l.words (tell_values l.writes (lined (Ok l.begin) l.fn.out) (values_read l.memory l.pool l.ends l.entries l.words)) l.at l.out l.word-index
