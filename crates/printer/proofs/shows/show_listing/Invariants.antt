-- No line changes what is lent.
use Rattle.std.proofs.Common.{◌≡◌}
use Rattle.printer.proofs.shows.show_listing.Given as goal

abbrev pub invariant-loop-number : goal.invariant-loop-number
invariant-loop-number l = (l.table ≡ l.fn.table) × (l.stack ≡ l.fn.stack) × (l.memory ≡ l.fn.memory) × (l.pool ≡ l.fn.pool) × (l.ends ≡ l.fn.ends)
