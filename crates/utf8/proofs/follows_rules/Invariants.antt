-- What the loop of `utf8::follows_rules` keeps: what is left passes, with what is due, exactly if the whole does.
use mathlib.Core.Path.{◌≡◌}
use lib.ListN.{drop}
use Rattle.utf8.specs.Utf8.{from, valid}
use Rattle.utf8.specs.Steps.{due}
use Rattle.utf8.proofs.follows_rules.Given as goal

abbrev pub invariant-loop-b : goal.invariant-loop-b
invariant-loop-b l = from (drop l.b-index l.s) (due l.more l.low l.high) ≡ valid l.s
