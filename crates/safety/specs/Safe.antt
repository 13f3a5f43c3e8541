-- What is promised of each call to a machine whose program is admitted.
use Rattle.std.specs.Prelude.{ℕ, ◌≡◌, Bool, false, ◌&&◌, ◌||◌, List, reverse, eqb, leb}
use Rattle.errors.specs.declared.Refusal.{Refusal}
use Rattle.errors.specs.Refusals.{number_of}
use Rattle.machine.specs.declared.Outcome.TheVariants.{Done, Refused}
use Rattle.machine.specs.Calls.{Reported}
use Rattle.machine.specs.History.{world_after}
use Rattle.labels.specs.declared.Kind.{Kind}
use Rattle.safety.specs.Kinds.{Listed}

-- refusals for cut-off code, stack, type and field number
abbrev pub ruled_out : ℕ → Bool
ruled_out number = eqb number 2 || eqb number 3 || eqb number 4 || eqb number 5 || eqb number 6 || eqb number 10

-- refusals that may still come at run: 7 to 9, 11 to 15 and 20 to 24
abbrev pub may_come : ℕ → Bool
may_come number = (leb 7 number && leb number 9) || ((leb 11 number && leb number 15) || (leb 20 number && leb number 24))

-- a call is never refused for what admission rules out, and if it ends done, its values have the listed kinds, bottom first, and there are no more
pub record Safe (kinds : List Kind) (r : Reported) : Type 0 where
  pub never_refused : (refusal : Refusal) → r.report.outcome ≡ Refused refusal → ruled_out (number_of refusal) ≡ false
  pub listed_kinds : r.report.outcome ≡ Done → Listed (reverse kinds) (world_after r)
