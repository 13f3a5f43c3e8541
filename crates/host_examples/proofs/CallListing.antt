-- The lines that are printed after a call, one after the other, are its listing; two calls that print the same came to the same.
use Prim.Native.Nat.{ℕ, ◌≤◌}
use mathlib.Core.List.{List}
use mathlib.Core.Path.{◌≡◌, sym, ap, ◌∙◌}
use native.Mathlib.Omega.{arith}
use lib.ListN.{length, get_or, take, drop}
use lib.Seq.{length-take-le}
use Rattle.storage.specs.Table.{living_of}
use Rattle.storage.specs.Tasks.{blank}
use Rattle.storage.specs.declared.Task.{Task}
use Rattle.listing.specs.Listing.{line_count, slot_shown, line_at, joined_lines, listing}
use Rattle.listing.specs.Told.{Told, told}
use Rattle.listing.proofs.LineByLine.{values_length, listing_by_lines}
use Rattle.listing.proofs.Same.{same_listings}
use Rattle.printer.specs.declared.CallOutcome.{CallOutcome}
use Rattle.printer.specs.Listed.{values_listed, call_values, call_line}
use Rattle.host_examples.proofs.Printed.{printed}

module _ (answered : CallOutcome) (stack memory pool ends : List ℕ) (whole : length stack ≡ 1000) where
  -- no more than a stack has
  within : values_listed answered ≤ length stack
  unfolding values_listed
  within = omega (arith, whole)

  -- as many values as are listed
  as_many : length (call_values answered stack memory pool ends) ≡ values_listed answered
  as_many =
      values_length (take answered.machine.memory (drop 0 memory)) pool ends answered.machine.entries (take (values_listed answered) stack)
      ∙ length-take-le (values_listed answered) stack within

  -- they are its listing
  pub call_listing : (table : List Task) → printed answered stack memory pool ends table ≡ listing answered.head (call_values answered stack memory pool ends) table
  unfolding line_at
  call_listing table =
      ap (λ (values : ℕ). joined_lines (λ number. call_line answered stack memory pool ends (living_of table) (get_or table (slot_shown values number) blank) number) (line_count values (length table))) (sym as_many)
      ∙ listing_by_lines answered.head (call_values answered stack memory pool ends) table

-- what a call came to
abbrev pub told_of_call : CallOutcome → List ℕ → List ℕ → List ℕ → List ℕ → List Task → Told
told_of_call answered stack memory pool ends table = told answered.head (call_values answered stack memory pool ends) table

-- any two calls, on any two machines
pub same_calls : (answered other : CallOutcome) (stack stack' memory memory' pool pool' ends ends' : List ℕ) (table table' : List Task)
    → length stack ≡ 1000 → length stack' ≡ 1000 → printed answered stack memory pool ends table ≡ printed other stack' memory' pool' ends' table'
    → told_of_call answered stack memory pool ends table ≡ told_of_call other stack' memory' pool' ends' table'
same_calls answered other stack stack' memory memory' pool pool' ends ends' table table' whole whole' same =
    same_listings _ _ _ _ _ _
    (sym (call_listing answered stack memory pool ends whole table) ∙ same ∙ call_listing other stack' memory' pool' ends' whole' table')
