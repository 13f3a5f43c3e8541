-- What is printed after a call: its lines, one after the other.
use Prim.Native.Nat.{ℕ}
use mathlib.Core.List.{List}
use lib.ListN.{length, get_or}
use Rattle.storage.specs.Table.{living_of}
use Rattle.storage.specs.Tasks.{blank}
use Rattle.storage.specs.declared.Task.{Task}
use Rattle.listing.specs.Listing.{line_count, slot_shown, joined_lines}
use Rattle.printer.specs.declared.CallOutcome.{CallOutcome}
use Rattle.printer.specs.Listed.{values_listed, call_line}

-- the lines that are printed after a call: each with the count of living tasks and the task in its slot, from 0 up to their number
abbrev pub printed : CallOutcome → List ℕ → List ℕ → List ℕ → List ℕ → List Task → List ℕ
printed answered stack memory pool ends table =
    joined_lines (λ number. call_line answered stack memory pool ends (living_of table) (get_or table (slot_shown (values_listed answered) number) blank) number) (line_count (values_listed answered) (length table))
