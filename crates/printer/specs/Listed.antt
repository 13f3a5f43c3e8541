-- The listing of a call: its values, and a line of it by its number.
use Rattle.std.specs.Prelude.{ℕ, min, List, take, drop}
use Rattle.storage.specs.declared.Task.{Task}
use Rattle.listing.specs.Listing.{ValueRead, height_of, values_read, line_by}
use Rattle.printer.specs.declared.CallOutcome.{CallOutcome}

-- how many values are listed: no more than a stack has
unfoldable pub values_listed : CallOutcome → ℕ
values_listed answered = min 1000 (height_of answered.head answered.machine.height)

-- the values, read over the memory in use
abbrev pub call_values : CallOutcome → List ℕ → List ℕ → List ℕ → List ℕ → List ValueRead
call_values answered stack memory pool ends =
    values_read (take answered.machine.memory (drop 0 memory)) pool ends answered.machine.entries (take (values_listed answered) stack)

-- a line, with the count of living tasks and the task in the line's slot
abbrev pub call_line : CallOutcome → List ℕ → List ℕ → List ℕ → List ℕ → ℕ → Task → ℕ → List ℕ
call_line answered stack memory pool ends living task number = line_by answered.head (call_values answered stack memory pool ends) living task number
