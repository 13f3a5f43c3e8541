-- What an instruction changes in the slot that it names.
use Rattle.std.specs.Prelude.{ℕ, List, set}
use Rattle.storage.specs.declared.Task.{Task}
use Rattle.storage.specs.Table.{set_state_at}
use Rattle.mechanism.specs.declared.Change.{Change}
use Rattle.mechanism.specs.declared.Change.TheVariants.{Keep, Put, Restate}

-- a change made in a slot of the table: nothing, the whole record, or its state byte alone
unfoldable pub applied : List Task → ℕ → Change → List Task
applied table slot Keep = table
applied table slot (Put task) = set table slot task
applied table slot (Restate state) = (set_state_at table slot state).lent
