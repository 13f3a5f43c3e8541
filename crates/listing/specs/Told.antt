-- What a listing tells: how the call ended, each value as it was read, each living task.
use Rattle.std.specs.Prelude.{ℕ, Bool, cond, List, [], ◌∷◌, Result, Ok, Err}
use Rattle.errors.specs.Refusals.{number_of}
use Rattle.storage.specs.declared.Task.{Task}
use Rattle.text.specs.Numbers.{words}
use Rattle.memory.specs.declared.unbox.Return.{Return}
use Rattle.memory.specs.declared.unbox.Return.TheVariants as kind
use Rattle.listing.specs.declared.Head.{Head}
use Rattle.listing.specs.Listing.{ValueRead, title_of}
use Rattle.errors.specs.declared.Refusal.{Refusal}

-- a value: what it is, or the number of the refusal to read it
pub data ValueTold : Type 0 where
  number : ℕ → ValueTold
  truth : Bool → ValueTold
  text calldata numbers : List ℕ → ValueTold
  null : ValueTold
  refused : ℕ → ValueTold

-- a value by its kind and the part beside it
unfoldable pub value_told : Result Return Refusal → List ℕ → ValueTold
value_told (Ok (kind.U32 n)) part = number n
value_told (Ok (kind.Boolean b)) part = truth b
value_told (Ok (kind.String pointer)) part = text part
value_told (Ok (kind.CallData entry)) part = calldata part
value_told (Ok (kind.VecU32 pointer)) part = numbers (words part)
value_told (Ok kind.Null) part = null
value_told (Err refusal) part = refused (number_of refusal)

-- the values, bottom first
unfoldable pub values_told : List ValueRead → List ValueTold
values_told [] = []
values_told (read ∷ more) = value_told read.answer read.part ∷ values_told more

-- a living task: its id, its state and its title
pub record TaskTold : Type 0 where
  pub id : ℕ
  pub state : ℕ
  pub title : List ℕ

-- the task of a slot
abbrev pub task_told : Task → TaskTold
task_told task = record { id = task.id.0; state = task.state.state; title = title_of task }

-- the living ones, by slot
unfoldable pub tasks_told : List Task → List TaskTold
tasks_told [] = []
tasks_told (task ∷ more) = cond task.living (task_told task ∷ tasks_told more) (tasks_told more)

-- all of it
pub record Told : Type 0 where
  pub head : Head
  pub values : List ValueTold
  pub tasks : List TaskTold

-- what the listing of a call tells
abbrev pub told : Head → List ValueRead → List Task → Told
told head values table = record { head = head; values = values_told values; tasks = tasks_told table }
