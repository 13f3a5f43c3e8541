-- Tasks by id: the slot of one, its refusal where there is none, room for one more, and what S_LEN pushes.
use Rattle.std.specs.Prelude.{ℕ, ◌+◌, ◌%◌, ◌^◌, cond, nat_le, nat_lt, Ok, Err, Result, ⊤}
use Rattle.errors.specs.declared.Refusal.TheVariants.{TaskNotFound, TableFull, TitleTooLong}
use Rattle.storage.specs.declared.TaskId.{TaskId}
use Rattle.storage.specs.declared.Task.{Task}
use Rattle.errors.specs.declared.Refusal.{Refusal}

-- the slot of a task is its id
unfoldable pub slot_of : TaskId → ℕ
slot_of id = id.0

-- the record of an id's slot is a task, or 9 with the id
unfoldable pub find : Task → TaskId → Result ⊤ Refusal
find task id = cond task.living (Ok tt) (Err (TaskNotFound id.0))

-- one more task has room: 20 where its id would be 256 or more, then 21 where its title has more than 128 bytes
unfoldable pub room : ℕ → ℕ → Result ⊤ Refusal
room next_id title-len = cond (nat_le 256 next_id) (Err TableFull) (cond (nat_lt 128 title-len) (Err TitleTooLong) (Ok tt))

-- the greatest id held plus 1, once a task with this id was held; ids have 32 bits
unfoldable pub len_after : ℕ → ℕ → ℕ
len_after count id = cond (nat_lt id count) count ((id + 1) % 2 ^ 32)
