-- storage/task_types.rs: tasks, their states and fields.
use Rattle.std.specs.Prelude.{ℕ, cond, ◌||◌, List, eqb, leb}
use Rattle.utf8.specs.Utf8.{valid}
use Rattle.rust.specs.Errors.{Out, err, MaxStatesError, InvalidStatus, InvalidTaskField, BytesToStringConversionError}
use Rattle.rust.specs.Instructions.{get}

pub record TaskState : Type 0 where
  pub len : ℕ
  pub state : ℕ

pub record Task : Type 0 where
  pub id : ℕ
  pub title : List ℕ
  pub state : TaskState
  pub instructions : List ℕ

pub record TaskVM : Type 0 where
  pub id : ℕ
  pub title : List ℕ
  pub state : TaskState
  pub instructions_ref : ℕ

pub data TaskField : Type 0 where
  Title State Instructions : TaskField

-- what storage is loaded from and saved to
pub record StorageData : Type 0 where
  pub tasks : List Task
  pub next_id : ℕ

module _ {B : Type 0} where
  -- from_utf8 takes what RFC 3629 does, as the crate utf8 defines it
  unfoldable pub to_task : TaskVM → List (List ℕ) → (Task → Out B) → Out B
  to_task task pool onward =
      get pool task.instructions_ref λ instructions.
      cond (valid task.title)
      (onward (record { id = task.id; title = task.title; state = task.state; instructions = instructions }))
      (err BytesToStringConversionError)

  unfoldable pub default : ℕ → (TaskState → Out B) → Out B
  default len onward = cond (eqb len 0) (err MaxStatesError) (onward (record { len = len; state = 0 }))

  unfoldable pub set_state : TaskState → ℕ → (TaskState → Out B) → Out B
  set_state state new_state onward =
      cond (leb state.len new_state || leb 255 new_state) (err (InvalidStatus new_state))
      (onward (record { len = state.len; state = new_state }))

  unfoldable pub try_from : ℕ → (TaskField → Out B) → Out B
  try_from v onward =
      cond (eqb v 0) (onward Title) (cond (eqb v 1) (onward State) (cond (eqb v 2) (onward Instructions) (err (InvalidTaskField v))))
