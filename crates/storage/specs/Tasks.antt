-- Task records: the blank one, a new one, a title as a record holds it, and the change of a state.
use Rattle.std.specs.Prelude.{ℕ, min, true, false, cond, List, ◌++◌, length, take, replicate, ◌==◌, nat_le, Ok, Err, Result, ⊤}
use Rattle.errors.specs.declared.Refusal.TheVariants.{MaxStatesError, InvalidStatus}
use Rattle.pools.specs.declared.InstructionsRef.{InstructionsRef}
use Rattle.storage.specs.declared.TaskId.{TaskId}
use Rattle.storage.specs.declared.TaskState.{TaskState}
use Rattle.storage.specs.declared.Task.{Task}
use Rattle.storage.specs.declared.StateChange.{StateChange}
use Rattle.errors.specs.declared.Refusal.{Refusal}

-- the 128 title bytes of no title
unfoldable pub no_title : List ℕ
no_title = replicate 128 0

-- the record of a slot that is not living
unfoldable pub blank : Task
blank = record {
  living = false;
  id = record { 0 = 0 };
  state = record { len = 0; state = 0 };
  instructions_ref = record { 0 = 0 };
  title_len = 0;
  title = no_title;
}

-- the first of so many states: 8 where there is none
unfoldable pub default_state : ℕ → Result TaskState Refusal
default_state len = cond (len == 0) (Err MaxStatesError) (Ok (record { len = len; state = 0 }))

-- a state byte, and the answer to setting it
abbrev pub stated : ℕ → Result ⊤ Refusal → StateChange
stated state answer = record { state = state; answer = answer }

-- 11, with the whole number that was asked for
abbrev pub no_such_state : ℕ → Result ⊤ Refusal
no_such_state new_state = Err (InvalidStatus new_state)

-- setting a state: refused where the task has no such state, or it is 255
unfoldable pub with_state : TaskState → ℕ → StateChange
with_state state new_state =
    cond (nat_le state.len new_state) (stated state.state (no_such_state new_state))
    (cond (nat_le 255 new_state) (stated state.state (no_such_state new_state)) (stated new_state (Ok tt)))

-- a title as a record holds it: its first 128 bytes, zeros behind
unfoldable pub title_of : List ℕ → List ℕ
title_of bytes = take 128 (bytes ++ no_title)

-- a living task with a title
unfoldable pub new_task : TaskId → List ℕ → TaskState → InstructionsRef → Task
new_task id title state instructions_ref = record {
  living = true;
  id = id;
  state = state;
  instructions_ref = instructions_ref;
  title_len = min 128 (length title);
  title = title_of title;
}

-- the task with another state byte
abbrev pub restated : Task → ℕ → Task
restated task state = record {
  living = task.living;
  id = task.id;
  state = record { len = task.state.len; state = state };
  instructions_ref = task.instructions_ref;
  title_len = task.title_len;
  title = task.title;
}

-- an answer, and what was lent as it is afterwards
pub record After (A B : Type 0) : Type 0 where
  pub answer : A
  pub lent : B

-- the two together
abbrev pub after : {A B : Type 0} → A → B → After A B
after answer lent = record { answer = answer; lent = lent }

-- a task put into a state: the state byte alone is written
unfoldable pub set_state : Task → ℕ → After (Result ⊤ Refusal) Task
set_state task new_state = after (with_state task.state new_state).answer (restated task (with_state task.state new_state).state)
