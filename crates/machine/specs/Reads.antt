-- The reads of a value and of a task, and the save by the host.
use Rattle.std.specs.Prelude.{ℕ, Bool, true, false, cond, ◌&&◌, List, ltb, take, get_or, Ok, Err, Result, ⊤}
use Rattle.std.proofs.Math.Option.{Option, none, some}
use Rattle.errors.specs.declared.Refusal.{Refusal}
use Rattle.errors.specs.declared.Refusal.TheVariants.{WrongPhaseOrUnsound}
use Rattle.storage.specs.declared.Task.{Task}
use Rattle.storage.specs.declared.TaskId.{TaskId}
use Rattle.storage.specs.Storage.{slot_of, find}
use Rattle.storage.specs.Tasks.{blank}
use Rattle.image.specs.Table.{SavedTable, save_table, task_refusal}
use Rattle.memory.specs.Unbox.{unbox_value}
use Rattle.memory.specs.declared.unbox.Return.{Return}
use Rattle.machine.specs.declared.Machine.{Machine}
use Rattle.machine.specs.declared.Phase.{Phase}
use Rattle.machine.specs.declared.Phase.TheVariants.{New, Paused, Done, Stopped}
use Rattle.machine.specs.Machines.{with_saved}
use Rattle.machine.specs.World.{World}
use Rattle.machine.specs.Calls.{is_sound}
use Rattle.machine.specs.declared.TaskRead.{TaskRead}
use Rattle.machine.specs.declared.SaveReport.{SaveReport}

-- ---- a value

unfoldable pub is_done : Phase → Bool
is_done New = false
is_done Paused = false
is_done Done = true
is_done Stopped = false

-- 26: an unsound record, a run that is not done, a position past the values
unfoldable pub readable : Machine → Bool → ℕ → Bool
readable machine sound position = sound && (is_done machine.phase && ltb position machine.height)

-- the value at a position, read over the memory in use
unfoldable pub value_at : List ℕ → List ℕ → List ℕ → Machine → Bool → ℕ → Result Return Refusal
value_at stack memory ends machine sound position =
    cond (readable machine sound position) (unbox_value (take machine.memory memory) ends machine.entries (get_or stack position 0))
    (Err WrongPhaseOrUnsound)

-- an answer, and the stack, memory and ends after it
pub record ValueOn : Type 0 where
  pub answer : Result Return Refusal
  pub stack : List ℕ
  pub memory : List ℕ
  pub ends : List ℕ

abbrev pub value_on : Result Return Refusal → List ℕ → List ℕ → List ℕ → ValueOn
value_on answer stack memory ends = record { answer = answer; stack = stack; memory = memory; ends = ends }

-- an answer, and the machine with everything lent to it
pub record Read (A : Type 0) : Type 0 where
  pub answer : A
  pub world : World

abbrev pub read_to : {A : Type 0} → A → World → Read A
read_to answer w = record { answer = answer; world = w }

-- the read of a value changes nothing
unfoldable pub value_read : ℕ → World → Read (Result Return Refusal)
value_read position w = read_to (value_at w.stack w.memory w.ends w.machine (is_sound w) position) w

-- ---- a task: 26, 9, 12, 15

-- readable, unless it is refused
unfoldable pub readable_unless : Option Refusal → Result ⊤ Refusal
readable_unless none = Ok tt
readable_unless (some refusal) = Err refusal

-- 9, then 12 and 15 as S_SAVE has them
unfoldable pub if_found : List ℕ → Machine → Task → Result ⊤ Refusal → Result ⊤ Refusal
if_found ends machine task (Ok tt) = readable_unless (task_refusal ends machine.entries task)
if_found ends machine task (Err refusal) = Err refusal

-- 26 before them
unfoldable pub task_result : List ℕ → Machine → Bool → TaskId → Task → Result ⊤ Refusal
task_result ends machine sound id task = cond sound (if_found ends machine task (find task id)) (Err WrongPhaseOrUnsound)

abbrev pub task_as : Result ⊤ Refusal → Task → TaskRead
task_as result task = record { result = result; task = task }

abbrev pub task_answer : List ℕ → Machine → Bool → TaskId → Task → TaskRead
task_answer ends machine sound id task = task_as (task_result ends machine sound id task) task

-- the task of an id, as its slot holds it
unfoldable pub task_read : TaskId → World → Read TaskRead
task_read id w = read_to (task_answer w.ends w.machine (is_sound w) id (get_or w.table (slot_of id) blank)) w

-- ---- the save by the host: 26, then as S_SAVE

-- the length of the image is kept
unfoldable pub host_saved : Machine → Result ℕ Refusal → SaveReport
host_saved machine (Ok length) = record { machine = with_saved machine length; result = Ok length }
host_saved machine (Err refusal) = record { machine = machine; result = Err refusal }

abbrev pub not_saved : Machine → SaveReport
not_saved machine = record { machine = machine; result = Err WrongPhaseOrUnsound }

-- a report, and everything lent after it
pub record SavedTo : Type 0 where
  pub report : SaveReport
  pub table : List Task
  pub stack : List ℕ
  pub memory : List ℕ
  pub pool : List ℕ
  pub ends : List ℕ
  pub save : List ℕ

abbrev pub saved_to : SaveReport → List Task → List ℕ → List ℕ → List ℕ → List ℕ → List ℕ → SavedTo
saved_to report table stack memory pool ends save =
    record { report = report; table = table; stack = stack; memory = memory; pool = pool; ends = ends; save = save }

abbrev pub host_save_as : World → SavedTable → SavedTo
host_save_as w a = saved_to (host_saved w.machine a.answer) w.table w.stack w.memory w.pool w.ends a.save

unfoldable pub host_save : World → SavedTo
host_save w =
    cond (is_sound w) (host_save_as w (save_table w.machine.next_id.0 w.table w.pool w.ends w.machine.entries w.save))
    (saved_to (not_saved w.machine) w.table w.stack w.memory w.pool w.ends w.save)
