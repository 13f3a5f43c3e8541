-- A machine and everything lent to it.
use Rattle.std.specs.Prelude.{ℕ, Bool, List, leb, length, take, set}
use Rattle.storage.specs.Storage.{slot_of}
use Rattle.storage.specs.declared.Task.{Task}
use Rattle.storage.specs.declared.TaskId.{TaskId}
use Rattle.machine.specs.declared.Machine.{Machine}
use Rattle.machine.specs.Machines.{current, code_of, op_at, placed, with_loops, with_used, with_pool, with_frames, with_ids, with_saved}
use Rattle.inlinevec.specs.declared.Two.{Two}
use Rattle.inlinevec.specs.declared.Loop.{Loop}
use Rattle.inlinevec.specs.declared.Frame.{Frame}

-- the record, then what is lent at each call, in this order
pub record World : Type 0 where
  pub machine : Machine
  pub table : List Task
  pub stack : List ℕ
  pub memory : List ℕ
  pub pool : List ℕ
  pub ends : List ℕ
  pub save : List ℕ

-- these seven together
abbrev pub world : Machine → List Task → List ℕ → List ℕ → List ℕ → List ℕ → List ℕ → World
world machine table stack memory pool ends save =
    record { machine = machine; table = table; stack = stack; memory = memory; pool = pool; ends = ends; save = save }

-- ---- what an instruction looks at

-- the code that runs, the place in it, and the opcode there
abbrev pub code : World → List ℕ
code w = code_of w.pool w.ends w.machine

abbrev pub place : World → ℕ
place w = (current w.machine.frames).place

abbrev pub op : World → ℕ
op w = op_at w.pool w.ends w.machine

-- at or past the code's end
unfoldable pub at_end : World → Bool
at_end w = leb (length (code w)) (place w)

-- the height of the stack
abbrev pub height : World → ℕ
height w = w.machine.height

-- the memory in use
abbrev pub memory_in_use : World → List ℕ
memory_in_use w = take w.machine.memory w.memory

-- ---- the world with a part of it changed

-- another record
abbrev pub with_machine : World → Machine → World
with_machine w machine = world machine w.table w.stack w.memory w.pool w.ends w.save

-- another place of the code, and another height
abbrev pub moved : World → ℕ → ℕ → World
moved w place height = with_machine w (placed w.machine place height)

-- other values
abbrev pub with_stack : World → List ℕ → World
with_stack w stack = world w.machine w.table stack w.memory w.pool w.ends w.save

-- other memory, and how much of it is in use
abbrev pub with_memory : World → List ℕ → ℕ → World
with_memory w memory used = world (with_used w.machine used) w.table w.stack memory w.pool w.ends w.save

-- other open loops, other frames
abbrev pub looping : World → Two Loop → World
looping w loops = with_machine w (with_loops w.machine loops)

abbrev pub framed : World → Two Frame → World
framed w frames = with_machine w (with_frames w.machine frames)

-- another pool: its bytes and ends, and how many bytes and entries are in use
abbrev pub pooling : World → List ℕ → List ℕ → ℕ → ℕ → World
pooling w pool ends bytes entries = world (with_pool w.machine bytes entries) w.table w.stack w.memory pool ends w.save

-- another record of a task
abbrev pub with_task : World → TaskId → Task → World
with_task w id task = world w.machine (set w.table (slot_of id) task) w.stack w.memory w.pool w.ends w.save

-- another next id, and S_LEN count
abbrev pub numbering : World → ℕ → ℕ → World
numbering w next_id count = with_machine w (with_ids w.machine next_id count)

-- a saved image of a length
abbrev pub with_save : World → List ℕ → ℕ → World
with_save w save length = world (with_saved w.machine length) w.table w.stack w.memory w.pool w.ends save
