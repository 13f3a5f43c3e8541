-- What a host does with a machine: it is created, then started, rerun, continued, saved and read, in any order and as often as the host likes.
use Rattle.std.specs.Prelude.{ℕ, List, [], ◌∷◌, ◌≡◌, length, Ok}
use Rattle.storage.specs.declared.Task.{Task}
use Rattle.storage.specs.declared.TaskId.{TaskId}
use Rattle.machine.specs.declared.Machine.{Machine}
use Rattle.machine.specs.declared.Verb.{Verb}
use Rattle.machine.specs.World.{World, world}
use Rattle.machine.specs.Calls.{Reported, call}
use Rattle.machine.specs.Reads.{SavedTo, host_save, value_read, task_read}
use Rattle.machine.specs.Creation.{Made, create}

-- ---- what a call leaves

-- a start, a rerun or a continue
abbrev pub world_after : Reported → World
world_after r = world r.report.machine r.table r.stack r.memory r.pool r.ends r.save

-- a save by the host
abbrev pub world_saved : SavedTo → World
world_saved r = world r.report.machine r.table r.stack r.memory r.pool r.ends r.save

-- creation, with the stack, memory and save buffer that the machine is lent from then on
abbrev pub new_world : Machine → Made → List ℕ → List ℕ → List ℕ → World
new_world machine made stack memory save = world machine made.table stack memory made.pool made.ends save

-- ---- a machine from its creation on

-- a fresh machine, created for a program and an image over any table and pool; 1,024 ends and 1,000 words of stack are what the types say
pub data FreshWorld (program image : List ℕ) : World → Type 0 where
  is_created : (table : List Task) (pool ends : List ℕ) (machine : Machine) (stack memory save : List ℕ) → length ends ≡ 1024 → length stack ≡ 1000
      → (create table pool ends image program).answer ≡ Ok machine
      → FreshWorld program image (new_world machine (create table pool ends image program) stack memory save)

-- a call of the host: a start, a rerun or a continue with its fuel, a save, the read of a value by its position, the read of a task by its id
pub data HostCall : Type 0 where
  runs : Verb → ℕ → HostCall
  saves : HostCall
  reads_value : ℕ → HostCall
  reads_task : TaskId → HostCall

-- what it leaves, allowed or not
unfoldable pub left_by : HostCall → World → World
left_by (runs verb fuel) w = world_after (call verb fuel w)
left_by saves w = world_saved (host_save w)
left_by (reads_value position) w = (value_read position w).world
left_by (reads_task id) w = (task_read id w).world

-- one call after the other, the first one first; nobody else writes the lent bytes between them
unfoldable pub history : List HostCall → World → World
history [] w = w
history (one ∷ others) w = history others (left_by one w)
