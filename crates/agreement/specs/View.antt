-- What a machine with everything lent to it shows as a machine of the Rust.
use Rattle.std.specs.Prelude.{ℕ, cond, List, [], ◌∷◌, map, eqb, take}
use Rattle.std.proofs.Math.Option.{Option, none, some}
use Rattle.inlinevec.specs.Stacks.{values_of, loops_of}
use Rattle.inlinevec.specs.declared.Loop.{Loop}
use Rattle.inlinevec.specs.declared.Frame.{Frame}
use Rattle.pools.specs.Pool.{entries_of}
use Rattle.storage.specs.declared.Task.{Task}
use Rattle.machine.specs.Machines.{current}
use Rattle.machine.specs.World.{World}
use Rattle.rust.specs.TaskTypes.{TaskVM}
use Rattle.rust.specs.Storage.{Storage}
use Rattle.rust.specs.Vm.{VM, InstructionsFrame}
use Rattle.inlinevec.specs.declared.Two.{Two}

-- a frame
abbrev pub frame_of : Frame → InstructionsFrame
frame_of frame = record { instructions_ref = frame.entry.0; pc = frame.place }

-- the frames below the current one
unfoldable pub callers : Two Frame → List InstructionsFrame
callers frames = cond (eqb frames.count 1) [] (frame_of frames.first ∷ [])

-- a living slot is a task
abbrev pub held : Task → TaskVM
held task = record {
  id = task.id.0;
  title = take task.title_len task.title;
  state = record { len = task.state.len; state = task.state.state };
  instructions_ref = task.instructions_ref.0;
}

unfoldable pub task_in_slot : Task → Option TaskVM
task_in_slot task = cond task.living (some (held task)) none

-- the slots below the S_LEN count
unfoldable pub storage_of : ℕ → ℕ → List Task → Storage
storage_of next_id count table = record { tasks_vm = take count (map task_in_slot table); next_id = next_id }

-- the current frame, the pc that the Rust's call_stack still has for it, the frames below, stack, loops, memory in use, pool, storage
abbrev pub shown : InstructionsFrame → ℕ → List InstructionsFrame → List ℕ → List Loop → List ℕ → List (List ℕ) → Storage → VM
shown frame stale below stack control_stack memory pool storage = record {
  stack = stack;
  control_stack = control_stack;
  storage = storage;
  instructions_pool = pool;
  call_stack = record { instructions_ref = frame.instructions_ref; pc = stale } ∷ below;
  memory = memory;
  instructions_ref = frame.instructions_ref;
  pc = frame.pc;
}

-- the stale pc is written before it is read
unfoldable pub view : ℕ → World → VM
view stale w =
    shown (frame_of (current w.machine.frames)) stale (callers w.machine.frames)
    (values_of w.machine.height w.stack)
    (loops_of w.machine.loops)
    (take w.machine.memory w.memory)
    (entries_of w.pool w.ends w.machine.entries)
    (storage_of w.machine.next_id.0 w.machine.count w.table)
