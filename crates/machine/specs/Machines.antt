-- The machine's record: the frame that runs, its code, its place, where main begins, and the record with a part of it changed.
use Rattle.std.specs.Prelude.{ℕ, List, get_or}
use Rattle.inlinevec.specs.Stacks.{last_two, change_two}
use Rattle.inlinevec.specs.declared.Loop.{Loop}
use Rattle.inlinevec.specs.declared.Frame.{Frame}
use Rattle.pools.specs.Pool.{entry_of}
use Rattle.machine.specs.declared.Machine.{Machine}
use Rattle.inlinevec.specs.declared.Two.{Two}

-- the frame that runs: the last one
unfoldable pub current : Two Frame → Frame
current frames = last_two frames

-- the frames with another one that runs
unfoldable pub with_current : Two Frame → Frame → Two Frame
with_current frames frame = (change_two frames frame)

-- the code that runs: the entry that this frame names
unfoldable pub code_of : List ℕ → List ℕ → Machine → List ℕ
code_of pool ends machine = entry_of pool ends (current machine.frames).entry.0

-- the opcode at its place; 0 at or past its end
unfoldable pub op_at : List ℕ → List ℕ → Machine → ℕ
op_at pool ends machine = get_or (code_of pool ends machine) (current machine.frames).place 0

-- ---- where main begins

-- no loop is open
abbrev pub no_loop : Loop
no_loop = record { place = 0; index = 0; limit = 0 }

abbrev pub no_loops : Two Loop
no_loops = record { count = 0; first = no_loop; second = no_loop }

-- one frame: main, at its start
abbrev pub main_alone : Two Frame → Two Frame
main_alone frames = record { count = 1; first = record { entry = frames.first.entry; place = 0 }; second = frames.second }

-- ---- the machine with a part of it changed

-- at another place of its code, with another height
unfoldable pub placed : Machine → ℕ → ℕ → Machine
placed machine place height = record {
  phase = machine.phase;
  height = height;
  loops = machine.loops;
  frames = with_current machine.frames (record { entry = (current machine.frames).entry; place = place });
  memory = machine.memory;
  pool = machine.pool;
  entries = machine.entries;
  next_id = machine.next_id;
  count = machine.count;
  saved = machine.saved;
}

-- at its code's start
unfoldable pub rewound : Machine → Machine
rewound machine = placed machine 0 machine.height

-- with other loops, another length of memory in use, another pool, other frames, other ids, another saved length
abbrev pub with_loops : Machine → Two Loop → Machine
with_loops machine loops = record {
  phase = machine.phase;
  height = machine.height;
  loops = loops;
  frames = machine.frames;
  memory = machine.memory;
  pool = machine.pool;
  entries = machine.entries;
  next_id = machine.next_id;
  count = machine.count;
  saved = machine.saved;
}

abbrev pub with_used : Machine → ℕ → Machine
with_used machine used = record {
  phase = machine.phase;
  height = machine.height;
  loops = machine.loops;
  frames = machine.frames;
  memory = used;
  pool = machine.pool;
  entries = machine.entries;
  next_id = machine.next_id;
  count = machine.count;
  saved = machine.saved;
}

abbrev pub with_pool : Machine → ℕ → ℕ → Machine
with_pool machine bytes entries = record {
  phase = machine.phase;
  height = machine.height;
  loops = machine.loops;
  frames = machine.frames;
  memory = machine.memory;
  pool = bytes;
  entries = entries;
  next_id = machine.next_id;
  count = machine.count;
  saved = machine.saved;
}

abbrev pub with_frames : Machine → Two Frame → Machine
with_frames machine frames = record {
  phase = machine.phase;
  height = machine.height;
  loops = machine.loops;
  frames = frames;
  memory = machine.memory;
  pool = machine.pool;
  entries = machine.entries;
  next_id = machine.next_id;
  count = machine.count;
  saved = machine.saved;
}

abbrev pub with_ids : Machine → ℕ → ℕ → Machine
with_ids machine next_id count = record {
  phase = machine.phase;
  height = machine.height;
  loops = machine.loops;
  frames = machine.frames;
  memory = machine.memory;
  pool = machine.pool;
  entries = machine.entries;
  next_id = record { 0 = next_id };
  count = count;
  saved = machine.saved;
}

abbrev pub with_saved : Machine → ℕ → Machine
with_saved machine saved = record {
  phase = machine.phase;
  height = machine.height;
  loops = machine.loops;
  frames = machine.frames;
  memory = machine.memory;
  pool = machine.pool;
  entries = machine.entries;
  next_id = machine.next_id;
  count = machine.count;
  saved = saved;
}

-- at main, place 0, with an empty control stack
abbrev pub at_main : Machine → Machine
at_main machine = with_frames (with_loops machine no_loops) (main_alone machine.frames)
