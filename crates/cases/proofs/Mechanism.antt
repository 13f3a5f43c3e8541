-- What the parts of an instruction share, as the code takes it apart, computed on small inputs.
use Prim.Native.Nat.{ℕ}
use mathlib.Core.Bool.{true, false}
use mathlib.Core.List.{List, [], ◌∷◌}
use mathlib.Core.Path.{◌≡◌, refl}
use lib.ListN.{get_or}
use Rattle.errors.specs.declared.Refusal.TheVariants.{StackUnderflow, StackOverflow, InvalidType}
use Rattle.inlinevec.specs.declared.Frame.{Frame}
use Rattle.storage.specs.Tasks.{blank}
use Rattle.machine.specs.declared.Machine.{Machine}
use Rattle.machine.specs.Machines.{current, code_of, with_frames, with_used}
use Rattle.machine.specs.Creation.{new_machine}
use Rattle.mechanism.specs.declared.Registers.{Registers}
use Rattle.mechanism.specs.Changes.{applied}
use Rattle.mechanism.specs.Changes as changes
use Rattle.mechanism.specs.Create.{op_t_delete}
use Rattle.mechanism.specs.Create as creating
use Rattle.mechanism.specs.Act.{keeping}
use Rattle.mechanism.specs.Act as acting
use Rattle.mechanism.specs.declared.Change.{Change}
use Rattle.mechanism.specs.declared.Change.TheVariants.{Keep, Put, Restate}
use Rattle.storage.specs.declared.Task as records
use Rattle.storage.specs.Table as tables
use Rattle.storage.specs.Tasks as tasks
use Rattle.mechanism.specs.Registers.{moved, registers_of, settled}
use Rattle.mechanism.specs.Stack.{pop_two, push_value, finish}
use Rattle.inlinevec.specs.Stacks as stacks
use Rattle.pools.specs.Pool as pools
use Rattle.machine.specs.Machines as machines
use Rattle.mechanism.specs.Registers as registers
use Rattle.mechanism.specs.Stack as stack
use Rattle.std.specs.Prelude.{Ok, Err}

-- three bytes, or three values
abbrev Three : List ℕ
Three = 7 ∷ 8 ∷ 9 ∷ []

-- a frame of entry 0, and one of entry 1
abbrev Main : Frame
Main = record { entry = record { 0 = 0 }; place = 1 }

abbrev Task : Frame
Task = record { entry = record { 0 = 1 }; place = 2 }

-- a machine with so many of them, 3 bytes in its pool and 5 of memory in use
abbrev with_open : ℕ → Machine
with_open count = with_frames (with_used (new_machine 3 2 0 0) 5) (record { count = count; first = Main; second = Task })

-- registers
abbrev at : ℕ → ℕ → Registers
at place height =
    record {
      memory = 9;
      place = place;
      height = height;
      loops = record { count = 0; first = record { place = 0; index = 0; limit = 0 }; second = record { place = 0; index = 0; limit = 0 } };
    }

-- a living task in the first of four states; its slot, alone in the table, after a change
abbrev One : records.Task
One = record blank { living = true; state = record { len = 4; state = 0 } }

abbrev changed : Change → List records.Task
changed change = applied (One ∷ []) 0 change

abbrev first : List records.Task → records.Task
first table = get_or table 0 blank

-- the table
pub record Parts : Type 0 where
  -- a change that keeps the slot puts nothing
  pub keep_puts : changed Keep ≡ One ∷ []
  -- and sets no state
  pub keep_states : (first (changed Keep)).state.state ≡ 0
  -- one that puts a record puts it
  pub put_puts : changed (Put blank) ≡ blank ∷ []
  -- and not its state alone
  pub put_states : (first (changed (Put blank))).living ≡ false
  -- one of the state does not put the record
  pub restate_puts : (first (changed (Restate 3))).living ≡ true
  -- but its state, the one that is given
  pub restate_state : (first (changed (Restate 3))).state.state ≡ 3
  -- a refused instruction has no change
  pub refused_puts : op_t_delete Three (at 6 0) 7 One ≡ Err StackUnderflow
  -- and the refusal is the one that is given
  pub refused_with : keeping (Err StackOverflow) ≡ Err StackOverflow
  -- current: main, where there is no other frame
  pub current_main : current (with_open 1).frames ≡ Main
  -- else the task's
  pub current_task : current (with_open 2).frames ≡ Task
  -- code_of: the entry that this frame names
  pub code_of_main : code_of Three (2 ∷ 3 ∷ []) (with_open 1) ≡ 7 ∷ 8 ∷ []
  -- from its start
  pub code_of_task : code_of Three (2 ∷ 3 ∷ []) (with_open 2) ≡ 9 ∷ []
  -- registers_of: the length of memory in use, and not of the pool
  pub registers_memory : (registers_of (with_open 2)).memory ≡ 5
  -- the place of the frame that runs
  pub registers_place : (registers_of (with_open 2)).place ≡ 2
  -- settled: it goes back into that frame
  pub settled_place : (settled (with_open 2) (at 6 1)).frames.second.place ≡ 6
  -- and the length of memory in use into the machine
  pub settled_memory : (settled (with_open 2) (at 6 1)).memory ≡ 9
  -- the byte at a place
  pub byte_at_2 : get_or Three 2 0 ≡ 9
  -- 0 past the code's end
  pub byte_at_3 : get_or Three 3 0 ≡ 0
  -- moved: the place that is given
  pub moved_place : (moved (at 6 1) 8 2).place ≡ 8
  -- the length of memory in use stays
  pub moved_memory : (moved (at 6 1) 8 2).memory ≡ 9
  -- pop_two: the topmost value first
  pub popped_two : pop_two Three 3 ≡ Ok (9, 8, 1)
  -- of one value alone it is 3
  pub popped_one : pop_two (7 ∷ []) 1 ≡ Err StackUnderflow
  -- push_value: on at the place that is given, one higher than the height
  pub pushed : (push_value (7 ∷ 0 ∷ []) (at 6 1) 8 1 4).result ≡ Ok (at 8 2)
  -- the value at the height
  pub pushed_value : (push_value (7 ∷ 0 ∷ []) (at 6 1) 8 1 4).stack ≡ 7 ∷ 4 ∷ []
  -- finish: a result is pushed
  pub finished : (finish (7 ∷ 0 ∷ []) (at 6 1) 8 1 (Ok 4)).stack ≡ 7 ∷ 4 ∷ []
  -- a refusal is handed on
  pub finished_with : (finish (7 ∷ 0 ∷ []) (at 6 1) 8 1 (Err InvalidType)).result ≡ Err InvalidType

pub parts : Parts
unfolding changes.applied tasks.blank tables.set_state_at tasks.set_state tasks.with_state creating.delete_popped creating.op_t_delete acting.keeping stacks.if_room stacks.if_some stacks.push stacks.pop stacks.last_two stacks.change_two pools.end_of pools.start_of pools.entry_of machines.current machines.with_current machines.code_of registers.registers_of registers.settled stack.pop_second stack.pop_first stack.pop_two stack.pushed_to stack.push_value stack.finish
parts = record {
  keep_puts = refl;
  keep_states = refl;
  put_puts = refl;
  put_states = refl;
  restate_puts = refl;
  restate_state = refl;
  refused_puts = refl;
  refused_with = refl;
  current_main = refl;
  current_task = refl;
  code_of_main = refl;
  code_of_task = refl;
  registers_memory = refl;
  registers_place = refl;
  settled_place = refl;
  settled_memory = refl;
  byte_at_2 = refl;
  byte_at_3 = refl;
  moved_place = refl;
  moved_memory = refl;
  popped_two = refl;
  popped_one = refl;
  pushed = refl;
  pushed_value = refl;
  finished = refl;
  finished_with = refl;
}
