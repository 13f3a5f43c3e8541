-- The words that the opcodes are defined in. Each goes on with what it finds, or refuses; a refusal carries no world, so it leaves everything as it was.
use Rattle.std.specs.Prelude.{ℕ, ◌+◌, Bool, cond, List, ltb, leb, length, set, get_or, Ok, Err, Result, ⊤}
use Rattle.errors.specs.declared.Refusal.{Refusal}
use Rattle.errors.specs.declared.Refusal.TheVariants.{UnexpectedEOB, StackOverflow}
use Rattle.bytecode.specs.Operands as bytecode
use Rattle.inlinevec.specs.Stacks as stacks
use Rattle.inlinevec.specs.declared.Loop.{Loop}
use Rattle.inlinevec.specs.declared.Frame.{Frame}
use Rattle.values.specs.Values.{to_fat_pointer}
use Rattle.values.specs.declared.FatPointer.{FatPointer}
use Rattle.memory.specs.Allocation as memory
use Rattle.memory.specs.Change.{inside}
use Rattle.memory.specs.Reads.{get_slice_bytes, outside}
use Rattle.pools.specs.Pool as pools
use Rattle.pools.specs.declared.InstructionsRef.{InstructionsRef}
use Rattle.storage.specs.Storage as storage
use Rattle.storage.specs.Tasks.{blank}
use Rattle.storage.specs.declared.Task.{Task}
use Rattle.storage.specs.declared.TaskId.{TaskId}
use Rattle.storage.specs.declared.TaskState.{TaskState}
use Rattle.machine.specs.World.{World, code, place, memory_in_use, moved, with_stack, with_memory, pooling}
use Rattle.inlinevec.specs.declared.Two.{Two}

-- what an instruction leaves, or its refusal
pub data StepResult : Type 0 where
  next : World → StepResult
  refused : Refusal → StepResult

-- on if a test holds
unfoldable pub test : Bool → Refusal → StepResult → StepResult
test holds refusal onward = cond holds onward (refused refusal)

-- ---- the code: 2

unfoldable pub operand_found : Result ℕ Refusal → (ℕ → StepResult) → StepResult
operand_found (Ok number) onward = onward number
operand_found (Err refusal) onward = refused refusal

-- the operand of so many bytes, so many bytes behind the opcode
abbrev pub operand : World → ℕ → ℕ → (ℕ → StepResult) → StepResult
operand w behind size onward = operand_found (bytecode.operand size (code w) (place w + behind)) onward

-- so many bytes of data stand there
abbrev pub has_data : World → ℕ → ℕ → StepResult → StepResult
has_data w behind size onward = test (leb (place w + behind + size) (length (code w))) UnexpectedEOB onward

-- ---- the stack: 3, 4

unfoldable pub popped : Result (ℕ × ℕ) Refusal → (ℕ → ℕ → StepResult) → StepResult
popped (Ok (value, below)) onward = onward value below
popped (Err refusal) onward = refused refusal

-- the value below a height, and the height without it
abbrev pub pop : World → ℕ → (ℕ → ℕ → StepResult) → StepResult
pop w height onward = popped (stacks.pop w.stack height) onward

unfoldable pub looked_at : Result ℕ Refusal → (ℕ → StepResult) → StepResult
looked_at (Ok value) onward = onward value
looked_at (Err refusal) onward = refused refusal

-- the value below a height, which stays
abbrev pub last : World → ℕ → (ℕ → StepResult) → StepResult
last w height onward = looked_at (stacks.last w.stack height) onward

-- a value at a height, and on at a place
unfoldable pub push : World → ℕ → ℕ → ℕ → StepResult
push w to height value = test (ltb height 1000) StackOverflow (next (moved (with_stack w (set w.stack height value)) to (height + 1)))

-- ---- values: 5, 6, 7, 13, 14

-- what a calculation answers
unfoldable pub calculated : Result ℕ Refusal → (ℕ → StepResult) → StepResult
calculated (Ok value) onward = onward value
calculated (Err refusal) onward = refused refusal

unfoldable pub pointed : Result FatPointer Refusal → (FatPointer → StepResult) → StepResult
pointed (Ok vector) onward = onward vector
pointed (Err refusal) onward = refused refusal

-- a vector's offset and size
abbrev pub pointer : ℕ → (FatPointer → StepResult) → StepResult
pointer value onward = pointed (to_fat_pointer value) onward

-- ---- memory: 5, 13, 23, 14

-- the bytes of a vector, which lies in the memory in use
unfoldable pub bytes_of : World → FatPointer → (List ℕ → StepResult) → StepResult
bytes_of w vector onward = test (inside (memory_in_use w) vector) (outside vector) (onward (get_slice_bytes (memory_in_use w) vector))

unfoldable pub allocated : World → ℕ → ℕ → List ℕ → Result (ℕ × ℕ) Refusal → StepResult
allocated w to height memory (Ok (value, used)) = next (moved (with_memory (with_stack w (set w.stack height value)) memory used) to (height + 1))
allocated w to height memory (Err refusal) = refused refusal

-- a new vector at a height, and on at a place: 5 or 13, then 4, then 23
unfoldable pub store : World → ℕ → ℕ → ℕ → ℕ → List ℕ → StepResult
store w to height size tag payload =
    calculated (memory.vector w.machine.memory size tag) λ value.
    test (ltb height 1000) StackOverflow
    (allocated w to height
    (memory.alloc w.memory payload w.machine.memory size tag).memory
    (memory.alloc w.memory payload w.machine.memory size tag).answer)

-- an element of a vector is changed
unfoldable pub element_changed : Result ⊤ Refusal → StepResult → StepResult
element_changed (Ok tt) onward = onward
element_changed (Err refusal) onward = refused refusal

-- ---- loops and frames: 3, 4

-- a loop one round on
abbrev pub next_round : Loop → Loop
next_round last = record { place = last.place; index = last.index + 1; limit = last.limit }

unfoldable pub loop_pushed : Result (Two Loop) Refusal → (Two Loop → StepResult) → StepResult
loop_pushed (Ok loops) onward = onward loops
loop_pushed (Err refusal) onward = refused refusal

-- one open loop more
abbrev pub push_loop : Two Loop → Loop → (Two Loop → StepResult) → StepResult
push_loop loops opened onward = loop_pushed (stacks.push_onto loops opened) onward

unfoldable pub loop_popped : Result (Loop × Two Loop) Refusal → (Loop → Two Loop → StepResult) → StepResult
loop_popped (Ok (innermost, others)) onward = onward innermost others
loop_popped (Err refusal) onward = refused refusal

-- the innermost loop, and the others
abbrev pub pop_loop : Two Loop → (Loop → Two Loop → StepResult) → StepResult
pop_loop loops onward = loop_popped (stacks.pop_off loops) onward

unfoldable pub loop_looked_at : Result Loop Refusal → (Loop → StepResult) → StepResult
loop_looked_at (Ok innermost) onward = onward innermost
loop_looked_at (Err refusal) onward = refused refusal

-- the innermost loop, which stays
abbrev pub last_loop : Two Loop → (Loop → StepResult) → StepResult
last_loop loops onward = loop_looked_at (stacks.last_on loops) onward

unfoldable pub frame_pushed : Result (Two Frame) Refusal → (Two Frame → StepResult) → StepResult
frame_pushed (Ok frames) onward = onward frames
frame_pushed (Err refusal) onward = refused refusal

-- one frame more
abbrev pub push_frame : Two Frame → Frame → (Two Frame → StepResult) → StepResult
push_frame frames entered onward = frame_pushed (stacks.push_onto frames entered) onward

unfoldable pub frame_popped : Result (Frame × Two Frame) Refusal → (Two Frame → StepResult) → StepResult
frame_popped (Ok (frame, others)) onward = onward others
frame_popped (Err refusal) onward = refused refusal

-- the frames without the last one
abbrev pub pop_frame : Two Frame → (Two Frame → StepResult) → StepResult
pop_frame frames onward = frame_popped (stacks.pop_off frames) onward

-- ---- the pool: 12, 22

unfoldable pub bounds_found : Result (ℕ × ℕ) Refusal → (ℕ → ℕ → StepResult) → StepResult
bounds_found (Ok (start, end)) onward = onward start end
bounds_found (Err refusal) onward = refused refusal

-- where an entry starts and ends
abbrev pub bounds : World → InstructionsRef → (ℕ → ℕ → StepResult) → StepResult
bounds w entry onward = bounds_found (pools.bounds w.ends w.machine.entries entry) onward

unfoldable pub interned : World → pools.Pooled → Result (InstructionsRef × ℕ) Refusal → (InstructionsRef → World → StepResult) → StepResult
interned w after (Ok (entry, bytes)) onward = onward entry (pooling w after.pool after.ends bytes (entry.0 + 1))
interned w after (Err refusal) onward = refused refusal

-- one entry more, and the world with it
abbrev pub intern : World → List ℕ → (InstructionsRef → World → StepResult) → StepResult
intern w calldata onward =
    interned w (pools.interned w.pool w.ends w.machine.pool w.machine.entries calldata)
    (pools.interned w.pool w.ends w.machine.pool w.machine.entries calldata).answer onward

-- ---- tasks: 8, 9, 11, 20, 21

-- the record of an id, which is blank where there is no such task
abbrev pub task_of : World → TaskId → Task
task_of w id = get_or w.table (storage.slot_of id) blank

unfoldable pub found : Result ⊤ Refusal → StepResult → StepResult
found (Ok tt) onward = onward
found (Err refusal) onward = refused refusal

-- a living task
abbrev pub find : World → TaskId → (Task → StepResult) → StepResult
find w id onward = found (storage.find (task_of w id) id) (onward (task_of w id))

-- the first of a task's states
unfoldable pub first_state : Result TaskState Refusal → (TaskState → StepResult) → StepResult
first_state (Ok state) onward = onward state
first_state (Err refusal) onward = refused refusal

-- a task has such a state
unfoldable pub has_state : Result ⊤ Refusal → StepResult → StepResult
has_state (Ok tt) onward = onward
has_state (Err refusal) onward = refused refusal

unfoldable pub with_room : Result ⊤ Refusal → StepResult → StepResult
with_room (Ok tt) onward = onward
with_room (Err refusal) onward = refused refusal

-- one more task, with a title of so many bytes, has room
abbrev pub room : World → ℕ → StepResult → StepResult
room w title onward = with_room (storage.room w.machine.next_id.0 title) onward

-- ---- a save: 12, 15, 24

unfoldable pub saved : Result ℕ Refusal → (ℕ → StepResult) → StepResult
saved (Ok length) onward = onward length
saved (Err refusal) onward = refused refusal
