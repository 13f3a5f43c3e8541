-- A read of a value beside the Rust's unbox_value, the kind and the part of memory or of the pool; a read of a task beside its print_task.
use Rattle.std.specs.Prelude.{ℕ, ◌/◌, ◌%◌, Bool, true, ◌≡◌, List, take, Ok, Err, Result}
use Rattle.errors.specs.declared.Refusal.TheVariants as refusal
use Rattle.values.specs.Values.{is_vec, raw_tag, fat_pointer}
use Rattle.values.specs.declared.FatPointer.{FatPointer}
use Rattle.pools.specs.Pool.{entry_of}
use Rattle.pools.specs.declared.InstructionsRef.{InstructionsRef}
use Rattle.memory.specs.Reads.{get_slice_bytes}
use Rattle.memory.specs.declared.unbox.Return.{Return}
use Rattle.memory.specs.declared.unbox.Return.TheVariants as ours
use Rattle.storage.specs.declared.Task.{Task}
use Rattle.machine.specs.declared.TaskRead.{TaskRead}
use Rattle.machine.specs.Reads.{task_as}
use Rattle.rust.specs.Errors.{VMError, TaskNotFound, InvalidInstructionsIndex, BytesToStringConversionError, Out, ok, err}
use Rattle.rust.specs.Memory.{words}
use Rattle.rust.specs.TaskTypes as rust-task
use Rattle.rust.specs.Unbox as rust
use Rattle.agreement.specs.Agreement.{refusal_of}
use Rattle.errors.specs.declared.Refusal.{Refusal}

-- over memory in use, the pool and its ends
pub data Reads (memory pool ends : List ℕ) : Result Return Refusal → Out rust.Return → Type 0 where
  number : (n : ℕ) → Reads memory pool ends (Ok (ours.U32 n)) (ok (rust.U32 n))
  truth : (b : Bool) → Reads memory pool ends (Ok (ours.Boolean b)) (ok (rust.Truth b))
  text : (pointer : FatPointer) → Reads memory pool ends (Ok (ours.String pointer)) (ok (rust.String (get_slice_bytes memory pointer)))
  calldata : (entry : InstructionsRef) → Reads memory pool ends (Ok (ours.CallData entry)) (ok (rust.CallData (entry_of pool ends entry.0)))
  numbers : (pointer : FatPointer) → Reads memory pool ends (Ok (ours.VecU32 pointer)) (ok (rust.VecU32 (words (pointer.size / 4) (get_slice_bytes memory pointer))))
  null : Reads memory pool ends (Ok ours.Null) (ok rust.Null)
  refused : (error : VMError) → Reads memory pool ends (Err (refusal_of error)) (err error)

-- a vector of numbers starts at a multiple of 4
abbrev pub Aligned : ℕ → Type 0
Aligned value = is_vec value ≡ true → raw_tag value ≡ 6 → (fat_pointer value).offset % 4 ≡ 0

-- what the Rust copies of a slot: id, title, state with its count, and the instructions that its reference names in the pool
abbrev pub printed : List ℕ → List ℕ → Task → rust-task.Task
printed pool ends slot = record {
  id = slot.id.0;
  title = take slot.title_len slot.title;
  state = record { len = slot.state.len; state = slot.state.state };
  instructions = entry_of pool ends slot.instructions_ref.0;
}

-- over the pool and its ends: the task, or 9 with its id, 12 with the reference, 15
pub data TaskReads (pool ends : List ℕ) : TaskRead → Out rust-task.Task → Type 0 where
  readable : (slot : Task) → TaskReads pool ends (task_as (Ok tt) slot) (ok (printed pool ends slot))
  no_task : (id : ℕ) (slot : Task) → TaskReads pool ends (task_as (Err (refusal.TaskNotFound id)) slot) (err (TaskNotFound id))
  no_entry : (reference : ℕ) (slot : Task) → TaskReads pool ends (task_as (Err (refusal.InvalidInstructionsIndex reference)) slot) (err (InvalidInstructionsIndex reference))
  no_text : (slot : Task) → TaskReads pool ends (task_as (Err refusal.BytesToStringConversionError) slot) (err BytesToStringConversionError)
