-- The task that T_CREATE makes has the reference that its program pushed last.
use Rattle.std.proofs.Common.{◌≡◌, ℕ, ◌%◌, true}
use Rattle.inlinevec.specs.Stacks as stacks
use Rattle.values.specs.Values.{to_u32, to_fat_pointer}
use Rattle.values.specs.declared.FatPointer.{FatPointer}
use Rattle.memory.specs.Change.{inside}
use Rattle.memory.specs.Reads.{get_slice_bytes}
use Rattle.storage.specs.Storage as storage
use Rattle.storage.specs.Tasks.{default_state, new_task}
use Rattle.storage.specs.declared.TaskState.{TaskState}
use Rattle.machine.specs.Opcodes.{t_create, onward, next_id, with_next_task}
use Rattle.machine.specs.Words.{next, popped, first_state, pointed, test, bytes_of, with_room}
use Rattle.machine.specs.World.{World, height, memory_in_use}
use Rattle.std.specs.Prelude.{Ok}

pub created : (w : World) (reference above count below title left : ℕ) (state : TaskState) (vector : FatPointer)
    → stacks.pop w.stack (height w) ≡ Ok (reference, above) → stacks.pop w.stack above ≡ Ok (count, below) → default_state (to_u32 count % 256) ≡ Ok state
    → stacks.pop w.stack below ≡ Ok (title, left) → to_fat_pointer title ≡ Ok vector → inside (memory_in_use w) vector ≡ true → storage.room (next_id w).0 vector.size ≡ Ok tt
    → t_create w ≡ next (with_next_task (onward w left) (new_task (next_id w) (get_slice_bytes (memory_in_use w) vector) state (record { 0 = to_u32 reference })))
unfolding t_create popped first_state pointed test bytes_of with_room
created w reference above count below title left state vector first second made third lies within has = simp (first, second, made, third, lies, within, has)
