-- An instruction of ours beside the Rust's: which refusal an error is, when a limit that this port adds is reached, and what agrees.
use Rattle.std.specs.Prelude.{ℕ, ◌+◌, ◌<◌, min, ◌≡◌, List, [], ◌∷◌, length, get_or}
use Rattle.std.proofs.Math.Option.{Option, none, some}
use Rattle.errors.specs.declared.Refusal.{Refusal}
use Rattle.errors.specs.declared.Refusal.TheVariants as refusal
use Rattle.image.specs.Image.{ImageTask, Image, written}
use Rattle.slices.specs.Numbers.{Bytes}
use Rattle.machine.specs.World.{World}
use Rattle.machine.specs.Words.{StepResult, next, refused}
use Rattle.rust.specs.Errors.{VMError, TaskNotFound, InvalidInstructionsIndex, StackUnderflow, StackOverflow, MSliceParamOverflow, MSliceOutOfBounds, TypeMismatch, InvalidType, EmptyInstructions, MaxStatesError, InvalidStatus, InvalidTaskField, BytesToStringConversionError, AlignmentMismatch, MultiplicationOverflowed, SliceSizeMismatch, Out, ok, err, panic}
use Rattle.rust.specs.TaskTypes.{TaskVM}
use Rattle.rust.specs.Storage.{get}
use Rattle.rust.specs.Vm.{VM}
use Rattle.agreement.specs.View.{view}

-- the Rust's errors as refusals
abbrev pub refusal_of : VMError → Refusal
refusal_of (TaskNotFound id) = refusal.TaskNotFound id
refusal_of (InvalidInstructionsIndex index) = refusal.InvalidInstructionsIndex index
refusal_of StackUnderflow = refusal.StackUnderflow
refusal_of StackOverflow = refusal.StackOverflow
refusal_of MSliceParamOverflow = refusal.MSliceParamOverflow
refusal_of (MSliceOutOfBounds index size) = refusal.MSliceOutOfBounds index size
refusal_of TypeMismatch = refusal.TypeMismatch
refusal_of InvalidType = refusal.InvalidType
refusal_of EmptyInstructions = refusal.EmptyInstructions
refusal_of MaxStatesError = refusal.MaxStatesError
refusal_of (InvalidStatus state) = refusal.InvalidStatus state
refusal_of (InvalidTaskField field) = refusal.InvalidTaskField field
refusal_of BytesToStringConversionError = refusal.BytesToStringConversionError
refusal_of AlignmentMismatch = refusal.AlignmentMismatch
refusal_of MultiplicationOverflowed = refusal.MultiplicationOverflowed
refusal_of SliceSizeMismatch = refusal.SliceSizeMismatch

-- the bytes of a list of entries
unfoldable pub total_length : List (List ℕ) → ℕ
total_length [] = 0
total_length (entry ∷ entries) = length entry + total_length entries

-- a task of the Rust as the image holds it (docs/REFERENCE.md, 'The task image'), its instructions taken from the pool
abbrev pub image_task : List (List ℕ) → TaskVM → ImageTask
image_task pool task = record {
  id = task.id;
  count = task.state.len;
  state = task.state.state;
  title = task.title;
  instructions = get_or pool task.instructions_ref [];
}

unfoldable pub image_tasks : List (List ℕ) → List (Option TaskVM) → List ImageTask
image_tasks pool [] = []
image_tasks pool (none ∷ tasks) = image_tasks pool tasks
image_tasks pool (some task ∷ tasks) = image_task pool task ∷ image_tasks pool tasks

-- the image of a machine of the Rust
abbrev pub image_of : VM → Image
image_of vm = record { next_id = vm.storage.next_id; tasks = image_tasks vm.instructions_pool vm.storage.tasks_vm }

-- a machine that the Rust goes on to does not fit what is lent to w: 20 to 24, each with its reason
pub data Over (w : World) : Refusal → VM → Type 0 where
  many_tasks : {vm : VM} → 256 < length vm.storage.tasks_vm → Over w refusal.TableFull vm
  long_title : {vm : VM} (id : ℕ) (task : TaskVM) → get vm.storage id ≡ some task → 128 < length task.title → Over w refusal.TitleTooLong vm
  many_entries : {vm : VM} → 1024 < length vm.instructions_pool → Over w refusal.PoolFull vm
  many_bytes : {vm : VM} → min 65536 (length w.pool) < total_length vm.instructions_pool → Over w refusal.PoolFull vm
  long_memory : {vm : VM} → length w.memory < length vm.memory → Over w refusal.MemoryTooShort vm
  long_image : {vm : VM} → length w.save < length (written (image_of vm)) → Over w refusal.SaveBufferTooShort vm

-- from w: on to what the Rust goes on to, or a limit that this port adds is reached; where the Rust errs its error's refusal; where it panics 2
pub data Agree (w : World) : StepResult → Out VM → Type 0 where
  goes_on : (stale : ℕ) {v : World} → Bytes v.pool → Agree w (next v) (ok (view stale v))
  lacks : {r : Refusal} {vm : VM} → Over w r vm → Agree w (refused r) (ok vm)
  errs : (error : VMError) → Agree w (refused (refusal_of error)) (err error)
  panics : Agree w (refused refusal.UnexpectedEOB) panic
