-- Demand 2, word by word: values, tasks, memory and refusals equal the Rust's wherever the Rust ends without a panic and no limit that this port adds is reached, call after call of a host until a refusal, except where the Rust compares a scalar with a vector, or TRUE with FALSE.
use Rattle.std.specs.Prelude.{ℕ, ◌<◌, Bool, true, false, cond, ◌&&◌, ◌≡◌, List, [], ◌∷◌, leb, ltb, length, get_or}
use Rattle.std.proofs.Math.Option.{Option, none, some}
use Rattle.errors.specs.declared.Refusal.{Refusal}
use Rattle.errors.specs.Refusals.{number_of}
use Rattle.slices.specs.Numbers.{Bytes}
use Rattle.image.specs.Image.{Image, sound, read_image}
use Rattle.inlinevec.specs.Stacks.{values_of}
use Rattle.pools.specs.Pool.{entry_of, entries_of}
use Rattle.storage.specs.declared.Task.{Task}
use Rattle.storage.specs.Tasks.{blank}
use Rattle.machine.specs.declared.Outcome.{Outcome}
use Rattle.machine.specs.declared.Outcome.TheVariants as outcome
use Rattle.machine.specs.declared.Verb.{Verb}
use Rattle.machine.specs.World.{World, memory_in_use}
use Rattle.machine.specs.Step.{step}
use Rattle.machine.specs.Calls.{Reported, call}
use Rattle.machine.specs.History.{FreshWorld, is_created, HostCall, runs, saves, reads_value, reads_task, left_by, world_after}
use Rattle.rust.specs.Errors.{VMError, ok}
use Rattle.rust.specs.TaskTypes.{TaskVM}
use Rattle.rust.specs.Storage.{get}
use Rattle.rust.specs.Vm as rust
use Rattle.rust.specs.Vm.{VM}
use Rattle.rust.specs.Run.{init, Ran, returned, running, failed}
use Rattle.agreement.specs.View.{storage_of, view}
use Rattle.agreement.specs.Agreement.{refusal_of}
use Rattle.agreement.specs.Runs.{rust_call, ReadAlike}
use Rattle.agreement.specs.Creation.{stored}
use Rattle.agreement.specs.Exceptions.{excepted, excepted_answer, rust_excepted_answer, host_call_comes}

-- ---- where it holds

-- the pool that was lent to creation
unfoldable pub lent_pool : {program image : List ℕ} {w : World} → FreshWorld program image w → List ℕ
lent_pool (is_created table pool ends machine stack memory save ends_lent stack_lent answered) = pool

-- a new machine and a new VM of the Rust, of the same program and of the tasks that the image holds; bytes where bytes are lent
pub record Beginning (program image : List ℕ) (first : World) (vm : VM) : Type 0 where
  pub fresh : FreshWorld program image first
  pub pool_bytes : Bytes (lent_pool fresh)
  pub image_bytes : Bytes image
  pub program_bytes : Bytes program
  pub holds : Image
  pub is_read : read_image image ≡ sound holds
  pub is_initialised : init program (stored holds) ≡ ok vm

-- the Rust ends without a panic
pub data RustEnds : Ran → Type 0 where
  it_returns : {values : List ℕ} {vm : VM} → RustEnds (returned values vm)
  it_fails : {error : VMError} {before : VM} → RustEnds (failed error before)

-- the refusals of the limits that this port adds: 20 to 24
unfoldable pub is_added : Refusal → Bool
is_added number = leb 20 (number_of number) && leb (number_of number) 24

-- a run that is refused so meets one
unfoldable pub meets_added : Outcome → Bool
meets_added outcome.Done = false
meets_added outcome.Paused = false
meets_added (outcome.Refused number) = is_added number

-- of the calls a start, a rerun or a continue does; the Rust's host has no save, and no read is refused so
unfoldable pub call_meets : HostCall → World → Bool
call_meets (runs verb fuel) w = meets_added (call verb fuel w).report.outcome
call_meets saves w = false
call_meets (reads_value position) w = false
call_meets (reads_task id) w = false

-- in a history no limit that this port adds is reached, and no run comes to an instruction that is left out
pub data NoneMet : List HostCall → World → Type 0 where
  no_call : {w : World} → NoneMet [] w
  not_met : {one : HostCall} {others : List HostCall} {w : World} → call_meets one w ≡ false → host_call_comes one w ≡ false → NoneMet others (left_by one w) → NoneMet (one ∷ others) w

-- ---- what is equal

-- the instructions of a slot's task: the bytes that its reference names in the pool; none where no task lives there, or no entry is named
unfoldable pub instructions_in : List ℕ → List ℕ → ℕ → Task → Option (List ℕ)
instructions_in pool ends entries slot = cond (slot.living && ltb slot.instructions_ref.0 entries) (some (entry_of pool ends slot.instructions_ref.0)) none

-- those of the task with an id
unfoldable pub instructions_of : World → ℕ → Option (List ℕ)
instructions_of w id = instructions_in w.pool w.ends w.machine.entries (get_or w.table id blank)

-- the instructions of a task of the Rust, likewise
unfoldable pub rust_instructions_in : List (List ℕ) → Option TaskVM → Option (List ℕ)
rust_instructions_in pool none = none
rust_instructions_in pool (some task) = cond (ltb task.instructions_ref (length pool)) (some (get_or pool task.instructions_ref [])) none

-- those of the task with an id
unfoldable pub rust_instructions_of : VM → ℕ → Option (List ℕ)
rust_instructions_of vm id = rust_instructions_in vm.instructions_pool (get vm.storage id)

-- the same tasks and next id, the same memory in use, the same pool as a list of entries, and each task's instructions the same bytes
pub record SameMachine (w : World) (vm : VM) : Type 0 where
  pub tasks : storage_of w.machine.next_id.0 w.machine.count w.table ≡ vm.storage
  pub memory : memory_in_use w ≡ vm.memory
  pub pool : entries_of w.pool w.ends w.machine.entries ≡ vm.instructions_pool
  pub instructions : (id : ℕ) → instructions_of w id ≡ rust_instructions_of vm id

-- the values that a run returned: the same, the last one first, and each read alike
pub record SameValues (w : World) (values : List ℕ) (vm : VM) : Type 0 where
  pub same : values_of w.machine.height w.stack ≡ values
  pub read_alike : ReadAlike w vm

-- done, with the same values and the same machine; or the same refusal, and the same machine as the Rust's before the instruction that failed
pub data Equal (r : Reported) : Ran → Type 0 where
  same_end : {values : List ℕ} {vm : VM} → r.report.outcome ≡ outcome.Done
      → SameValues (world_after r) values vm
      → SameMachine (world_after r) vm
      → Equal r (returned values vm)
  same_refusal : {error : VMError} {before : VM} → r.report.outcome ≡ outcome.Refused (refusal_of error)
      → SameMachine (world_after r) before
      → Equal r (failed error before)

-- ---- up to the first instruction that is left out

-- a call that comes to one: so many instructions before it, both machines are in a run and the same, and what each of them answers then
pub record UpTo (verb : Verb) (fuel : ℕ) (w : World) (ran : Ran) : Type 0 where
  pub finished : ℕ
  pub fewer : finished < fuel
  pub paused : (call verb finished w).report.outcome ≡ outcome.Paused
  pub stale : ℕ
  pub same : rust_call verb finished ran ≡ running (view stale (world_after (call verb finished w)))
  pub left_out : excepted (world_after (call verb finished w)) ≡ true
  pub answer : step (world_after (call verb finished w)) ≡ excepted_answer (world_after (call verb finished w))
  pub rust_answer : rust.step (view stale (world_after (call verb finished w))) ≡ rust_excepted_answer stale (world_after (call verb finished w))

-- ---- between two calls

-- the machine that the Rust rests with, is in a run with, or had before the instruction that failed
pub data MachineOf : Ran → VM → Type 0 where
  it_rests : {values : List ℕ} {vm : VM} → MachineOf (returned values vm) vm
  in_a_run : {vm : VM} → MachineOf (running vm) vm
  before_failing : {error : VMError} {before : VM} → MachineOf (failed error before) before
