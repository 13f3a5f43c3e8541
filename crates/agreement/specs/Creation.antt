-- Creation beside the Rust's init: what an image holds as what tasks.bin decodes to, and what both answer.
use Rattle.std.specs.Prelude.{ℕ, ◌<◌, min, List, map, ◌≡◌, length, Ok, Err}
use Rattle.errors.specs.declared.Refusal.TheVariants as refusal
use Rattle.image.specs.Image.{ImageTask, Image}
use Rattle.machine.specs.declared.Machine.{Machine}
use Rattle.machine.specs.Creation.{Made}
use Rattle.machine.specs.History.{new_world}
use Rattle.rust.specs.Errors.{Out, ok, err, EmptyInstructions}
use Rattle.rust.specs.TaskTypes.{Task, StorageData}
use Rattle.rust.specs.Vm.{VM}
use Rattle.agreement.specs.Agreement.{refusal_of, total_length}
use Rattle.agreement.specs.Runs.{at_rest}

-- a task of the image
abbrev pub stored_task : ImageTask → Task
stored_task task = record {
  id = task.id;
  title = task.title;
  state = record { len = task.count; state = task.state };
  instructions = task.instructions;
}

-- the image
abbrev pub stored : Image → StorageData
stored image = record { tasks = map stored_task image.tasks; next_id = image.next_id }

-- a creation of ours beside an init of the Rust, over a lent pool and a program
pub data Creations (pool program : List ℕ) (made : Made) : Out VM → Type 0 where
  -- the Rust errs with EmptyInstructions: 1
  both_refuse : made.answer ≡ Err (refusal_of EmptyInstructions) → Creations pool program made (err EmptyInstructions)
  -- 28, where the Rust goes on with a program of more than 65,535 bytes
  too_long : {vm : VM} → made.answer ≡ Err refusal.ProgramTooLong → 65535 < length program → Creations pool program made (ok vm)
  -- 22, where the Rust goes on with a pool of more bytes than 65,536 or than the lent pool
  no_room : {vm : VM} → made.answer ≡ Err refusal.PoolFull → min 65536 (length pool) < total_length vm.instructions_pool → Creations pool program made (ok vm)
  -- both make one machine, whatever stack, memory and save buffer ours is lent
  both_make : (machine : Machine) {vm : VM} → made.answer ≡ Ok machine → ((stack memory save : List ℕ) → at_rest (new_world machine made stack memory save) ≡ vm) → Creations pool program made (ok vm)
