-- storage/storage.rs: the tasks by id, those deleted or never held as none. `alive` is counted and never asked: it is left out.
use Rattle.std.specs.Prelude.{ℕ, ◌+◌, ◌-◌, List, [], ◌∷◌, ◌++◌, length, get_or, set, replicate}
use Rattle.std.proofs.Math.Option.{Option, none, some}
use Rattle.rust.specs.Errors.{Out, err, TaskNotFound}
use Rattle.rust.specs.Instructions.{intern_instructions}
use Rattle.rust.specs.TaskTypes.{Task, TaskVM, StorageData, to_task}

pub record Storage : Type 0 where
  pub tasks_vm : List (Option TaskVM)
  pub next_id : ℕ

-- Vec::resize with None to a length that is no shorter
unfoldable pub resize : List (Option TaskVM) → ℕ → List (Option TaskVM)
resize tasks_vm len = tasks_vm ++ replicate (len - length tasks_vm) none

-- tasks_vm[id] = Some(task), grown to hold it
unfoldable pub put : List (Option TaskVM) → ℕ → TaskVM → List (Option TaskVM)
put tasks_vm id task = set (resize tasks_vm (id + 1)) id (some task)

module _ {B : Type 0} where
  -- the loop of save
  unfoldable pub to_tasks : List (List ℕ) → List (Option TaskVM) → (List Task → Out B) → Out B
  to_tasks pool [] onward = onward []
  to_tasks pool (none ∷ tasks_vm) onward = to_tasks pool tasks_vm onward
  to_tasks pool (some task-vm ∷ tasks_vm) onward =
      to_task task-vm pool λ task.
      to_tasks pool tasks_vm λ tasks.
      onward (task ∷ tasks)

  -- the file is a value: what is encoded into it
  unfoldable pub save : Storage → List (List ℕ) → (StorageData → Out B) → Out B
  save storage pool onward =
      to_tasks pool storage.tasks_vm λ tasks.
      onward (record { tasks = tasks; next_id = storage.next_id })

  -- the loop of load, with from_task
  unfoldable pub from_tasks : List Task → List (Option TaskVM) → List (List ℕ) → (List (Option TaskVM) → List (List ℕ) → Out B) → Out B
  from_tasks [] tasks_vm pool onward = onward tasks_vm pool
  from_tasks (t ∷ tasks) tasks_vm pool onward =
      intern_instructions pool t.instructions λ inst-ref after.
      from_tasks tasks (put tasks_vm t.id (record { id = t.id; title = t.title; state = t.state; instructions_ref = inst-ref })) after onward

  -- the file is a value: what is decoded from it, no tasks where there is none
  unfoldable pub load : StorageData → List (List ℕ) → (Storage → List (List ℕ) → Out B) → Out B
  load stored pool onward =
      from_tasks stored.tasks [] pool λ tasks_vm after.
      onward (record { tasks_vm = tasks_vm; next_id = stored.next_id }) after

-- ids are u32; no machine holds 2^32 of them
unfoldable pub add : Storage → TaskVM → Storage
add storage task = record { tasks_vm = put storage.tasks_vm storage.next_id task; next_id = storage.next_id + 1 }

-- Some, or None where there is no such task
unfoldable pub get : Storage → ℕ → Option TaskVM
get storage id = get_or storage.tasks_vm id none

-- what is done with a task that is there, and where there is none
abbrev pub if_some : {B : Type 0} → Option TaskVM → (TaskVM → Out B) → Out B → Out B
if_some none onward missing = missing
if_some (some task) onward missing = onward task

-- a task written back after a change through get_mut
unfoldable pub changed : Storage → ℕ → TaskVM → Storage
changed storage id task = record { tasks_vm = set storage.tasks_vm id (some task); next_id = storage.next_id }

module _ {B : Type 0} where
  unfoldable pub delete : Storage → ℕ → (Storage → Out B) → Out B
  delete storage id onward =
      if_some (get storage id) (λ task. onward (record { tasks_vm = set storage.tasks_vm id none; next_id = storage.next_id }))
      (err (TaskNotFound id))

unfoldable pub len : Storage → ℕ
len storage = length storage.tasks_vm
