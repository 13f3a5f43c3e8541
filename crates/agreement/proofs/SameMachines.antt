-- What a sound world and the Rust's machine that it shows have alike: tasks, memory in use, pool, each task's instructions, and what a read of a task answers.
use Prim.Native.Nat.{ℕ}
use mathlib.Core.Bool.{Bool, true, false}
use mathlib.Core.Path.{◌≡◌, refl, sym, ap}
use mathlib.Core.List.{List}
use mathlib.Core.Option.{some}
use lib.Dec.{ltb}
use lib.ListN.{get_or}
use borrow.Author.Tests.{ltb-true, ltb-false}
use Rattle.errors.specs.declared.Refusal.TheVariants as refusal
use Rattle.utf8.specs.Utf8.{valid}
use Rattle.pools.specs.Pool.{entries_of}
use Rattle.pools.proofs.Laws.{length_entries, getD_entries, found, not_found}
use Rattle.storage.specs.declared.Task.{Task}
use Rattle.storage.specs.declared.TaskId.{TaskId}
use Rattle.storage.specs.Storage.{slot_of, find}
use Rattle.storage.specs.Tasks.{blank}
use Rattle.image.specs.Slots.{title_in}
use Rattle.image.specs.Table.{refusal_by, task_refusal}
use Rattle.machine.specs.World.{World, memory_in_use}
use Rattle.machine.specs.Reads.{readable_unless, if_found, task_result, task_as, task_read}
use Rattle.laws.specs.Sound.{Sound}
use Rattle.rust.specs.Errors.{TaskNotFound, ok, err}
use Rattle.rust.specs.Instructions as instructions
use Rattle.rust.specs.TaskTypes.{to_task}
use Rattle.rust.specs.Storage as storage
use Rattle.rust.specs.Vm.{VM}
use Rattle.rust.specs.Unbox.{print_task}
use Rattle.agreement.specs.View.{task_in_slot, storage_of}
use Rattle.agreement.specs.Reads.{TaskReads, readable, no_task, no_entry, no_text}
use Rattle.agreement.specs.Demand.{instructions_in, instructions_of, rust_instructions_in, rust_instructions_of, SameMachine}
use Rattle.agreement.proofs.Facts.{Facts, facts}
use Rattle.agreement.proofs.Slots as slots
use Rattle.std.specs.Prelude.{Ok, Err}

module _ (w : World) (h : Facts w) where
  abbrev all : List (List ℕ)
  all = entries_of w.pool w.ends w.machine.entries

  -- the task of an id in what is shown
  task_shown : (id : ℕ) → storage.get (storage_of w.machine.next_id.0 w.machine.count w.table) id ≡ task_in_slot (get_or w.table id blank)
  unfolding storage.get storage_of
  task_shown id = slots.get_is w h id

  instructions_shown : (slot : Task) → instructions_in w.pool w.ends w.machine.entries slot ≡ rust_instructions_in all (task_in_slot slot)
  unfolding instructions_in rust_instructions_in
  instructions_shown slot = by slot.living (ltb slot.instructions_ref.0 w.machine.entries) refl refl
    where
      by : (living names : Bool) → slot.living ≡ living → ltb slot.instructions_ref.0 w.machine.entries ≡ names
          → instructions_in w.pool w.ends w.machine.entries slot ≡ rust_instructions_in all (task_in_slot slot)
      by true true l n =
          rw (slots.a_task slot l, l, length_entries w.pool w.ends w.machine.entries, n)
          (ap some (sym (getD_entries w.pool w.ends w.machine.entries slot.instructions_ref.0 (ltb-true _ _ n))))
      by true false l n = rw (slots.a_task slot l, l, length_entries w.pool w.ends w.machine.entries, n)
      by false names l n = rw (slots.no_task slot l, l)

  finds : (id : TaskId) (slot : Task) → slot.living ≡ true → find slot id ≡ Ok tt
  unfolding find
  finds id slot l = rw l

  finds_none : (id : TaskId) (slot : Task) → slot.living ≡ false → find slot id ≡ Err (refusal.TaskNotFound id.0)
  unfolding find
  finds_none id slot l = rw l

  -- 9, then 12, then 15, in both
  read_shown : (id : TaskId) (slot : Task)
      → TaskReads w.pool w.ends (task_as (if_found w.ends w.machine slot (find slot id)) slot) (storage.if_some (task_in_slot slot) (λ task. to_task task all ok) (err (TaskNotFound id.0)))
  unfolding if_found readable_unless task_refusal refusal_by to_task instructions.get
  read_shown id slot = by slot.living (ltb slot.instructions_ref.0 w.machine.entries) (valid (title_in slot)) refl refl refl
    where
      by : (living names text : Bool) → slot.living ≡ living → ltb slot.instructions_ref.0 w.machine.entries ≡ names → valid (title_in slot) ≡ text
          → TaskReads w.pool w.ends (task_as (if_found w.ends w.machine slot (find slot id)) slot) (storage.if_some (task_in_slot slot) (λ task. to_task task all ok) (err (TaskNotFound id.0)))
      by true true true l n t =
          rw (
            slots.a_task slot l,
            finds id slot l,
            found w.ends w.machine.pool w.machine.entries h.ends slot.instructions_ref (ltb-true _ _ n),
            length_entries w.pool w.ends w.machine.entries,
            n,
            t,
            getD_entries w.pool w.ends w.machine.entries slot.instructions_ref.0 (ltb-true _ _ n),
          ) (readable slot)
      by true true false l n t =
          rw (
            slots.a_task slot l,
            finds id slot l,
            found w.ends w.machine.pool w.machine.entries h.ends slot.instructions_ref (ltb-true _ _ n),
            length_entries w.pool w.ends w.machine.entries,
            n,
            t,
          ) (no_text slot)
      by true false text l n t =
          rw (slots.a_task slot l, finds id slot l, not_found w.ends w.machine.entries slot.instructions_ref (ltb-false _ _ n), length_entries w.pool w.ends w.machine.entries, n)
          (no_entry slot.instructions_ref.0 slot)
      by false names text l n t = rw (slots.no_task slot l, finds_none id slot l) (no_task id.0 slot)

module _ (w : World) (s : Sound w) (vm : VM) (storage-is : storage_of w.machine.next_id.0 w.machine.count w.table ≡ vm.storage)
    (pool-is : entries_of w.pool w.ends w.machine.entries ≡ vm.instructions_pool) where
  pub same_machine : memory_in_use w ≡ vm.memory → SameMachine w vm
  unfolding instructions_of rust_instructions_of
  same_machine memory-is = record {
    tasks = storage-is;
    memory = memory-is;
    pool = pool-is;
    instructions = λ id. rw (sym storage-is, sym pool-is, task_shown w (facts s) id) (instructions_shown w (facts s) (get_or w.table id blank));
  }

  -- a read of a task
  pub task_reads : (id : TaskId) → TaskReads w.pool w.ends (task_read id w).answer (print_task vm id.0)
  unfolding task_read task_result slot_of print_task
  task_reads id = rw (sym storage-is, sym pool-is, task_shown w (facts s) id.0, s.tested) (read_shown w (facts s) id (get_or w.table id.0 blank))
