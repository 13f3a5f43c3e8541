-- A task that is found is read as its slot is measured.
use Prim.Native.Nat.{ℕ}
use mathlib.Core.Bool.{Bool, true, false, cond}
use mathlib.Core.List.{List}
use mathlib.Core.Option.{Option, none, some}
use mathlib.Core.Path.{◌≡◌, refl, ap, ◌∙◌}
use native.Mathlib.Omega.{arith}
use lib.ListN.{length}
use Rattle.errors.specs.declared.Refusal.{Refusal}
use Rattle.errors.specs.declared.Refusal.TheVariants.{TaskNotFound}
use Rattle.storage.specs.declared.Task.{Task}
use Rattle.storage.specs.declared.TaskId.{TaskId}
use Rattle.storage.specs.Storage.{find}
use Rattle.image.specs.Image.{record_of, body}
use Rattle.image.specs.Slots.{task_in}
use Rattle.image.specs.Table.{task_refusal}
use Rattle.image.specs.Writing.{Stepped, stepped, added, measure_slot}
use Rattle.table_image.proofs.Saves.{size_unless, slot_measured}
use Rattle.machine.specs.declared.Machine.{Machine}
use Rattle.machine.specs.Reads.{readable_unless, if_found, task_result}
use Rattle.std.specs.Prelude.{Ok, Err, Result, ⊤}

-- readable, where it has a size
unfoldable pub if_measured : Result ℕ Refusal → Result ⊤ Refusal
if_measured (Ok size) = Ok tt
if_measured (Err refusal) = Err refusal

found_living : (task : Task) (id : TaskId) → find task id ≡ Ok tt → task.living ≡ true
unfolding find
found_living task id e = by task.living (TaskNotFound id.0) e
  where
    by : (b : Bool) (refusal : Refusal) → cond {A = Result ⊤ Refusal} b (Ok tt) (Err refusal) ≡ Ok tt → b ≡ true
    by true refusal e = refl
    by false refusal e = absurd (let z : ◌≡◌ {A = ℕ} 0 1 = cc in omega arith)

by_refusal : (refusal : Option Refusal) (size : ℕ) → if_measured (added 0 0 (size_unless refusal size)) ≡ readable_unless refusal
unfolding if_measured added readable_unless
by_refusal none size = refl
by_refusal (some refusal) size = refl

-- a living slot has a size where the task is not refused
living_read : (pool ends : List ℕ) (entries : ℕ) (task : Task) → task.living ≡ true → if_measured (measure_slot pool ends entries 0 task 0) ≡ readable_unless (task_refusal ends entries task)
living_read pool ends entries task living =
    ap if_measured (slot_measured pool ends entries 0 task 0 living) ∙ by_refusal (task_refusal ends entries task) (length (record_of 2 (body (task_in pool ends task))))

pub found : (pool ends p e : List ℕ) (machine : Machine) (sound : Bool) (id : TaskId) (task : Task) (size : Result ℕ Refusal) (result : Result ⊤ Refusal) → sound ≡ true → find task id ≡ Ok tt
    → stepped size p e ≡ stepped (measure_slot pool ends machine.entries 0 task 0) pool ends → if_measured size ≡ result
    → stepped result p e ≡ stepped (task_result ends machine sound id task) pool ends
unfolding task_result if_found
found pool ends p e machine sound id task size result t f m i =
    simp (t, f, ← i)
    (ap (λ (s : Stepped (Result ℕ Refusal)). stepped (if_measured s.answer) s.pool s.ends) m
    ∙ ap (λ (r : Result ⊤ Refusal). stepped r pool ends) (living_read pool ends machine.entries task (found_living task id f)))
