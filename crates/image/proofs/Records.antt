-- A record that is read into a slot, and the slot's task again.
use Prim.Native.Nat.{ℕ, ◌+◌, ◌≤◌, min}
use mathlib.Core.List.{List, ◌++◌}
use mathlib.Core.Path.{◌≡◌, ◌∙◌}
use native.Mathlib.Omega.{arith}
use lib.ListN.{length, get_or, take, drop, length-drop}
use lib.Seq.{take_all, take-append_seam, take-take}
use Rattle.image.specs.Image.{ImageTask, task_at}
use Rattle.slices.specs.Numbers.{number_at}
use Rattle.image.specs.Walking.{on, read_record}
use Rattle.image.specs.Slots.{loaded_task, saved_task}
use Rattle.pools.specs.declared.InstructionsRef.{InstructionsRef}
use Rattle.storage.specs.Tasks.{no_title, title_of, new_task}
use Rattle.storage.specs.declared.Task.{Task}

-- a record that was read
pub read_is : (image : List ℕ) (at : ℕ) (reference : InstructionsRef) {bytes title : List ℕ} {task : Task} {id len state size start end body : ℕ}
    → bytes ≡ take (length image) (drop at image) → size ≡ number_at 2 bytes 12 → title ≡ take size (drop 14 bytes)
    → id ≡ number_at 4 bytes 6 → len ≡ get_or bytes 10 0 → state ≡ get_or bytes 11 0
    → task ≡ new_task (record { 0 = id }) title (record { len = len; state = state }) reference
    → start ≡ on (length image) at (14 + size) → body ≡ number_at 4 bytes 0 → end ≡ on (length image) at (6 + body)
    → record { task = task; start = start; end = end } ≡ read_record image at reference
unfolding read_record loaded_task task_at
read_is image at reference {bytes} whole size title id len state task start body end =
    let e : bytes ≡ drop at image = whole ∙ take_all (length image) (drop at image) (omega (arith, length-drop at image)) in
    rw (end, body, start, task, title, size, id, len, state, e)

-- a title that a slot holds, taken out again
title_again : (title : List ℕ) → length title ≤ 128 → take (length title) (title_of title) ≡ title
unfolding title_of
title_again title short = take-take (length title) 128 (title ++ no_title) short ∙ take-append_seam title no_title

-- a task in a slot is the task
pub saved_again : (task : ImageTask) (reference : InstructionsRef) → length task.title ≤ 128 → saved_task (loaded_task task reference) task.instructions ≡ task
unfolding loaded_task new_task saved_task
saved_again task reference short =
    let n : min 128 (length task.title) ≡ length task.title = omega arith in
    rw (n, title_again task.title short)
