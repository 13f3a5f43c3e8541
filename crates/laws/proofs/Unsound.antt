-- 26 at every call of a host: on an unsound record each call answers 26 and leaves everything as it was, and so it is for a table not of 256 slots.
use Prim.Native.Nat.{ℕ}
use mathlib.Core.Bool.{false}
use mathlib.Core.List.{List}
use mathlib.Core.Path.{◌≡◌}
use lib.Dec.{eqb}
use lib.ListN.{length, get_or}
use Rattle.errors.specs.declared.Refusal.TheVariants.{WrongPhaseOrUnsound}
use Rattle.storage.specs.declared.Task.{Task}
use Rattle.storage.specs.declared.TaskId.{TaskId}
use Rattle.storage.specs.Storage.{slot_of}
use Rattle.storage.specs.Tasks.{blank}
use Rattle.storage.specs.Table.{sound_counts, sound_table}
use Rattle.table_image.specs.Creation.{creation_tests}
use Rattle.machine.specs.World.{World}
use Rattle.machine.specs.Sound.{sound_record, sound_world}
use Rattle.machine.specs.Calls.{allowed, not_allowed, reports, is_sound, call_with, call}
use Rattle.machine.specs.Reads.{readable, value_at, read_to, value_read, task_result, task_as, task_read, not_saved, saved_to, host_save}
use Rattle.machine.specs.Creation.{made, create_fit, create}
use Rattle.machine.specs.declared.Verb.{Verb}
use Rattle.std.specs.Prelude.{Err}

module _ (w : World) (unsound : is_sound w ≡ false) where
  -- start and continue
  pub call_refused : (verb : Verb) (fuel : ℕ) → call verb fuel w ≡ reports (not_allowed w.machine) w
  unfolding call call_with allowed
  call_refused verb fuel = simp (unsound)

  -- the read of a value
  pub value_refused : (position : ℕ) → value_read position w ≡ read_to (Err WrongPhaseOrUnsound) w
  unfolding value_read value_at readable
  value_refused position = simp (unsound)

  -- the read of a task: its slot is answered beside the refusal
  pub task_refused : (id : TaskId) → task_read id w ≡ read_to (task_as (Err WrongPhaseOrUnsound) (get_or w.table (slot_of id) blank)) w
  unfolding task_read task_result
  task_refused id = simp (unsound)

  -- the host's save
  pub save_refused : host_save w ≡ saved_to (not_saved w.machine) w.table w.stack w.memory w.pool w.ends w.save
  unfolding host_save
  save_refused = simp (unsound)

-- a table not of 256 slots is unsound, whatever else there is
pub other_slots : (w : World) → eqb (length w.table) 256 ≡ false → is_sound w ≡ false
unfolding sound_world sound_record sound_table sound_counts
other_slots w other = simp (other)

-- and creation over one is refused before anything is written
pub creation_refused : (table : List Task) (pool ends image program : List ℕ) → eqb (length table) 256 ≡ false
    → create table pool ends image program ≡ made (Err WrongPhaseOrUnsound) table pool ends
unfolding create create_fit creation_tests
creation_refused table pool ends image program other = simp (other)
