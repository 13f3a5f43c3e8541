-- The table of tasks: a state set in a slot, how many slots are living, and when a table is sound.
use Rattle.std.specs.Prelude.{ℕ, ◌+◌, Bool, true, cond, ◌&&◌, List, [], ◌∷◌, length, ◌==◌, nat_le, nat_lt, slice_index_or, slice_set, Result, ⊤}
use Rattle.storage.specs.declared.Task.{Task}
use Rattle.storage.specs.Tasks.{blank, After, after, set_state}
use Rattle.errors.specs.declared.Refusal.{Refusal}

-- the task of a slot put into a state, the other slots as they are
unfoldable pub set_state_at : List Task → ℕ → ℕ → After (Result ⊤ Refusal) (List Task)
set_state_at table slot new_state =
    after (set_state (slice_index_or table slot blank) new_state).answer (slice_set table slot (set_state (slice_index_or table slot blank) new_state).lent)

-- 1 for a living task, 0 for any other
unfoldable pub lives : Task → ℕ
lives task = cond task.living 1 0

-- how many slots are living
unfoldable pub living_of : List Task → ℕ
living_of [] = 0
living_of (task ∷ table) = lives task + living_of table

-- 26, of a slot: a living one has its place as its id, below the S_LEN count, and its title length and state within their limits
unfoldable pub sound_slot : Task → ℕ → ℕ → Bool
sound_slot task slot count =
    cond task.living
    (task.id.0 == slot && nat_lt task.id.0 count && nat_le task.title_len 128 && nat_lt task.state.state task.state.len)
    true

-- 26, of the slots from one on
unfoldable pub sound_slots : List Task → ℕ → ℕ → Bool
sound_slots [] slot count = true
sound_slots (task ∷ table) slot count = sound_slot task slot count && sound_slots table (slot + 1) count

-- 26, of the numbers: 256 slots, the next id and the S_LEN count at most 256, the count not above the next id
unfoldable pub sound_counts : ℕ → ℕ → ℕ → Bool
sound_counts slots next_id count = slots == 256 && nat_le next_id 256 && nat_le count 256 && nat_le count next_id

-- 26, of a table with the next id and the S_LEN count
unfoldable pub sound_table : List Task → ℕ → ℕ → Bool
sound_table table next_id count = sound_counts (length table) next_id count && sound_slots table 0 count
