-- Task records by id, their states, and a small table of them, computed from `storage`: what the functions of `storage` and of `table` answer and leave.
use Prim.Native.Nat.{ℕ}
use mathlib.Core.Bool.{true, false}
use mathlib.Core.List.{List, [], ◌∷◌}
use mathlib.Core.Path.{◌≡◌, refl}
use lib.ListN.{replicate, get_or, length, set}
use Rattle.errors.specs.declared.Refusal.TheVariants.{TaskNotFound, TitleTooLong, InvalidStatus, TableFull, MaxStatesError, InvalidTaskField}
use Rattle.storage.specs.Storage.{slot_of, find, room, len_after}
use Rattle.storage.specs.Table.{set_state_at, living_of, sound_table, lives, sound_slot, sound_slots, sound_counts}
use Rattle.storage.specs.Tasks.{new_task, blank, default_state, no_such_state, with_state, stated, set_state, no_title, title_of}
use Rattle.storage.specs.declared.Task.{Task}
use Rattle.std.specs.Prelude.{Ok, Err}

-- a living task with the id and the title "Ab", in the last but one of three states
abbrev task : ℕ → Task
task id = new_task (record { 0 = id }) (0x41 ∷ 0x62 ∷ []) (record { len = 3; state = 1 }) (record { 0 = 1 })

-- in another state
abbrev in_state : ℕ → Task
in_state state = new_task (record { 0 = 1 }) (0x41 ∷ 0x62 ∷ []) (record { len = 3; state = state }) (record { 0 = 1 })

-- tasks 0 and 1, and a slot that is not living
abbrev table : List Task
table = task 0 ∷ task 1 ∷ blank ∷ []

-- 256 slots, of which the first has this task
abbrev full : Task → List Task
full first = first ∷ replicate 255 blank

-- the examples
pub record Examples : Type 0 where
  -- an id above 255 has no slot
  pub slot : slot_of (record { 0 = 257 }) ≡ 257
  pub found : find (task 3) (record { 0 = 3 }) ≡ Ok tt
  -- no such task is 9 with the id
  pub not_found : find blank (record { 0 = 3 }) ≡ Err (TaskNotFound 3)
  -- 256 tasks, titles of 128 bytes
  pub last_room : room 255 128 ≡ Ok tt
  pub long_title : room 255 129 ≡ Err TitleTooLong
  -- the greatest id held plus 1
  pub lower_id : len_after 5 2 ≡ 5
  pub greater_id : len_after 1 4 ≡ 5
  pub one_state : default_state 1 ≡ Ok (record { len = 1; state = 0 })
  -- 11 with the whole number that was asked for
  pub no_state : no_such_state 259 ≡ Err (InvalidStatus 259)
  pub no_state_255 : with_state (record { len = 255; state = 1 }) 255 ≡ stated 1 (Err (InvalidStatus 255))
  pub no_third_state : with_state (record { len = 3; state = 1 }) 3 ≡ stated 1 (Err (InvalidStatus 3))
  -- the state byte is written, and where it is refused it stays
  pub set_to_2 : (set_state (task 1) 2).lent ≡ in_state 2
  pub not_set : (set_state (task 1) 3).lent ≡ in_state 1
  pub blank_dead : blank.living ≡ false
  pub blank_title : blank.title_len ≡ 0
  pub new_living : (task 3).living ≡ true
  pub new_title : (task 3).title_len ≡ 2
  -- slot 1 of the table
  pub got : get_or table 1 blank ≡ task 1
  pub put : set table 1 (task 7) ≡ task 0 ∷ task 7 ∷ blank ∷ []
  pub cleared : set table 1 blank ≡ task 0 ∷ blank ∷ blank ∷ []
  pub state_at : (set_state_at table 1 2).lent ≡ task 0 ∷ in_state 2 ∷ blank ∷ []
  -- as many blank slots as the table has
  pub all_cleared : replicate (length table) blank ≡ blank ∷ blank ∷ blank ∷ []
  pub living : living_of table ≡ 2
  -- 26: a next id above 256, an id that is not below the S_LEN count, an id that is not its slot's place
  pub next_id_257 : sound_table (full blank) 257 0 ≡ false
  pub id_at_the_count : sound_table (full (task 0)) 256 0 ≡ false
  pub id_of_another_slot : sound_table (full (task 1)) 256 2 ≡ false

pub examples : Examples
unfolding slot_of find room len_after set_state_at lives living_of sound_slot sound_slots sound_counts sound_table no_title blank default_state with_state title_of new_task set_state
examples = record {
  slot = refl;
  found = refl;
  not_found = refl;
  last_room = refl;
  long_title = refl;
  lower_id = refl;
  greater_id = refl;
  one_state = refl;
  no_state = refl;
  no_state_255 = refl;
  no_third_state = refl;
  set_to_2 = refl;
  not_set = refl;
  blank_dead = refl;
  blank_title = refl;
  new_living = refl;
  new_title = refl;
  got = refl;
  put = refl;
  cleared = refl;
  state_at = refl;
  all_cleared = refl;
  living = refl;
  next_id_257 = refl;
  id_at_the_count = refl;
  id_of_another_slot = refl;
}
