-- Images of a small task, tested, read, measured and written, and the tests of creation, computed from `image` and `table_image`.
use Prim.Native.Nat.{ℕ}
use mathlib.Core.List.{List, [], ◌∷◌, ◌++◌}
use mathlib.Core.Path.{◌≡◌, refl}
use lib.ListN.{replicate, get_or}
use Rattle.errors.specs.declared.Refusal.TheVariants.{BadImage, InvalidInstructionsIndex, BytesToStringConversionError, PoolFull, ProgramTooLong}
use Rattle.utf8.specs.Grammar.{UTF8_char}
use Rattle.utf8.specs.Utf8.{holds, lead, from, valid}
use Rattle.pools.specs.Pool.{end_of, start_of, bounds, entry_of, has_room, interned}
use Rattle.storage.specs.Tasks.{new_task, blank, no_title, title_of}
use Rattle.storage.specs.declared.Task.{Task}
use Rattle.image.specs.Image.{header, records, written as written-image, read_image, record_of, body, task_at, headed, good, task_before, read_from, with_count}
use Rattle.slices.specs.Numbers.{little_endian, number_at}
use Rattle.image.specs.Reading.{image_result, s_len_of, instruction_bytes}
use Rattle.image.specs.Walking.{read_record, on}
use Rattle.image.specs.Slots.{loaded_task, saved_task, task_in}
use Rattle.image.specs.Table.{living_tasks, refusal_by, task_refusal, or_else, first_refusal, image_of_tasks, SavedTable, saved_over, saved_unless, save_tasks, save_table, Loading, bytes_after, entries_after, next_reference}
use Rattle.image.specs.Writing.{measure_slot, save_slot, added, puts, size_of, sized, measure}
use Rattle.table_image.specs.Loops.{load_records, load_record, record_placed}
use Rattle.table_image.specs.Creation.{creation_tests, image_tests}
use Rattle.table_image.specs.Tables.{loading, in_use}
use Rattle.std.specs.Prelude.{Ok, Err}

-- task 0 "Ab" in state 1 of 3, its instructions being the entry
abbrev task : ℕ → Task
task entry = new_task (record { 0 = 0 }) (0x41 ∷ 0x62 ∷ []) (record { len = 3; state = 1 }) (record { 0 = entry })

-- the same with a title that is not UTF-8
abbrev bad_title : Task
bad_title = new_task (record { 0 = 0 }) (0xff ∷ []) (record { len = 3; state = 1 }) (record { 0 = 1 })

-- entry 0 is 1d, entry 1 is 0f 13
abbrev pool : List ℕ
pool = 0x1d ∷ 0x0f ∷ 0x13 ∷ 0 ∷ 0 ∷ 0 ∷ []

abbrev ends : List ℕ
ends = 1 ∷ 3 ∷ 0 ∷ []

-- the record of task 0 with the two bytes of entry 1 as instructions
abbrev written : List ℕ
written = 0x0c ∷ 0 ∷ 0 ∷ 0 ∷ 0x02 ∷ 0 ∷ 0 ∷ 0 ∷ 0 ∷ 0 ∷ 0x03 ∷ 0x01 ∷ 0x02 ∷ 0 ∷ 0x41 ∷ 0x62 ∷ 0x0f ∷ 0x13 ∷ []

-- the image of task 0, with this next id
abbrev image : ℕ → List ℕ
image next_id = header next_id 1 ++ written

-- loaded into two slots and a pool that holds the program, 1d, alone
abbrev loaded : Loading
loaded = load_records 1 (image 1) 14 (loading (replicate 2 blank) (0x1d ∷ 0 ∷ 0 ∷ 0 ∷ []) (1 ∷ 0 ∷ 0 ∷ []) (in_use 1 1))

-- saved from two slots into so many bytes
abbrev saved : ℕ → SavedTable
saved bytes = save_table 2 (blank ∷ task 1 ∷ []) pool ends 2 (replicate bytes 9)

-- the examples
pub record Examples : Type 0 where
  -- a second kind 1 is wrong at its place
  pub second_header : image_result (read_image (header 1 0 ++ header 1 0)) ≡ Err (BadImage 14)
  -- the state count stands before the state
  pub states_read : (read_record (image 1) 14 (record { 0 = 1 })).task.state ≡ record { len = 3; state = 1 }
  -- a reference that names no entry in use is 12, a title that is not UTF-8 is 15
  pub no_entry : measure_slot pool ends 1 100 (task 1) 14 ≡ Err (InvalidInstructionsIndex 1)
  pub no_text : measure_slot pool ends 2 100 bad_title 14 ≡ Err BytesToStringConversionError
  -- a slot that is not living adds nothing
  pub not_living : measure_slot pool ends 2 100 blank 14 ≡ Ok 14
  -- a record is written from its place on
  pub record_written : (save_slot pool ends (task 1) 1 (replicate 20 9)).save ≡ 9 ∷ written ++ 9 ∷ []
  pub title_length : get_or (save_slot pool ends (task 1) 0 (replicate 18 9)).save 12 0 ≡ 2
  -- next id 1, count 2
  pub header_written : (puts (replicate 14 9) 0 (header 1 2)).save ≡ 0x08 ∷ 0 ∷ 0 ∷ 0 ∷ 0x01 ∷ 0 ∷ 0x01 ∷ 0 ∷ 0 ∷ 0 ∷ 0x02 ∷ 0 ∷ 0 ∷ 0 ∷ []
  -- creation: the program's bytes count for 22, and it has at most 65,535
  pub pool_full : creation_tests 256 10 9 (image 1) ≡ Err PoolFull
  pub long_program : creation_tests 256 70000 65536 [] ≡ Err ProgramTooLong
  -- a loaded task's reference is the entry behind those in use; bytes and entries in use
  pub reference : (get_or loaded.table 0 blank).instructions_ref ≡ record { 0 = 1 }
  pub bytes_in_use : loaded.bytes ≡ 3
  -- a save goes through all slots, and its length counts the header
  pub all_slots : (saved 32).save ≡ header 2 1 ++ written
  pub saved_length : (saved 33).answer ≡ Ok 32

pub examples : Examples
unfolding UTF8_char holds lead from valid end_of start_of bounds entry_of has_room interned no_title blank title_of new_task record_of header body task_at headed good task_before read_from with_count read_image little_endian number_at s_len_of instruction_bytes image_result on read_record loaded_task saved_task added measure_slot save_slot records written-image living_tasks refusal_by task_refusal or_else first_refusal image_of_tasks saved_over saved_unless save_tasks save_table bytes_after entries_after next_reference load_record record_placed load_records puts task_in size_of sized measure image_tests creation_tests
examples = record {
  second_header = refl;
  states_read = refl;
  no_entry = refl;
  no_text = refl;
  not_living = refl;
  record_written = refl;
  title_length = refl;
  header_written = refl;
  pool_full = refl;
  long_program = refl;
  reference = refl;
  bytes_in_use = refl;
  all_slots = refl;
  saved_length = refl;
}
