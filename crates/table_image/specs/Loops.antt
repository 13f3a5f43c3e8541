-- How the code saves a table and loads one: slot after slot, record after record. Nobody has to believe it: `save_table_is` and `load_table_is` say that it is image's Table.
use Rattle.std.specs.Prelude.{ℕ, zero, suc, ◌+◌, ◌-◌, cond, List, length, get_or, set, take, drop, leb, Ok, Err, Result}
use Rattle.errors.specs.declared.Refusal.{Refusal}
use Rattle.errors.specs.declared.Refusal.TheVariants.{SaveBufferTooShort}
use Rattle.pools.specs.Pool.{Pooled, interned}
use Rattle.storage.specs.declared.Task.{Task}
use Rattle.storage.specs.Tasks.{blank}
use Rattle.image.specs.declared.Record.{Record}
use Rattle.image.specs.declared.LoadedRecord.{LoadedRecord}
use Rattle.image.specs.Image.{header, task_count}
use Rattle.image.specs.Walking.{read_record}
use Rattle.image.specs.Table.{SavedTable, saved_table, Loading, bytes_after, entries_after, next_reference, cleared}
use Rattle.image.specs.Writing.{Stepped, stepped, Put, put, puts, measure_slot, save_slot}

-- ---- saving

-- the size of an image and its number of tasks, or the first refusal
pub data Measured : Type 0 where
  measured : ℕ → ℕ → Measured
  refused : Refusal → Measured

-- a living slot is counted
unfoldable pub count_slot : Task → ℕ → ℕ
count_slot slot count = cond slot.living (count + 1) count

-- after a slot the others
unfoldable pub grown : Result ℕ Refusal → (ℕ → Measured) → Measured
grown (Err refusal) others = refused refusal
grown (Ok size) others = others size

-- n slots from the i-th on
unfoldable pub measures : ℕ → ℕ → List Task → List ℕ → List ℕ → ℕ → ℕ → ℕ → ℕ → Measured
measures zero i table pool ends entries limit count size = measured size count
measures (suc n) i table pool ends entries limit count size =
    grown (measure_slot pool ends entries limit (get_or table i blank) size)
    (measures n (i + 1) table pool ends entries limit (count_slot (get_or table i blank) count))

-- n slots from the i-th on: each living one is written
unfoldable pub save_slots : ℕ → ℕ → List Task → List ℕ → List ℕ → ℕ → List ℕ → Put
save_slots zero i table pool ends place save = put place save
save_slots (suc n) i table pool ends place save =
    save_slots n (i + 1) table pool ends (save_slot pool ends (get_or table i blank) place save).place (save_slot pool ends (get_or table i blank) place save).save

-- where the image fits, the header and the records are written, and bytes past them stay; else 24
unfoldable pub saved_as : ℕ → List Task → List ℕ → List ℕ → List ℕ → Measured → SavedTable
saved_as next_id table pool ends save (refused refusal) = saved_table (Err refusal) save
saved_as next_id table pool ends save (measured size count) =
    cond (leb size (length save))
    (saved_table (Ok size) (save_slots (length table) 0 table pool ends 14 (puts save 0 (header next_id count)).save).save)
    (saved_table (Err SaveBufferTooShort) save)

-- all slots measured, then all saved; sizes are counted no further than one past the buffer
unfoldable pub save_by_slots : ℕ → List Task → List ℕ → List ℕ → ℕ → List ℕ → SavedTable
save_by_slots next_id table pool ends entries save =
    saved_as next_id table pool ends save (measures (length table) 0 table pool ends entries (length save + 1) 0 14)

-- ---- loading

-- the bytes of a record's instructions
abbrev pub instructions_of : List ℕ → Record → List ℕ
instructions_of image r = take (r.end - r.start) (drop r.start image)

-- a record that was read, and the pool after its instructions
abbrev pub record_loaded : Record → Pooled → ℕ → ℕ → Stepped LoadedRecord
record_loaded r p bytes entries =
    stepped (record { task = r.task; end = r.end; bytes = bytes_after p.answer bytes; entries = entries_after p.answer entries }) p.pool p.ends

-- one record: its task, its end, and its instructions interned
unfoldable pub load_record : List ℕ → List ℕ → List ℕ → ℕ → ℕ → ℕ → Stepped LoadedRecord
load_record pool ends image place bytes entries =
    record_loaded (read_record image place (next_reference entries))
    (interned pool ends bytes entries (instructions_of image (read_record image place (next_reference entries)))) bytes entries

-- the table and the pool after a record
unfoldable pub record_placed : Stepped LoadedRecord → Loading → Loading
record_placed r l = record {
  table = set l.table r.answer.task.id.0 r.answer.task;
  pool = r.pool;
  ends = r.ends;
  bytes = r.answer.bytes;
  entries = r.answer.entries;
}

-- n records from a place on
unfoldable pub load_records : ℕ → List ℕ → ℕ → Loading → Loading
load_records zero image place l = l
load_records (suc n) image place l =
    load_records n image (load_record l.pool l.ends image place l.bytes l.entries).answer.end
    (record_placed (load_record l.pool l.ends image place l.bytes l.entries) l)

-- every slot blank, then as many records as the image counts
unfoldable pub load_by_records : List ℕ → Loading → Loading
load_by_records image l = load_records (task_count image) image 14 (cleared l)
