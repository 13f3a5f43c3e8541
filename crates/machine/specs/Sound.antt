-- The unsound record, 26, clause by clause (docs/REFERENCE.md, 'The unsound record').
use Rattle.std.specs.Prelude.{ℕ, Bool, false, cond, ◌&&◌, List, eqb, ltb, leb, length}
use Rattle.inlinevec.specs.declared.Frame.{Frame}
use Rattle.pools.specs.Pool.{end_to_end}
use Rattle.storage.specs.declared.Task.{Task}
use Rattle.storage.specs.Table.{sound_table}
use Rattle.machine.specs.declared.Machine.{Machine}
use Rattle.inlinevec.specs.declared.Two.{Two}

-- a frame names an entry
abbrev pub names : Frame → ℕ → Bool
names frame entries = ltb frame.entry.0 entries

-- there is a frame, at most two, and each names an entry
unfoldable pub sound_frames : Two Frame → ℕ → Bool
sound_frames frames entries =
    cond (eqb frames.count 1) (names frames.first entries)
    (cond (eqb frames.count 2) (names frames.first entries && names frames.second entries) false)

-- no length is above its capacity or its buffer
unfoldable pub sound_lengths : ℕ → ℕ → ℕ → Machine → Bool
sound_lengths memory pool save machine =
    cond (ltb 1000 machine.height) false
    (cond (ltb 2 machine.loops.count) false
    (cond (ltb memory machine.memory) false
    (cond (ltb 65536 machine.pool) false
    (cond (ltb pool machine.pool) false (leb machine.saved save)))))

-- the record beside its table; the pool's entries are end to end and at most 1,024
unfoldable pub sound_record : ℕ → ℕ → List ℕ → ℕ → Machine → Bool → Bool
sound_record memory pool ends save machine table_sound =
    table_sound && (sound_lengths memory pool save machine && (sound_frames machine.frames machine.entries && end_to_end ends machine.pool machine.entries))

-- the record with its table: 256 slots, the ids, the living slots
unfoldable pub sound_world : List Task → List ℕ → List ℕ → List ℕ → List ℕ → Machine → Bool
sound_world table memory pool ends save machine =
    sound_record (length memory) (length pool) ends (length save) machine (sound_table table machine.next_id.0 machine.count)

-- an answer, and memory, the pool, its ends and the save buffer after it
pub record RecordTested : Type 0 where
  pub answer : Bool
  pub memory : List ℕ
  pub pool : List ℕ
  pub ends : List ℕ
  pub save : List ℕ

abbrev pub record_tested : Bool → List ℕ → List ℕ → List ℕ → List ℕ → RecordTested
record_tested answer memory pool ends save = record { answer = answer; memory = memory; pool = pool; ends = ends; save = save }

-- the same, with the table
pub record Tested : Type 0 where
  pub answer : Bool
  pub table : List Task
  pub memory : List ℕ
  pub pool : List ℕ
  pub ends : List ℕ
  pub save : List ℕ

abbrev pub tested : Bool → List Task → List ℕ → List ℕ → List ℕ → List ℕ → Tested
tested answer table memory pool ends save = record { answer = answer; table = table; memory = memory; pool = pool; ends = ends; save = save }
