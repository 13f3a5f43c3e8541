-- How the code goes through an image, record after record. Nobody has to believe it: its functions answer what Reading and Table say.
use Rattle.std.specs.Prelude.{ℕ, ◌+◌, ◌-◌, min, max, cond, List, length, drop, Ok, Err, Some, None, Result, Option}
use Rattle.pools.specs.declared.InstructionsRef.{InstructionsRef}
use Rattle.image.specs.Image.{ImageTask, Parsed, sound, bad_at, body_length, id_in, title_length_in, task_at, good}
use Rattle.image.specs.Slots.{loaded_task}
use Rattle.image.specs.Reading.{s_len_of, instruction_bytes}
use Rattle.image.specs.declared.Record.{Record}
use Rattle.storage.specs.declared.TaskId.{TaskId}

-- the record at the front of some bytes: its id, its size, and the size of its instructions
unfoldable pub front : ℕ → ℕ → List ℕ → Option (TaskId × ℕ × ℕ)
front next_id low bytes =
    cond (good next_id low bytes)
    (Some (record { 0 = id_in bytes }, 6 + body_length bytes, body_length bytes - 8 - title_length_in bytes))
    None

-- what is found after so many tasks, ids below `low` and bytes of instructions
unfoldable pub walked : ℕ → ℕ → ℕ → Parsed (List ImageTask) → Result (ℕ × ℕ × ℕ) ℕ
walked count low instructions (sound tasks) = Ok (count + length tasks, max low (s_len_of tasks), instructions + instruction_bytes tasks)
walked count low instructions (bad_at place) = Err place

-- a place so many bytes on, as far as there are
unfoldable pub on : ℕ → ℕ → ℕ → ℕ
on length place count = min (place + count) length

-- the record at a place: its task in a slot, and where its instructions start and end
unfoldable pub read_record : List ℕ → ℕ → InstructionsRef → Record
read_record image place reference = record {
  task = loaded_task (task_at (drop place image)) reference;
  start = on (length image) place (14 + title_length_in (drop place image));
  end = on (length image) place (6 + body_length (drop place image));
}
