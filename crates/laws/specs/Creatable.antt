-- What a machine is created from, and what creation refuses: the table, the lent pool, the image and the program.
use Rattle.std.specs.Prelude.{ℕ, ◌+◌, ◌≤◌, ◌<◌, min, List, ◌≡◌, length}
use Rattle.errors.specs.declared.Refusal.{Refusal}
use Rattle.errors.specs.declared.Refusal.TheVariants.{WrongPhaseOrUnsound, EmptyInstructions, ProgramTooLong, BadImage, PoolFull}
use Rattle.storage.specs.declared.Task.{Task}
use Rattle.image.specs.Image.{Image, sound, bad_at, read_image}
use Rattle.image.specs.Reading.{instruction_bytes}

-- the bytes that creation puts into the pool: the program, and the instructions of the image's tasks
abbrev pub pool_bytes : List ℕ → Image → ℕ
pool_bytes program found = length program + instruction_bytes found.tasks

-- 256 slots, a program of 1 to 65,535 bytes, a sound image, and room in the pool
pub record Creatable (table : List Task) (pool image program : List ℕ) : Type 0 where
  pub slots : length table ≡ 256
  pub some : 1 ≤ length program
  pub short : length program ≤ 65535
  pub found : Image
  pub is_sound : read_image image ≡ sound found
  pub room : pool_bytes program found ≤ min 65536 (length pool)

-- the first of these that is met, in this order: 26, 1, 28, 25 with its place, 22
pub data NotCreatable (table : List Task) (pool image program : List ℕ) : Refusal → Type 0 where
  other_slots : (length table ≡ 256 → ⊥) → NotCreatable table pool image program WrongPhaseOrUnsound
  no_program : length table ≡ 256 → length program ≡ 0 → NotCreatable table pool image program EmptyInstructions
  long_program : length table ≡ 256 → 65535 < length program → NotCreatable table pool image program ProgramTooLong
  bad_image : (place : ℕ) → length table ≡ 256 → 1 ≤ length program → length program ≤ 65535 → read_image image ≡ bad_at place → NotCreatable table pool image program (BadImage place)
  no_room : (found : Image) → length table ≡ 256 → 1 ≤ length program → length program ≤ 65535 → read_image image ≡ sound found → min 65536 (length pool) < pool_bytes program found
      → NotCreatable table pool image program PoolFull
