-- What testing an image answers: its numbers, or the place of its first fault.
use Rattle.std.specs.Prelude.{ℕ, ◌+◌, max, List, [], ◌∷◌, length, Ok, Err, Result}
use Rattle.errors.specs.declared.Refusal.TheVariants.{BadImage}
use Rattle.image.specs.Image.{ImageTask, Image, Parsed, sound, bad_at}
use Rattle.errors.specs.declared.Refusal.{Refusal}
use Rattle.image.specs.declared.SoundImage.{SoundImage}

-- S_LEN: the greatest id plus 1; 0 if there is none
unfoldable pub s_len_of : List ImageTask → ℕ
s_len_of [] = 0
s_len_of (task ∷ tasks) = max (task.id + 1) (s_len_of tasks)

-- the bytes of all instructions
unfoldable pub instruction_bytes : List ImageTask → ℕ
instruction_bytes [] = 0
instruction_bytes (task ∷ tasks) = length task.instructions + instruction_bytes tasks

-- the answer to what reading finds: 25 with its place
unfoldable pub image_result : Parsed Image → Result SoundImage Refusal
image_result (sound image) = Ok (record { next_id = record { 0 = image.next_id }; count = length image.tasks; s_len = s_len_of image.tasks; instructions = instruction_bytes image.tasks })
image_result (bad_at place) = Err (BadImage place)
