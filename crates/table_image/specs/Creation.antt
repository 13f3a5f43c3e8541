-- Creation's tests in their order (docs/REFERENCE.md, 'Creation'): 26 for the table, then 1, 28, 25, 22.
use Rattle.std.specs.Prelude.{ℕ, cond, List, eqb, ltb, Ok, Err, Result}
use Rattle.errors.specs.declared.Refusal.TheVariants.{EmptyInstructions, PoolFull, WrongPhaseOrUnsound, ProgramTooLong}
use Rattle.pools.specs.Pool.{has_room}
use Rattle.image.specs.Image.{read_image}
use Rattle.image.specs.Reading.{image_result}
use Rattle.errors.specs.declared.Refusal.{Refusal}
use Rattle.image.specs.declared.SoundImage.{SoundImage}
use Rattle.table_image.specs.declared.creation.Fit.{Fit}

-- 25, then 22: the program is the first entry, and behind it come the tasks' instructions, an entry each
unfoldable pub image_tests : ℕ → ℕ → Result SoundImage Refusal → Result Fit Refusal
image_tests lent size (Err refusal) = Err refusal
image_tests lent size (Ok image) =
    cond (has_room lent size image.count image.instructions)
    (Ok (record { next_id = image.next_id; count = image.count; s_len = image.s_len })) (Err PoolFull)

-- a table of so many slots, a lent pool of so many bytes, a program of a size, and an image
unfoldable pub creation_tests : ℕ → ℕ → ℕ → List ℕ → Result Fit Refusal
creation_tests slots lent size image =
    cond (eqb slots 256)
    (cond (eqb size 0) (Err EmptyInstructions)
    (cond (ltb 65535 size) (Err ProgramTooLong)
    (image_tests lent size (image_result (read_image image)))))
    (Err WrongPhaseOrUnsound)
