-- Image I1 (docs/REFERENCE.md, 'The task image'), and small images that are refused, by computing.
use mathlib.Core.List.{[], ◌∷◌, ◌++◌}
use mathlib.Core.Path.{◌≡◌, refl}
use Rattle.image.specs.Image.{record_of, header, body, records, written, sound, bad_at, task_at, headed, good, task_before, read_from, with_count, read_image}
use Rattle.slices.specs.Numbers.{little_endian, number_at}
use Rattle.utf8.specs.Grammar.{UTF8_char}
use Rattle.utf8.specs.Utf8.{valid, from, lead, holds}
use Rattle.roundtrips.specs.Images.{I1, Ab}

-- C12: image I1 loads
pub I1_loads : read_image I1 ≡ sound Ab
unfolding read_image headed good task_before read_from with_count task_at number_at valid from lead holds UTF8_char
I1_loads = refl

-- and is what its task is written as
pub I1_saved : written Ab ≡ I1
unfolding written header record_of records body little_endian
I1_saved = refl

-- a byte left over is a cut record, at its start
pub left_over : read_image (I1 ++ (0 ∷ [])) ≡ bad_at 30
unfolding read_image headed good task_before read_from with_count task_at number_at valid from lead holds UTF8_char
left_over = refl

-- a second kind 1 is wrong at its place
pub second_header : read_image (header 1 0 ++ header 1 0) ≡ bad_at 14
unfolding read_image headed good task_before read_from with_count task_at number_at header record_of little_endian
second_header = refl

-- a wrong count is at 0
pub wrong_count : read_image (header 1 1) ≡ bad_at 0
unfolding read_image headed read_from with_count number_at header record_of little_endian
wrong_count = refl

-- and so are a next id of 257, and fewer bytes than a record's first 6
pub wrong_next_id : read_image (header 257 0) ≡ bad_at 0
unfolding read_image headed number_at header record_of little_endian
wrong_next_id = refl

pub too_short : read_image (0 ∷ []) ≡ bad_at 0
unfolding read_image headed number_at
too_short = refl
