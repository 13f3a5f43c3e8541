-- Answers as numbers: an admission, and the test of an image.
use Rattle.std.specs.Prelude.{ℕ, List, Ok, Err, Result}
use Rattle.admission.specs.Answer.{Answer}
use Rattle.host.specs.Reasons.{number_and_detail, number_beside}
use Rattle.errors.specs.declared.Refusal.{Refusal}
use Rattle.image.specs.declared.SoundImage.{SoundImage}

-- a number, and the buffer of kinds after it
pub record Admitting : Type 0 where
  pub answer : ℕ
  pub kinds : List ℕ

abbrev pub admitted : ℕ → List ℕ → Admitting
admitted answer kinds = record { answer = answer; kinds = kinds }

-- admitted: 0 beside the number of kinds; refused: the number beside the place
unfoldable pub admission_number : Result ℕ Refusal → ℕ
admission_number (Ok count) = number_and_detail 0 count
admission_number (Err refusal) = number_beside refusal

abbrev pub packed_admission : Answer → Admitting
packed_admission a = admitted (admission_number a.admission) a.kinds

-- sound: 0; else 25 beside the place
unfoldable pub packed_image : Result SoundImage Refusal → ℕ
packed_image (Ok image) = 0
packed_image (Err refusal) = number_beside refusal
