-- What the check answers, and the kinds that it writes.
use Rattle.std.specs.Prelude.{ℕ, zero, suc, ◌%◌, ◌≡◌, List, reverse, length, get_or, set, Ok, Err, Result}
use Rattle.std.proofs.lemmas.List.Edits.{sets}
use Rattle.labels.specs.Labels.{letters}
use Rattle.labels.specs.Check.{Verdict, admitted, refused}
use Rattle.admission.specs.Nodes.{top, below}
use Rattle.errors.specs.declared.Refusal.{Refusal}

-- an array of so many zeros
pub record Zeros (size : ℕ) (numbers : List ℕ) : Type 0 where
  pub sized : length numbers ≡ size
  pub zero_at : (at : ℕ) → get_or numbers at 0 ≡ 0

-- the letters from a node down, so many of them, written so that the topmost comes last
unfoldable pub written : ℕ → List ℕ → ℕ → List ℕ → List ℕ
written zero cells node kinds = kinds
written (suc left) cells node kinds = written left cells (below cells node) (set kinds left (top cells node % 256))

-- the answer, and the buffer for the kinds
pub record Answer : Type 0 where
  pub admission : Result ℕ Refusal
  pub kinds : List ℕ

abbrev pub answer : Result ℕ Refusal → List ℕ → Answer
answer admission kinds = record { admission = admission; kinds = kinds }

-- admitted: the number of kinds, and their letters at the buffer's head, bottom first; refused: the buffer as it was
unfoldable pub answered : Verdict → List ℕ → Answer
answered (admitted kinds) buffer = answer (Ok (length kinds)) (sets buffer 0 (letters (reverse kinds)))
answered (refused refusal) buffer = answer (Err refusal) buffer
