-- The eight numbers of a run.
use Rattle.std.specs.Prelude.{ℕ, ◌+◌, ◌*◌, cond, List, [], ◌∷◌, eqb, Result, Ok, Err}
use Rattle.std.proofs.lemmas.List.Edits.{sets}
use Rattle.listing.specs.declared.Head.{Head}
use Rattle.listing.specs.declared.Head.TheVariants.{Done, Paused, Refused, Saved}
use Rattle.host.specs.declared.hosting.RunSummary.{RunSummary}
use Rattle.host.specs.declared.reasons.Reason.{Reason}
use Rattle.host.specs.Reasons.{as_numbers}
use Rattle.errors.specs.declared.Refusal.{Refusal}

-- no refusal
abbrev pub no_reason : Reason
no_reason = record { number = 0; first = 0; second = 0 }

-- why the save after a run was refused
unfoldable pub save_reason : Result ℕ Refusal → Reason
save_reason (Ok length) = no_reason
save_reason (Err refusal) = as_numbers refusal

-- why the run was refused, or else the save after it
unfoldable pub reason_of : Head → Result ℕ Refusal → Reason
reason_of (Refused refusal) saved = as_numbers refusal
reason_of (Done count) saved = save_reason saved
reason_of (Paused count) saved = save_reason saved
reason_of (Saved length) saved = save_reason saved

-- 0 done, 1 paused, 2 refused
unfoldable pub outcome_of : Head → ℕ
outcome_of (Done count) = 0
outcome_of (Paused count) = 1
outcome_of (Refused refusal) = 2
outcome_of (Saved length) = 0

-- 24 where the listing was not written; a listing is never empty
unfoldable pub listing_number : ℕ → ℕ
listing_number written = cond (eqb written 0) 24 0

-- the outcome, the refusal's number and the listing's number, a byte each
abbrev pub packed : ℕ → ℕ → ℕ → ℕ
packed outcome number listing = outcome + 256 * number + 65536 * listing

-- a number, and the buffer of numbers after it
pub record Told : Type 0 where
  pub answer : ℕ
  pub numbers : List ℕ

abbrev pub told : ℕ → List ℕ → Told
told answer numbers = record { answer = answer; numbers = numbers }

-- the eight numbers, in their order
abbrev pub numbers_of : RunSummary → Reason → List ℕ
numbers_of performed why =
    outcome_of performed.head ∷ performed.finished ∷ why.number ∷ why.first ∷ why.second ∷ performed.listing.written ∷ performed.saved ∷ performed.listing.needed ∷ []

abbrev pub answers_with : List ℕ → RunSummary → Reason → Told
answers_with answer performed why =
    told (packed (outcome_of performed.head) why.number (listing_number performed.listing.written)) (sets answer 0 (numbers_of performed why))

unfoldable pub answers : List ℕ → RunSummary → Told
answers answer performed = answers_with answer performed (reason_of performed.head performed.save)
