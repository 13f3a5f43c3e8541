-- The listing of a run, in a lent buffer whole, or not at all.
use Rattle.std.specs.Prelude.{ℕ, cond, List, leb, length, take, drop, Ok, Err, Result}
use Rattle.std.proofs.lemmas.List.Edits.{sets}
use Rattle.storage.specs.declared.Task.{Task}
use Rattle.listing.specs.declared.Head.{Head}
use Rattle.listing.specs.declared.Head.TheVariants as head
use Rattle.listing.specs.Listing.{ValueRead, height_of, values_read, listing}
use Rattle.machine.specs.declared.Outcome.{Outcome}
use Rattle.machine.specs.declared.Outcome.TheVariants.{Done, Paused, Refused}
use Rattle.machine.specs.declared.Report.{Report}
use Rattle.host.specs.declared.answering.ListingLengths.{ListingLengths}
use Rattle.errors.specs.declared.Refusal.{Refusal}
use Rattle.machine.specs.declared.Machine.{Machine}

-- ---- what is listed

-- how a run ended: a refused creation, or what the run reports
unfoldable pub run_head : ℕ → Outcome → Head
run_head finished Done = head.Done finished
run_head finished Paused = head.Paused finished
run_head finished (Refused refusal) = head.Refused refusal

unfoldable pub head_of : Result Machine Refusal → Report → Head
head_of (Ok machine) report = run_head report.finished report.outcome
head_of (Err refusal) report = head.Refused refusal

-- its values, read over the memory in use
abbrev pub values_of : Result Machine Refusal → Report → List ℕ → List ℕ → List ℕ → List ℕ → List ValueRead
values_of creation report stack memory pool ends =
    values_read (take report.machine.memory (drop 0 memory)) pool ends report.machine.entries
    (take (height_of (head_of creation report) report.machine.height) stack)

-- its listing
abbrev pub text_of : Result Machine Refusal → Report → List Task → List ℕ → List ℕ → List ℕ → List ℕ → List ℕ
text_of creation report table stack memory pool ends = listing (head_of creation report) (values_of creation report stack memory pool ends) table

-- ---- whole, or not at all

-- what came of a listing, and the buffer after it
pub record Listing : Type 0 where
  pub answer : ListingLengths
  pub listing : List ℕ

abbrev pub listing_of : ListingLengths → List ℕ → Listing
listing_of answer listing = record { answer = answer; listing = listing }

abbrev pub with_lengths : ℕ → ℕ → ListingLengths
with_lengths written needed = record { written = written; needed = needed }

-- a length as it is told: 0 where a number of 64 bits does not hold it
unfoldable pub told_length : ℕ → ℕ
told_length size = cond (leb size 18446744073709551615) size 0

-- a text from the buffer's start where the buffer holds it; else its length alone, and the buffer as it was
unfoldable pub list_whole : List ℕ → List ℕ → Listing
list_whole out text =
    cond (leb (length text) (length out)) (listing_of (with_lengths (length text) (length text)) (sets out 0 text))
    (listing_of (with_lengths 0 (told_length (length text))) out)

-- what came of it, and everything lent, after it
pub record ListedIn : Type 0 where
  pub answer : ListingLengths
  pub table : List Task
  pub stack : List ℕ
  pub memory : List ℕ
  pub pool : List ℕ
  pub ends : List ℕ
  pub listing : List ℕ

abbrev pub listed_in : ListingLengths → List Task → List ℕ → List ℕ → List ℕ → List ℕ → List ℕ → ListedIn
listed_in answer table stack memory pool ends listing =
    record { answer = answer; table = table; stack = stack; memory = memory; pool = pool; ends = ends; listing = listing }

-- the listing of a run; all but its buffer stays
abbrev pub beside : List Task → List ℕ → List ℕ → List ℕ → List ℕ → Listing → ListedIn
beside table stack memory pool ends l = listed_in l.answer table stack memory pool ends l.listing

unfoldable pub list_run : Result Machine Refusal → Report → List Task → List ℕ → List ℕ → List ℕ → List ℕ → List ℕ → ListedIn
list_run creation report table stack memory pool ends out =
    beside table stack memory pool ends (list_whole out (text_of creation report table stack memory pool ends))
