-- Lines behind one another: put into a buffer, or only measured.
use Rattle.std.specs.Prelude.{ℕ, ◌+◌, ◌-◌, Bool, true, false, cond, List, [], ◌∷◌, map, leb, ltb, length, Ok, Err, Result}
use Rattle.std.proofs.lemmas.List.Edits.{sets}
use Rattle.errors.specs.declared.Refusal.TheVariants.{SaveBufferTooShort}
use Rattle.storage.specs.declared.Task.{Task}
use Rattle.storage.specs.Table.{living_of}
use Rattle.text.specs.Lines.{Lined, lined}
use Rattle.listing.specs.declared.Head.{Head}
use Rattle.listing.specs.declared.Counted.TheVariants.{Values, Tasks}
use Rattle.listing.specs.Listing.{ValueRead, line_of_head, line_of_count, line_of_value, line_of_task}
use Rattle.errors.specs.declared.Refusal.{Refusal}

-- ---- one line

-- where it goes: behind those so far, where it is put
abbrev pub line_start : Bool → ℕ → ℕ
line_start writes at = cond writes at 0

-- the length of the lines so far and of one more, where a number of 64 bits holds it
unfoldable pub counted : ℕ → Result ℕ Refusal → Result ℕ Refusal
counted at (Ok size) = cond (ltb (18446744073709551615 - size) at) (Err SaveBufferTooShort) (Ok (at + size))
counted at (Err refusal) = Err refusal

-- a length, where a number of 64 bits holds it; else 24
unfoldable pub sized : ℕ → Result ℕ Refusal
sized size = cond (leb size 18446744073709551615) (Ok size) (Err SaveBufferTooShort)

-- a text behind others that have a length: put there where the buffer holds it, else 24; or only measured
unfoldable pub behind : Bool → ℕ → List ℕ → List ℕ → Lined
behind true at out text = cond (leb (at + length text) (length out)) (lined (Ok (at + length text)) (sets out at text)) (lined (Err SaveBufferTooShort) out)
behind false at out text = lined (sized (at + length text)) out

-- a text behind the lines so far
unfoldable pub next_text : Bool → Result ℕ Refusal → List ℕ → List ℕ → Lined
next_text writes (Ok at) out text = behind writes at out text
next_text writes (Err refusal) out text = lined (Err refusal) out

abbrev pub next : Bool → Lined → List ℕ → Lined
next writes l text = next_text writes l.answer l.out text

-- ---- many lines

-- one after the other, behind the lines so far
unfoldable pub tell_lines : Bool → Lined → List (List ℕ) → Lined
tell_lines writes l [] = l
tell_lines writes l (text ∷ more) = tell_lines writes (next writes l text) more

-- the line of a value as it was read
abbrev pub line_of_read : ValueRead → List ℕ
line_of_read read = line_of_value read.answer read.part

-- the values
unfoldable pub tell_values : Bool → Lined → List ValueRead → Lined
tell_values writes l values = tell_lines writes l (map line_of_read values)

-- how a run ended, how many values there are, and each of them
unfoldable pub tell_run : Bool → List ℕ → Head → List ValueRead → Lined
tell_run writes out head values = tell_lines writes (lined (Ok 0) out) (line_of_head head ∷ line_of_count Values (length values) ∷ map line_of_read values)

-- a task; a slot that is not living leaves the lines so far
unfoldable pub next_task : Bool → Lined → Task → Lined
next_task writes l task = cond task.living (next writes l (line_of_task task)) l

-- each by slot
unfoldable pub tell_slots : Bool → Lined → List Task → Lined
tell_slots writes l [] = l
tell_slots writes l (task ∷ more) = tell_slots writes (next_task writes l task) more

-- how many tasks there are, and each of them
unfoldable pub tell_tasks : Bool → Lined → List Task → Lined
tell_tasks writes l table = tell_slots writes (next writes l (line_of_count Tasks (living_of table))) table
