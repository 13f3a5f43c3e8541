-- The listing (docs/REFERENCE.md, 'The listing'), as the join of its lines.
use Rattle.std.specs.Prelude.{ℕ, zero, suc, ◌+◌, ◌-◌, Bool, true, false, cond, List, [], ◌∷◌, ◌++◌, length, take, slice_index_or, Result, Ok, Err}
use Rattle.errors.specs.Refusals.{number_of, details_of}
use Rattle.errors.specs.declared.Refusal.{Refusal}
use Rattle.storage.specs.Table.{living_of}
use Rattle.storage.specs.Tasks.{blank}
use Rattle.storage.specs.declared.Task.{Task}
use Rattle.text.specs.Ascii.{ascii}
use Rattle.text.specs.Numbers.{decimal, spaced, words}
use Rattle.text.specs.Lines.{line, said}
use Rattle.text.specs.declared.Form.{Form}
use Rattle.text.specs.declared.Form.TheVariants.{Hex, Escaped, Ascii}
use Rattle.utf8.specs.Utf8.{valid}
use Rattle.memory.specs.Unbox.{unbox_value, part_of}
use Rattle.memory.specs.declared.unbox.Return.{Return}
use Rattle.memory.specs.declared.unbox.Return.TheVariants as kind
use Rattle.listing.specs.declared.Head.{Head}
use Rattle.listing.specs.declared.Head.TheVariants.{Done, Paused, Refused, Saved}
use Rattle.listing.specs.declared.Counted.{Counted}
use Rattle.listing.specs.declared.Counted.TheVariants.{Values, Tasks}
use Rattle.errors.specs.declared.Refusal.{Refusal}

-- `refused`, the number and details, one space before each
unfoldable pub line_of_refusal : ℕ → List ℕ → List ℕ
line_of_refusal number details = ascii "refused" ++ (spaced (number ∷ details) ++ 10 ∷ [])

-- the first line: how a call ended
unfoldable pub line_of_head : Head → List ℕ
line_of_head (Done count) = said (ascii "done #") (count ∷ [])
line_of_head (Paused count) = said (ascii "paused #") (count ∷ [])
line_of_head (Refused refusal) = line_of_refusal (number_of refusal) (details_of refusal)
line_of_head (Saved length) = said (ascii "saved #") (length ∷ [])

-- how many values, or tasks, follow
unfoldable pub line_of_count : Counted → ℕ → List ℕ
line_of_count Values count = said (ascii "values #") (count ∷ [])
line_of_count Tasks count = said (ascii "tasks #") (count ∷ [])

-- `bool true` or `bool false`
unfoldable pub line_of_bool : Bool → List ℕ
line_of_bool true = said (ascii "bool true") []
line_of_bool false = said (ascii "bool false") []

-- `vec ` and numbers, one space between
unfoldable pub line_of_numbers : List ℕ → List ℕ
line_of_numbers [] = ascii "vec \n"
line_of_numbers (n ∷ more) = ascii "vec " ++ (decimal n ++ spaced more ++ 10 ∷ [])

-- a value by its kind and the part of memory or of the pool beside it
unfoldable pub line_of_value : Result Return Refusal → List ℕ → List ℕ
line_of_value (Ok (kind.U32 number)) part = said (ascii "u32 #") (number ∷ [])
line_of_value (Ok (kind.Boolean truth)) part = line_of_bool truth
line_of_value (Ok (kind.String pointer)) part = line (ascii "text ") [] Escaped part
line_of_value (Ok (kind.CallData entry)) part = line (ascii "calldata ") [] Hex part
line_of_value (Ok (kind.VecU32 pointer)) part = line_of_numbers (words part)
line_of_value (Ok kind.Null) part = said (ascii "null") []
line_of_value (Err refusal) part = said (ascii "bad #") (number_of refusal ∷ [])

-- a task's title
abbrev pub title_of : Task → List ℕ
title_of task = take task.title_len task.title

-- how a title is shown: escaped, and where it is not UTF-8 as ASCII alone
unfoldable pub title_form : List ℕ → Form
title_form title = cond (valid title) Escaped Ascii

-- `task `, id, state and title; a slot that is not living has no line
unfoldable pub line_of_task : Task → List ℕ
line_of_task task =
    cond task.living
    (line (ascii "task # # ") (task.id.0 ∷ task.state.state ∷ []) (title_form (title_of task)) (title_of task))
    []

-- what a read of a value answers, and the part beside it
pub record ValueRead : Type 0 where
  pub answer : Result Return Refusal
  pub part : List ℕ

-- what a word of the stack is read as
abbrev pub read_of : List ℕ → List ℕ → List ℕ → ℕ → ℕ → ValueRead
read_of memory pool ends entries word = record {
  answer = unbox_value memory ends entries word;
  part = part_of memory pool ends (unbox_value memory ends entries word);
}

-- what each word is read as
unfoldable pub values_read : List ℕ → List ℕ → List ℕ → ℕ → List ℕ → List ValueRead
values_read memory pool ends entries [] = []
values_read memory pool ends entries (word ∷ more) = read_of memory pool ends entries word ∷ values_read memory pool ends entries more

-- how high the stack is that is listed: that of a run that is done
unfoldable pub height_of : Head → ℕ → ℕ
height_of (Done count) height = height
height_of (Paused count) height = 0
height_of (Refused refusal) height = 0
height_of (Saved length) height = 0

-- the lines of values, bottom first
unfoldable pub lines_of_values : List ValueRead → List ℕ
lines_of_values [] = []
lines_of_values (read ∷ more) = line_of_value read.answer read.part ++ lines_of_values more

-- the lines of tasks, by slot
unfoldable pub lines_of_tasks : List Task → List ℕ
lines_of_tasks [] = []
lines_of_tasks (task ∷ more) = line_of_task task ++ lines_of_tasks more

-- the listing after a call: its values, and the table of tasks
unfoldable pub listing : Head → List ValueRead → List Task → List ℕ
listing head values table =
    line_of_head head ++ (line_of_count Values (length values) ++ (lines_of_values values ++ (line_of_count Tasks (living_of table) ++ lines_of_tasks table)))

-- ---- the same, line by line

-- a line behind the count of values: a value each, then how many tasks follow, then a task
unfoldable pub line_behind : List ValueRead → ℕ → Task → ℕ → List ℕ
line_behind (read ∷ more) living task zero = line_of_value read.answer read.part
line_behind (read ∷ more) living task (suc number) = line_behind more living task number
line_behind [] living task zero = line_of_count Tasks living
line_behind [] living task (suc number) = line_of_task task

-- a line by its number, counted from 0, with the count of living tasks and the task in the line's slot
unfoldable pub line_by : Head → List ValueRead → ℕ → Task → ℕ → List ℕ
line_by head values living task zero = line_of_head head
line_by head values living task (suc zero) = line_of_count Values (length values)
line_by head values living task (suc (suc number)) = line_behind values living task number

-- how many lines there are to so many values and slots; a slot that is not living has an empty one
unfoldable pub line_count : ℕ → ℕ → ℕ
line_count values slots = values + 3 + slots

-- the slot that a line shows, where so many values are listed
unfoldable pub slot_shown : ℕ → ℕ → ℕ
slot_shown values number = number - (values + 3)

-- a line of the listing, by its number
unfoldable pub line_at : Head → List ValueRead → List Task → ℕ → List ℕ
line_at head values table number = line_by head values (living_of table) (slice_index_or table (slot_shown (length values) number) blank) number

-- the first so many lines, one after the other
unfoldable pub joined_lines : (ℕ → List ℕ) → ℕ → List ℕ
joined_lines line zero = []
joined_lines line (suc number) = joined_lines line number ++ line number
