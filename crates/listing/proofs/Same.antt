-- Equal listings tell the same: how the call ended, each value as it was read, each living task.
use Rattle.std.proofs.Common.{◌≡◌, ℕ, Bool, true, false, cond, not, List, [], ◌∷◌, ◌++◌, length, get_or, drop, sym, refl, ap, ◌∙◌, append_assoc, arith}
use Rattle.errors.specs.Refusals.{number_of, details_of}
use Rattle.errors.specs.declared.Refusal.{Refusal}
use Rattle.errors.specs.declared.Refusal.TheVariants as refusal
use Rattle.storage.specs.declared.Task.{Task}
use Rattle.text.specs.Ascii.{ascii}
use Rattle.text.specs.Numbers.{decimal, spaced, words, filled_in, numbers_left, filled}
use Rattle.text.specs.Escapes.{escaped}
use Rattle.text.specs.Lines.{formed, line, said}
use Rattle.text.proofs.Feeds.{decimal_lacks, cut_at, cut_at_first}
use Rattle.text.proofs.Back.{begins, read_numbers, decimal_back, spaced_back, read_hex, hex_back, read_escaped, escaped_back}
use Rattle.utf8.specs.Utf8.{valid}
use Rattle.memory.specs.declared.unbox.Return.{Return}
use Rattle.memory.specs.declared.unbox.Return.TheVariants as kind
use Rattle.listing.specs.declared.Head.{Head}
use Rattle.listing.specs.declared.Head.TheVariants.{Done, Paused, Refused, Saved}
use Rattle.listing.specs.declared.Counted.TheVariants.{Values, Tasks}
use Rattle.listing.specs.Listing.{ValueRead, lines_of_values, lines_of_tasks, listing}
use Rattle.listing.specs.Listing.{line_of_refusal, line_of_head, line_of_count, line_of_bool, line_of_numbers, line_of_value, line_of_task}
use Rattle.listing.specs.Told.{ValueTold, TaskTold, value_told, values_told, task_told, tasks_told, told}
use Rattle.listing.proofs.Ends.{head_ended, count_ended, value_ended, title_escaped, line_of_told, task_ended, first_same, not_empty}
use Rattle.std.specs.Prelude.{Result, Ok, Err}

-- ---- a line read back

-- what stands behind the first space
abbrev behind : List ℕ → List ℕ
behind line = (cut_at 32 line).1

-- the numbers there
abbrev numbers_of : List ℕ → List ℕ
numbers_of line = read_numbers [] (behind line)

-- the refusal of a number and its details; 0, 18 and 19 are no refusal's number
refusal_of : ℕ → List ℕ → Refusal
refusal_of number details =
    get_or
    (refusal.EmptyInstructions ∷ refusal.EmptyInstructions ∷ refusal.UnexpectedEOB ∷ refusal.StackUnderflow ∷ refusal.StackOverflow
    ∷ refusal.InvalidType ∷ refusal.TypeMismatch ∷ refusal.MultiplicationOverflowed ∷ refusal.MaxStatesError
    ∷ refusal.TaskNotFound (get_or details 0 0) ∷ refusal.InvalidTaskField (get_or details 0 0) ∷ refusal.InvalidStatus (get_or details 0 0)
    ∷ refusal.InvalidInstructionsIndex (get_or details 0 0) ∷ refusal.MSliceParamOverflow
    ∷ refusal.MSliceOutOfBounds (get_or details 0 0) (get_or details 1 0) ∷ refusal.BytesToStringConversionError ∷ refusal.AlignmentMismatch
    ∷ refusal.SliceSizeMismatch ∷ refusal.EmptyInstructions ∷ refusal.EmptyInstructions ∷ refusal.TableFull ∷ refusal.TitleTooLong
    ∷ refusal.PoolFull ∷ refusal.MemoryTooShort ∷ refusal.SaveBufferTooShort ∷ refusal.BadImage (get_or details 0 0)
    ∷ refusal.WrongPhaseOrUnsound ∷ refusal.NotAdmitted (get_or details 0 0) ∷ refusal.ProgramTooLong ∷ [])
    number refusal.EmptyInstructions

-- every refusal is that of its number and details
refusal_back : (r : Refusal) → refusal_of (number_of r) (details_of r) ≡ r
unfolding refusal_of
refusal_back refusal.EmptyInstructions = refl
refusal_back refusal.UnexpectedEOB = refl
refusal_back refusal.StackUnderflow = refl
refusal_back refusal.StackOverflow = refl
refusal_back refusal.InvalidType = refl
refusal_back refusal.TypeMismatch = refl
refusal_back refusal.MultiplicationOverflowed = refl
refusal_back refusal.MaxStatesError = refl
refusal_back (refusal.TaskNotFound id) = refl
refusal_back (refusal.InvalidTaskField field) = refl
refusal_back (refusal.InvalidStatus state) = refl
refusal_back (refusal.InvalidInstructionsIndex index) = refl
refusal_back refusal.MSliceParamOverflow = refl
refusal_back (refusal.MSliceOutOfBounds index size) = refl
refusal_back refusal.BytesToStringConversionError = refl
refusal_back refusal.AlignmentMismatch = refl
refusal_back refusal.SliceSizeMismatch = refl
refusal_back refusal.TableFull = refl
refusal_back refusal.TitleTooLong = refl
refusal_back refusal.PoolFull = refl
refusal_back refusal.MemoryTooShort = refl
refusal_back refusal.SaveBufferTooShort = refl
refusal_back (refusal.BadImage place) = refl
refusal_back refusal.WrongPhaseOrUnsound = refl
refusal_back (refusal.NotAdmitted place) = refl
refusal_back refusal.ProgramTooLong = refl

-- how the call ended, by the line and its numbers
head_of : List ℕ → List ℕ → Head
head_of line numbers =
    cond (begins (ascii "done") line) (Done (get_or numbers 0 0))
    (cond (begins (ascii "paused") line) (Paused (get_or numbers 0 0))
    (cond (begins (ascii "saved") line) (Saved (get_or numbers 0 0)) (Refused (refusal_of (get_or numbers 0 0) (drop 1 numbers)))))

-- the first line tells how the call ended
head_back : (head : Head) → head_of (line_of_head head) (numbers_of (line_of_head head)) ≡ head
unfolding head_of cut_at begins read_numbers line_of_head line_of_refusal said line formed filled filled_in numbers_left ascii spaced
head_back (Done n) = ap (head_of (line_of_head (Done n))) (spaced_back [] (n ∷ []))
head_back (Paused n) = ap (head_of (line_of_head (Paused n))) (spaced_back [] (n ∷ []))
head_back (Refused r) =
    ap (head_of (line_of_head (Refused r))) (spaced_back [] (number_of r ∷ details_of r)) ∙ ap Refused (refusal_back r)
head_back (Saved n) = ap (head_of (line_of_head (Saved n))) (spaced_back [] (n ∷ []))

-- the count of values tells it
count_back : (n : ℕ) → numbers_of (line_of_count Values n) ≡ n ∷ []
unfolding cut_at read_numbers line_of_count said line formed filled filled_in numbers_left ascii spaced
count_back n = spaced_back [] (n ∷ [])

-- a value, by the line and its numbers
value_of : List ℕ → List ℕ → ValueTold
value_of line numbers =
    cond (begins (ascii "u32") line) (ValueTold.number (get_or numbers 0 0))
    (cond (begins (ascii "bool true") line) (ValueTold.truth true)
    (cond (begins (ascii "bool false") line) (ValueTold.truth false)
    (cond (begins (ascii "text") line) (ValueTold.text (read_escaped 0 (behind line)))
    (cond (begins (ascii "calldata") line) (ValueTold.calldata (read_hex (behind line)))
    (cond (begins (ascii "vec") line) (ValueTold.numbers numbers)
    (cond (begins (ascii "null") line) ValueTold.null (ValueTold.refused (get_or numbers 0 0))))))))

-- the line of numbers tells them
vec_back : (numbers : List ℕ) → value_of (line_of_numbers numbers) (numbers_of (line_of_numbers numbers)) ≡ ValueTold.numbers numbers
unfolding value_of cut_at begins read_numbers line_of_numbers ascii spaced
vec_back [] = refl
vec_back (n ∷ more) = ap ValueTold.numbers (spaced_back [] (n ∷ more))

-- the line of a value tells it
value_back : (kind : Result Return Refusal) (part : List ℕ) → value_of (line_of_value kind part) (numbers_of (line_of_value kind part)) ≡ value_told kind part
unfolding value_told value_of cut_at begins read_numbers line_of_value line_of_bool said line formed filled filled_in numbers_left ascii spaced
value_back (Ok (kind.U32 n)) part = ap (value_of (line_of_value (Ok (kind.U32 n)) part)) (spaced_back [] (n ∷ []))
value_back (Ok (kind.Boolean true)) part = refl
value_back (Ok (kind.Boolean false)) part = refl
value_back (Ok (kind.String pointer)) part = ap ValueTold.text (escaped_back false part)
value_back (Ok (kind.CallData entry)) part = ap ValueTold.calldata (hex_back part)
value_back (Ok (kind.VecU32 pointer)) part = vec_back (words part)
value_back (Ok kind.Null) part = refl
value_back (Err r) part = ap (value_of (line_of_value (Err r) part)) (spaced_back [] (number_of r ∷ []))

-- ---- a task's line

-- a task, by its line
read_task : List ℕ → TaskTold
read_task line = record {
  id = get_or (numbers_of line) 0 0;
  state = get_or (numbers_of line) 1 0;
  title = read_escaped 0 (behind (behind (behind line)));
}

-- what stands behind a number and a space
behind_decimal : (n : ℕ) (rest : List ℕ) → behind (decimal n ++ 32 ∷ rest) ≡ rest
behind_decimal n rest = ap (λ (parts : List ℕ × List ℕ). parts.1) (cut_at_first 32 (decimal n) rest (decimal_lacks 32 n (omega arith)))

-- the first two numbers
two_back : (n next : ℕ) (rest : List ℕ) → read_numbers [] (decimal n ++ 32 ∷ (decimal next ++ 32 ∷ rest)) ≡ n ∷ next ∷ read_numbers [] rest
unfolding read_numbers
two_back n next rest = decimal_back n (32 ∷ (decimal next ++ 32 ∷ rest)) ∙ ap (λ (l : List ℕ). n ∷ l) (decimal_back next (32 ∷ rest))

module _ (task : TaskTold) where
  -- its id and its state
  abbrev numbers : List ℕ
  numbers = task.id ∷ task.state ∷ []

  -- the title as it is shown, and the line feed
  abbrev shown : List ℕ
  shown = escaped (not (valid task.title)) task.title ++ 10 ∷ []

  -- id, state and title, a space before each
  task_line : line_of_told task ≡ ascii "task " ++ (decimal task.id ++ 32 ∷ (decimal task.state ++ 32 ∷ shown))
  unfolding line filled filled_in numbers_left ascii
  task_line =
      ap (λ (l : List ℕ). filled (ascii "task # # ") numbers ++ (l ++ 10 ∷ [])) (title_escaped task.title numbers)
      ∙ ap (λ (l : List ℕ). ascii "task " ++ l)
      (append_assoc (decimal task.id) (32 ∷ (decimal task.state ++ 32 ∷ [])) shown
      ∙ ap (λ (l : List ℕ). decimal task.id ++ 32 ∷ l) (append_assoc (decimal task.state) (32 ∷ []) shown))

  -- the line of a task tells it
  task_back : read_task (line_of_told task) ≡ task
  unfolding read_task cut_at ascii
  task_back =
      ap read_task task_line
      ∙ rw (
        two_back task.id task.state shown,
        behind_decimal task.id (decimal task.state ++ 32 ∷ shown),
        behind_decimal task.state shown,
        escaped_back (not (valid task.title)) task.title,
      )

-- ---- equal lines tell the same

-- how the call ended
pub head_same : (head other : Head) → line_of_head head ≡ line_of_head other → head ≡ other
head_same head other same = sym (head_back head) ∙ ap (λ (l : List ℕ). head_of l (numbers_of l)) same ∙ head_back other

-- how many values follow
pub count_same : (n other : ℕ) → line_of_count Values n ≡ line_of_count Values other → n ≡ other
count_same n other same = cc (count_back n, count_back other)

-- a value
pub value_same : (kind other : Result Return Refusal) (part parts : List ℕ) → line_of_value kind part ≡ line_of_value other parts
    → value_told kind part ≡ value_told other parts
value_same kind other part parts same =
    sym (value_back kind part) ∙ ap (λ (l : List ℕ). value_of l (numbers_of l)) same ∙ value_back other parts

-- a living task
pub task_same : (task other : TaskTold) → line_of_told task ≡ line_of_told other → task ≡ other
task_same task other same = sym (task_back task) ∙ ap read_task same ∙ task_back other

-- ---- equal listings

-- as many values, and the text behind them
values_same : (values others : List ValueRead) {rest rests : List ℕ} → length values ≡ length others
    → lines_of_values values ++ rest ≡ lines_of_values others ++ rests → (values_told values ≡ values_told others) × (rest ≡ rests)
unfolding lines_of_values values_told
values_same [] [] count same = (refl, same)
values_same [] (other ∷ others) count same = absurd (omega arith)
values_same (read ∷ more) [] count same = absurd (omega arith)
values_same (read ∷ more) (other ∷ others) {rest} {rests} count same =
    let first =
    first_same (value_ended read.answer read.part) (value_ended other.answer other.part)
    (sym (append_assoc (line_of_value read.answer read.part) (lines_of_values more) rest)
    ∙ same
    ∙ append_assoc (line_of_value other.answer other.part) (lines_of_values others) rests) in
    let behind_first = values_same more others (omega arith) first.1 in
    (rw (value_same read.answer other.answer read.part other.part first.0, behind_first.0), behind_first.1)

-- the lines of living tasks, by what is told of them
lines_of_told : List TaskTold → List ℕ
lines_of_told [] = []
lines_of_told (task ∷ more) = line_of_told task ++ lines_of_told more

-- the lines of a table are those of its living tasks
lines_living : (table : List Task) → lines_of_tasks table ≡ lines_of_told (tasks_told table)
unfolding lines_of_tasks line_of_task lines_of_told tasks_told
lines_living [] = refl
lines_living (task ∷ more) = by task.living (lines_living more)
  where
    by : (living : Bool) → lines_of_tasks more ≡ lines_of_told (tasks_told more)
        → cond living (line_of_told (task_told task)) [] ++ lines_of_tasks more
        ≡ lines_of_told (cond living (task_told task ∷ tasks_told more) (tasks_told more))
    by true same = ap (λ (l : List ℕ). line_of_told (task_told task) ++ l) same
    by false same = same

-- the living tasks
tasks_same : (tasks others : List TaskTold) → lines_of_told tasks ≡ lines_of_told others → tasks ≡ others
unfolding lines_of_told
tasks_same [] [] same = refl
tasks_same [] (other ∷ others) same = absurd (not_empty (lines_of_told others) (task_ended other) same)
tasks_same (task ∷ more) [] same = absurd (not_empty (lines_of_told more) (task_ended task) (sym same))
tasks_same (task ∷ more) (other ∷ others) same =
    let first = first_same (task_ended task) (task_ended other) same in
    rw (task_same task other first.0, tasks_same more others first.1)

-- equal listings tell the same
pub same_listings : (head other : Head) (values others : List ValueRead) (table tables : List Task)
    → listing head values table ≡ listing other others tables → told head values table ≡ told other others tables
unfolding listing
same_listings head other values others table tables same =
    let first = first_same (head_ended head) (head_ended other) same in
    let second = first_same (count_ended Values (length values)) (count_ended Values (length others)) first.1 in
    let third = values_same values others (count_same (length values) (length others) second.0) second.1 in
    let fourth = first_same (count_ended Tasks _) (count_ended Tasks _) third.1 in
    let tasks_are = tasks_same (tasks_told table) (tasks_told tables) (sym (lines_living table) ∙ fourth.1 ∙ lines_living tables) in
    rw (head_same head other first.0, third.0, tasks_are)
