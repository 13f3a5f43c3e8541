-- How long the lines beside the values are: the first one, the counts, and those of the tasks.
use Rattle.std.proofs.Common.{◌≡◌, ℕ, suc, ◌*◌, ◌<◌, ◌≤◌, Bool, true, false, cond, ltb, List, [], ◌∷◌, ◌++◌, length, get_or, refl, arith, length-append, length-take}
use Rattle.errors.specs.Refusals.{number_of, details_of}
use Rattle.storage.specs.declared.Task.{Task}
use Rattle.storage.specs.Table.{lives, living_of}
use Rattle.storage.specs.Tasks.{blank}
use Rattle.text.specs.Ascii.{ascii}
use Rattle.text.specs.Numbers.{decimal, spaced, filled_in, numbers_left, filled}
use Rattle.text.specs.Lines.{formed, line, said}
use Rattle.text.specs.declared.Form.TheVariants.{Escaped, Ascii}
use Rattle.text.proofs.Decimals.{few_digits, twenty_digits}
use Rattle.text.proofs.Escaping.{escaped_short}
use Rattle.utf8.specs.Utf8.{valid}
use Rattle.listing.specs.declared.Head.{Head}
use Rattle.listing.specs.declared.Head.TheVariants.{Done, Paused, Refused, Saved}
use Rattle.listing.specs.declared.Counted.{Counted}
use Rattle.listing.specs.declared.Counted.TheVariants.{Values, Tasks}
use Rattle.listing.specs.Listing.{line_of_refusal, line_of_head, line_of_count, title_of, title_form, line_of_task, lines_of_tasks}
use Rattle.listing.proofs.Longest.{ten_digits, short_refusal, one_number}

-- ---- the first line and the counts

-- one of 8 bits has at most 3
three_digits : (n : ℕ) → n < 256 → length (decimal n) ≤ 3
three_digits n small = few_digits 2 n (ltb n 10) refl (omega arith)

-- a number of 64 bits and its space take at most 21 bytes
spaced_most : (numbers : List ℕ) → ((i : ℕ) → get_or numbers i 0 < 18446744073709551616) → length (spaced numbers) ≤ 21 * length numbers
unfolding spaced
spaced_most [] small = omega arith
spaced_most (n ∷ more) small =
    let rest : length (spaced more) ≤ 21 * length more = spaced_most more (λ i. small (suc i)) in
    omega (arith, twenty_digits n (small 0), length-append (decimal n) (spaced more))

-- the numbers that the first line tells beside a refusal's own
unfoldable pub numbers_told : Head → List ℕ
numbers_told (Done count) = count ∷ []
numbers_told (Paused count) = count ∷ []
numbers_told (Refused refusal) = details_of refusal
numbers_told (Saved length) = length ∷ []

-- the first line has at most 53 bytes
pub head_short : (head : Head) → ((i : ℕ) → get_or (numbers_told head) i 0 < 18446744073709551616) → length (line_of_head head) ≤ 53
unfolding numbers_told line_of_head line_of_refusal said line formed filled filled_in numbers_left ascii spaced
head_short (Done n) small = omega (arith, one_number n, twenty_digits n (small 0))
head_short (Paused n) small = omega (arith, one_number n, twenty_digits n (small 0))
head_short (Refused r) small =
    let told = short_refusal r in
    let digits : length (decimal (number_of r)) ≤ 2 = few_digits 1 (number_of r) (ltb (number_of r) 10) refl (omega (arith, told.0)) in
    omega (arith, told.1, spaced_most (details_of r) small, length-append (decimal (number_of r)) (spaced (details_of r)), length-append (decimal (number_of r) ++ spaced (details_of r)) (10 ∷ []))
head_short (Saved n) small = omega (arith, one_number n, twenty_digits n (small 0))

-- a count of 64 bits has at most 28
pub count_short : (counted : Counted) (n : ℕ) → n < 18446744073709551616 → length (line_of_count counted n) ≤ 28
unfolding line_of_count said line formed filled filled_in numbers_left ascii
count_short Values n small = omega (arith, one_number n, twenty_digits n small)
count_short Tasks n small = omega (arith, one_number n, twenty_digits n small)

-- ---- the tasks

-- the numbers in a task's line, and how long its title is
pub record Small (task : Task) : Type 0 where
  pub id : task.id.0 < 4294967296
  pub state : task.state.state < 256
  pub title : task.title_len ≤ 128

-- a title takes at most three characters a byte, UTF-8 or not
title_short : (title : List ℕ) (numbers : List ℕ) → length (formed (title_form title) title numbers) ≤ 3 * length title
unfolding title_form formed
title_short title numbers = by (valid title)
  where
    by : (is : Bool) → length (formed (cond is Escaped Ascii) title numbers) ≤ 3 * length title
    by true = escaped_short false title
    by false = escaped_short true title

living_line : (task : Task) → Small task
    → length (line (ascii "task # # ") (task.id.0 ∷ task.state.state ∷ []) (title_form (title_of task)) (title_of task)) ≤ 405
unfolding line filled filled_in numbers_left ascii
living_line task told =
    let numbers = task.id.0 ∷ task.state.state ∷ [] in
    let id : length (decimal task.id.0) ≤ 10 = ten_digits task.id.0 told.id in
    let state : length (decimal task.state.state) ≤ 3 = three_digits task.state.state told.state in
    let title : length (title_of task) ≤ 128 = omega (arith, told.title, length-take task.title_len task.title) in
    simp length-append (omega (arith, title_short (title_of task) numbers))

-- a task's line has at most 405 bytes
pub task_short : (task : Task) → (task.living ≡ true → Small task) → length (line_of_task task) ≤ 405
unfolding line_of_task
task_short task told = by task.living told
  where
    by : (living : Bool) → (living ≡ true → Small task)
        → length (cond living (line (ascii "task # # ") (task.id.0 ∷ task.state.state ∷ []) (title_form (title_of task)) (title_of task)) []) ≤ 405
    by true told = living_line task (told refl)
    by false told = omega arith

-- the lines of so many
pub tasks_short : (table : List Task) → ((slot : ℕ) → slot < length table → length (line_of_task (get_or table slot blank)) ≤ 405) → length (lines_of_tasks table) ≤ 405 * length table
unfolding lines_of_tasks
tasks_short [] each = omega arith
tasks_short (task ∷ more) each =
    let first : length (line_of_task task) ≤ 405 = each 0 (omega arith) in
    let rest : length (lines_of_tasks more) ≤ 405 * length more = tasks_short more (λ slot inside. each (suc slot) (omega arith)) in
    omega (arith, length-append (line_of_task task) (lines_of_tasks more))

lives_most : (living : Bool) → cond living 1 0 ≤ 1
lives_most true = omega arith
lives_most false = omega arith

-- no more tasks are living than there are slots
pub living_most : (table : List Task) → living_of table ≤ length table
unfolding living_of lives
living_most [] = omega arith
living_most (task ∷ table) = omega (arith, lives_most task.living, living_most table)
