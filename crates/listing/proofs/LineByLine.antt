-- The lines of a listing by their numbers: one after the other they are the listing, and each is what the code puts.
use Rattle.std.proofs.Common.{◌≡◌, ℕ, zero, suc, ◌+◌, ◌-◌, ◌<◌, ◌≤◌, List, [], ◌∷◌, ◌++◌, length, get_or, take, sym, refl, ap, ◌∙◌, append_assoc, append-nil, arith, take_all}
use Rattle.storage.specs.Table.{living_of}
use Rattle.storage.specs.Tasks.{blank}
use Rattle.storage.specs.declared.Task.{Task}
use Rattle.memory.specs.Unbox.{unbox_value, part_of}
use Rattle.memory.specs.declared.unbox.Return.{Return}
use Rattle.listing.specs.declared.Head.{Head}
use Rattle.listing.specs.declared.Counted.TheVariants.{Values, Tasks}
use Rattle.listing.specs.Listing.{ValueRead, read_of, values_read, line_of_head, line_of_count, line_of_value, line_of_task, lines_of_values, lines_of_tasks, listing, line_behind, line_by, line_count, slot_shown, line_at, joined_lines}
use Rattle.std.specs.Prelude.{Result}
use Rattle.errors.specs.declared.Refusal.{Refusal}

-- ---- one after the other

-- the first of them in front
lines_first : (line : ℕ → List ℕ) (number : ℕ) → joined_lines line (suc number) ≡ line 0 ++ joined_lines (λ i. line (suc i)) number
unfolding joined_lines
lines_first line zero = sym (append-nil (line 0))
lines_first line (suc number) =
    ap (λ (lines : List ℕ). lines ++ line (suc number)) (lines_first line number)
    ∙ append_assoc (line 0) (joined_lines (λ i. line (suc i)) number) (line (suc number))

-- the same lines
lines_same : {line other : ℕ → List ℕ} → ((i : ℕ) → line i ≡ other i) → (number : ℕ) → joined_lines line number ≡ joined_lines other number
unfolding joined_lines
lines_same same zero = refl
lines_same same (suc number) = rw (lines_same same number, same number)

-- the slots
tasks_joined : (table : List Task) → joined_lines (λ slot. line_of_task (get_or table slot blank)) (length table) ≡ lines_of_tasks table
unfolding lines_of_tasks joined_lines
tasks_joined [] = refl
tasks_joined (task ∷ more) =
    lines_first (λ slot. line_of_task (get_or (task ∷ more) slot blank)) (length more) ∙ ap (λ (lines : List ℕ). line_of_task task ++ lines) (tasks_joined more)

-- from the first value on
behind_joined : (values : List ValueRead) (living : ℕ) (task_of : ℕ → Task) (slots : ℕ)
    → joined_lines (λ number. line_behind values living (task_of (number - (length values + 1))) number) (length values + suc slots)
    ≡ lines_of_values values ++ (line_of_count Tasks living ++ joined_lines (λ slot. line_of_task (task_of slot)) slots)
unfolding line_behind lines_of_values
behind_joined [] living task_of slots =
    let counted : length {A = ValueRead} [] + suc slots ≡ suc slots = omega arith in
    ap (joined_lines (λ number. line_behind [] living (task_of (number - (length {A = ValueRead} [] + 1))) number)) counted
    ∙ lines_first (λ number. line_behind [] living (task_of (number - (length {A = ValueRead} [] + 1))) number) slots
    ∙ ap (λ (lines : List ℕ). line_of_count Tasks living ++ lines)
    (lines_same (λ slot. let same : suc slot - (length {A = ValueRead} [] + 1) ≡ slot = omega arith in ap (λ (i : ℕ). line_of_task (task_of i)) same) slots)
behind_joined (read ∷ more) living task_of slots =
    let counted : length (read ∷ more) + suc slots ≡ suc (length more + suc slots) = omega arith in
    ap (joined_lines (λ number. line_behind (read ∷ more) living (task_of (number - (length (read ∷ more) + 1))) number)) counted
    ∙ lines_first (λ number. line_behind (read ∷ more) living (task_of (number - (length (read ∷ more) + 1))) number) (length more + suc slots)
    ∙ ap (λ (lines : List ℕ). line_of_value read.answer read.part ++ lines)
    (lines_same (λ number. let same : suc number - (length (read ∷ more) + 1) ≡ number - (length more + 1) = omega arith in ap (λ (i : ℕ). line_behind more living (task_of i) number) same) (length more + suc slots)
    ∙ behind_joined more living task_of slots)
    ∙ sym (append_assoc (line_of_value read.answer read.part) (lines_of_values more) (line_of_count Tasks living ++ joined_lines (λ slot. line_of_task (task_of slot)) slots))

-- the lines from 0 up, one after the other, are the listing
pub listing_by_lines : (head : Head) (values : List ValueRead) (table : List Task) → joined_lines (line_at head values table) (line_count (length values) (length table)) ≡ listing head values table
unfolding listing line_at line_by line_count slot_shown
listing_by_lines head values table =
    let counted : length values + 3 + length table ≡ suc (suc (length values + suc (length table))) = omega arith in
    ap (joined_lines (line_at head values table)) counted
    ∙ lines_first (line_at head values table) (suc (length values + suc (length table)))
    ∙ ap (λ (lines : List ℕ). line_of_head head ++ lines)
    (lines_first (λ number. line_at head values table (suc number)) (length values + suc (length table))
    ∙ ap (λ (lines : List ℕ). line_of_count Values (length values) ++ lines)
    (lines_same (λ number. let same : suc (suc number) - (length values + 3) ≡ number - (length values + 1) = omega arith in ap (λ (i : ℕ). line_behind values (living_of table) (get_or table i blank) number) same) (length values + suc (length table))
    ∙ behind_joined values (living_of table) (λ slot. get_or table slot blank) (length table)
    ∙ ap (λ (lines : List ℕ). lines_of_values values ++ (line_of_count Tasks (living_of table) ++ lines)) (tasks_joined table)))

-- ---- by the tests of the code

-- all words, where there are no more
pub all_words : (stack : List ℕ) (height : ℕ) → length stack < height → stack ≡ take height stack
all_words stack height fewer =
    let inside : length stack ≤ height = omega arith in
    sym (take_all height stack inside)

-- as many as there are words
pub values_length : (memory pool ends : List ℕ) (entries : ℕ) (words : List ℕ) → length (values_read memory pool ends entries words) ≡ length words
unfolding values_read
values_length memory pool ends entries [] = refl
values_length memory pool ends entries (word ∷ more) = ap suc (values_length memory pool ends entries more)

-- neither the first nor the second
pub past_two : {number : ℕ} → (number ≡ 0 → ⊥) → (number ≡ 1 → ⊥) → 2 ≤ number
past_two none one = omega (arith, none, one)

-- neither a value nor the count of tasks
pub past_all : {position values : ℕ} → values ≤ position → (position ≡ values → ⊥) → values < position
past_all past other = omega (arith, past, other)

-- behind the first two
behind : (head : Head) (values : List ValueRead) (living : ℕ) (task : Task) (number : ℕ) → 2 ≤ number → line_by head values living task number ≡ line_behind values living task (number - 2)
unfolding line_by
behind head values living task zero past = absurd (omega arith)
behind head values living task (suc zero) past = absurd (omega arith)
behind head values living task (suc (suc number)) past =
    let same : number ≡ suc (suc number) - 2 = omega arith in
    ap (line_behind values living task) same

module _ (memory pool ends : List ℕ) (entries living : ℕ) (task : Task) where
  value_behind : (words : List ℕ) (position : ℕ) → position < length words
      → line_behind (values_read memory pool ends entries words) living task position
      ≡ line_of_value (read_of memory pool ends entries (get_or words position 0)).answer (read_of memory pool ends entries (get_or words position 0)).part
  unfolding values_read line_behind
  value_behind [] position inside = absurd (omega arith)
  value_behind (word ∷ more) zero inside = refl
  value_behind (word ∷ more) (suc position) inside = value_behind more position (omega arith)

  count_behind : (words : List ℕ) → line_behind (values_read memory pool ends entries words) living task (length words) ≡ line_of_count Tasks living
  unfolding values_read line_behind
  count_behind [] = refl
  count_behind (word ∷ more) = count_behind more

  task_behind : (words : List ℕ) (position : ℕ) → length words < position → line_behind (values_read memory pool ends entries words) living task position ≡ line_of_task task
  unfolding values_read line_behind
  task_behind words zero past = absurd (omega arith)
  task_behind [] (suc position) past = refl
  task_behind (word ∷ more) (suc position) past = task_behind more position (omega arith)

  module _ (head : Head) (words : List ℕ) where
    -- the first
    pub by_first : (number : ℕ) → number ≡ 0 → line_of_head head ≡ line_by head (values_read memory pool ends entries words) living task number
    unfolding line_by
    by_first number is = rw is

    -- the second
    pub by_second : (number : ℕ) → number ≡ 1 → line_of_count Values (length words) ≡ line_by head (values_read memory pool ends entries words) living task number
    unfolding line_by
    by_second number is = rw (is, values_length memory pool ends entries words)

    -- a value
    pub by_value : {kind : Result Return Refusal} (number : ℕ) → 2 ≤ number → number - 2 < length words → kind ≡ unbox_value memory ends entries (get_or words (number - 2) 0)
        → line_of_value kind (part_of memory pool ends kind) ≡ line_by head (values_read memory pool ends entries words) living task number
    by_value number past inside is =
        ap (λ (kind : Result Return Refusal). line_of_value kind (part_of memory pool ends kind)) is
        ∙ sym (behind head (values_read memory pool ends entries words) living task number past ∙ value_behind words (number - 2) inside)

    -- the count of tasks
    pub by_count : (number : ℕ) → 2 ≤ number → number - 2 ≡ length words → line_of_count Tasks living ≡ line_by head (values_read memory pool ends entries words) living task number
    by_count number past is =
        sym (behind head (values_read memory pool ends entries words) living task number past ∙ ap (line_behind (values_read memory pool ends entries words) living task) is ∙ count_behind words)

    -- a task
    pub by_task : (number : ℕ) → 2 ≤ number → length words < number - 2 → line_of_task task ≡ line_by head (values_read memory pool ends entries words) living task number
    by_task number past behind-all = sym (behind head (values_read memory pool ends entries words) living task number past ∙ task_behind words (number - 2) behind-all)
