-- Lines one behind the other, in a loop over values or over tasks.
use Prim.Native.Nat.{ℕ, ◌+◌, ◌≤◌, ◌<◌}
use mathlib.Core.Bool.{Bool, true, false, cond}
use mathlib.Core.List.{List, [], ◌∷◌, map}
use mathlib.Core.Path.{◌≡◌, refl, sym, ap, ◌∙◌}
use native.Mathlib.Numerals.{add-one}
use lib.ListN.{length, drop, get_or, drop_of_length-le}
use lib.Seq.{drop-cons}
use Rattle.storage.specs.declared.Task.{Task}
use Rattle.storage.specs.Tasks.{After, after}
use Rattle.storage.specs.Table.{living_of}
use Rattle.text.specs.Lines.{Lined, lined, tell_line}
use Rattle.listing.specs.declared.Head.{Head}
use Rattle.listing.specs.declared.Counted.TheVariants.{Values, Tasks}
use Rattle.listing.specs.Listing.{ValueRead, read_of, values_read, line_of_head, line_of_count, line_of_task}
use Rattle.listing.proofs.LineByLine.{values_length}
use Rattle.host.specs.Lines.{behind, next_text, next, next_task, tell_lines, line_of_read, tell_values, tell_run, tell_slots, tell_tasks}
use Rattle.host.proofs.Behind.{first_line}
use Rattle.std.specs.Prelude.{Ok, Err, Result}
use Rattle.errors.specs.declared.Refusal.{Refusal}

-- ---- one text and the rest

lines_none : (writes : Bool) (l : Lined) → tell_lines writes l [] ≡ l
unfolding tell_lines
lines_none writes l = refl

-- nothing goes behind lines that had no room
pub stuck : (writes : Bool) (refusal : Refusal) (out : List ℕ) (texts : List (List ℕ)) → tell_lines writes (lined (Err refusal) out) texts ≡ lined (Err refusal) out
unfolding tell_lines next_text
stuck writes refusal out [] = refl
stuck writes refusal out (text ∷ more) = stuck writes refusal out more

-- ---- the values

module _ (memory pool ends : List ℕ) (entries : ℕ) where
  -- the line of a word
  abbrev line_of_word : ℕ → List ℕ
  line_of_word word = line_of_read (read_of memory pool ends entries word)

  lines_of_words : (words : List ℕ) → map line_of_read (values_read memory pool ends entries words) ≡ map line_of_word words
  unfolding values_read
  lines_of_words [] = refl
  lines_of_words (word ∷ more) = ap (λ (l : List (List ℕ)). line_of_word word ∷ l) (lines_of_words more)

  module _ (writes : Bool) (words : List ℕ) where
    -- the lines of so many values were told, those of the others make the whole
    pub record Telling (whole : Lined) (at : ℕ) (out : List ℕ) (position : ℕ) : Type 0 where
      pub so_far : tell_lines writes (lined (Ok at) out) (map line_of_word (drop position words)) ≡ whole

    pub telling_begun : (at : ℕ) (out : List ℕ) → Telling (tell_values writes (lined (Ok at) out) (values_read memory pool ends entries words)) at out 0
    unfolding tell_values
    telling_begun at out = record { so_far = ap (tell_lines writes (lined (Ok at) out)) (sym (lines_of_words words)) }

    module _ {whole : Lined} {at : ℕ} {out : List ℕ} {position : ℕ} {answer : Result ℕ Refusal} {after-it : List ℕ} (more : position < length words)
        (tells : lined answer after-it ≡ behind writes at out (line_of_word (get_or words position 0))) (telling : Telling whole at out position) where
      -- one line more, and those of the others
      turned : tell_lines writes (lined answer after-it) (map line_of_word (drop (position + 1) words)) ≡ whole
      unfolding tell_lines next_text
      turned =
          ap (λ (x : Lined). tell_lines writes x (map line_of_word (drop (position + 1) words))) tells
          ∙ sym (ap (λ (r : List ℕ). tell_lines writes (lined (Ok at) out) (map line_of_word r)) (drop-cons words position 0 more ∙ ap (λ (k : ℕ). get_or words position 0 ∷ drop k words) (sym (add-one position))))
          ∙ telling.so_far

      pub telling_turned : {next : ℕ} → answer ≡ Ok next → Telling whole next after-it (position + 1)
      telling_turned is = record { so_far = rw is at turned }

      pub telling_stuck : {refusal : Refusal} → answer ≡ Err refusal → lined (Err refusal) after-it ≡ whole
      telling_stuck {refusal} is = sym (stuck writes refusal after-it (map line_of_word (drop (position + 1) words))) ∙ (rw is at turned)

    pub telling_ended : {whole : Lined} {at : ℕ} {out : List ℕ} {position : ℕ} → length words ≤ position → Telling whole at out position → lined (Ok at) out ≡ whole
    telling_ended {at = at} {out = out} past telling =
        sym (lines_none writes (lined (Ok at) out))
        ∙ sym (ap (λ (r : List ℕ). tell_lines writes (lined (Ok at) out) (map line_of_word r)) (drop_of_length-le words past))
        ∙ telling.so_far

  -- the first line, the count and the values
  pub tells_run : (writes : Bool) (words out : List ℕ) (head : Head) {a b c : Result ℕ Refusal} {one two three : List ℕ}
      → lined a one ≡ tell_line writes out (line_of_head head)
      → lined b two ≡ next writes (lined a one) (line_of_count Values (length words))
      → lined c three ≡ tell_values writes (lined b two) (values_read memory pool ends entries words)
      → lined c three ≡ tell_run writes out head (values_read memory pool ends entries words)
  unfolding tell_values tell_run tell_lines
  tells_run writes words out head {a} {b} {c} {one} {two} {three} first second third =
      let values : List ValueRead = values_read memory pool ends entries words in
      third
      ∙ ap (λ (l : Lined). tell_lines writes l (map line_of_read values))
      (second
      ∙ ap (λ (n : ℕ). next writes (lined a one) (line_of_count Values n)) (sym (values_length memory pool ends entries words))
      ∙ ap (λ (l : Lined). next writes l (line_of_count Values (length values))) (first ∙ first_line writes out (line_of_head head)))

  -- the first line had no room
  pub tells_no_head : (writes : Bool) (words out : List ℕ) (head : Head) {refusal : Refusal} {one : List ℕ} → lined (Err refusal) one ≡ tell_line writes out (line_of_head head)
      → lined (Err refusal) one ≡ tell_run writes out head (values_read memory pool ends entries words)
  unfolding tell_values next_text
  tells_no_head writes words out head {refusal} {one} first =
      tells_run writes words out head {b = Err refusal} {two = one} first refl (sym (stuck writes refusal one (map line_of_read (values_read memory pool ends entries words))))

  -- the count had none
  pub tells_no_count : (writes : Bool) (words out : List ℕ) (head : Head) {at : ℕ} {refusal : Refusal} {one two : List ℕ} → lined (Ok at) one ≡ tell_line writes out (line_of_head head)
      → lined (Err refusal) two ≡ behind writes at one (line_of_count Values (length words)) → lined (Err refusal) two ≡ tell_run writes out head (values_read memory pool ends entries words)
  unfolding tell_values next_text
  tells_no_count writes words out head {refusal = refusal} {two = two} first second =
      tells_run writes words out head first second (sym (stuck writes refusal two (map line_of_read (values_read memory pool ends entries words))))

-- ---- the tasks

-- nothing goes behind lines that had no room
stuck_slots : (writes : Bool) (refusal : Refusal) (out : List ℕ) (table : List Task) → tell_slots writes (lined (Err refusal) out) table ≡ lined (Err refusal) out
unfolding tell_slots next_task next_text
stuck_slots writes refusal out [] = refl
stuck_slots writes refusal out (task ∷ more) = by task.living (stuck_slots writes refusal out more)
  where
    by : (living : Bool) → tell_slots writes (lined (Err refusal) out) more ≡ lined (Err refusal) out
        → tell_slots writes (cond living (lined (Err refusal) out) (lined (Err refusal) out)) more ≡ lined (Err refusal) out
    by true rest = rest
    by false rest = rest

-- the table stays
stays : {A : Type 0} {a b : A} {zs ys : List Task} → after a zs ≡ after b ys → zs ≡ ys
stays {A} e = ap (λ (x : After A (List Task)). x.lent) e

-- nor their count
pub stuck_tasks : (writes : Bool) (refusal : Refusal) (out : List ℕ) (table : List Task) → tell_tasks writes (lined (Err refusal) out) table ≡ lined (Err refusal) out
unfolding tell_tasks next_text
stuck_tasks writes refusal out table = stuck_slots writes refusal out table

-- the task of a slot that is living has its line
pub one_task : (writes : Bool) (at : ℕ) (out : List ℕ) (task : Task) {l : Lined} → task.living ≡ true → l ≡ behind writes at out (line_of_task task) → l ≡ next_task writes (lined (Ok at) out) task
unfolding next_task next_text
one_task writes at out task living tells = tells ∙ ap (λ (is : Bool). cond is (behind writes at out (line_of_task task)) (lined (Ok at) out)) (sym living)

-- another is as if it were not there
pub no_task : (writes : Bool) (at : ℕ) (out : List ℕ) (task : Task) → task.living ≡ false → lined (Ok at) out ≡ next_task writes (lined (Ok at) out) task
unfolding next_task next_text
no_task writes at out task gone = ap (λ (is : Bool). cond is (behind writes at out (line_of_task task)) (lined (Ok at) out)) (sym gone)

slots_none : (writes : Bool) (l : Lined) → tell_slots writes l [] ≡ l
unfolding tell_slots
slots_none writes l = refl

-- beside the table, which stays
pub beside_table : {A : Type 0} {a b : A} {items table : List Task} {l whole : Lined} → after a items ≡ after b table → l ≡ whole → after l items ≡ after whole table
beside_table {items = items} {whole = whole} reads is = ap (λ (x : Lined). after x items) is ∙ ap (after whole) (stays reads)

module _ (writes : Bool) (table items : List Task) (begin : ℕ) (out : List ℕ) {count : ℕ} (counts : after count items ≡ after (living_of table) table)
    {answer : Result ℕ Refusal} {out' : List ℕ} (tells : lined answer out' ≡ behind writes begin out (line_of_count Tasks count)) where
  abbrev counted_whole : Lined
  counted_whole = tell_tasks writes (lined (Ok begin) out) table

  -- behind how many there are
  counted_slots : tell_slots writes (lined answer out') items ≡ counted_whole
  unfolding tell_tasks next_text
  counted_slots =
      ap (λ (x : Lined). tell_slots writes x items) tells
      ∙ ap (λ (a : After ℕ (List Task)). tell_slots writes (behind writes begin out (line_of_count Tasks a.answer)) a.lent) counts

  -- before the first slot
  pub no_slot : {at : ℕ} → answer ≡ Ok at → tell_slots writes (lined (Ok at) out') items ≡ counted_whole
  no_slot is = rw is at counted_slots

  -- no room for how many there are
  pub no_count : {refusal : Refusal} → answer ≡ Err refusal → lined (Err refusal) out' ≡ counted_whole
  no_count {refusal} is = sym (stuck_slots writes refusal out' items) ∙ (rw is at counted_slots)

module _ (writes : Bool) (table : List Task) (d : Task) (slot at : ℕ) (out : List ℕ) {whole : Lined} {answer : Result ℕ Refusal} {out' : List ℕ} (more : slot < length table)
    (tells : lined answer out' ≡ next_task writes (lined (Ok at) out) (get_or table slot d)) (so_far : tell_slots writes (lined (Ok at) out) (drop slot table) ≡ whole) where
  -- one slot more, and the others
  told_on : tell_slots writes (lined answer out') (drop (slot + 1) table) ≡ whole
  unfolding tell_slots
  told_on =
      ap (λ (x : Lined). tell_slots writes x (drop (slot + 1) table)) tells
      ∙ sym (ap (tell_slots writes (lined (Ok at) out)) (drop-cons table slot d more ∙ ap (λ (k : ℕ). get_or table slot d ∷ drop k table) (sym (add-one slot))))
      ∙ so_far

  -- a turn
  pub one_slot : {next : ℕ} → answer ≡ Ok next → tell_slots writes (lined (Ok next) out') (drop (slot + 1) table) ≡ whole
  one_slot goes_on = rw goes_on at told_on

  -- the last one
  pub last_slot : {refusal : Refusal} → answer ≡ Err refusal → lined (Err refusal) out' ≡ whole
  last_slot {refusal} stops = sym (stuck_slots writes refusal out' (drop (slot + 1) table)) ∙ (rw stops at told_on)

-- past the last slot
pub all_slots : (writes : Bool) (table : List Task) (slot at : ℕ) (out : List ℕ) {whole : Lined} → length table ≤ slot → tell_slots writes (lined (Ok at) out) (drop slot table) ≡ whole → lined (Ok at) out ≡ whole
all_slots writes table slot at out past so_far =
    sym (slots_none writes (lined (Ok at) out)) ∙ sym (ap (tell_slots writes (lined (Ok at) out)) (drop_of_length-le table past)) ∙ so_far
