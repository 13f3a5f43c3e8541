-- All lines measured, and then put where the buffer holds them, are the listing whole, or not at all.
use Prim.Native.Nat.{ℕ, ◌+◌, ◌^◌, ◌≤◌, ◌<◌}
use mathlib.Core.Bool.{Bool, true, false, cond}
use mathlib.Core.List.{List, [], ◌∷◌, ◌++◌, map, append_assoc}
use mathlib.Core.Path.{◌≡◌, refl, sym, ap, ◌∙◌}
use native.Mathlib.Omega.{arith}
use lib.Dec.{leb, ltb}
use lib.ListN.{length, length-append}
use lib.Seq.{sets, length-sets}
use borrow.Author.Tests.{le-leb, lt-leb, lt-ltb, le-ltb, leb-true, leb-false, ltb-true, ltb-false}
use Rattle.slices.proofs.SlicesWrites.{sets_append}
use Rattle.errors.specs.declared.Refusal.{Refusal}
use Rattle.errors.specs.declared.Refusal.TheVariants.{SaveBufferTooShort}
use Rattle.storage.specs.declared.Task.{Task}
use Rattle.storage.specs.Table.{living_of}
use Rattle.storage.specs.Tasks.{After, after}
use Rattle.text.specs.Lines.{Lined, lined}
use Rattle.listing.specs.declared.Head.{Head}
use Rattle.listing.specs.declared.Counted.TheVariants.{Values, Tasks}
use Rattle.listing.specs.Listing.{ValueRead, line_of_head, line_of_count, line_of_task, lines_of_values, lines_of_tasks, listing}
use Rattle.machine.specs.declared.Report.{Report}
use Rattle.host.specs.declared.answering.ListingLengths.{ListingLengths}
use Rattle.host.specs.Lines.{sized, behind, next_text, next, next_task, tell_lines, line_of_read, tell_run, tell_slots, tell_tasks}
use Rattle.host.specs.Listings.{head_of, values_of, Listing, listing_of, with_lengths, told_length, list_whole, ListedIn, listed_in, beside, list_run}
use Rattle.host.proofs.Behind.{most, behind_fits, sized_fits, sized_over}
use Rattle.host.proofs.Passes.{stuck}
use Rattle.std.specs.Prelude.{Ok, Err, Result}
use Rattle.std.specs.Result.{result_unwrap_or}
use Rattle.machine.specs.declared.Machine.{Machine}

-- ---- lines one after the other

abbrev joined : List (List ℕ) → List ℕ
joined [] = []
joined (text ∷ more) = text ++ joined more

joined_append : (texts more : List (List ℕ)) → joined (texts ++ more) ≡ joined texts ++ joined more
joined_append [] more = refl
joined_append (text ∷ texts) more = ap (λ (l : List ℕ). text ++ l) (joined_append texts more) ∙ sym (append_assoc text (joined texts) (joined more))

lines_append : (writes : Bool) (l : Lined) (texts more : List (List ℕ)) → tell_lines writes (tell_lines writes l texts) more ≡ tell_lines writes l (texts ++ more)
unfolding tell_lines
lines_append writes l [] more = refl
lines_append writes l (text ∷ texts) more = lines_append writes (next writes l text) texts more

-- measured, they have the length of them all
measured : (at : ℕ) (out : List ℕ) (texts : List (List ℕ)) → at ≤ most → tell_lines false (lined (Ok at) out) texts ≡ lined (sized (at + length (joined texts))) out
unfolding tell_lines next_text behind
measured at out [] small = let none : at + 0 ≡ at = omega arith in rw none (ap (λ (a : Result ℕ Refusal). lined a out) (sym (sized_fits at small)))
measured at out (text ∷ more) small = by (λ one. measured (at + length text) out more one) (leb (at + length text) most) refl
  where
    whole : at + length (text ++ joined more) ≡ at + length text + length (joined more)
    whole = omega (arith, length-append text (joined more))

    by : (at + length text ≤ most → tell_lines false (lined (Ok (at + length text)) out) more ≡ lined (sized (at + length text + length (joined more))) out)
        → (fits : Bool) → leb (at + length text) most ≡ fits → tell_lines false (lined (sized (at + length text)) out) more ≡ lined (sized (at + length (text ++ joined more))) out
    by rest true test =
        let one : at + length text ≤ most = leb-true (at + length text) most test in
        ap (λ (a : Result ℕ Refusal). tell_lines false (lined a out) more) (sized_fits (at + length text) one)
        ∙ rest one
        ∙ ap (λ (n : ℕ). lined (sized n) out) (sym whole)
    by rest false test =
        let over : most < at + length text = leb-false (at + length text) most test in
        ap (λ (a : Result ℕ Refusal). tell_lines false (lined a out) more) (sized_over (at + length text) over)
        ∙ stuck false SaveBufferTooShort out more
        ∙ ap (λ (a : Result ℕ Refusal). lined a out) (sym (sized_over (at + length (text ++ joined more)) (omega (arith, whole))))

-- put, they stand there
kept : (at : ℕ) (out : List ℕ) (texts : List (List ℕ)) → at + length (joined texts) ≤ length out
    → tell_lines true (lined (Ok at) out) texts ≡ lined (Ok (at + length (joined texts))) (sets out at (joined texts))
unfolding tell_lines next_text
kept at out [] fits = ap (λ (n : ℕ). lined (Ok n) out) (omega arith)
kept at out (text ∷ more) fits =
    let both : length (text ++ joined more) ≡ length text + length (joined more) = length-append text (joined more) in
    let one : at + length text ≤ length out = omega (arith, both) in
    let rest : at + length text + length (joined more) ≤ length (sets out at text) = omega (arith, both, length-sets out at text) in
    let whole : at + length text + length (joined more) ≡ at + length (text ++ joined more) = omega (arith, both) in
    ap (λ (l : Lined). tell_lines true l more) (behind_fits at out text one)
    ∙ kept (at + length text) (sets out at text) more rest
    ∙ ap (λ (n : ℕ). lined (Ok n) (sets (sets out at text) (at + length text) (joined more))) whole
    ∙ ap (lined (Ok (at + length (text ++ joined more)))) (sym (sets_append out at text (joined more)))

-- ---- the lines of a listing

values_joined : (values : List ValueRead) → joined (map line_of_read values) ≡ lines_of_values values
unfolding lines_of_values
values_joined [] = refl
values_joined (read ∷ more) = ap (λ (l : List ℕ). line_of_read read ++ l) (values_joined more)

-- the lines of the living slots
abbrev living_lines : List Task → List (List ℕ)
living_lines [] = []
living_lines (task ∷ more) = cond task.living (line_of_task task ∷ living_lines more) (living_lines more)

-- a slot that is not living has no line
not_living : (task : Task) → task.living ≡ false → line_of_task task ≡ []
unfolding line_of_task
not_living task is = rw is

tasks_joined : (table : List Task) → joined (living_lines table) ≡ lines_of_tasks table
unfolding lines_of_tasks
tasks_joined [] = refl
tasks_joined (task ∷ more) = by task.living (line_of_task task) (not_living task) (tasks_joined more)
  where
    by : (living : Bool) (line : List ℕ) → (living ≡ false → line ≡ []) → joined (living_lines more) ≡ lines_of_tasks more
        → joined (cond living (line ∷ living_lines more) (living_lines more)) ≡ line ++ lines_of_tasks more
    by true line none rest = ap (λ (l : List ℕ). line ++ l) rest
    by false line none rest = rest ∙ sym (ap (λ (l : List ℕ). l ++ lines_of_tasks more) (none refl))

slots_told : (writes : Bool) (l : Lined) (table : List Task) → tell_slots writes l table ≡ tell_lines writes l (living_lines table)
unfolding tell_slots tell_lines next_task
slots_told writes l [] = refl
slots_told writes l (task ∷ more) = by task.living (λ (x : Lined). slots_told writes x more)
  where
    by : (living : Bool) → ((x : Lined) → tell_slots writes x more ≡ tell_lines writes x (living_lines more))
        → tell_slots writes (cond living (next writes l (line_of_task task)) l) more ≡ tell_lines writes l (cond living (line_of_task task ∷ living_lines more) (living_lines more))
    by true rest = rest (next writes l (line_of_task task))
    by false rest = rest l

module _ (head : Head) (values : List ValueRead) (table : List Task) where
  -- before those of the tasks, and those
  abbrev before : List (List ℕ)
  before = line_of_head head ∷ line_of_count Values (length values) ∷ map line_of_read values

  abbrev tasks : List (List ℕ)
  tasks = line_of_count Tasks (living_of table) ∷ living_lines table

  abbrev text : List ℕ
  text = listing head values table

  all_joined : joined (before ++ tasks) ≡ text
  unfolding listing
  all_joined =
      joined_append before tasks
      ∙ ap (λ (l : List ℕ). (line_of_head head ++ (line_of_count Values (length values) ++ l)) ++ joined tasks) (values_joined values)
      ∙ append_assoc (line_of_head head) (line_of_count Values (length values) ++ lines_of_values values) (joined tasks)
      ∙ ap (λ (l : List ℕ). line_of_head head ++ l) (append_assoc (line_of_count Values (length values)) (lines_of_values values) (joined tasks))
      ∙ ap (λ (l : List ℕ). line_of_head head ++ (line_of_count Values (length values) ++ (lines_of_values values ++ (line_of_count Tasks (living_of table) ++ l)))) (tasks_joined table)

  -- in one pass
  tasks_told : (writes : Bool) (l : Lined) → tell_tasks writes l table ≡ tell_lines writes l tasks
  unfolding tell_tasks tell_lines
  tasks_told writes l = slots_told writes (next writes l (line_of_count Tasks (living_of table))) table

  pass : (writes : Bool) (out : List ℕ) → tell_tasks writes (tell_run writes out head values) table ≡ tell_lines writes (lined (Ok 0) out) (before ++ tasks)
  unfolding tell_run
  pass writes out = tasks_told writes (tell_run writes out head values) ∙ lines_append writes (lined (Ok 0) out) before tasks

  -- measured
  pub measures : (out : List ℕ) → tell_tasks false (tell_run false out head values) table ≡ lined (sized (length text)) out
  measures out =
      pass false out
      ∙ measured 0 out (before ++ tasks) (omega arith)
      ∙ ap (λ (l : List ℕ). lined (sized (0 + length l)) out) all_joined
      ∙ ap (λ (n : ℕ). lined (sized n) out) (omega arith)

  -- put
  puts : (out : List ℕ) → length text ≤ length out → tell_tasks true (tell_run true out head values) table ≡ lined (Ok (length text)) (sets out 0 text)
  puts out fits =
      let room : 0 + length (joined (before ++ tasks)) ≤ length out = omega (arith, ap length all_joined) in
      pass true out
      ∙ kept 0 out (before ++ tasks) room
      ∙ ap (λ (l : List ℕ). lined (Ok (0 + length l)) (sets out 0 l)) all_joined
      ∙ ap (λ (n : ℕ). lined (Ok n) (sets out 0 text)) (omega arith)

  -- ---- whole, or not at all

  -- what is told of a length
  tells : length text ≤ most → told_length (length text) ≡ length text
  unfolding told_length
  tells small = rw (le-leb (length text) most small)

  tells_none : most < length text → told_length (length text) ≡ 0
  unfolding told_length
  tells_none large = rw (lt-leb (length text) most large)

  -- a length that was counted is the text's, and of 64 bits
  counted_length : {needed : ℕ} → Ok needed ≡ sized (length text) → (needed ≡ length text) × (length text ≤ most)
  counted_length {needed} is = by (leb (length text) most) refl
    where
      by : (fits : Bool) → leb (length text) most ≡ fits → (needed ≡ length text) × (length text ≤ most)
      by true fits = let small : length text ≤ most = leb-true (length text) most fits in let e : ◌≡◌ {A = Result ℕ Refusal} (Ok needed) (Ok (length text)) = is ∙ sized_fits (length text) small in (cc, small)
      by false over = let e : ◌≡◌ {A = Result ℕ Refusal} (Ok needed) (Err SaveBufferTooShort) = is ∙ sized_over (length text) (leb-false (length text) most over) in absurd (let z : ◌≡◌ {A = ℕ} 0 1 = cc in omega arith)

  -- a length that was not is above them
  not_counted : {refusal : Refusal} → Err refusal ≡ sized (length text) → most < length text
  not_counted {refusal} is = by (leb (length text) most) refl
    where
      by : (fits : Bool) → leb (length text) most ≡ fits → most < length text
      by true fits = let e : ◌≡◌ {A = Result ℕ Refusal} (Err refusal) (Ok (length text)) = is ∙ sized_fits (length text) (leb-true (length text) most fits) in absurd (let z : ◌≡◌ {A = ℕ} 0 1 = cc in omega arith)
      by false over = leb-false (length text) most over

  -- a text that has no room
  unwritten : (out : List ℕ) {needed : ℕ} → length out < length text → needed ≡ told_length (length text) → listing_of (with_lengths 0 needed) out ≡ list_whole out text
  unfolding list_whole
  unwritten out past is = rw (lt-leb (length text) (length out) past) (ap (λ (n : ℕ). listing_of (with_lengths 0 n) out) is)

  -- one that has
  written : (out : List ℕ) → length text ≤ length out → listing_of (with_lengths (length text) (length text)) (sets out 0 text) ≡ list_whole out text
  unfolding list_whole
  written out fits = rw (le-leb (length text) (length out) fits)

-- ---- the calls of a listing, put together

module _ (creation : Result Machine Refusal) (report : Report) (table : List Task) (stack memory pool ends out : List ℕ) (small : length out ≤ most) where
  abbrev head : Head
  head = head_of creation report

  abbrev values : List ValueRead
  values = values_of creation report stack memory pool ends

  abbrev whole : ListedIn
  whole = list_run creation report table stack memory pool ends out

  module _ {needed : Result ℕ Refusal} {table' : List Task} {out' : List ℕ} (first : after (lined needed out') table' ≡ after (tell_tasks false (tell_run false out head values) table) table) where
    -- what measuring leaves
    after_measure : after (lined needed out') table' ≡ after (lined (sized (length (text head values table))) out) table
    after_measure = first ∙ ap (λ (l : Lined). after l table) (measures head values table out)

    is_sized : needed ≡ sized (length (text head values table))
    is_sized = ap (λ (a : After Lined (List Task)). a.answer.answer) after_measure

    out_stays : out' ≡ out
    out_stays = ap (λ (a : After Lined (List Task)). a.answer.out) after_measure

    table_stays : table' ≡ table
    table_stays = ap (λ (a : After Lined (List Task)). a.lent) after_measure

    -- the listing's length has more than 64 bits
    pub lists_uncounted : {refusal : Refusal} → needed ≡ Err refusal → listed_in (with_lengths 0 0) table' stack memory pool ends out' ≡ whole
    unfolding list_run
    lists_uncounted is =
        let large : most < length (text head values table) = not_counted head values table (sym is ∙ is_sized) in
        rw (out_stays, table_stays)
        (ap (λ (l : Listing). beside table stack memory pool ends l) (unwritten head values table out (omega (arith, small)) (sym (tells_none head values table large))))

    -- the buffer is too short for it
    pub lists_unwritten : {length' : ℕ} → needed ≡ Ok length' → length out' < length' → listed_in (with_lengths 0 length') table' stack memory pool ends out' ≡ whole
    unfolding list_run
    lists_unwritten is past =
        let counted = counted_length head values table (sym is ∙ is_sized) in
        rw (out_stays, table_stays)
        (ap (λ (l : Listing). beside table stack memory pool ends l)
        (unwritten head values table out (omega (arith, counted.0, ap length out_stays)) (counted.0 ∙ sym (tells head values table counted.1))))

    -- it is put
    pub lists_written : {length' : ℕ} {told : Result ℕ Refusal} {table'' : List Task} {out'' : List ℕ} → needed ≡ Ok length' → length' ≤ length out'
        → after (lined told out'') table'' ≡ after (tell_tasks true (tell_run true out' head values) table') table'
        → listed_in (with_lengths (result_unwrap_or told 0) length') table'' stack memory pool ends out'' ≡ whole
    unfolding list_run
    lists_written {length'} {told} {table''} {out''} is fits second =
        let counted = counted_length head values table (sym is ∙ is_sized) in
        let room : length (text head values table) ≤ length out = omega (arith, counted.0, ap length out_stays) in
        ap (λ (a : After Lined (List Task)). listed_in (with_lengths (result_unwrap_or a.answer.answer 0) length') a.lent stack memory pool ends a.answer.out) second
        ∙ ap (λ (t : List Task). listed_in (with_lengths (result_unwrap_or (tell_tasks true (tell_run true out' head values) t).answer 0) length') t stack memory pool ends (tell_tasks true (tell_run true out' head values) t).out) table_stays
        ∙ ap (λ (o : List ℕ). listed_in (with_lengths (result_unwrap_or (tell_tasks true (tell_run true o head values) table).answer 0) length') table stack memory pool ends (tell_tasks true (tell_run true o head values) table).out) out_stays
        ∙ ap (λ (l : Lined). listed_in (with_lengths (result_unwrap_or l.answer 0) length') table stack memory pool ends l.out) (puts head values table out room)
        ∙ ap (λ (n : ℕ). listed_in (with_lengths (length (text head values table)) n) table stack memory pool ends (sets out 0 (text head values table))) counted.0
        ∙ ap (λ (l : Listing). beside table stack memory pool ends l) (written head values table out room)

    -- the second pass, by what the first one came to: the lines are put where the buffer holds them all, and else nothing is
    abbrev second : Result ℕ Refusal → List Task → List ℕ → Lined
    second (Err refusal) tasks out = lined (Err refusal) out
    second (Ok length') tasks out = cond (ltb (length out) length') (lined (Err SaveBufferTooShort) out) (tell_tasks true (tell_run true out head values) tasks)

    -- what comes of both
    abbrev both : Result ℕ Refusal → Lined → ListedIn
    both measured put = listed_in (with_lengths (result_unwrap_or put.answer 0) (result_unwrap_or measured 0)) table' stack memory pool ends put.out

    -- the calls of a listing are the listing whole, or not at all, whatever the first one came to
    pub lists : {written : Result ℕ Refusal} {table'' : List Task} {out'' : List ℕ} {answer : ListingLengths}
        → after (lined written out'') table'' ≡ after (second needed table' out') table'
        → answer ≡ with_lengths (result_unwrap_or written 0) (result_unwrap_or needed 0)
        → listed_in answer table'' stack memory pool ends out'' ≡ whole
    lists {written} {table''} {out''} {answer} put is =
        ap (λ (a : ListingLengths). listed_in a table'' stack memory pool ends out'') is
        ∙ ap (λ (a : After Lined (List Task)). listed_in (with_lengths (result_unwrap_or a.answer.answer 0) (result_unwrap_or needed 0)) a.lent stack memory pool ends a.answer.out) put
        ∙ by needed refl
      where
        fits : (length' : ℕ) → needed ≡ Ok length' → (past : Bool) → ltb (length out') length' ≡ past
            → both (Ok length') (cond past (lined (Err SaveBufferTooShort) out') (tell_tasks true (tell_run true out' head values) table')) ≡ whole
        fits length' counted true past = lists_unwritten counted (ltb-true (length out') length' past)
        fits length' counted false past = lists_written counted (ltb-false (length out') length' past) refl

        by : (measured : Result ℕ Refusal) → needed ≡ measured → both needed (second needed table' out') ≡ whole
        by (Err refusal) counted = ap (λ (n : Result ℕ Refusal). both n (second n table' out')) counted ∙ lists_uncounted counted
        by (Ok length') counted = ap (λ (n : Result ℕ Refusal). both n (second n table' out')) counted ∙ fits length' counted (ltb (length out') length') refl
