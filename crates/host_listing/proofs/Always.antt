-- The length of every listing of the library is a number of 64 bits, and a lent buffer that holds the listing is given it whole.
use Prim.Native.Nat.{ℕ, ◌+◌, ◌-◌, ◌*◌, ◌≤◌, ◌<◌}
use mathlib.Core.Bool.{true, and-eq-true_iff}
use mathlib.Core.List.{List, ◌++◌}
use mathlib.Core.Path.{◌≡◌, refl, sym, ap, subst, ◌∙◌}
use native.Mathlib.Omega.{arith}
use lib.ListN.{length, get_or, take, drop, length-append, length-take, length-replicate}
use lib.Seq.{sets}
use borrow.Author.Tests.{le-leb, lt-leb}
use Rattle.pools.specs.Pool.{start_of, end_of, entry_of, never_fall, end_to_end}
use Rattle.pools.proofs.Ends.{within}
use Rattle.storage.specs.declared.Task.{Task}
use Rattle.storage.specs.Table.{living_of, sound_counts, sound_slots, sound_table}
use Rattle.storage.specs.Tasks.{blank}
use Rattle.storage.proofs.Soundness.{Counts, sound_at, sound_living, sound_counted, table_cleared}
use Rattle.machine.specs.declared.Machine.{Machine}
use Rattle.machine.specs.World.{World, world}
use Rattle.machine.specs.Calls.{Reported, is_sound, start}
use Rattle.machine.specs.Creation.{blank_table, Made, create, stopped, machine_of}
use Rattle.machine.specs.Reads.{SavedTo, saved_to, host_save}
use Rattle.laws.specs.Sound.{Sound}
use Rattle.machine.specs.History.{world_after}
use Rattle.laws.proofs.Either.{either}
use Rattle.laws.proofs.Parts.{machined, tabled}
use Rattle.laws.proofs.SoundnessCalls.{start_sound}
use Rattle.laws.proofs.Creation.{create_sound}
use Rattle.laws.proofs.Refused.{creation_not_created}
use Rattle.listing.specs.declared.Head.{Head}
use Rattle.listing.specs.declared.Head.TheVariants as head
use Rattle.listing.specs.declared.Counted.TheVariants.{Values, Tasks}
use Rattle.listing.specs.Listing.{ValueRead, height_of, line_of_head, line_of_count, lines_of_values, lines_of_tasks, listing}
use Rattle.listing.proofs.LineByLine.{values_length}
use Rattle.listing.proofs.Short.{numbers_told, head_short, count_short, Small, task_short, tasks_short, living_most}
use Rattle.host.specs.Hosting.{to_save, performed, RunSummaryIn, with_listing, with_saved_image, with_run, with_creation, perform, without_table, own}
use Rattle.host.specs.Listings.{head_of, values_of, Listing, listing_of, with_lengths, told_length, list_whole, list_run}
use Rattle.host.specs.Answering.{new_stack, new_ends, new_pool, with_owned, rafenuma_run}
use Rattle.host_listing.proofs.Refusals.{stays_stopped}
use Rattle.host_listing.proofs.Values.{Short, taken_bytes, values_short, lines_short}
use Rattle.std.specs.Prelude.{Ok, Err, Result}
use Rattle.errors.specs.declared.Refusal.{Refusal}

-- ---- what a run leaves

-- a table, the ends of a pool and a machine that keep each line short
record Bounded (table : List Task) (ends : List ℕ) (machine : Machine) : Type 0 where
  tasks : sound_table table machine.next_id.0 machine.count ≡ true
  joined : end_to_end ends machine.pool machine.entries ≡ true
  small : machine.pool ≤ 65536
  high : machine.height ≤ 1000

-- a sound world has such ones
sound_bounded : (w : World) → Sound w → Bounded w.table w.ends w.machine
sound_bounded w s =
    let m = machined w s in
    record { tasks = (tabled w s).sound; joined = m.entries.joined; small = m.entries.small; high = m.values.high }

-- and so have a blank table and a machine that does not start
stopped_bounded : (ends : List ℕ) → Bounded blank_table ends stopped
unfolding blank_table end_to_end never_fall start_of
stopped_bounded ends = record { tasks = table_cleared 256 refl; joined = refl; small = omega arith; high = omega arith }

-- a save by the host leaves all but its buffer
beside_save : (w : World) → host_save w ≡ saved_to (host_save w).report w.table w.stack w.memory w.pool w.ends (host_save w).save
unfolding host_save
beside_save w =
    either (λ (s : SavedTo). s ≡ saved_to s.report w.table w.stack w.memory w.pool w.ends s.save) (is_sound w) _ _ (λ _. refl) (λ _. refl)

-- no more values are listed than the machine has
height_below : (told : Head) (height : ℕ) → height_of told height ≤ height
unfolding height_of
height_below (head.Done finished) height = omega arith
height_below (head.Paused finished) height = omega arith
height_below (head.Refused refusal) height = omega arith
height_below (head.Saved length) height = omega arith

-- ---- the calls of a run

module _ (fuel : ℕ) (stack memory pool ends save image program : List ℕ) where
  -- what the creation answers
  abbrev pub made : Made
  made = create blank_table pool ends image program

  -- what the run reports
  abbrev pub reported : Result Machine Refusal → Reported
  reported creation = start fuel (world (machine_of creation) made.table stack memory made.pool made.ends save)

  -- what the save answers, and what it leaves
  abbrev pub kept : SavedTo
  kept = host_save (world (to_save (reported made.answer).report) (reported made.answer).table (reported made.answer).stack (reported made.answer).memory (reported made.answer).pool (reported made.answer).ends (reported made.answer).save)

  -- how the run ended, its values and its listing
  abbrev pub told : Head
  told = head_of made.answer (reported made.answer).report

  abbrev pub values : List ValueRead
  values = values_of made.answer (reported made.answer).report kept.stack kept.memory kept.pool kept.ends

  abbrev pub whole : List ℕ
  whole = listing told values kept.table

  -- what the types of the code alone say: a byte of memory and a state are `u8`, and the numbers in the first line are `u64`, `u32` or `usize`
  pub record Typed : Type 0 where
    pub bytes : (i : ℕ) → get_or kept.memory i 0 < 256
    pub states : (slot : ℕ) → (get_or kept.table slot blank).state.state < 256
    pub numbers : (i : ℕ) → get_or (numbers_told told) i 0 < 18446744073709551616

  module _ (stack_long : length stack ≡ 1000) (ends_long : length ends ≡ 1024) where
    -- a run leaves such ones, after a refused creation too
    started : (creation : Result Machine Refusal) → made.answer ≡ creation → Bounded (reported creation).table (reported creation).ends (reported creation).report.machine
    unfolding machine_of
    started (Ok machine) is =
        sound_bounded (world_after (reported (Ok machine))) (start_sound fuel _ (create_sound blank_table pool ends image program machine ends_long is stack memory save stack_long))
    started (Err refusal) is =
        subst (λ (r : Reported). Bounded r.table r.ends r.report.machine) (sym (stays_stopped fuel made.table stack memory made.pool made.ends save))
        (subst (λ (t : List Task). Bounded t made.ends stopped) (sym (ap (λ (m : Made). m.table) (creation_not_created blank_table pool ends image program refusal is))) (stopped_bounded made.ends))

    -- after a save all is as the run left it
    after_save : Bounded kept.table kept.ends (reported made.answer).report.machine
    after_save =
        let r : Reported = reported made.answer in
        subst (λ (s : SavedTo). Bounded s.table s.ends r.report.machine)
        (sym (beside_save (world (to_save r.report) r.table r.stack r.memory r.pool r.ends r.save))) (started made.answer refl)

    module _ (typed : Typed) where
      abbrev machine : Machine
      machine = (reported made.answer).report.machine

      -- the table has 256 slots, and each is sound
      table_parts : Counts (length kept.table) machine.next_id.0 machine.count × (sound_slots kept.table 0 machine.count ≡ true)
      unfolding sound_table
      table_parts =
          let both = (and-eq-true_iff (sound_counts (length kept.table) machine.next_id.0 machine.count) (sound_slots kept.table 0 machine.count)).0 after_save.tasks in
          (sound_counted _ _ _ both.0, both.1)

      -- a living task keeps to its numbers
      small_task : (slot : ℕ) → slot < length kept.table → (get_or kept.table slot blank).living ≡ true → Small (get_or kept.table slot blank)
      small_task slot inside living =
          let rules = sound_living (get_or kept.table slot blank) (0 + slot) machine.count living (sound_at kept.table 0 slot machine.count inside table_parts.1) in
          record { id = omega (arith, rules.held, table_parts.0.count_most); state = typed.states slot; title = rules.title }

      -- each task's line is short
      pub tasks_fit : length (lines_of_tasks kept.table) ≤ 405 * 256
      tasks_fit =
          let slots : length kept.table ≡ 256 = table_parts.0.slots_are in
          omega (arith, tasks_short kept.table (λ slot inside. task_short (get_or kept.table slot blank) (small_task slot inside)))

      -- an entry of the pool has at most 65,536 bytes
      entry_short : (i : ℕ) → i < machine.entries → length (entry_of kept.pool kept.ends i) ≤ 65536
      unfolding entry_of
      entry_short i less =
          let inside = within kept.ends machine.pool machine.entries i after_save.joined less in
          omega (arith, inside.in_bytes, after_save.small, length-take (end_of kept.ends i - start_of kept.ends i) (drop (start_of kept.ends i) kept.pool))

      -- each value's line is short
      pub short : Short 196611 values
      short =
          values_short (take machine.memory (drop 0 kept.memory)) kept.pool kept.ends machine.entries (taken_bytes machine.memory kept.memory typed.bytes) entry_short
          (take (height_of told machine.height) kept.stack)

      -- and there are at most 1,000
      few_values : length values ≤ 1000
      few_values =
          let words = values_length (take machine.memory (drop 0 kept.memory)) kept.pool kept.ends machine.entries (take (height_of told machine.height) kept.stack) in
          omega (arith, words, height_below told machine.height, after_save.high, length-take (height_of told machine.height) kept.stack)

      -- a number of 64 bits counts the whole
      pub counts : length whole ≤ 18446744073709551615
      unfolding listing
      counts =
          let first : length (line_of_head told) ≤ 53 = head_short told typed.numbers in
          let second : length (line_of_count Values (length values)) ≤ 28 = count_short Values (length values) (omega (arith, few_values)) in
          let fourth : length (line_of_count Tasks (living_of kept.table)) ≤ 28 = count_short Tasks (living_of kept.table) (omega (arith, living_most kept.table, table_parts.0.slots_are)) in
          omega (
            arith,
            lines_short values short,
            few_values,
            tasks_fit,
            length-append (line_of_head told) (line_of_count Values (length values) ++ (lines_of_values values ++ (line_of_count Tasks (living_of kept.table) ++ lines_of_tasks kept.table))),
            length-append (line_of_count Values (length values)) (lines_of_values values ++ (line_of_count Tasks (living_of kept.table) ++ lines_of_tasks kept.table)),
            length-append (lines_of_values values) (line_of_count Tasks (living_of kept.table) ++ lines_of_tasks kept.table),
            length-append (line_of_count Tasks (living_of kept.table)) (lines_of_tasks kept.table),
          )

-- ---- the library's run

-- the lengths of the library's own buffers
stack_words : length new_stack ≡ 1000
unfolding new_stack
stack_words = length-replicate {A = ℕ} 1000 0

pool_ends : length new_ends ≡ 1024
unfolding new_ends
pool_ends = length-replicate {A = ℕ} 1024 0

-- a text in a buffer that holds it, and in one that does not
held : (out text : List ℕ) → length text ≤ length out → list_whole out text ≡ listing_of (with_lengths (length text) (length text)) (sets out 0 text)
unfolding list_whole
held out text fits = rw (le-leb (length text) (length out) fits)

not_held : (out text : List ℕ) → length text ≤ 18446744073709551615 → length out < length text → list_whole out text ≡ listing_of (with_lengths 0 (length text)) out
unfolding list_whole told_length
not_held out text countable over = rw (lt-leb (length text) (length out) over, le-leb (length text) 18446744073709551615 countable)

module _ (fuel : ℕ) (memory image program new_image lent : List ℕ) where
  -- what the library performs, over its own table and buffers
  abbrev pub run : RunSummaryIn
  run = perform fuel blank_table new_stack memory new_pool new_ends new_image image program lent

  -- its listing
  abbrev pub text : List ℕ
  text = whole fuel new_stack memory new_pool new_ends new_image image program

  -- what came of it in the lent buffer
  abbrev pub given : Listing
  given = listing_of run.answer.listing run.listing

  -- the call answers these
  pub is_given : (answer : List ℕ) → rafenuma_run fuel memory image program new_image lent answer ≡ with_owned answer (without_table run)
  unfolding rafenuma_run own
  is_given answer = refl

  is_whole : given ≡ list_whole lent text
  unfolding perform with_creation with_run with_saved_image with_listing list_run performed
  is_whole = refl

  -- every run's listing is that of docs/REFERENCE.md, 'The listing', whole from the lent buffer's start if the buffer holds it; else the buffer stays, and the length is told
  pub listed : Typed fuel new_stack memory new_pool new_ends new_image image program
      → (length text ≤ length lent → given ≡ listing_of (with_lengths (length text) (length text)) (sets lent 0 text))
      × (length lent < length text → given ≡ listing_of (with_lengths 0 (length text)) lent)
  listed typed = (
    λ fits. is_whole ∙ held lent text fits,
    λ over. is_whole ∙ not_held lent text (counts fuel new_stack memory new_pool new_ends new_image image program stack_words pool_ends typed) over,
  )
