-- S_SAVE beside the Rust's arm.
use Prim.Native.Nat.{ℕ, zero, suc, ◌+◌, ◌≤◌, ◌<◌}
use mathlib.Core.Bool.{Bool, true, false, cond}
use mathlib.Core.Path.{◌≡◌, refl, ap, ◌∙◌}
use mathlib.Core.List.{List, [], ◌∷◌, ◌++◌, map}
use mathlib.Core.Option.{Option, none}
use native.Mathlib.Omega.{arith}
use native.Mathlib.Numerals.{add-one}
use native.Mathlib.Decide.{dec_lt}
use lib.Dec.{ltb, leb}
use lib.ListN.{length, get_or, take, drop, length-append, drop_of_length-le}
use lib.Seq.{drop-cons}
use borrow.Author.Tests.{ltb-true, ltb-false, leb-false}
use Rattle.utf8.specs.Utf8.{valid}
use Rattle.slices.specs.Numbers.{Bytes}
use Rattle.image.specs.Image.{record_of, body, records, header, written}
use Rattle.image.specs.Walking.{on}
use Rattle.image.specs.Slots.{saved_task, task_in}
use Rattle.image.specs.Writing.{size_of, sized, measure, added, measure_slot}
use Rattle.image.specs.Table.{SavedTable}
use Rattle.table_image.specs.Loops.{Measured, measured, refused, count_slot, grown, measures, saved_as, save_by_slots}
use Rattle.table_image.proofs.Saves.{header_length, save_table_is}
use Rattle.inlinevec.specs.Stacks.{values_of}
use Rattle.pools.specs.Pool.{entries_of}
use Rattle.pools.proofs.Laws.{getD_entries, found, not_found}
use Rattle.storage.specs.declared.Task.{Task}
use Rattle.storage.specs.Tasks.{blank}
use Rattle.machine.specs.declared.Machine.{Machine}
use Rattle.machine.specs.Machines.{current, with_saved}
use Rattle.mechanism.specs.Registers.{registers_of, settled}
use Rattle.mechanism.specs.Registers.{machine_at}
use Rattle.mechanism.specs.Turns.{save_result}
use Rattle.machine.specs.World.{World, world, code, place}
use Rattle.machine.specs.Words.{StepResult, next}
use Rattle.mechanism.specs.Step.{saves_result, saves}
use Rattle.rust.specs.Errors.{VMError, InvalidInstructionsIndex, BytesToStringConversionError, Out, ok, err}
use Rattle.rust.specs.Instructions as instructions
use Rattle.rust.specs.TaskTypes.{TaskVM, to_task}
use Rattle.rust.specs.Storage as rust-storage
use Rattle.rust.specs.Vm as rust
use Rattle.rust.specs.Vm.{VM, at}
use Rattle.agreement.specs.View.{held, task_in_slot, storage_of, view}
use Rattle.agreement.specs.Agreement.{Agree, lacks, errs, refusal_of, long_image, image_task, image_tasks}
use Rattle.agreement.proofs.Facts.{Facts}
use Rattle.agreement.proofs.Laws.{goes_by, same}
use Rattle.agreement.proofs.Views.{current_is, callers_are}
use Rattle.agreement.proofs.Slots.{a_task, no_task, get_is, count_length}
use Rattle.agreement.proofs.Frames.{entries_length}
use Rattle.std.specs.Prelude.{Ok, Result}
use Rattle.errors.specs.declared.Refusal.{Refusal}

module _ (w : World) (stale : ℕ) (h : Facts w) (bytes : Bytes w.pool) where
  abbrev m : Machine
  m = w.machine

  abbrev entries : List (List ℕ)
  entries = entries_of w.pool w.ends m.entries

  abbrev tasks : List (Option TaskVM)
  tasks = take m.count (map task_in_slot w.table)

  abbrev slot : ℕ → Task
  slot i = get_or w.table i blank

  -- a task as the image has it
  image_is : (task : Task) → task.instructions_ref.0 < m.entries → image_task entries (held task) ≡ task_in w.pool w.ends task
  unfolding task_in saved_task
  image_is task less = rw (getD_entries w.pool w.ends m.entries task.instructions_ref.0 less)

  -- the bytes of a list with a living task in front, and with none
  living_length : (i : ℕ) (rest : List (Option TaskVM)) → (slot i).living ≡ true → (slot i).instructions_ref.0 < m.entries
      → length (records (image_tasks entries (task_in_slot (slot i) ∷ rest))) ≡ length (record_of 2 (body (task_in w.pool w.ends (slot i)))) + length (records (image_tasks entries rest))
  unfolding records image_tasks
  living_length i rest e less =
      rw (a_task (slot i) e, image_is (slot i) less) (length-append (record_of 2 (body (task_in w.pool w.ends (slot i)))) (records (image_tasks entries rest)))

  dead_length : (i : ℕ) (rest : List (Option TaskVM)) → (slot i).living ≡ false → length (records (image_tasks entries (task_in_slot (slot i) ∷ rest))) ≡ length (records (image_tasks entries rest))
  unfolding image_tasks
  dead_length i rest e = rw (no_task (slot i) e)

  module _ (f : Measured → StepResult) (o : Out VM) (missed : (error : VMError) → Agree w (f (refused (refusal_of error))) (err error)) where
    -- a living slot: 12, then 15
    one_saved : (limit size : ℕ) (task : Task) (others : ℕ → Measured) (rest : List (Option TaskVM))
        → (task.instructions_ref.0 < m.entries → (more : ℕ) → more ≤ size + length (record_of 2 (body (task_in w.pool w.ends task))) → Agree w (f (others more)) (rust-storage.to_tasks entries rest λ ts. o))
        → Agree w (f (grown (added limit size (measure w.pool w.ends m.entries task)) others)) (to_task (held task) entries λ t. rust-storage.to_tasks entries rest λ ts. o)
    unfolding measure sized size_of added grown on to_task instructions.get task_in saved_task
    one_saved limit size task others rest onto = by (ltb task.instructions_ref.0 m.entries) refl
      where
        by : (b : Bool) → ltb task.instructions_ref.0 m.entries ≡ b
            → Agree w (f (grown (added limit size (measure w.pool w.ends m.entries task)) others)) (to_task (held task) entries λ t. rust-storage.to_tasks entries rest λ ts. o)
        by true e =
            rw (entries_length w stale h bytes, e, found w.ends m.pool m.entries h.ends task.instructions_ref (ltb-true _ _ e))
            (same (λ (r : Result ℕ Refusal). f (grown (added limit size r) others)) (valid (take task.title_len task.title))
            (λ t. onto (ltb-true _ _ e) _ (omega arith))
            (λ t. missed BytesToStringConversionError))
        by false e =
            rw (entries_length w stale h bytes, e, not_found w.ends m.entries task.instructions_ref (ltb-false _ _ e))
            (missed (InvalidInstructionsIndex task.instructions_ref.0))

    -- past the count no slot is living
    dead_past : (i : ℕ) → m.count ≤ i → (slot i).living ≡ false
    dead_past i past = by (slot i).living refl
      where
        by : (b : Bool) → (slot i).living ≡ b → (slot i).living ≡ false
        by true e = let l = h.living i e in absurd (let a : (slot i).id.0 ≡ i = l.place in let b : (slot i).id.0 < m.count = l.held in omega arith)
        by false e = e

    none_past : (limit n i size : ℕ) → m.count ≤ i → (count : ℕ) → measures n i w.table w.pool w.ends m.entries limit count size ≡ measured size count
    unfolding measures measure_slot count_slot grown
    none_past limit zero i size past count = refl
    none_past limit (suc n) i size past count = rw (dead_past i past) (none_past limit n (i + 1) size (omega arith) count)

    -- one slot, then the others
    one_by : (limit n i count size : ℕ) (b : Bool) → (slot i).living ≡ b → (rest : List (Option TaskVM))
        → ((count' size' : ℕ) → ((count'' size'' : ℕ) → size'' ≤ size' + length (records (image_tasks entries rest)) → Agree w (f (measured size'' count'')) o)
        → Agree w (f (measures n (i + 1) w.table w.pool w.ends m.entries limit count' size')) (rust-storage.to_tasks entries rest λ ts. o))
        → ((count' size' : ℕ) → size' ≤ size + length (records (image_tasks entries (task_in_slot (slot i) ∷ rest))) → Agree w (f (measured size' count')) o)
        → Agree w (f (grown (cond b (added limit size (measure w.pool w.ends m.entries (slot i))) (Ok size)) (measures n (i + 1) w.table w.pool w.ends m.entries limit (count_slot (slot i) count))))
        (rust-storage.to_tasks entries (task_in_slot (slot i) ∷ rest) λ ts. o)
    unfolding grown rust-storage.to_tasks
    one_by limit n i count size true e rest others fits =
        rw (a_task (slot i) e)
        (one_saved limit size (slot i) (measures n (i + 1) w.table w.pool w.ends m.entries limit (count_slot (slot i) count)) rest
        (λ less more l. others (count_slot (slot i) count) more (λ c s k. fits c s (let z = living_length i rest e less in omega arith))))
    one_by limit n i count size false e rest others fits =
        rw (no_task (slot i) e) (others (count_slot (slot i) count) size (λ c s k. fits c s (rw (dead_length i rest e) k)))

    -- the slots from one on
    all_saved : (limit n i : ℕ) → i + n ≡ 256 → (count size : ℕ)
        → ((count' size' : ℕ) → size' ≤ size + length (records (image_tasks entries (drop i tasks))) → Agree w (f (measured size' count')) o)
        → Agree w (f (measures n i w.table w.pool w.ends m.entries limit count size)) (rust-storage.to_tasks entries (drop i tasks) λ ts. o)
    unfolding measures measure_slot rust-storage.to_tasks
    all_saved limit zero i sum count size fits =
        let z : drop i tasks ≡ [] = drop_of_length-le tasks {i = i} (let l = count_length w h in omega (arith, h.counts.count_most)) in
        rw z (fits count size (omega arith))
    all_saved limit (suc n) i sum count size fits = by (dec_lt i m.count) (λ count' size'. all_saved limit n (i + 1) (omega arith) count' size')
      where
        first : i < m.count → drop i tasks ≡ task_in_slot (slot i) ∷ drop (i + 1) tasks
        first less = drop-cons tasks i none (let l = count_length w h in omega arith) ∙ rw (get_is w h i, add-one i)

        by : Dec (i < m.count)
            → ((count' size' : ℕ) → ((count'' size'' : ℕ) → size'' ≤ size' + length (records (image_tasks entries (drop (i + 1) tasks))) → Agree w (f (measured size'' count'')) o)
            → Agree w (f (measures n (i + 1) w.table w.pool w.ends m.entries limit count' size')) (rust-storage.to_tasks entries (drop (i + 1) tasks) λ ts. o))
            → Agree w (f (measures (suc n) i w.table w.pool w.ends m.entries limit count size)) (rust-storage.to_tasks entries (drop i tasks) λ ts. o)
        by (no past) others =
            let z : drop i tasks ≡ [] = drop_of_length-le tasks {i = i} (let l = count_length w h in omega arith) in
            rw (none_past limit (suc n) i size (omega arith) count, z) (fits count size (omega arith))
        by (yes less) others =
            rw (first less) (one_by limit n i count size (slot i).living refl (drop (i + 1) tasks) others (λ c s l. fits c s (rw (first less) l)))

  -- ---- the instruction

  abbrev saving : Measured → SavedTable
  saving x = saved_as m.next_id.0 w.table w.pool w.ends w.save x

  abbrev by_measure : Measured → StepResult
  by_measure x = saves_result w (saving x).save (save_result m (saving x).answer)

  not_measured : (error : VMError) → Agree w (by_measure (refused (refusal_of error))) (err error)
  unfolding saved_as save_result saves_result
  not_measured error = errs error

  abbrev p : ℕ
  p = place w

  saved_view : (save : List ℕ) (size : ℕ)
      → view stale (world (with_saved (machine_at m (p + 1) m.height) size) w.table w.stack w.memory w.pool w.ends save) ≡ at (view stale w) (p + 1) (values_of m.height w.stack)
  unfolding view settled registers_of
  saved_view save size = rw (current_is m.frames (record { entry = (current m.frames).entry; place = p + 1 }), callers_are m.frames (record { entry = (current m.frames).entry; place = p + 1 }))

  saved_goes : (save : List ℕ) (size : ℕ)
      → Agree w (next (world (with_saved (machine_at m (p + 1) m.height) size) w.table w.stack w.memory w.pool w.ends save)) (ok (at (view stale w) (p + 1) (values_of m.height w.stack)))
  saved_goes save size = goes_by stale bytes (saved_view save size)

  measured_agrees : p < length (code w) → (count size : ℕ) → size ≤ 14 + length (records (image_tasks entries tasks))
      → Agree w (by_measure (measured size count)) (ok (at (view stale w) (p + 1) (values_of m.height w.stack)))
  unfolding saved_as save_result saves_result registers_of view storage_of written
  measured_agrees inside count size fits = by (leb size (length w.save)) refl
    where
      by : (b : Bool) → leb size (length w.save) ≡ b → Agree w (by_measure (measured size count)) (ok (at (view stale w) (p + 1) (values_of m.height w.stack)))
      by true e = rw e (saved_goes _ size)
      by false e =
          let long : length (header m.next_id.0 (length (image_tasks entries tasks)) ++ records (image_tasks entries tasks)) ≡ 14 + length (records (image_tasks entries tasks)) = length-append (header m.next_id.0 (length (image_tasks entries tasks))) (records (image_tasks entries tasks)) ∙ ap (λ (n : ℕ). n + length (records (image_tasks entries tasks))) (header_length m.next_id.0 (length (image_tasks entries tasks))) in
          let over : length w.save < length (header m.next_id.0 (length (image_tasks entries tasks)) ++ records (image_tasks entries tasks)) = let z : length w.save < size = leb-false _ _ e in omega arith in
          rw e (lacks (long_image over))

  pub s_save : p < length (code w) → Agree w (saves w) (rust.s_save (p + 1) (view stale w))
  unfolding saves save_by_slots rust.s_save rust-storage.save view storage_of
  s_save inside =
      rw (← save_table_is m.next_id.0 w.table w.pool w.ends m.entries w.save, h.counts.slots_are)
      (all_saved by_measure (ok (at (view stale w) (p + 1) (values_of m.height w.stack))) not_measured (length w.save + 1) 256 0 (omega arith) 0 14 (λ count size fits. measured_agrees inside count size fits))
