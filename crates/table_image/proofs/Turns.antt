-- One turn of each loop over the table, and what is left at its end.
use Prim.Native.Nat.{ℕ, suc, ◌+◌, ◌-◌, ◌<◌, ◌≤◌}
use mathlib.Core.Bool.{Bool, true, false, cond}
use mathlib.Core.List.{List}
use mathlib.Core.Path.{◌≡◌, refl, ap, sym, ◌∙◌}
use native.Mathlib.Omega.{arith}
use lib.ListN.{length, get_or, set}
use mir.Val.{bool_byte}
use borrow.Author.Tests.{le-leb, lt-leb}
use Rattle.std.proofs.lemmas.List.{get_or_default}
use Rattle.errors.specs.declared.Refusal.{Refusal}
use Rattle.errors.specs.declared.Refusal.TheVariants.{SaveBufferTooShort}
use Rattle.storage.specs.declared.Task.{Task}
use Rattle.storage.specs.Tasks.{blank}
use Rattle.storage.specs.Storage.{slot_of}
use Rattle.image.specs.declared.LoadedRecord.{LoadedRecord}
use Rattle.image.specs.Image.{header}
use Rattle.image.specs.Writing.{Put, put, puts, Stepped, stepped, measure_slot, save_slot}
use Rattle.image.specs.Table.{saved_table, save_table, Loading}
use Rattle.table_image.specs.Loops.{Measured, measured, refused, count_slot, grown, measures, save_slots, saved_as, save_by_slots, load_record, record_placed, load_records}
use Rattle.table_image.proofs.Saves.{save_table_is}
use Rattle.table_image.specs.declared.InUse.{InUse}
use Rattle.table_image.specs.Tables.{Held, held, measured_as, in_use, loading}
use Rattle.std.specs.Prelude.{Ok, Err, Result}

-- nothing taken away
pub less_none : (n : ℕ) → n - 0 ≡ n
less_none n = omega arith

-- one turn fewer
one_fewer : {n i : ℕ} → i < n → n - i ≡ suc (n - (i + 1))
one_fewer more = omega arith

-- no turn left
none_left : {n i : ℕ} → n ≤ i → n - i ≡ 0
none_left ended = omega arith

-- an answer, and the pool and its ends
pub step_is : {A : Type 0} {r q : A} {zs ys ws vs : List ℕ} → stepped r zs ws ≡ stepped q ys vs → (r ≡ q) × ((zs ≡ ys) × (ws ≡ vs))
step_is {A} e = (ap (λ (a : Stepped A). a.answer) e, (ap (λ (a : Stepped A). a.pool) e, ap (λ (a : Stepped A). a.ends) e))

-- an answer, and the table, the pool and its ends
pub held_is : {A : Type 0} {r q : A} {ts us : List Task} {zs ys ws vs : List ℕ} → held r ts zs ws ≡ held q us ys vs → (r ≡ q) × ((ts ≡ us) × ((zs ≡ ys) × (ws ≡ vs)))
held_is {A} e = (ap (λ (a : Held A). a.answer) e, (ap (λ (a : Held A). a.table) e, (ap (λ (a : Held A). a.pool) e, ap (λ (a : Held A). a.ends) e)))

-- ---- measuring
-- a slot, counted
counted : (living : Bool) (count : ℕ) → count + bool_byte living ≡ cond living (count + 1) count
counted true count = refl
counted false count = omega arith

-- at most once
pub counted_once : (living : Bool) → bool_byte living ≤ 1
counted_once true = omega arith
counted_once false = omega arith

module _ (table : List Task) (pool ends : List ℕ) (entries limit : ℕ) where
  measures_one : (k i count size : ℕ) → measures (suc k) i table pool ends entries limit count size
      ≡ grown (measure_slot pool ends entries limit (get_or table i blank) size) (measures k (i + 1) table pool ends entries limit (count_slot (get_or table i blank) count))
  unfolding measures
  measures_one k i count size = refl

  measures_none : (i count size : ℕ) → measures 0 i table pool ends entries limit count size ≡ measured size count
  unfolding measures
  measures_none i count size = refl

  module _ (i count size : ℕ) (d : Task) {po en : List ℕ} {answer : Result ℕ Refusal} {whole : Measured} (more : i < length table) (same_pool : po ≡ pool) (same_ends : en ≡ ends)
      (so_far : measures (length table - i) i table pool ends entries limit count size ≡ whole)
      (slot : answer ≡ measure_slot po en entries limit (get_or table i d) size) where
    goes : grown answer (measures (length table - (i + 1)) (i + 1) table pool ends entries limit (count_slot (get_or table i d) count)) ≡ whole
    goes =
        rw (slot, same_pool, same_ends, get_or_default table i d blank more)
        (sym (measures_one (length table - (i + 1)) i count size) ∙ ap (λ (k : ℕ). measures k i table pool ends entries limit count size) (sym (one_fewer more)) ∙ so_far)

    -- a slot with a size
    pub measure_turn : {larger one : ℕ} → answer ≡ Ok larger → one ≡ bool_byte (get_or table i d).living
        → measures (length table - (i + 1)) (i + 1) table pool ends entries limit (count + one) larger ≡ whole
    unfolding grown count_slot
    measure_turn held same = rw (same, counted (get_or table i d).living count) (rw held at goes)

    -- a slot that is refused
    pub measure_stops : {refusal : Refusal} → answer ≡ Err refusal → refused refusal ≡ whole
    unfolding grown
    measure_stops held = rw held at goes

  -- at the end
  pub measure_ends : (i count size : ℕ) {whole : Measured} → length table ≤ i → measures (length table - i) i table pool ends entries limit count size ≡ whole → measured size count ≡ whole
  measure_ends i count size ended so_far =
      sym (measures_none i count size) ∙ ap (λ (k : ℕ). measures k i table pool ends entries limit count size) (sym (none_left ended)) ∙ so_far

-- ---- saving
module _ (table : List Task) (pool ends : List ℕ) where
  saves_one : (k i at : ℕ) (save : List ℕ) → save_slots (suc k) i table pool ends at save
      ≡ save_slots k (i + 1) table pool ends (save_slot pool ends (get_or table i blank) at save).place (save_slot pool ends (get_or table i blank) at save).save
  unfolding save_slots
  saves_one k i at save = refl

  saves_none : (i at : ℕ) (save : List ℕ) → save_slots 0 i table pool ends at save ≡ put at save
  unfolding save_slots
  saves_none i at save = refl

  -- a turn
  pub save_turn : (i at : ℕ) (save : List ℕ) (d : Task) {ts : List Task} {po en after : List ℕ} {behind : ℕ} → ts ≡ table → po ≡ pool → en ≡ ends → i < length ts
      → put behind after ≡ save_slot po en (get_or ts i d) at save
      → (save_slots (length table - (i + 1)) (i + 1) table pool ends behind after).save ≡ (save_slots (length table - i) i table pool ends at save).save
  save_turn i at save d {ts} {po} {en} {after} {behind} same_table same_pool same_ends inside slot =
      let more : i < length table = rw same_table at inside in
      let written : put behind after ≡ save_slot pool ends (get_or table i blank) at save = slot ∙ rw (same_table, same_pool, same_ends, get_or_default table i d blank more) in
      ap (λ (p : Put). (save_slots (length table - (i + 1)) (i + 1) table pool ends p.place p.save).save) written
      ∙ ap (λ (p : Put). p.save) (sym (saves_one (length table - (i + 1)) i at save) ∙ ap (λ (k : ℕ). save_slots k i table pool ends at save) (sym (one_fewer more)))

  -- at the end
  pub save_ends : (i at : ℕ) (save : List ℕ) {ts : List Task} → ts ≡ table → length ts ≤ i → save ≡ (save_slots (length table - i) i table pool ends at save).save
  save_ends i at save {ts} same_table past =
      let ended : length table ≤ i = rw same_table at past in
      ap (λ (p : Put). p.save) (sym (saves_none i at save) ∙ ap (λ (k : ℕ). save_slots k i table pool ends at save) (sym (none_left ended)))

module _ (table : List Task) (pool ends : List ℕ) (next_id entries : ℕ) (save : List ℕ) (answer : Result (ℕ × ℕ) Refusal)
    (told : measured_as answer ≡ measures (length table) 0 table pool ends entries (length save + 1) 0 14) where
  as_measured : saved_as next_id table pool ends save (measured_as answer) ≡ save_table next_id table pool ends entries save
  unfolding save_by_slots
  as_measured = rw told (save_table_is next_id table pool ends entries save)

  -- a table that is refused
  pub save_refused : {refusal : Refusal} → answer ≡ Err refusal → saved_table (Err refusal) save ≡ save_table next_id table pool ends entries save
  unfolding measured_as saved_as
  save_refused held = rw held at as_measured

  -- an image that does not fit
  pub save_short : {size count : ℕ} → answer ≡ Ok (size, count) → length save < size → saved_table (Err SaveBufferTooShort) save ≡ save_table next_id table pool ends entries save
  unfolding measured_as saved_as
  save_short {size} {count} held short = rw (held, lt-leb size (length save) short) at as_measured

  -- one that does
  pub save_begins : {size count place : ℕ} {last : List ℕ} → answer ≡ Ok (size, count) → size ≤ length save → put place last ≡ puts save 0 (header next_id count)
      → saved_table (Ok size) (save_slots (length table - 0) 0 table pool ends 14 last).save ≡ save_table next_id table pool ends entries save
  unfolding measured_as saved_as
  save_begins {size} {count} {place} {last} held fits written =
      let begun : last ≡ (puts save 0 (header next_id count)).save = ap (λ (p : Put). p.save) written in
      rw (less_none (length table), begun) (rw (held, le-leb size (length save) fits) at as_measured)

-- ---- loading
module _ (image : List ℕ) (count : ℕ) where
  loads_one : (k at : ℕ) (l : Loading) → load_records (suc k) image at l
      ≡ load_records k image (load_record l.pool l.ends image at l.bytes l.entries).answer.end (record_placed (load_record l.pool l.ends image at l.bytes l.entries) l)
  unfolding load_records
  loads_one k at l = refl

  loads_none : (at : ℕ) (l : Loading) → load_records 0 image at l ≡ l
  unfolding load_records
  loads_none at l = refl

  -- a turn
  pub load_turn : (i at : ℕ) (ts : List Task) (po en : List ℕ) (used : InUse) (r : LoadedRecord) {zp ze : List ℕ} {zs : List Task} {slot : ℕ} {whole : Loading} → i < count
      → load_records (count - i) image at (loading ts po en used) ≡ whole → stepped r zp ze ≡ load_record po en image at used.bytes used.entries → slot ≡ slot_of r.task.id → zs ≡ set ts slot r.task
      → load_records (count - (i + 1)) image r.end (loading zs zp ze (in_use r.bytes r.entries)) ≡ whole
  unfolding record_placed slot_of
  load_turn i at ts po en used r {zp} {ze} {zs} more so_far loaded there placed =
      rw (placed, there)
      (ap (λ (s : Stepped LoadedRecord). load_records (count - (i + 1)) image s.answer.end (record_placed s (loading ts po en used))) loaded
      ∙ sym (loads_one (count - (i + 1)) at (loading ts po en used))
      ∙ ap (λ (k : ℕ). load_records k image at (loading ts po en used)) (sym (one_fewer more)) ∙ so_far)

  -- at the end
  pub load_ends : (i at : ℕ) (ts : List Task) (po en : List ℕ) (used : InUse) {whole : Loading} → count ≤ i → load_records (count - i) image at (loading ts po en used) ≡ whole → loading ts po en used ≡ whole
  load_ends i at ts po en used ended so_far =
      sym (loads_none at (loading ts po en used)) ∙ ap (λ (k : ℕ). load_records k image at (loading ts po en used)) (sym (none_left ended)) ∙ so_far
