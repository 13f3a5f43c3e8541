-- Interning keeps the pool sound and the entries before it as they were; PUSH_CALLDATA keeps the machine sound.
use Prim.Native.Nat.{ℕ, ◌+◌, ◌≤◌, ◌<◌}
use mathlib.Core.Bool.{Bool, true, false}
use mathlib.Core.List.{List, [], ◌∷◌}
use mathlib.Core.Path.{◌≡◌, refl, sym, ap, ◌∙◌, subst}
use native.Mathlib.Omega.{arith}
use lib.Dec.{leb}
use lib.ListN.{length, get_or, set, length-set, get_or-append}
use borrow.Author.Tests.{leb-false}
use Rattle.errors.specs.declared.Refusal.{Refusal}
use Rattle.pools.specs.Pool.{entry_of, entries_of, has_room, Pooled, pooled, new_entry, interned, end_to_end}
use Rattle.pools.proofs.Interns.{room, when_room, when_full}
use Rattle.pools.proofs.Laws.{length_entries, getD_entries, same_lengths, joined, still_sound}
use Rattle.values.specs.Values.{to_calldata_val}
use Rattle.machine.specs.declared.Machine.{Machine}
use Rattle.mechanism.specs.Registers.{registers_of, settled}
use Rattle.mechanism.specs.Frames.{OnPool, on_pool, intern_sized, intern_calldata, with_entry, calldata_pushed, push_calldata}
use Rattle.mechanism.specs.Registers.{machine_at}
use Rattle.laws.proofs.Either.{either}
use Rattle.laws.proofs.Parts.{Entries, Machined}
use Rattle.laws.proofs.Values.{boxed_no_vec, no_vec_inside}
use Rattle.laws.proofs.Stack.{set_inside}
use Rattle.laws.proofs.Frames.{Same, frames_more, placed_sound}
use Rattle.std.specs.Prelude.{Ok, Err, Result}
use Rattle.pools.specs.declared.InstructionsRef.{InstructionsRef}

-- a pool with no fewer entries, each old one as it was
pub record Grows (pool ends : List ℕ) (entries : ℕ) (new_pool new_ends : List ℕ) (more : ℕ) : Type 0 where
  pub no_fewer : entries ≤ more
  pub same : (i : ℕ) → i < entries → entry_of new_pool new_ends i ≡ entry_of pool ends i

pub same_pool : (pool ends : List ℕ) (entries : ℕ) → Grows pool ends entries pool ends entries
same_pool pool ends entries = record { no_fewer = omega arith; same = λ i less. refl }

pub data Interns (pool ends : List ℕ) (entries : ℕ) : Pooled → Type 0 where
  interns : (used : ℕ) (new_pool new_ends : List ℕ) → Entries (length new_pool) new_ends used (entries + 1) → Grows pool ends entries new_pool new_ends (entries + 1)
      → Interns pool ends entries (pooled (new_entry entries used) new_pool new_ends)
  not_interns : (refusal : Refusal) → Interns pool ends entries (pooled (Err refusal) pool ends)

module _ (pool ends : List ℕ) (bytes entries : ℕ) (calldata : List ℕ) (lent : length ends ≡ 1024) (sound : end_to_end ends bytes entries ≡ true) where
  abbrev after : Pooled
  after = interned pool ends bytes entries calldata

  abbrev used : ℕ
  used = bytes + length calldata

  kept : after.answer ≡ new_entry entries used → (i : ℕ) → i < entries → entry_of after.pool after.ends i ≡ entry_of pool ends i
  kept result i less =
      sym (getD_entries after.pool after.ends (entries + 1) i (omega arith))
      ∙ ap (λ (l : List (List ℕ)). get_or l i []) (joined pool ends bytes entries calldata lent sound (record { 0 = entries }) used result)
      ∙ get_or-append (entries_of pool ends entries) (calldata ∷ []) [] i (let n = length_entries pool ends entries in omega (arith, n))
      ∙ getD_entries pool ends entries i less

  with_room : has_room (length pool) bytes entries (length calldata) ≡ true → Interns pool ends entries after
  with_room held =
      let r = room (length pool) bytes entries (length calldata) held in
      let result : after.answer ≡ new_entry entries used = ap (λ (p : Pooled). p.answer) (when_room pool ends bytes entries calldata held) in
      let long = same_lengths pool ends bytes entries calldata in
      subst (λ (answer : Result (InstructionsRef × ℕ) Refusal). Interns pool ends entries (pooled answer after.pool after.ends)) (sym result)
      (interns used after.pool after.ends
      (record {
        small = r.small;
        there = let n = long.0 in let t = r.there in omega (arith, n, t);
        joined = still_sound pool ends bytes entries calldata lent sound (record { 0 = entries }) used result;
        ends_long = long.1 ∙ lent;
      })
      (record { no_fewer = omega arith; same = kept result }))

  pub intern_keeps : Interns pool ends entries after
  intern_keeps = by (has_room (length pool) bytes entries (length calldata)) refl
    where
      by : (test : Bool) → has_room (length pool) bytes entries (length calldata) ≡ test → Interns pool ends entries after
      by true held = with_room held
      by false failed = subst (Interns pool ends entries) (sym (when_full pool ends bytes entries calldata failed)) (not_interns _)

-- ---- PUSH_CALLDATA

pub data Pushed (asked : Type 0) (memory save : ℕ) (pool ends : List ℕ) (machine : Machine) : OnPool → Type 0 where
  pushed : (machine-after : Machine) (stack new_pool new_ends : List ℕ) → Machined asked memory (length new_pool) save stack new_ends machine-after
      → Grows pool ends machine.entries new_pool new_ends machine-after.entries → Same machine machine-after
      → Pushed asked memory save pool ends machine (on_pool (Ok machine-after) stack new_pool new_ends)
  refused : (refusal : Refusal) (stack new_pool new_ends : List ℕ) → Pushed asked memory save pool ends machine (on_pool (Err refusal) stack new_pool new_ends)

module _ {asked : Type 0} (memory save : ℕ) (stack pool ends : List ℕ) (machine : Machine) (m : Machined asked memory (length pool) save stack ends machine) (next : ℕ) where
  entry_sound : (bytes : ℕ) (new_pool new_ends : List ℕ) → machine.height < 1000 → Entries (length new_pool) new_ends bytes (machine.entries + 1)
      → Machined asked memory (length new_pool) save (set stack machine.height (to_calldata_val machine.entries)) new_ends (with_entry machine next (record { 0 = machine.entries }) bytes)
  unfolding with_entry settled registers_of
  entry_sound bytes new_pool new_ends low new =
      let p : Machined asked memory (length pool) save stack ends (machine_at machine next machine.height) = placed_sound next machine.height m (omega arith) in
      record {
        values = record {
          high = omega arith;
          few = m.values.few;
          there = m.values.there;
          stack_long = λ it. length-set stack machine.height _ ∙ m.values.stack_long it;
          inside = λ it.
              set_inside machine.memory (machine.height + 1) machine.height (to_calldata_val machine.entries) stack (omega (arith, m.values.stack_long it))
              (no_vec_inside machine.memory (to_calldata_val machine.entries) (boxed_no_vec 5 machine.entries))
              (λ i less other. m.values.inside it i (omega (arith, other)));
        };
        entries = new;
        frames = frames_more _ machine.entries (machine.entries + 1) (omega arith) p.frames;
        kept = m.kept;
      }

  entry_same : (bytes : ℕ) → Same machine (with_entry machine next (record { 0 = machine.entries }) bytes)
  unfolding with_entry settled
  entry_same bytes = record { next_id = refl; count = refl }

  entry_grows : (bytes : ℕ) (new_pool new_ends : List ℕ) → Grows pool ends machine.entries new_pool new_ends (machine.entries + 1)
      → Grows pool ends machine.entries new_pool new_ends (with_entry machine next (record { 0 = machine.entries }) bytes).entries
  unfolding with_entry
  entry_grows bytes new_pool new_ends grows = grows

  pushed_by : (p : Pooled) → machine.height < 1000 → Interns pool ends machine.entries p → Pushed asked memory save pool ends machine (calldata_pushed stack machine next p p.answer)
  unfolding calldata_pushed
  pushed_by _ low (interns bytes new_pool new_ends new grows) =
      pushed (with_entry machine next (record { 0 = machine.entries }) bytes) _ new_pool new_ends (entry_sound bytes new_pool new_ends low new)
      (entry_grows bytes new_pool new_ends grows) (entry_same bytes)
  pushed_by _ low (not_interns refusal) = refused refusal stack pool ends

  sized_interns : (place : ℕ) (result : Result ℕ Refusal) → Interns pool ends machine.entries (intern_sized pool ends machine place result)
  unfolding intern_sized
  sized_interns place (Ok size) = intern_keeps pool ends machine.pool machine.entries _ m.entries.ends_long m.entries.joined
  sized_interns place (Err refusal) = not_interns refusal

  pub calldata_keeps : (place : ℕ) → Pushed asked memory save pool ends machine (push_calldata stack pool ends machine place next)
  unfolding push_calldata intern_calldata
  calldata_keeps place =
      either (Pushed asked memory save pool ends machine) (leb 1000 machine.height) _ _ (λ _. refused _ _ _ _)
      (λ low. pushed_by _ (leb-false _ _ low) (sized_interns place _))
