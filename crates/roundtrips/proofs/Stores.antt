-- One task loaded: its slot, and its instructions as one more entry of the pool.
use Prim.Native.Nat.{ℕ, ◌+◌, ◌<◌, ◌≤◌, min}
use mathlib.Core.Bool.{true}
use mathlib.Core.List.{List, [], ◌∷◌, ◌++◌}
use mathlib.Core.Path.{◌≡◌, refl, ap, sym, ◌∙◌}
use native.Mathlib.Omega.{arith}
use lib.ListN.{length, get_or, set, get_or-append}
use lib.Seq.{get_or_at}
use borrow.Author.Tests.{lt-ltb, le-leb}
use Rattle.image.specs.Table.{Loading, bytes_after, entries_after, load_slot}
use Rattle.pools.proofs.Interns.{when_room}
use Rattle.pools.proofs.Laws.{length_entries, getD_entries, joined, still_sound, same_lengths}
use Rattle.pools.specs.Pool.{entry_of, entries_of, has_room, Pooled, new_entry, interned, end_to_end}
use Rattle.storage.specs.declared.Task.{Task}
use Rattle.std.specs.Prelude.{Result}
use Rattle.errors.specs.declared.Refusal.{Refusal}
use Rattle.pools.specs.declared.InstructionsRef.{InstructionsRef}

-- a pool lent with 1,024 ends, its entries end to end
pub record Pool (l : Loading) : Type 0 where
  pub lent : length l.ends ≡ 1024
  pub sound : end_to_end l.ends l.bytes l.entries ≡ true

-- what was loaded: the slot is written, the entry is joined, and the entries before it stay
pub record Stored (l s : Loading) (task : Task) (instructions : List ℕ) : Type 0 where
  pub slots : s.table ≡ set l.table task.id.0 task
  pub one_more : s.entries ≡ l.entries + 1
  pub bytes_more : s.bytes ≡ l.bytes + length instructions
  pub same_pool : length s.pool ≡ length l.pool
  pub still : Pool s
  pub new : entry_of s.pool s.ends l.entries ≡ instructions
  pub old : (i : ℕ) → i < l.entries → entry_of s.pool s.ends i ≡ entry_of l.pool l.ends i

module _ (l : Loading) (task : Task) (instructions : List ℕ) (p : Pool l) (few : l.entries < 1024) (small : l.bytes + length instructions ≤ min 65536 (length l.pool)) where
  abbrev after : Pooled
  after = interned l.pool l.ends l.bytes l.entries instructions

  roomy : has_room (length l.pool) l.bytes l.entries (length instructions) ≡ true
  unfolding has_room
  roomy = rw (lt-ltb l.entries 1024 few, le-leb (l.bytes + length instructions) (min 65536 (length l.pool)) small)

  answered : after.answer ≡ new_entry l.entries (l.bytes + length instructions)
  answered = ap (λ (q : Pooled). q.answer) (when_room l.pool l.ends l.bytes l.entries instructions roomy)

  all : entries_of after.pool after.ends (l.entries + 1) ≡ entries_of l.pool l.ends l.entries ++ (instructions ∷ [])
  all = joined l.pool l.ends l.bytes l.entries instructions p.lent p.sound _ _ answered

  new_one : entry_of after.pool after.ends l.entries ≡ instructions
  new_one =
      sym (getD_entries after.pool after.ends (l.entries + 1) l.entries (omega arith))
      ∙ ap (λ (e : List (List ℕ)). get_or e l.entries []) all
      ∙ get_or_at (entries_of l.pool l.ends l.entries) instructions [] [] l.entries (length_entries l.pool l.ends l.entries)

  old_one : (i : ℕ) → i < l.entries → entry_of after.pool after.ends i ≡ entry_of l.pool l.ends i
  old_one i less =
      sym (getD_entries after.pool after.ends (l.entries + 1) i (omega arith))
      ∙ ap (λ (e : List (List ℕ)). get_or e i []) all
      ∙ get_or-append (entries_of l.pool l.ends l.entries) (instructions ∷ []) [] i (let n = length_entries l.pool l.ends l.entries in omega arith)
      ∙ getD_entries l.pool l.ends l.entries i less

  pub stored : Stored l (load_slot task instructions l) task instructions
  unfolding load_slot bytes_after entries_after
  stored =
      let lengths = same_lengths l.pool l.ends l.bytes l.entries instructions in
      record {
        slots = refl;
        one_more = ap (λ (a : Result (InstructionsRef × ℕ) Refusal). entries_after a l.entries) answered;
        bytes_more = ap (λ (a : Result (InstructionsRef × ℕ) Refusal). bytes_after a l.bytes) answered;
        same_pool = lengths.0;
        still = record {
          lent = lengths.1 ∙ p.lent;
          sound = rw answered (still_sound l.pool l.ends l.bytes l.entries instructions p.lent p.sound _ _ answered);
        };
        new = new_one;
        old = old_one;
      }
