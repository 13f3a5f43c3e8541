-- One more entry of the pool leaves the program its first.
use Prim.Native.Nat.{ℕ, ◌+◌, ◌<◌}
use mathlib.Core.Path.{◌≡◌, refl, ap, ◌∙◌}
use mathlib.Core.Bool.{true}
use mathlib.Core.List.{List, []}
use native.Mathlib.Omega.{arith}
use lib.ListN.{length}
use Rattle.pools.specs.Pool.{Pooled, entry_of, has_room, new_entry, interned, end_to_end, never_fall, start_of}
use Rattle.pools.proofs.Interns.{room, when_room}
use Rattle.pools.proofs.Laws.{same_lengths, still_sound}
use Rattle.storage.specs.Tasks.{blank}
use Rattle.image.specs.Table.{Loading, load_slot}
use Rattle.roundtrips.proofs.Stores.{stored}

-- what interning leaves where there is room
pub record Joins (pool ends : List ℕ) (bytes entries : ℕ) (calldata : List ℕ) : Type 0 where
  pub answered : (interned pool ends bytes entries calldata).answer ≡ new_entry entries (bytes + length calldata)
  pub still_lent : length (interned pool ends bytes entries calldata).ends ≡ 1024
  pub still_pooled : end_to_end (interned pool ends bytes entries calldata).ends (bytes + length calldata) (entries + 1) ≡ true
  pub new : entry_of (interned pool ends bytes entries calldata).pool (interned pool ends bytes entries calldata).ends entries ≡ calldata
  pub old : (i : ℕ) → i < entries → entry_of (interned pool ends bytes entries calldata).pool (interned pool ends bytes entries calldata).ends i ≡ entry_of pool ends i

-- the pool as a load finds it
abbrev pool_of : List ℕ → List ℕ → ℕ → ℕ → Loading
pool_of pool ends bytes entries = record { table = []; pool = pool; ends = ends; bytes = bytes; entries = entries }

pub joins_one : (pool ends : List ℕ) (bytes entries : ℕ) (calldata : List ℕ) → length ends ≡ 1024 → end_to_end ends bytes entries ≡ true → has_room (length pool) bytes entries (length calldata) ≡ true
    → Joins pool ends bytes entries calldata
unfolding load_slot
joins_one pool ends bytes entries calldata lent sound held =
    let answered : (interned pool ends bytes entries calldata).answer ≡ new_entry entries (bytes + length calldata) = ap (λ (p : Pooled). p.answer) (when_room pool ends bytes entries calldata held) in
    let r = room (length pool) bytes entries (length calldata) held in
    let s = stored (pool_of pool ends bytes entries) blank calldata (record { lent = lent; sound = sound }) r.few (omega (arith, r.small, r.there)) in
    record {
      answered = answered;
      still_lent = (same_lengths pool ends bytes entries calldata).1 ∙ lent;
      still_pooled = still_sound pool ends bytes entries calldata lent sound (record { 0 = entries }) (bytes + length calldata) answered;
      new = s.new;
      old = s.old;
    }

-- a pool without an entry
pub none_pooled : (ends : List ℕ) → end_to_end ends 0 0 ≡ true
unfolding end_to_end never_fall start_of
none_pooled ends = refl
