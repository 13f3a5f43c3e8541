-- What interning does where there is room, and where there is none.
use Prim.Native.Nat.{ℕ, ◌+◌, ◌<◌, ◌≤◌, min}
use mathlib.Core.Bool.{Bool, true, false, and-eq-true_iff}
use mathlib.Core.List.{List, ◌++◌}
use mathlib.Core.Path.{◌≡◌, sym, ap, ◌∙◌}
use native.Mathlib.Omega.{arith}
use lib.Dec.{ltb, leb}
use lib.ListN.{length, set, take, drop}
use lib.Seq.{paste, sets, sets-eq, take-length}
use borrow.Author.Tests.{ltb-true, leb-true}
use Rattle.errors.specs.declared.Refusal.TheVariants.{PoolFull}
use Rattle.pools.specs.Pool.{has_room, pooled, new_entry, interned}
use Rattle.std.specs.Prelude.{Err, Result}
use Rattle.errors.specs.declared.Refusal.{Refusal}
use Rattle.pools.specs.declared.InstructionsRef.{InstructionsRef}

-- what it means that there is room, as facts
pub record Room (lent bytes entries size : ℕ) : Type 0 where
  pub few : entries < 1024
  pub small : bytes + size ≤ 65536
  pub there : bytes + size ≤ lent

-- the facts from the test
pub room : (lent bytes entries size : ℕ) → has_room lent bytes entries size ≡ true → Room lent bytes entries size
unfolding has_room
room lent bytes entries size held =
    let a = (and-eq-true_iff (ltb entries 1024) (leb (bytes + size) (min 65536 lent))).0 held in
    let b : bytes + size ≤ min 65536 lent = leb-true _ _ a.1 in
    record { few = ltb-true _ _ a.0; small = omega arith; there = omega arith }

-- the facts from the test's answer
pub room_of : {lent bytes entries size : ℕ} {test : Bool} → test ≡ has_room lent bytes entries size → test ≡ true → Room lent bytes entries size
room_of is held = room _ _ _ _ (sym is ∙ held)

-- a write that fits, as a copy of all its bytes
pub pasted : (pool : List ℕ) (at : ℕ) (calldata : List ℕ) → at + length calldata ≤ length pool → paste pool at calldata (length calldata) ≡ sets pool at calldata
pasted pool at calldata fits =
    ap (λ (bytes : List ℕ). take at pool ++ bytes ++ drop (at + length calldata) pool) (take-length calldata) ∙ sym (sets-eq calldata pool at fits)

opened : (pool ends : List ℕ) (bytes entries : ℕ) (calldata : List ℕ) → has_room (length pool) bytes entries (length calldata) ≡ true
    → interned pool ends bytes entries calldata ≡ pooled (new_entry entries (bytes + length calldata)) (sets pool bytes calldata) (set ends entries (bytes + length calldata))
unfolding interned
opened pool ends bytes entries calldata held = rw held

module _ (pool ends : List ℕ) (bytes entries : ℕ) (calldata : List ℕ) where
  -- where there is room, the data and its end are written
  pub when_room : has_room (length pool) bytes entries (length calldata) ≡ true
      → interned pool ends bytes entries calldata ≡ pooled (new_entry entries (bytes + length calldata)) (paste pool bytes calldata (length calldata)) (set ends entries (bytes + length calldata))
  when_room held =
      let fits : bytes + length calldata ≤ length pool = (room _ _ _ _ held).there in
      opened pool ends bytes entries calldata held ∙ ap (λ (written : List ℕ). pooled (new_entry entries (bytes + length calldata)) written (set ends entries (bytes + length calldata))) (sym (pasted pool bytes calldata fits))

  -- where there is none, nothing is
  pub when_full : has_room (length pool) bytes entries (length calldata) ≡ false → interned pool ends bytes entries calldata ≡ pooled (Err PoolFull) pool ends
  unfolding interned
  when_full failed = rw failed

  -- what was written is what interning says, where n is the data's length
  pub wrote : {answer : Result (InstructionsRef × ℕ) Refusal} {written new : List ℕ} {test : Bool} (n : ℕ) → length calldata ≡ n → test ≡ has_room (length pool) bytes entries n → test ≡ true
      → answer ≡ new_entry entries (bytes + n) → written ≡ paste pool bytes calldata n → new ≡ set ends entries (bytes + n) → pooled answer written new ≡ interned pool ends bytes entries calldata
  wrote n long is held answer written new =
      let said = when_room (ap (λ (k : ℕ). has_room (length pool) bytes entries k) long ∙ sym is ∙ held) in cc

  -- and so is what was left
  pub wrote_nothing : {test : Bool} (n : ℕ) → length calldata ≡ n → test ≡ has_room (length pool) bytes entries n → test ≡ false → pooled (Err PoolFull) pool ends ≡ interned pool ends bytes entries calldata
  wrote_nothing n long is failed = sym (when_full (ap (λ (k : ℕ). has_room (length pool) bytes entries k) long ∙ sym is ∙ failed))
