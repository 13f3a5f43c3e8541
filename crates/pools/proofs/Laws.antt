-- The pool is a list of entries: interning joins one at its end, and a refused one changes nothing.
use Prim.Native.Nat.{ℕ, zero, suc, ◌+◌, ◌-◌, ◌<◌, ◌≤◌, min}
use mathlib.Core.Bool.{Bool, true, false}
use mathlib.Core.List.{List, [], ◌∷◌, ◌++◌, append_assoc}
use mathlib.Core.Path.{◌≡◌, refl, sym, ap, ◌∙◌}
use native.Mathlib.Decide.{ℕ_discrete}
use native.Mathlib.Numerals.{add-one}
use native.Mathlib.Omega.{arith}
use lib.ListN.{length, get_or, take, drop, set, length-append, length-drop, length-set, get_or-append}
use lib.Seq.{paste, take-length, length-paste, length-take-le, take_at, drop_at, get_or_at, get_or-take, get_or-drop}
use borrow.Author.Tests.{lt-ltb, le-ltb}
use Rattle.errors.specs.declared.Refusal.TheVariants.{InvalidInstructionsIndex, PoolFull}
use Rattle.errors.specs.declared.Refusal.{Refusal}
use Rattle.pools.proofs.Copies.{same_part, before_copy}
use Rattle.pools.proofs.Ends.{Within, within, stands, stood, more, start_kept, end_kept, end_new, last_end, up_kept}
use Rattle.pools.proofs.Interns.{Room, room, when_room, when_full}
use Rattle.pools.specs.Pool.{end_of, start_of, bounds, entry_of, entries_of, has_room, Pooled, pooled, interned, part_in_use, end_to_end}
use Rattle.pools.specs.declared.InstructionsRef.{InstructionsRef}
use Rattle.std.specs.Prelude.{Ok, Err}

-- ---- the list of entries

-- n entries are n
pub length_entries : (pool ends : List ℕ) (n : ℕ) → length (entries_of pool ends n) ≡ n
unfolding entries_of
length_entries pool ends zero = refl
length_entries pool ends (suc n) = length-append (entries_of pool ends n) (entry_of pool ends n ∷ []) ∙ (let e = length_entries pool ends n in omega arith)

-- the list has each at its place
pub getD_entries : (pool ends : List ℕ) (n i : ℕ) → i < n → get_or (entries_of pool ends n) i [] ≡ entry_of pool ends i
unfolding entries_of
getD_entries pool ends zero i less = absurd (omega arith)
getD_entries pool ends (suc n) i less = by (λ l. getD_entries pool ends n i l) (ℕ_discrete i n)
  where
    by : (i < n → get_or (entries_of pool ends n) i [] ≡ entry_of pool ends i) → Dec (i ≡ n) → get_or (entries_of pool ends n ++ (entry_of pool ends n ∷ [])) i [] ≡ entry_of pool ends i
    by ih (yes e) = rw e (get_or_at (entries_of pool ends n) (entry_of pool ends n) [] [] n (length_entries pool ends n))
    by ih (no e) = get_or-append (entries_of pool ends n) (entry_of pool ends n ∷ []) [] i (let z = length_entries pool ends n in omega arith) ∙ ih (omega arith)

-- a byte of an entry is a byte of the pool
pub getD_entry : (pool ends : List ℕ) (i k : ℕ) → k < end_of ends i - start_of ends i → get_or (entry_of pool ends i) k 0 ≡ get_or pool (start_of ends i + k) 0
unfolding entry_of
getD_entry pool ends i k less =
    get_or-take (end_of ends i - start_of ends i) (drop (start_of ends i) pool) k 0 less ∙ get_or-drop (start_of ends i) pool k 0

-- pools with the same entries are the same list
pub same_entries : (pool ends other new : List ℕ) (n : ℕ) → ((i : ℕ) → i < n → entry_of pool ends i ≡ entry_of other new i) → entries_of pool ends n ≡ entries_of other new n
unfolding entries_of
same_entries pool ends other new zero same = refl
same_entries pool ends other new (suc n) same =
    let a = same_entries pool ends other new n (λ i l. same i (omega arith)) in
    let b = same n (omega arith) in
    cc

-- ---- a sound pool

module _ (ends : List ℕ) (bytes entries : ℕ) (sound : end_to_end ends bytes entries ≡ true) where
  -- there are bounds for each entry
  pub found : (entry : InstructionsRef) → entry.0 < entries → bounds ends entries entry ≡ Ok (start_of ends entry.0, end_of ends entry.0)
  unfolding bounds
  found entry less = let s = stands ends bytes entries sound in rw (lt-ltb entry.0 (min entries 1024) (omega arith))

  -- they lie in order and in the bytes in use
  pub found_within : (i : ℕ) → i < entries → Within ends bytes i
  found_within i less = within ends bytes entries i sound less

  -- so an entry is as long as they are apart
  pub length_entry : (pool : List ℕ) (i : ℕ) → bytes ≤ length pool → i < entries → length (entry_of pool ends i) ≡ end_of ends i - start_of ends i
  unfolding entry_of
  length_entry pool i lent less =
      let w = found_within i less in
      length-take-le (end_of ends i - start_of ends i) (drop (start_of ends i) pool) (rw (length-drop (start_of ends i) pool) (omega arith))

  -- a part of an entry is a part of the bytes in use
  pub part_of_entry : (pool : List ℕ) (i at size : ℕ) → bytes ≤ length pool → i < entries → at + size ≤ end_of ends i - start_of ends i → part_in_use pool bytes (start_of ends i + at) size ≡ take size (drop at (entry_of pool ends i))
  unfolding part_in_use
  part_of_entry pool i at size lent less inside =
      let w = found_within i less in
      let long : length (entry_of pool ends i) ≡ end_of ends i - start_of ends i = length_entry pool i lent less in
      let short : length (take bytes pool) ≡ bytes = length-take-le bytes pool lent in
      same_part (take bytes pool) (entry_of pool ends i) (start_of ends i + at) size at size
      (rw (long, short) (omega arith))
      (λ k a b c. there k a)
    where
      there : (k : ℕ) → k < size → get_or (take bytes pool) (start_of ends i + at + k) 0 ≡ get_or (entry_of pool ends i) (at + k) 0
      there k a =
          let w = found_within i less in
          let e : start_of ends i + at + k ≡ start_of ends i + (at + k) = omega arith in
          get_or-take bytes pool (start_of ends i + at + k) 0 (omega arith) ∙ rw e (sym (getD_entry pool ends i (at + k) (omega arith)))

-- an entry that is not there is refused with its index
pub not_found : (ends : List ℕ) (entries : ℕ) (entry : InstructionsRef) → entries ≤ entry.0 → bounds ends entries entry ≡ Err (InvalidInstructionsIndex entry.0)
unfolding bounds
not_found ends entries entry past = rw (le-ltb entry.0 (min entries 1024) (omega arith))

-- ---- interning

module _ (pool ends : List ℕ) (bytes entries : ℕ) (calldata : List ℕ) where
  -- the answer, and the pool and the ends after it
  abbrev after : Pooled
  after = interned pool ends bytes entries calldata

  -- what was interned had room
  had_room : (entry : InstructionsRef) (used : ℕ) → after.answer ≡ Ok (entry, used) → has_room (length pool) bytes entries (length calldata) ≡ true
  had_room entry used went = by (has_room (length pool) bytes entries (length calldata)) refl
    where
      by : (test : Bool) → has_room (length pool) bytes entries (length calldata) ≡ test → has_room (length pool) bytes entries (length calldata) ≡ true
      by true held = held
      by false failed = absurd (let z : ◌≡◌ {A = ℕ} 0 1 = cc (when_full pool ends bytes entries calldata failed) in omega arith)

  -- the answer names the new entry, and the bytes in use with it
  pub named : (entry : InstructionsRef) (used : ℕ) → after.answer ≡ Ok (entry, used) → (entry.0 ≡ entries) × (used ≡ bytes + length calldata)
  named entry used went = let said = when_room pool ends bytes entries calldata (had_room entry used went) in
      let both : ◌≡◌ {A = InstructionsRef × ℕ} (entry, used) (record { 0 = entries }, bytes + length calldata) = cc in (ap (λ p. p.0.0) both, ap (λ p. p.1) both)

  -- a refused one changes nothing
  pub refused : (refusal : Refusal) → after.answer ≡ Err refusal → after ≡ pooled (Err PoolFull) pool ends
  refused refusal stopped = by (has_room (length pool) bytes entries (length calldata)) refl
    where
      by : (test : Bool) → has_room (length pool) bytes entries (length calldata) ≡ test → after ≡ pooled (Err PoolFull) pool ends
      by true held = absurd (let z : ◌≡◌ {A = ℕ} 0 1 = cc (when_room pool ends bytes entries calldata held) in omega arith)
      by false failed = when_full pool ends bytes entries calldata failed

  -- both lent lists keep their lengths
  pub same_lengths : (length after.pool ≡ length pool) × (length after.ends ≡ length ends)
  same_lengths = by (has_room (length pool) bytes entries (length calldata)) refl
    where
      by : (test : Bool) → has_room (length pool) bytes entries (length calldata) ≡ test → (length after.pool ≡ length pool) × (length after.ends ≡ length ends)
      by true held =
          let r = room (length pool) bytes entries (length calldata) held in
          rw (when_room pool ends bytes entries calldata held) (length-paste pool bytes calldata (length calldata) r.there (omega arith), length-set ends entries (bytes + length calldata))
      by false failed = rw (when_full pool ends bytes entries calldata failed) (refl, refl)

  module _ (lent : length ends ≡ 1024) (sound : end_to_end ends bytes entries ≡ true) (entry : InstructionsRef) (used : ℕ) (went : after.answer ≡ Ok (entry, used)) where
    -- the facts of the room that there was
    roomy : Room (length pool) bytes entries (length calldata)
    roomy = room (length pool) bytes entries (length calldata) (had_room entry used went)

    -- the entries before the new one stay
    kept : (i : ℕ) → i < entries → entry_of (paste pool bytes calldata (length calldata)) (set ends entries used) i ≡ entry_of pool ends i
    unfolding entry_of
    kept i less =
        let r = roomy in
        let w = within ends bytes entries i sound less in
        let long : length (paste pool bytes calldata (length calldata)) ≡ length pool = length-paste pool bytes calldata (length calldata) r.there (omega arith) in
        rw (start_kept ends entries used i (omega arith), end_kept ends entries used i less)
        (same_part (paste pool bytes calldata (length calldata)) pool (start_of ends i) (end_of ends i - start_of ends i) (start_of ends i) (end_of ends i - start_of ends i) (rw long)
        (λ k a b c. before_copy pool bytes calldata (length calldata) (start_of ends i + k) (omega arith) (omega arith)))

    -- the new one is the data
    new : entry_of (paste pool bytes calldata (length calldata)) (set ends entries used) entries ≡ calldata
    unfolding entry_of
    new =
        let r = roomy in
        let n = named entry used went in
        let s = stands ends bytes entries sound in
        let long : length (take bytes pool) ≡ bytes = length-take-le bytes pool (omega arith) in
        rw (start_kept ends entries used entries (omega arith), s.last, end_new ends entries used (omega arith), append_assoc, drop_at (take bytes pool) (take (length calldata) calldata ++ drop (bytes + length calldata) pool) bytes long, take-length calldata)
        (take_at calldata (drop (bytes + length calldata) pool) (used - bytes) (omega arith))

    -- so there is one more
    one_more : entries_of (paste pool bytes calldata (length calldata)) (set ends entries used) (suc entries) ≡ entries_of pool ends entries ++ (calldata ∷ [])
    unfolding entries_of
    one_more =
        let a = same_entries (paste pool bytes calldata (length calldata)) (set ends entries used) pool ends entries kept in
        let b = new in
        cc

    -- docs/REFERENCE.md, 'Memory, pool and tasks': the pool after an intern is the old list with one entry joined at its end
    pub joined : entries_of after.pool after.ends (entries + 1) ≡ entries_of pool ends entries ++ (calldata ∷ [])
    joined =
        let said = when_room pool ends bytes entries calldata (had_room entry used went) in
        let n = (named entry used went).1 in
        let m = one_more in
        cc (add-one entries)

    -- and its entries stand end to end
    pub still_sound : end_to_end after.ends used (entries + 1) ≡ true
    still_sound =
        let said = when_room pool ends bytes entries calldata (had_room entry used went) in
        let n = (named entry used went).1 in
        let r = roomy in
        let s = stands ends bytes entries sound in
        rw (said, ← n)
        (stood (set ends entries used) used (entries + 1) (record {
          few = omega arith;
          up = more (set ends entries used) entries (up_kept ends entries used entries (omega arith) ∙ s.up) (rw (start_kept ends entries used entries (omega arith), end_new ends entries used (omega arith), s.last) (omega arith));
          last = rw (add-one entries) (last_end (set ends entries used) entries ∙ end_new ends entries used (omega arith));
        }))
