-- The pool of instructions: entries end to end in the bytes in use, entry i from the end before it to its own end.
use Rattle.std.specs.Prelude.{ℕ, zero, suc, ◌+◌, ◌-◌, min, Bool, true, cond, ◌&&◌, List, [], ◌∷◌, ◌++◌, length, get_or, take, drop, set, eqb, ltb, leb, Ok, Err, Result}
use Rattle.std.proofs.lemmas.List.Edits.{sets}
use Rattle.errors.specs.declared.Refusal.TheVariants.{InvalidInstructionsIndex, PoolFull}
use Rattle.pools.specs.declared.InstructionsRef.{InstructionsRef}
use Rattle.errors.specs.declared.Refusal.{Refusal}

-- the end of an entry
unfoldable pub end_of : List ℕ → ℕ → ℕ
end_of ends i = get_or ends i 0

-- its start: the end before it
unfoldable pub start_of : List ℕ → ℕ → ℕ
start_of ends zero = 0
start_of ends (suc i) = end_of ends i

-- where an entry stands, where there is one
unfoldable pub bounds : List ℕ → ℕ → InstructionsRef → Result (ℕ × ℕ) Refusal
bounds ends entries entry =
    cond (ltb entry.0 (min entries 1024)) (Ok (start_of ends entry.0, end_of ends entry.0))
    (Err (InvalidInstructionsIndex entry.0))

-- the bytes of an entry
unfoldable pub entry_of : List ℕ → List ℕ → ℕ → List ℕ
entry_of pool ends i = take (end_of ends i - start_of ends i) (drop (start_of ends i) pool)

-- the pool as a list of its first n entries
unfoldable pub entries_of : List ℕ → List ℕ → ℕ → List (List ℕ)
entries_of pool ends zero = []
entries_of pool ends (suc n) = entries_of pool ends n ++ (entry_of pool ends n ∷ [])

-- one more entry of a size is within 1,024 entries, 65,536 bytes and the lent pool
unfoldable pub has_room : ℕ → ℕ → ℕ → ℕ → Bool
has_room lent bytes entries size = ltb entries 1024 && leb (bytes + size) (min 65536 lent)

-- an answer, and the lent pool and ends after it
pub record Pooled : Type 0 where
  pub answer : Result (InstructionsRef × ℕ) Refusal
  pub pool : List ℕ
  pub ends : List ℕ

-- these three together
abbrev pub pooled : Result (InstructionsRef × ℕ) Refusal → List ℕ → List ℕ → Pooled
pooled answer pool ends = record { answer = answer; pool = pool; ends = ends }

-- the entry after the others, and the bytes in use up to its end
abbrev pub new_entry : ℕ → ℕ → Result (InstructionsRef × ℕ) Refusal
new_entry entries end = Ok (record { 0 = entries }, end)

-- one more entry: its data from the bytes in use on, and its end; where it does not fit nothing is written
unfoldable pub interned : List ℕ → List ℕ → ℕ → ℕ → List ℕ → Pooled
interned pool ends bytes entries calldata =
    cond (has_room (length pool) bytes entries (length calldata))
    (pooled (new_entry entries (bytes + length calldata))
    (sets pool bytes calldata)
    (set ends entries (bytes + length calldata)))
    (pooled (Err PoolFull) pool ends)

-- data that stands in the pool itself, within the bytes in use
unfoldable pub part_in_use : List ℕ → ℕ → ℕ → ℕ → List ℕ
part_in_use pool bytes start size = take size (drop start (take bytes pool))

-- no end of the first n entries is below the one before it
unfoldable pub never_fall : List ℕ → ℕ → Bool
never_fall ends zero = true
never_fall ends (suc n) = never_fall ends n && leb (start_of ends n) (end_of ends n)

-- the entries stand end to end, and the last one ends where the bytes in use do
unfoldable pub end_to_end : List ℕ → ℕ → ℕ → Bool
end_to_end ends bytes entries = leb entries 1024 && (never_fall ends entries && eqb (start_of ends entries) bytes)
