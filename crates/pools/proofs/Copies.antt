-- What a copy into the pool leaves, and parts of the pool that are the same bytes.
use Prim.Native.Nat.{ℕ, ◌+◌, ◌-◌, ◌<◌, ◌≤◌, min}
use mathlib.Core.List.{List, ◌++◌, append_assoc}
use mathlib.Core.Path.{◌≡◌, sym, ap, ◌∙◌}
use native.Mathlib.Omega.{arith}
use lib.ListN.{length, get_or, take, drop, length-take, length-drop, get_or-append}
use lib.Seq.{paste, take_all, length-take-le, get_or-take, get_or-drop, ext_get_or}
use Rattle.pools.specs.Pool.{part_in_use}

-- what stands before the copy stays
pub before_copy : (pool : List ℕ) (at : ℕ) (calldata : List ℕ) (n i : ℕ) → at ≤ length pool → i < at → get_or (paste pool at calldata n) i 0 ≡ get_or pool i 0
before_copy pool at calldata n i room less =
    let long : length (take at pool) ≡ at = length-take-le at pool room in
    let short : i < length (take at pool) = omega arith in
    rw (append_assoc, get_or-append (take at pool) (take n calldata ++ drop (at + n) pool) 0 i short)
    (get_or-take at pool i 0 less)

-- two parts are the same if they are as long and their bytes are
pub same_part : (pool other : List ℕ) (start size from count : ℕ) → min size (length pool - start) ≡ min count (length other - from) → ((i : ℕ) → i < size → i < count → i < length pool - start → get_or pool (start + i) 0 ≡ get_or other (from + i) 0) → take size (drop start pool) ≡ take count (drop from other)
same_part pool other start size from count long same =
    ext_get_or 0 (take size (drop start pool)) (take count (drop from other))
    (simp (length-take, length-drop) long)
    (λ i less. part_at i (simp (length-take, length-drop) at less))
  where
    part_at : (i : ℕ) → i < min size (length pool - start) → get_or (take size (drop start pool)) i 0 ≡ get_or (take count (drop from other)) i 0
    part_at i less =
        let a : i < size = omega arith in
        let b : i < count = omega arith in
        let c : i < length pool - start = omega arith in
        rw (get_or-take size (drop start pool) i 0 a, get_or-drop start pool i 0, get_or-take count (drop from other) i 0 b, get_or-drop from other i 0)
        (same i a b c)

-- the length of such a part
clipped_long : (n start end e s : ℕ) → e ≤ n → e - s ≡ min (end - start) (n - start) → min (e - s) (n - s) ≡ min (end - start) (n - start)
clipped_long n start end e s less long = let a : min (e - s) (n - s) ≡ e - s = omega arith in a ∙ long

-- a part that reaches past the pool, and what of it is there
pub clipped : (pool : List ℕ) (start end e s : ℕ) → e ≡ min end (length pool) → s ≡ min start e → take (e - s) (drop s pool) ≡ take (end - start) (drop start pool)
clipped pool start end e s is-e is-s =
    same_part pool pool s (e - s) start (end - start)
    (clipped_long (length pool) start end e s (omega arith) (omega arith))
    (λ i a b c. let same : s ≡ start = omega arith in rw same)

-- the numbers of a part of the bytes in use
pub record Clip (lent bytes start size used from count : ℕ) : Type 0 where
  pub is_used : used ≡ min bytes lent
  pub is_from : from ≡ min start used
  pub is_count : count ≡ min size (used - from)

-- its length
pub part_long : {bytes start size used from count : ℕ} (pool : List ℕ) → Clip (length pool) bytes start size used from count → length (part_in_use pool bytes start size) ≡ count
unfolding part_in_use
part_long {bytes} {start} {size} {used} {from} {count} pool c =
    let a : used - from ≡ used - start = omega arith in
    simp (length-take, length-drop, ← c.is_used, c.is_count, a)

-- its bytes, where the bytes in use are in the pool
part_is : (pool : List ℕ) (bytes start size used from count : ℕ) → Clip (length pool) bytes start size used from count → bytes ≤ length pool → take count (drop from pool) ≡ part_in_use pool bytes start size
unfolding part_in_use
part_is pool bytes start size used from count c room =
    let all : used ≡ bytes = omega arith in
    let long : length (take bytes pool) ≡ bytes = length-take-le bytes pool room in
    same_part pool (take bytes pool) from count start size
    (rw long (numbers (length pool) room all))
    (λ i a b d. near i a b)
  where
    numbers : (n : ℕ) → bytes ≤ n → used ≡ bytes → min count (n - from) ≡ min size (bytes - start)
    numbers n room all =
        let a : used - from ≡ used - start = omega (arith, c.is_from) in
        let b : count ≤ n - from = omega (arith, c.is_count) in
        let d : min count (n - from) ≡ count = omega arith in
        rw (d, c.is_count, a, all)

    near : (i : ℕ) → i < count → i < size → get_or pool (from + i) 0 ≡ get_or (take bytes pool) (start + i) 0
    near i a b =
        let same : from ≡ start = omega (arith, c.is_from, c.is_count) in
        let less : start + i < bytes = omega (arith, c.is_count, c.is_used) in
        rw (same, get_or-take bytes pool (start + i) 0 less)

-- so a copy of what is there is a copy of the part
pub part_copied : {bytes start size used from count : ℕ} {written : List ℕ} (pool : List ℕ) → Clip (length pool) bytes start size used from count → bytes + count ≤ length pool → written ≡ paste pool bytes (drop from pool) (from + count - from) → written ≡ paste pool bytes (part_in_use pool bytes start size) count
part_copied {bytes} {start} {size} {used} {from} {count} pool c room e =
    let many : from + count - from ≡ count = omega arith in
    let whole : length (take count (drop from pool)) ≤ count = omega (arith, length-take count (drop from pool)) in
    e
    ∙ ap (λ (n : ℕ). paste pool bytes (drop from pool) n) many
    ∙ ap (λ (part : List ℕ). take bytes pool ++ part ++ drop (bytes + count) pool) (sym (take_all count (take count (drop from pool)) whole))
    ∙ ap (λ (part : List ℕ). paste pool bytes part count) (part_is pool bytes start size used from count c (omega arith))
