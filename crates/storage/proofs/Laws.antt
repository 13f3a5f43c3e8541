-- Laws of the table: how many slots are living after a slot was written, what stands in a slot, what S_LEN pushes, and what a title holds.
use Rattle.std.proofs.Common.{◌≡◌, ℕ, zero, suc, ◌+◌, ◌%◌, ◌^◌, ◌<◌, ◌≤◌, max, Bool, true, false, cond, ltb, ◌≢◌, List, [], ◌∷◌, ◌++◌, length, get_or, take, set, replicate, refl, ap, ◌∙◌, arith, length-append, length-set, length-take-le, get_or-set_other, get_or-set_same, take-take, take_at, ltb-false, ltb-true}
use lib.ListN.{length-replicate}
use lib.Seq.{set_out}
use Rattle.storage.specs.Storage.{len_after}
use Rattle.storage.specs.Table.{set_state_at, lives, living_of}
use Rattle.storage.specs.Tasks.{no_title, blank, title_of, set_state}
use Rattle.storage.specs.declared.Task.{Task}

-- ---- how many slots are living

-- the blank record does not live
pub lives_blank : lives blank ≡ 0
unfolding lives blank
lives_blank = refl

-- writing a slot trades the task that stood there for the new one
pub living_set : (table : List Task) (slot : ℕ) (task : Task) → slot < length table
    → living_of (set table slot task) + lives (get_or table slot blank) ≡ living_of table + lives task
unfolding living_of
living_set [] slot task inside = absurd (omega arith)
living_set (first ∷ rest) zero task inside = omega arith
living_set (first ∷ rest) (suc slot) task inside = omega (arith, living_set rest slot task (omega arith))

-- one more: a living task over a slot that is not
pub living_more : (table : List Task) (slot : ℕ) (task : Task) → slot < length table → lives (get_or table slot blank) ≡ 0 → lives task ≡ 1
    → living_of (set table slot task) ≡ living_of table + 1
living_more table slot task inside free new = omega (arith, living_set table slot task inside)

-- one less: the blank record over a living task
pub living_less : (table : List Task) (slot : ℕ) → slot < length table → lives (get_or table slot blank) ≡ 1
    → living_of (set table slot blank) + 1 ≡ living_of table
living_less table slot inside held = omega (arith, living_set table slot blank inside, lives_blank)

-- as many: a task over one that lives as it does, or a slot past the last
pub living_same : (table : List Task) (slot : ℕ) (task : Task) → lives task ≡ lives (get_or table slot blank) → living_of (set table slot task) ≡ living_of table
living_same table slot task same = by (ltb slot (length table)) refl
  where
    by : (inside : Bool) → ltb slot (length table) ≡ inside → living_of (set table slot task) ≡ living_of table
    by true test = let inside : slot < length table = ltb-true _ _ test in omega (arith, living_set table slot task inside)
    by false test = ap living_of (set_out table slot task (ltb-false _ _ test))

-- setting a state makes nothing live or die
pub living_state : (table : List Task) (slot new_state : ℕ) → living_of (set_state_at table slot new_state).lent ≡ living_of table
unfolding set_state_at set_state lives
living_state table slot new_state = living_same table slot (set_state (get_or table slot blank) new_state).lent refl

-- a table that was cleared has none
pub living_cleared : (n : ℕ) → living_of (replicate n blank) ≡ 0
unfolding living_of
living_cleared zero = refl
living_cleared (suc n) = omega (arith, lives_blank, living_cleared n)

-- ---- what stands in a slot

-- the table keeps its length
pub length_state : (table : List Task) (slot new_state : ℕ) → length (set_state_at table slot new_state).lent ≡ length table
unfolding set_state_at
length_state table slot new_state = length-set table slot _

-- the slot that was put into a state
pub slot_state : (table : List Task) (slot new_state : ℕ) → slot < length table
    → get_or (set_state_at table slot new_state).lent slot blank ≡ (set_state (get_or table slot blank) new_state).lent
unfolding set_state_at
slot_state table slot new_state inside = get_or-set_same table slot _ blank inside

-- every other slot
pub other_state : (table : List Task) (slot other new_state : ℕ) → other ≢ slot
    → get_or (set_state_at table slot new_state).lent other blank ≡ get_or table other blank
unfolding set_state_at
other_state table slot other new_state apart = get_or-set_other table slot other _ blank apart

-- ---- S_LEN

-- the greater of the count and the id plus 1
pub len_after_max : (count id : ℕ) → id + 1 < 2 ^ 32 → len_after count id ≡ max count (id + 1)
unfolding len_after
len_after_max count id fits = by (ltb id count) refl
  where
    by : (held : Bool) → ltb id count ≡ held → cond held count ((id + 1) % 2 ^ 32) ≡ max count (id + 1)
    by true test = let below : id < count = ltb-true _ _ test in omega arith
    by false test = let new : count ≤ id = ltb-false _ _ test in omega arith

-- ---- titles

-- a record holds 128 title bytes
pub length_title : (bytes : List ℕ) → length (title_of bytes) ≡ 128
unfolding title_of no_title
length_title bytes = length-take-le 128 (bytes ++ replicate 128 0) (simp (length-append, length-replicate) (omega arith))

-- a title that fits is the first bytes of what a record holds
pub title_taken : (bytes : List ℕ) → length bytes ≤ 128 → take (length bytes) (title_of bytes) ≡ bytes
unfolding title_of
title_taken bytes fits = take-take (length bytes) 128 (bytes ++ no_title) fits ∙ take_at bytes no_title (length bytes) refl
