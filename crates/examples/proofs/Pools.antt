-- A pool of two entries, and one more, computed from `pools`.
use Prim.Native.Nat.{ℕ}
use mathlib.Core.Bool.{true, false}
use mathlib.Core.List.{List, [], ◌∷◌}
use mathlib.Core.Path.{◌≡◌, refl}
use Rattle.errors.specs.declared.Refusal.TheVariants.{InvalidInstructionsIndex}
use Rattle.pools.specs.Pool.{has_room, interned, part_in_use, bounds, entry_of, end_to_end, end_of, start_of, never_fall}
use Rattle.std.specs.Prelude.{Ok, Err}

-- entry 0 is 1d, entry 1 is 41 62; three bytes are left
abbrev pool : List ℕ
pool = 0x1d ∷ 0x41 ∷ 0x62 ∷ 0 ∷ 0 ∷ 0 ∷ []

abbrev ends : List ℕ
ends = 1 ∷ 3 ∷ 0 ∷ 0 ∷ []

-- the examples
pub record Examples : Type 0 where
  -- 65,536 bytes and 1,024 entries, and not one more
  pub too_much : has_room 70000 65535 1 2 ≡ false
  pub one_more : has_room 70000 0 1024 1 ≡ false
  -- one more entry, behind the bytes in use, and its end at its own place
  pub data_joined : (interned pool ends 3 2 (7 ∷ 8 ∷ [])).pool ≡ 0x1d ∷ 0x41 ∷ 0x62 ∷ 7 ∷ 8 ∷ 0 ∷ []
  pub end_joined : (interned pool ends 3 2 (7 ∷ 8 ∷ [])).ends ≡ 1 ∷ 3 ∷ 5 ∷ 0 ∷ []
  -- data that stands in the pool: from its start, and within the bytes in use
  pub part : (interned pool ends 3 2 (part_in_use pool 3 1 2)).pool ≡ 0x1d ∷ 0x41 ∷ 0x62 ∷ 0x41 ∷ 0x62 ∷ 0 ∷ []
  pub part_past : (interned pool ends 3 2 (part_in_use pool 3 2 2)).ends ≡ 1 ∷ 3 ∷ 4 ∷ 0 ∷ []
  -- no entry in use is 12 with the index
  pub no_bounds : bounds ends 2 (record { 0 = 2 }) ≡ Err (InvalidInstructionsIndex 2)
  pub entry : entry_of pool ends 1 ≡ 0x41 ∷ 0x62 ∷ []
  -- the last entry ends where the bytes in use do
  pub other_bytes : end_to_end ends 2 2 ≡ false
  pub fall : end_to_end (3 ∷ 1 ∷ []) 1 2 ≡ false

pub examples : Examples
unfolding end_of start_of bounds entry_of has_room interned part_in_use never_fall end_to_end
examples = record {
  too_much = refl;
  one_more = refl;
  data_joined = refl;
  end_joined = refl;
  part = refl;
  part_past = refl;
  no_bounds = refl;
  entry = refl;
  other_bytes = refl;
  fall = refl;
}
