-- All slots: how many of them are living, and one after another whether it is sound.
use Prim.Native.Nat.{ℕ, ◌+◌, ◌<◌, ◌≤◌}
use mathlib.Core.Bool.{Bool, true, false, cond, ◌&&◌}
use mathlib.Core.List.{List, ◌∷◌}
use mathlib.Core.Path.{◌≡◌, refl, sym, ap, ◌∙◌}
use native.Mathlib.Nat.{zero-add}
use native.Mathlib.Numerals.{add-one}
use lib.ListN.{length, drop, get_or, drop_of_length-le}
use lib.Seq.{drop-cons}
use Rattle.std.specs.List.{count_by}
use Rattle.std.proofs.lemmas.List.Recursion.{is_count_by}
use Rattle.storage.specs.declared.Task.{Task}
use Rattle.storage.specs.Table.{lives, living_of, sound_slot, sound_slots}

-- one more, if a task is living
one_more : (living : Bool) (others : ℕ) → cond living 1 0 + others ≡ cond living (1 + others) others
one_more true others = refl
one_more false others = zero-add others

-- the living ones, counted
pub living_counted : (table : List Task) → count_by (λ (task : Task). task.living) table ≡ living_of table
unfolding living_of lives
living_counted table = sym (is_count_by living_of (λ (task : Task). task.living) refl (λ task others. one_more task.living (living_of others)) table)

module _ (ys : List Task) (i count : ℕ) (d : Task) {found whole : Bool} (more : i < length ys) (e : found ≡ sound_slot (get_or ys i d) i count) (so_far : sound_slots (drop i ys) i count ≡ whole) where
  -- the slots from one on are sound if it is and those behind it are
  here : (found && sound_slots (drop (i + 1) ys) (i + 1) count) ≡ whole
  unfolding sound_slots
  here =
      ap (λ (b : Bool). b && sound_slots (drop (i + 1) ys) (i + 1) count) e
      ∙ ap (λ (l : List Task). sound_slots l i count) (sym (drop-cons ys i d more ∙ ap (λ (k : ℕ). get_or ys i d ∷ drop k ys) (sym (add-one i))))
      ∙ so_far

  -- one that is sound
  pub sound_turn : found ≡ true → sound_slots (drop (i + 1) ys) (i + 1) count ≡ whole
  sound_turn held = rw held at here

  -- one that is not
  pub unsound_turn : found ≡ false → false ≡ whole
  unsound_turn held = rw held at here

-- past the last slot nothing is unsound
pub sound_last : (ys : List Task) (i count : ℕ) → length ys ≤ i → sound_slots (drop i ys) i count ≡ true
unfolding sound_slots
sound_last ys i count ended = ap (λ (l : List Task). sound_slots l i count) (drop_of_length-le ys ended)
