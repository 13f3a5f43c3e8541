-- A world that passes the test of 26; and a sound one, where each vector on the stack lies in memory in use, too.
use Rattle.std.specs.Prelude.{ℕ, ◌+◌, ◌≤◌, ◌<◌, true, ◌≡◌, length, get_or}
use Rattle.values.specs.Values.{is_vec, fat_pointer}
use Rattle.storage.specs.Tasks.{blank}
use Rattle.machine.specs.World.{World}
use Rattle.machine.specs.Calls.{is_sound}

-- a vector lies in the bytes in use
abbrev pub Inside : ℕ → ℕ → Type 0
Inside used value = is_vec value ≡ true → (fat_pointer value).offset + (fat_pointer value).size ≤ used

-- the test of 26 passes; 1,024 ends are what the type says
pub record Passes (w : World) : Type 0 where
  pub tested : is_sound w ≡ true
  pub ends_lent : length w.ends ≡ 1024

-- the same, with the lengths that the types of the stack and of the titles say, and each vector on the stack inside the memory in use
pub record Sound (w : World) : Type 0 where
  pub tested : is_sound w ≡ true
  pub stack_lent : length w.stack ≡ 1000
  pub ends_lent : length w.ends ≡ 1024
  pub titles_lent : (slot : ℕ) → length (get_or w.table slot blank).title ≡ 128
  pub vectors_inside : (i : ℕ) → i < w.machine.height → Inside w.machine.memory (get_or w.stack i 0)
