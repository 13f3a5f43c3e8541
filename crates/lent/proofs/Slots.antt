-- The counter of a loop over all slots of a lent slice.
use Prim.Native.Nat.{ℕ, ◌+◌, ◌-◌, ◌<◌, ◌≤◌, ◌^◌}
use mathlib.Core.Path.{◌≡◌}
use native.Mathlib.Omega.{arith}

-- the counter begins
pub zero_fits : 0 < 2 ^ 64
zero_fits = omega arith

-- before the last slot
pub from_zero : (n : ℕ) → 0 ≤ n
from_zero n = omega arith

-- after a turn it is within the slots
pub next_in : {i n : ℕ} → i < n → i + 1 ≤ n
next_in more = omega arith

-- it fits while it is within them
pub slot_fits : {i n : ℕ} → i ≤ n → n < 2 ^ 64 → i < 2 ^ 64
slot_fits within fits = omega arith

-- and after a turn
pub next_fits : {n i : ℕ} → n < 2 ^ 64 → i < n → i + 1 < 2 ^ 64
next_fits fits more = omega arith

-- the measure falls
pub fewer : {n i : ℕ} → i < n → n - (i + 1) < n - i
fewer more = omega arith

-- the loop ended at the last slot
pub at_last : {n i : ℕ} → i ≤ n → n ≤ i → i ≡ n
at_last within ended = omega arith
