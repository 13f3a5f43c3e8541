-- bytecode/helpers.rs, and the unchecked reads of a slice: past its end they panic.
use Rattle.std.specs.Prelude.{ℕ, ◌+◌, cond, List, leb, length, get_or, take, drop}
use Rattle.bytecode.specs.Operands.{big_endian}
use Rattle.rust.specs.Errors.{Out, panic}

module _ {B : Type 0} where
  -- bytes[at]
  unfoldable pub byte : List ℕ → ℕ → (ℕ → Out B) → Out B
  byte bytes at onward = cond (leb (at + 1) (length bytes)) (onward (get_or bytes at 0)) panic

  -- bytes[at..at + size]
  unfoldable pub slice : List ℕ → ℕ → ℕ → (List ℕ → Out B) → Out B
  slice bytes at size onward = cond (leb (at + size) (length bytes)) (onward (take size (drop at bytes))) panic

  -- the slice panics before try_into can fail
  unfoldable pub prepare_u32_from_be_checked : List ℕ → ℕ → (ℕ → Out B) → Out B
  prepare_u32_from_be_checked inst-slice pc onward = cond (leb (pc + 4) (length inst-slice)) (onward (big_endian 4 inst-slice pc)) panic

  unfoldable pub prepare_u16_from_be_checked : List ℕ → ℕ → (ℕ → Out B) → Out B
  prepare_u16_from_be_checked inst-slice pc onward = cond (leb (pc + 2) (length inst-slice)) (onward (big_endian 2 inst-slice pc)) panic
