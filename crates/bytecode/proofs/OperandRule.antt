-- The table of operand sizes is the operand rule (docs/REFERENCE.md, 'Instruction set'): one computed test of the whole table, and the law that carries it to each entry.
use Prim.Native.Nat.{ℕ, ◌<◌}
use mathlib.Core.Bool.{Bool}
use mathlib.Core.List.{List, ◌∷◌}
use mathlib.Core.Path.{◌≡◌, refl}
use lib.Dec.{eqb}
use lib.ListN.{get_or, replicate}
use borrow.Author.Tests.{eqb-true}
use Rattle.bytecode.proofs.Entries.{at_each}
use Rattle.bytecode.specs.Opcodes.{operand_size}
use Rattle.bytecode.specs.Operands.{Follows, behind, behind_by, extent, extent_by}

-- the table, from 00 to 1F, and the bytes without an opcode behind it
abbrev pub sizes : List ℕ
sizes =
    0 ∷ 4 ∷ 0 ∷ 1 ∷ 2 ∷ 1 ∷ 1 ∷ 0 ∷ 0 ∷ 0 ∷ 0 ∷ 0 ∷ 0 ∷ 0 ∷ 0 ∷ 0 ∷
    0 ∷ 0 ∷ 0 ∷ 0 ∷ 0 ∷ 0 ∷ 0 ∷ 0 ∷ 0 ∷ 0 ∷ 4 ∷ 4 ∷ 1 ∷ 0 ∷ 4 ∷ 0 ∷ replicate 224 0

-- one entry against the rule
abbrev by_rule : ℕ → ℕ → Bool
by_rule op size = eqb size (operand_size op)

-- every entry is the operand size of its opcode byte
pub table_rule : (op : ℕ) → op < 256 → get_or sizes op 0 ≡ operand_size op
unfolding operand_size
table_rule op inside = eqb-true _ _ (at_each by_rule sizes refl op inside)

-- by a table that follows the rule, an instruction reaches as far as by the rule
pub by_table : (sizes code : List ℕ) (at : ℕ) → Follows sizes → get_or code at 0 < 256 → extent_by sizes code at ≡ extent code at
unfolding extent_by behind_by extent behind
by_table sizes code at follows byte = simp (follows.rule (get_or code at 0) byte)
