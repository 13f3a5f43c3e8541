-- An instruction that the code's end cuts: 2, after the pops and tests that stand before it in docs/REFERENCE.md, 'Instruction set'.
use Rattle.std.specs.Prelude.{ℕ, ◌+◌, false, cond, List, eqb, ltb, Ok, Err, Result}
use Rattle.errors.specs.declared.Refusal.TheVariants.{UnexpectedEOB, MSliceParamOverflow}
use Rattle.bytecode.specs.Opcodes.{MULI, M_ST, JUMP_IF_FALSE}
use Rattle.inlinevec.specs.Stacks.{pop}
use Rattle.values.specs.Values.{to_u32, to_bool_val}
use Rattle.mechanism.specs.Registers.{moved}
use Rattle.mechanism.specs.declared.Registers.{Registers}
use Rattle.errors.specs.declared.Refusal.{Refusal}

-- MULI: 3, then 2
unfoldable pub cut_value : Result (ℕ × ℕ) Refusal → Result Registers Refusal
cut_value (Ok (value, height)) = Err UnexpectedEOB
cut_value (Err refusal) = Err refusal

unfoldable pub cut_muli : List ℕ → Registers → Result Registers Refusal
cut_muli stack registers = cut_value (pop stack registers.height)

-- M_ST: 3, 13, then 2
unfoldable pub cut_size : Result (ℕ × ℕ) Refusal → Result Registers Refusal
cut_size (Ok (value, height)) = cond (ltb 65535 (to_u32 value)) (Err MSliceParamOverflow) (Err UnexpectedEOB)
cut_size (Err refusal) = Err refusal

unfoldable pub cut_m_st : List ℕ → Registers → Result Registers Refusal
cut_m_st stack registers = cut_size (pop stack registers.height)

-- JUMP_IF_FALSE: 3, then 2 on FALSE; any other value skips 4 bytes, even past the end
unfoldable pub cut_skip : Registers → Result (ℕ × ℕ) Refusal → Result Registers Refusal
cut_skip registers (Ok (value, height)) =
    cond (eqb value (to_bool_val false)) (Err UnexpectedEOB) (Ok (moved registers (registers.place + 5) height))
cut_skip registers (Err refusal) = Err refusal

unfoldable pub cut_jump : List ℕ → Registers → Result Registers Refusal
cut_jump stack registers = cut_skip registers (pop stack registers.height)

-- any other: 2 before everything else
unfoldable pub cut : List ℕ → Registers → ℕ → Result Registers Refusal
cut stack registers op =
    cond (eqb op MULI) (cut_muli stack registers)
    (cond (eqb op M_ST) (cut_m_st stack registers)
    (cond (eqb op JUMP_IF_FALSE) (cut_jump stack registers) (Err UnexpectedEOB)))
