-- Instructions one after the other, up to the code's end, the fuel's end, a refusal, or one that needs a task, a frame or the pool.
use Rattle.std.specs.Prelude.{ℕ, zero, suc, Bool, cond, ◌||◌, List, eqb, ltb, length, get_or, Ok, Err, Result}
use Rattle.bytecode.specs.Opcodes.{PUSH_CALLDATA, T_CREATE, T_GET_FIELD, T_SET_FIELD, T_DELETE, S_SAVE, CALL, END_CALL}
use Rattle.mechanism.specs.declared.Registers.{Registers}
use Rattle.mechanism.specs.Execute.{instruct}
use Rattle.mechanism.specs.declared.StepsEnd.{StepsEnd}
use Rattle.mechanism.specs.declared.Halt.{Halt}
use Rattle.mechanism.specs.declared.Halt.TheVariants as halt
use Rattle.errors.specs.declared.Refusal.{Refusal}

-- the opcodes that need a task, a frame or the pool
unfoldable pub is_outer : ℕ → Bool
is_outer op =
    eqb op PUSH_CALLDATA || eqb op T_CREATE || eqb op T_GET_FIELD || eqb op T_SET_FIELD || eqb op T_DELETE || eqb op S_SAVE || eqb op CALL || eqb op END_CALL

-- where the steps halted, and the stack and the memory then
pub record Halted : Type 0 where
  pub at : StepsEnd
  pub stack : List ℕ
  pub memory : List ℕ

-- these three together
abbrev pub stepped : StepsEnd → List ℕ → List ℕ → Halted
stepped at stack memory = record { at = at; stack = stack; memory = memory }

-- halted for a reason, with so much fuel left
abbrev pub halted : Halt → ℕ → Registers → List ℕ → List ℕ → Halted
halted reason left registers stack memory = stepped (record { registers = registers; left = left; halt = reason }) stack memory

-- on after an instruction, or halted where it is refused
unfoldable pub onward : (List ℕ → List ℕ → Registers → Halted) → ℕ → Registers → List ℕ → List ℕ → Result Registers Refusal → Halted
onward others fuel registers stack memory (Ok next) = others stack memory next
onward others fuel registers stack memory (Err refusal) = halted (halt.Refused refusal) fuel registers stack memory

-- a turn: the code's end first, then the fuel, then the instruction
unfoldable pub turn : (List ℕ → List ℕ → Registers → Halted) → ℕ → List ℕ → List ℕ → List ℕ → Registers → ℕ → Halted
turn others fuel stack memory code registers count =
    cond (is_outer (get_or code registers.place 0)) (halted halt.Outer fuel registers stack memory)
    (onward others fuel registers
    (instruct stack memory code registers count).stack
    (instruct stack memory code registers count).memory
    (instruct stack memory code registers count).result)

-- the steps of one code
unfoldable pub steps : ℕ → List ℕ → List ℕ → List ℕ → Registers → ℕ → Halted
steps zero stack memory code registers count =
    cond (ltb registers.place (length code)) (halted halt.OutOfFuel 0 registers stack memory) (halted halt.AtEnd 0 registers stack memory)
steps (suc fuel) stack memory code registers count =
    cond (ltb registers.place (length code))
    (turn (λ s m r. steps fuel s m code r count) (suc fuel) stack memory code registers count)
    (halted halt.AtEnd (suc fuel) registers stack memory)
