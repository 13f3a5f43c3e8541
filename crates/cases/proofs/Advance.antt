-- The run of one code up to an instruction that needs a task, a frame or the pool, computed on small programs.
use Prim.Native.Nat.{ℕ}
use mathlib.Core.List.{List, [], ◌∷◌}
use mathlib.Core.Path.{◌≡◌, refl}
use Rattle.bytecode.specs.Opcodes.{PUSH_STATE, PUSH_CALLDATA}
use Rattle.bytecode.specs.Opcodes as bytecode-opcodes
use Rattle.bytecode.specs.Operands as bytecode-operands
use Rattle.inlinevec.specs.Stacks as stacks
use Rattle.values.specs.Values as values
use Rattle.pools.specs.Pool as pools
use Rattle.machine.specs.declared.Outcome.TheVariants.{Done, Paused}
use Rattle.machine.specs.Machines as machines
use Rattle.mechanism.specs.Registers as registers
use Rattle.mechanism.specs.Stack as stack
use Rattle.mechanism.specs.Control as control
use Rattle.mechanism.specs.Operated as operated
use Rattle.mechanism.specs.Execute as executing
use Rattle.mechanism.specs.Steps as steps
use Rattle.mechanism.specs.declared.Standing.TheVariants.{AtHand, Ended}
use Rattle.mechanism.specs.Advance.{ProgressOn, halted_at, after_steps, advance}
use Rattle.cases.specs.Cases.{C1, fresh_world}

-- 04 0001 1d
abbrev Calldata : List ℕ
Calldata = 0x04 ∷ 0x00 ∷ 0x01 ∷ 0x1d ∷ []

abbrev advancing : ℕ → List ℕ → ProgressOn
advancing fuel program = advance (fresh_world program).stack (fresh_world program).memory (fresh_world program).pool (fresh_world program).ends (fresh_world program).machine fuel

pub record Examples : Type 0 where
  -- C1 comes to its end with one unit of fuel to each of five finished instructions
  pub to_the_end : (advancing 9 C1).progress.left ≡ 4
  -- the code's end comes before no fuel
  pub end_before_fuel : (advancing 5 C1).progress.standing ≡ Ended Done
  -- no fuel before the third instruction
  pub without_fuel : (advancing 2 C1).progress.standing ≡ Ended Paused
  -- all of it is spent
  pub without_fuel_left : (advancing 2 C1).progress.left ≡ 0
  -- PUSH_CALLDATA needs the pool, and is at hand behind one value
  pub at_hand : (advancing 9 (PUSH_STATE ∷ 0 ∷ Calldata)).progress.standing ≡ AtHand PUSH_CALLDATA
  -- it is not finished, so it costs no fuel
  pub at_hand_left : (advancing 9 Calldata).progress.left ≡ 9

pub examples : Examples
unfolding bytecode-opcodes.operand_size bytecode-operands.big_endian bytecode-operands.operand bytecode-operands.data_size bytecode-operands.behind bytecode-operands.extent stacks.if_room stacks.if_some stacks.push stacks.pop stacks.push_two stacks.last_two stacks.pop_two stacks.change_two stacks.push_onto stacks.pop_off values.make_scalar_tagged values.to_u32 pools.end_of pools.start_of pools.entry_of machines.current machines.with_current machines.code_of registers.registers_of registers.settled stack.pop_second stack.pop_first stack.pop_two stack.pushed_to stack.push_value stack.op_push control.opened_to control.do_two control.op_do control.looped control.op_loop operated.with_operand operated.push_u32 operated.push_u8 executing.plain executing.operated executing.is_equality executing.execute executing.by_extent executing.instruct steps.is_outer steps.onward steps.turn steps.steps halted_at after_steps advance
examples = record {
  to_the_end = refl;
  end_before_fuel = refl;
  without_fuel = refl;
  without_fuel_left = refl;
  at_hand = refl;
  at_hand_left = refl;
}
