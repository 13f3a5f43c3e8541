-- The contract line of each exported function that takes an instruction apart, said a second time; what this shows stands in Lines.
use mathlib.Core.Path.{◌≡◌}
use Rattle.machine.specs.Machines.{current, code_of}
use Rattle.mechanism.specs.Advance.{progress_on, advance}
use Rattle.mechanism.specs.Create.{op_t_create, op_t_delete}
use Rattle.mechanism.specs.Registers.{on_stack, on_memory, moved, registers_of, settled}
use Rattle.mechanism.specs.Stack.{pop_two, push_value, finish}
use Rattle.mechanism.specs.Store.{store}
use Rattle.mechanism.proofs as mechanism
use Rattle.mechanism.specs.contracts as mechanism-contracts
use Rattle.stepper.proofs as stepper
use Rattle.stepper.specs.contracts as stepper-contracts
use Rattle.task_opcodes.proofs as task-opcodes
use Rattle.task_opcodes.specs.contracts as task-opcodes-contracts
use Rattle.contract_lines.proofs.Answers.{Line, Answers}

abbrev pub mechanism_current : Line mechanism-contracts.machines.current.ended
mechanism_current _ frames r =
    r ≡ current frames.entry

pub mechanism_current_says : {M : Type 1} → mechanism.machines.current.Statement.statement M → Answers M mechanism-contracts.machines.current.ended mechanism.machines.current.Symbol.name mechanism.machines.current.Symbol.code mechanism_current
mechanism_current_says met = met

abbrev pub mechanism_code_of : Line mechanism-contracts.machines.code_of.ended
mechanism_code_of _ pool ends machine r =
    r.now ≡ code_of pool.entry.now ends.entry.now machine.entry

pub mechanism_code_of_says : {M : Type 1} → mechanism.machines.code_of.Statement.statement M → Answers M mechanism-contracts.machines.code_of.ended mechanism.machines.code_of.Symbol.name mechanism.machines.code_of.Symbol.code mechanism_code_of
mechanism_code_of_says met = met

abbrev pub mechanism_registers_of : Line mechanism-contracts.machines.registers_of.ended
mechanism_registers_of _ machine r =
    r ≡ registers_of machine.entry

pub mechanism_registers_of_says : {M : Type 1} → mechanism.machines.registers_of.Statement.statement M → Answers M mechanism-contracts.machines.registers_of.ended mechanism.machines.registers_of.Symbol.name mechanism.machines.registers_of.Symbol.code mechanism_registers_of
mechanism_registers_of_says met = met

abbrev pub mechanism_settled : Line mechanism-contracts.machines.settled.ended
mechanism_settled _ machine registers r =
    r ≡ settled machine.entry registers.entry

pub mechanism_settled_says : {M : Type 1} → mechanism.machines.settled.Statement.statement M → Answers M mechanism-contracts.machines.settled.ended mechanism.machines.settled.Symbol.name mechanism.machines.settled.Symbol.code mechanism_settled
mechanism_settled_says met = met

abbrev pub mechanism_moved : Line mechanism-contracts.stack.moved.ended
mechanism_moved _ registers place height r =
    r ≡ moved registers.entry place.entry height.entry

pub mechanism_moved_says : {M : Type 1} → mechanism.stack.moved.Statement.statement M → Answers M mechanism-contracts.stack.moved.ended mechanism.stack.moved.Symbol.name mechanism.stack.moved.Symbol.code mechanism_moved
mechanism_moved_says met = met

abbrev pub mechanism_pop_two : Line mechanism-contracts.stack.pop_two.ended
mechanism_pop_two _ stack height r =
    r ≡ pop_two stack.entry.now height.entry

pub mechanism_pop_two_says : {M : Type 1} → mechanism.stack.pop_two.Statement.statement M → Answers M mechanism-contracts.stack.pop_two.ended mechanism.stack.pop_two.Symbol.name mechanism.stack.pop_two.Symbol.code mechanism_pop_two
mechanism_pop_two_says met = met

abbrev pub mechanism_push_value : Line mechanism-contracts.stack.push_value.ended
mechanism_push_value _ stack registers place height value r =
    on_stack r stack.exit.now ≡ push_value stack.entry.now registers.entry place.entry height.entry value.entry

pub mechanism_push_value_says : {M : Type 1} → mechanism.stack.push_value.Statement.statement M → Answers M mechanism-contracts.stack.push_value.ended mechanism.stack.push_value.Symbol.name mechanism.stack.push_value.Symbol.code mechanism_push_value
mechanism_push_value_says met = met

abbrev pub mechanism_finish : Line mechanism-contracts.stack.finish.ended
mechanism_finish _ stack registers place height result r =
    on_stack r stack.exit.now ≡ finish stack.entry.now registers.entry place.entry height.entry result.entry

pub mechanism_finish_says : {M : Type 1} → mechanism.stack.finish.Statement.statement M → Answers M mechanism-contracts.stack.finish.ended mechanism.stack.finish.Symbol.name mechanism.stack.finish.Symbol.code mechanism_finish
mechanism_finish_says met = met

abbrev pub mechanism_store : Line mechanism-contracts.store.store.ended
mechanism_store _ stack memory payload registers next height size tag r =
    on_memory r stack.exit.now memory.exit.now ≡ store stack.entry.now memory.entry.now payload.entry.now registers.entry next.entry height.entry size.entry tag.entry

pub mechanism_store_says : {M : Type 1} → mechanism.store.store.Statement.statement M → Answers M mechanism-contracts.store.store.ended mechanism.store.store.Symbol.name mechanism.store.store.Symbol.code mechanism_store
mechanism_store_says met = met

abbrev pub stepper_advance : Line stepper-contracts.advance.advance.ended
stepper_advance _ stack memory pool ends machine fuel r =
    progress_on r stack.exit.now memory.exit.now pool.exit.now ends.exit.now ≡ advance stack.entry.now memory.entry.now pool.entry.now ends.entry.now machine.entry fuel.entry

pub stepper_advance_says : {M : Type 1} → stepper.advance.advance.Statement.statement M → Answers M stepper-contracts.advance.advance.ended stepper.advance.advance.Symbol.name stepper.advance.advance.Symbol.code stepper_advance
stepper_advance_says met = met

abbrev pub task_opcodes_op_t_create : Line task-opcodes-contracts.t_create.op_t_create.ended
task_opcodes_op_t_create _ stack memory registers next next_id r =
    r ≡ op_t_create stack.entry.now memory.entry.now registers.entry next.entry next_id.entry.0

pub task_opcodes_op_t_create_says : {M : Type 1} → task-opcodes.t_create.op_t_create.Statement.statement M → Answers M task-opcodes-contracts.t_create.op_t_create.ended task-opcodes.t_create.op_t_create.Symbol.name task-opcodes.t_create.op_t_create.Symbol.code task_opcodes_op_t_create
task_opcodes_op_t_create_says met = met

abbrev pub task_opcodes_op_t_delete : Line task-opcodes-contracts.t_delete.op_t_delete.ended
task_opcodes_op_t_delete _ stack registers next task r =
    r ≡ op_t_delete stack.entry.now registers.entry next.entry task.entry

pub task_opcodes_op_t_delete_says : {M : Type 1} → task-opcodes.t_delete.op_t_delete.Statement.statement M → Answers M task-opcodes-contracts.t_delete.op_t_delete.ended task-opcodes.t_delete.op_t_delete.Symbol.name task-opcodes.t_delete.op_t_delete.Symbol.code task_opcodes_op_t_delete
task_opcodes_op_t_delete_says met = met
