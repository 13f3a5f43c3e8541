-- PUSH_CALLDATA, CALL and END_CALL, each a chain of tests in the order of docs/REFERENCE.md, 'Instruction set'.
use Rattle.std.specs.Prelude.{ℕ, ◌+◌, cond, List, leb, set, Ok, Err, Result}
use Rattle.errors.specs.declared.Refusal.TheVariants.{StackOverflow}
use Rattle.bytecode.specs.Operands.{operand}
use Rattle.inlinevec.specs.Stacks.{pop, push_onto, pop_off}
use Rattle.pools.specs.Pool.{Pooled, pooled, start_of, bounds, interned, part_in_use}
use Rattle.pools.specs.declared.InstructionsRef.{InstructionsRef}
use Rattle.values.specs.Values.{to_calldata_val}
use Rattle.storage.specs.declared.Task.{Task}
use Rattle.machine.specs.declared.Machine.{Machine}
use Rattle.machine.specs.Machines.{current, code_of, with_pool, with_frames}
use Rattle.mechanism.specs.Registers.{machine_at}
use Rattle.errors.specs.declared.Refusal.{Refusal}
use Rattle.inlinevec.specs.declared.Frame.{Frame}
use Rattle.inlinevec.specs.declared.Two.{Two}

-- ---- PUSH_CALLDATA

-- an answer, the stack, the pool and its ends after it
pub record OnPool : Type 0 where
  pub result : Result Machine Refusal
  pub stack : List ℕ
  pub pool : List ℕ
  pub ends : List ℕ

-- these four together
abbrev pub on_pool : Result Machine Refusal → List ℕ → List ℕ → List ℕ → OnPool
on_pool result stack pool ends = record { result = result; stack = stack; pool = pool; ends = ends }

-- the data, which stands behind its size in the pool itself, becomes one more entry
unfoldable pub intern_sized : List ℕ → List ℕ → Machine → ℕ → Result ℕ Refusal → Pooled
intern_sized pool ends machine place (Ok size) =
    interned pool ends machine.pool machine.entries
    (part_in_use pool machine.pool (start_of ends (current machine.frames).entry.0 + place + 3) size)
intern_sized pool ends machine place (Err refusal) = pooled (Err refusal) pool ends

-- its size stands behind the opcode
unfoldable pub intern_calldata : List ℕ → List ℕ → Machine → ℕ → Pooled
intern_calldata pool ends machine place = intern_sized pool ends machine place (operand 2 (code_of pool ends machine) (place + 1))

-- the machine with that entry, its reference on top of the stack
unfoldable pub with_entry : Machine → ℕ → InstructionsRef → ℕ → Machine
with_entry machine next entry bytes = with_pool (machine_at machine next (machine.height + 1)) bytes (entry.0 + 1)

unfoldable pub calldata_pushed : List ℕ → Machine → ℕ → Pooled → Result (InstructionsRef × ℕ) Refusal → OnPool
calldata_pushed stack machine next after (Ok (entry, bytes)) =
    on_pool (Ok (with_entry machine next entry bytes)) (set stack machine.height (to_calldata_val entry.0)) after.pool after.ends
calldata_pushed stack machine next after (Err refusal) = on_pool (Err refusal) stack after.pool after.ends

-- PUSH_CALLDATA, its data being there: 4, 22
unfoldable pub push_calldata : List ℕ → List ℕ → List ℕ → Machine → ℕ → ℕ → OnPool
push_calldata stack pool ends machine place next =
    cond (leb 1000 machine.height) (on_pool (Err StackOverflow) stack pool ends)
    (calldata_pushed stack machine next (intern_calldata pool ends machine place) (intern_calldata pool ends machine place).answer)

-- ---- CALL

-- a frame for the task's instructions: 4
unfoldable pub framed : Machine → Result (Two Frame) Refusal → Result Machine Refusal
framed caller (Ok frames) = Ok (with_frames caller frames)
framed caller (Err refusal) = Err refusal

-- the task's instructions: 12; empty ones do nothing
unfoldable pub enter_bounded : Machine → InstructionsRef → Result (ℕ × ℕ) Refusal → Result Machine Refusal
enter_bounded caller entry (Ok (start, end)) =
    cond (leb end start) (Ok caller) (framed caller (push_onto caller.frames (record { entry = entry; place = 0 })))
enter_bounded caller entry (Err refusal) = Err refusal

unfoldable pub enter : List ℕ → Machine → InstructionsRef → Result Machine Refusal
enter ends caller entry = enter_bounded caller entry (bounds ends caller.entries entry)

-- a missing task does nothing
unfoldable pub call_popped : List ℕ → Machine → ℕ → Task → Result (ℕ × ℕ) Refusal → Result Machine Refusal
call_popped ends machine next task (Ok (value, height)) =
    cond task.living (enter ends (machine_at machine next height) task.instructions_ref) (Ok (machine_at machine next height))
call_popped ends machine next task (Err refusal) = Err refusal

-- CALL: 3, 12, 4
unfoldable pub op_call : List ℕ → List ℕ → Machine → ℕ → Task → Result Machine Refusal
op_call stack ends machine next task = call_popped ends machine next task (pop stack machine.height)

-- ---- END_CALL

-- back in the frame below
unfoldable pub left_frame : Machine → Result (Frame × Two Frame) Refusal → Result Machine Refusal
left_frame machine (Ok (frame, frames)) = Ok (with_frames machine frames)
left_frame machine (Err refusal) = Err refusal

-- END_CALL: in main it does nothing
unfoldable pub op_end_call : Machine → ℕ → Result Machine Refusal
op_end_call machine next =
    cond (leb machine.frames.count 1) (Ok (machine_at machine next machine.height)) (left_frame machine (pop_off machine.frames))
