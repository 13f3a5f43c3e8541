-- One instruction that needs a task, a frame or the pool, on the record of the slot it names.
use Rattle.std.specs.Prelude.{ℕ, ◌+◌, ◌%◌, ◌^◌, Bool, cond, ◌||◌, List, eqb, leb, length, get_or, Ok, Err, Some, None, Result, Option}
use Rattle.errors.specs.declared.Refusal.TheVariants.{UnexpectedEOB}
use Rattle.bytecode.specs.Opcodes.{PUSH_CALLDATA, T_CREATE, T_GET_FIELD, T_SET_FIELD, T_DELETE, CALL, END_CALL}
use Rattle.bytecode.specs.Operands.{extent}
use Rattle.storage.specs.declared.Task.{Task}
use Rattle.storage.specs.Storage.{len_after}
use Rattle.mechanism.specs.Registers.{OnMemory}
use Rattle.mechanism.specs.Create.{op_t_create, op_t_delete}
use Rattle.mechanism.specs.Fields.{op_t_get_field, op_t_set_field}
use Rattle.mechanism.specs.declared.Change.{Change}
use Rattle.mechanism.specs.declared.Change.TheVariants.{Keep}
use Rattle.machine.specs.declared.Machine.{Machine}
use Rattle.machine.specs.Machines.{current, code_of, with_ids}
use Rattle.mechanism.specs.Registers.{registers_of, settled}
use Rattle.mechanism.specs.Frames.{OnPool, push_calldata, op_call, op_end_call}
use Rattle.mechanism.specs.Registers.{machine_at}
use Rattle.errors.specs.declared.Refusal.{Refusal}
use Rattle.mechanism.specs.declared.Registers.{Registers}

-- an answer that changes no slot
unfoldable pub keeping : Result Machine Refusal → Result (Machine × Change) Refusal
keeping (Ok machine) = Ok (machine, Keep)
keeping (Err refusal) = Err refusal

-- an answer, the stack, memory, pool and ends after it
pub record OnAll : Type 0 where
  pub acted : Result (Machine × Change) Refusal
  pub stack : List ℕ
  pub memory : List ℕ
  pub pool : List ℕ
  pub ends : List ℕ

-- these five together
abbrev pub on_all : Result (Machine × Change) Refusal → List ℕ → List ℕ → List ℕ → List ℕ → OnAll
on_all acted stack memory pool ends = record { acted = acted; stack = stack; memory = memory; pool = pool; ends = ends }

-- the machine after an instruction's registers
unfoldable pub settled_by : Machine → Result Registers Refusal → Result Machine Refusal
settled_by machine (Ok registers) = Ok (settled machine registers)
settled_by machine (Err refusal) = Err refusal

-- after T_CREATE there is one more id
unfoldable pub created : Machine → Registers → Machine
created machine registers =
    with_ids (settled machine registers) ((machine.next_id.0 + 1) % 2 ^ 32) (len_after machine.count machine.next_id.0)

-- the machine after an instruction on a task
unfoldable pub tasked_by : Machine → Result (Registers × Change) Refusal → Result (Machine × Change) Refusal
tasked_by machine (Ok (registers, change)) = Ok (settled machine registers, change)
tasked_by machine (Err refusal) = Err refusal

unfoldable pub created_by : Machine → Result (Registers × Change) Refusal → Result (Machine × Change) Refusal
created_by machine (Ok (registers, change)) = Ok (created machine registers, change)
created_by machine (Err refusal) = Err refusal

-- the opcodes that change a slot; any other does nothing
unfoldable pub on_task : List ℕ → List ℕ → Machine → Task → ℕ → ℕ → Result (Machine × Change) Refusal
on_task stack memory machine task op next =
    cond (eqb op T_CREATE) (created_by machine (op_t_create stack memory (registers_of machine) next machine.next_id.0))
    (cond (eqb op T_SET_FIELD) (tasked_by machine (op_t_set_field stack memory (registers_of machine) next task))
    (cond (eqb op T_DELETE) (tasked_by machine (op_t_delete stack (registers_of machine) next task))
    (Ok (machine_at machine next machine.height, Keep))))

-- what PUSH_CALLDATA and T_GET_FIELD leave
abbrev pub after_pool : OnPool → List ℕ → OnAll
after_pool after memory = on_all (keeping after.result) after.stack memory after.pool after.ends

abbrev pub after_memory : Machine → OnMemory → List ℕ → List ℕ → OnAll
after_memory machine after pool ends =
    on_all (keeping (settled_by machine after.result)) after.stack after.memory pool ends

-- the opcodes that leave the table, then those that change it
unfoldable pub on_frames : List ℕ → List ℕ → List ℕ → List ℕ → Machine → Task → ℕ → ℕ → ℕ → OnAll
on_frames stack memory pool ends machine task op place next =
    cond (eqb op PUSH_CALLDATA) (after_pool (push_calldata stack pool ends machine place next) memory)
    (cond (eqb op T_GET_FIELD) (after_memory machine (op_t_get_field stack memory (registers_of machine) next task) pool ends)
    (cond (eqb op CALL) (on_all (keeping (op_call stack ends machine next task)) stack memory pool ends)
    (cond (eqb op END_CALL) (on_all (keeping (op_end_call machine next)) stack memory pool ends)
    (on_all (on_task stack memory machine task op next) stack memory pool ends))))

-- an instruction that the code's end cuts: 2
abbrev pub cut : Result (Machine × Change) Refusal
cut = Err UnexpectedEOB

-- whole, or cut
unfoldable pub act_by : List ℕ → List ℕ → List ℕ → List ℕ → Machine → Task → ℕ → ℕ → Option ℕ → OnAll
act_by stack memory pool ends machine task op place (Some next) = on_frames stack memory pool ends machine task op place next
act_by stack memory pool ends machine task op place None = on_all cut stack memory pool ends

unfoldable pub act_at : List ℕ → List ℕ → List ℕ → List ℕ → Machine → Task → List ℕ → ℕ → OnAll
act_at stack memory pool ends machine task code place =
    cond (leb (length code) place) (on_all cut stack memory pool ends)
    (act_by stack memory pool ends machine task (get_or code place 0) place (extent code place))

-- the instruction at hand
unfoldable pub act : List ℕ → List ℕ → List ℕ → List ℕ → Machine → Task → OnAll
act stack memory pool ends machine task =
    act_at stack memory pool ends machine task (code_of pool ends machine) (current machine.frames).place

-- ---- how the code finds the instruction's extent

-- the opcodes here that have no operands
unfoldable pub bare : ℕ → Bool
bare op = eqb op T_CREATE || eqb op T_GET_FIELD || eqb op T_SET_FIELD || eqb op T_DELETE || eqb op CALL || eqb op END_CALL
