-- T_GET_FIELD and T_SET_FIELD of a state, where nothing is refused: how the code goes without the rest of a record.
use Rattle.std.specs.Prelude.{ℕ, ◌-◌, Bool, false, cond, List, ◌==◌, nat_le, nat_lt, slice_index, slice_set, Option, Some, None}
use Rattle.bytecode.specs.Opcodes.{T_GET_FIELD, T_SET_FIELD}
use Rattle.values.specs.Values.{to_u32, to_u32_val}
use Rattle.storage.specs.declared.Task.{Task}
use Rattle.storage.specs.Tasks.{After, after}
use Rattle.machine.specs.declared.Machine.{Machine}
use Rattle.mechanism.specs.Registers.{machine_at}
use Rattle.mechanism.specs.declared.Change.{Change}
use Rattle.mechanism.specs.declared.Change.TheVariants.{Keep, Restate}
use Rattle.runner.specs.Behind.{next_of}

-- the field on top is that of a state, with a value below it, and the task is there
unfoldable pub names_state : List ℕ → ℕ → Task → Bool
names_state stack height task =
    cond (nat_lt height 2) false
    (cond (nat_lt 1000 height) false
    (cond task.living (to_u32 (slice_index stack (height - 1)) == 1) false))

-- the machine behind the instruction, with another height
abbrev pub behind : Machine → ℕ → Machine
behind machine height = machine_at machine (next_of machine) height

-- each answers the machine behind it and what changes in the slot; None: nothing is done, and the whole record is needed

-- the state is read
unfoldable pub got : List ℕ → Machine → Task → After (Option (Machine × Change)) (List ℕ)
got stack machine task =
    after (Some (behind machine (machine.height - 1), Keep)) (slice_set stack (machine.height - 2) (to_u32_val task.state.state))

-- the state is set, if the task has it
unfoldable pub sets_to : ℕ → Machine → Task → Option (Machine × Change)
sets_to state machine task =
    cond (nat_le task.state.len state) None
    (cond (nat_le 255 state) None
    (Some (behind machine (machine.height - 3), Restate state)))

unfoldable pub set_third : List ℕ → Machine → Task → Option (Machine × Change)
set_third stack machine task =
    cond (nat_lt machine.height 3) None (sets_to (to_u32 (slice_index stack (machine.height - 3))) machine task)

-- the same, if a state is named
unfoldable pub gets : List ℕ → Machine → Task → After (Option (Machine × Change)) (List ℕ)
gets stack machine task = cond (names_state stack machine.height task) (got stack machine task) (after None stack)

unfoldable pub sets : List ℕ → Machine → Task → Option (Machine × Change)
sets stack machine task = cond (names_state stack machine.height task) (set_third stack machine task) None

-- an instruction on the task of the slot that it names
unfoldable pub stated : List ℕ → Machine → ℕ → Task → After (Option (Machine × Change)) (List ℕ)
stated stack machine op task =
    cond (op == T_GET_FIELD) (gets stack machine task)
    (cond (op == T_SET_FIELD) (after (sets stack machine task) stack) (after None stack))
