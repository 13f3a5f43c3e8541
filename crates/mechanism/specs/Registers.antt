-- What an instruction that needs no task, frame or pool answers, and the registers it leaves.
use Rattle.std.specs.Prelude.{ℕ, List, take, Result}
use Rattle.mechanism.specs.declared.Registers.{Registers}
use Rattle.machine.specs.declared.Machine.{Machine}
use Rattle.machine.specs.Machines.{current, with_current}
use Rattle.errors.specs.declared.Refusal.{Refusal}

-- the registers at another place and another height
abbrev pub moved : Registers → ℕ → ℕ → Registers
moved registers place height = record { place = place; height = height; loops = registers.loops; memory = registers.memory }

-- an answer, and the stack after it
pub record OnStack : Type 0 where
  pub result : Result Registers Refusal
  pub stack : List ℕ

-- these two together
abbrev pub on_stack : Result Registers Refusal → List ℕ → OnStack
on_stack result stack = record { result = result; stack = stack }

-- the memory in use
abbrev pub in_use : List ℕ → Registers → List ℕ
in_use memory registers = take registers.memory memory

-- an answer, the stack and the memory after it
pub record OnMemory : Type 0 where
  pub result : Result Registers Refusal
  pub stack : List ℕ
  pub memory : List ℕ

-- these three together
abbrev pub on_memory : Result Registers Refusal → List ℕ → List ℕ → OnMemory
on_memory result stack memory = record { result = result; stack = stack; memory = memory }

-- what most opcodes change, taken out of the machine
unfoldable pub registers_of : Machine → Registers
registers_of machine = record {
  place = (current machine.frames).place;
  height = machine.height;
  loops = machine.loops;
  memory = machine.memory;
}

-- and put back
unfoldable pub settled : Machine → Registers → Machine
settled machine registers = record {
  phase = machine.phase;
  height = registers.height;
  loops = registers.loops;
  frames = with_current machine.frames (record { entry = (current machine.frames).entry; place = registers.place });
  memory = registers.memory;
  pool = machine.pool;
  entries = machine.entries;
  next_id = machine.next_id;
  count = machine.count;
  saved = machine.saved;
}

-- the machine at another place, with another height
abbrev pub machine_at : Machine → ℕ → ℕ → Machine
machine_at machine next height = settled machine (moved (registers_of machine) next height)
