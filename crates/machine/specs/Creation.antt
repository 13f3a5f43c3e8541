-- Creation: its tests, the program as the pool's first entry, and the image's tasks behind it.
use Rattle.std.specs.Prelude.{ℕ, List, length, replicate, Ok, Err, Result}
use Rattle.pools.specs.Pool.{Pooled, interned}
use Rattle.storage.specs.declared.Task.{Task}
use Rattle.storage.specs.Tasks.{blank}
use Rattle.image.specs.Table.{Loading, load_table}
use Rattle.table_image.specs.Creation.{creation_tests}
use Rattle.inlinevec.specs.declared.Frame.{Frame}
use Rattle.machine.specs.declared.Machine.{Machine}
use Rattle.machine.specs.declared.Phase.TheVariants.{New, Stopped}
use Rattle.machine.specs.Machines.{no_loops}
use Rattle.machine.specs.Calls.{phased}
use Rattle.errors.specs.declared.Refusal.{Refusal}
use Rattle.pools.specs.declared.InstructionsRef.{InstructionsRef}
use Rattle.table_image.specs.declared.creation.Fit.{Fit}

-- main, which is entry 0, at its start
abbrev pub main_frame : Frame
main_frame = record { entry = record { 0 = 0 }; place = 0 }

-- a machine that has not run: at main, with no loop open
abbrev pub new_machine : ℕ → ℕ → ℕ → ℕ → Machine
new_machine bytes entries next_id count = record {
  phase = New;
  height = 0;
  loops = no_loops;
  frames = record { count = 1; first = main_frame; second = main_frame };
  memory = 0;
  pool = bytes;
  entries = entries;
  next_id = record { 0 = next_id };
  count = count;
  saved = 0;
}

-- an answer, and the table, the pool and its ends after it; the image and the program are only read
pub record Made : Type 0 where
  pub answer : Result Machine Refusal
  pub table : List Task
  pub pool : List ℕ
  pub ends : List ℕ

abbrev pub made : Result Machine Refusal → List Task → List ℕ → List ℕ → Made
made answer table pool ends = record { answer = answer; table = table; pool = pool; ends = ends }

-- the program stands in the pool as its only entry
abbrev pub program_first : List Task → List ℕ → List ℕ → ℕ → Loading
program_first table pool ends bytes = record { table = table; pool = pool; ends = ends; bytes = bytes; entries = 1 }

-- the machine, once the image's tasks are loaded
abbrev pub loaded : ℕ → ℕ → Loading → Made
loaded next_id s_len l = made (Ok (new_machine l.bytes l.entries next_id s_len)) l.table l.pool l.ends

-- the program is entry 0, and behind it come the image's tasks, in a table whose other slots are blank
unfoldable pub create_behind : List Task → List ℕ → ℕ → ℕ → List ℕ → List ℕ → Result (InstructionsRef × ℕ) Refusal → Made
create_behind table image next_id s_len pool ends (Ok (entry, bytes)) = loaded next_id s_len (load_table image (program_first table pool ends bytes))
create_behind table image next_id s_len pool ends (Err refusal) = made (Err refusal) table pool ends

-- the same, from the pool that interning leaves
abbrev pub entered : List Task → List ℕ → ℕ → ℕ → Pooled → Made
entered table image next_id s_len p = create_behind table image next_id s_len p.pool p.ends p.answer

-- what fits is created; where a test refuses, nothing is written
unfoldable pub create_fit : List Task → List ℕ → List ℕ → List ℕ → List ℕ → Result Fit Refusal → Made
create_fit table pool ends image program (Ok fit) = entered table image fit.next_id.0 fit.s_len (interned pool ends 0 0 program)
create_fit table pool ends image program (Err refusal) = made (Err refusal) table pool ends

-- creation: 26 for the table, then 1, 28, 25, 22; then the program and the tasks
unfoldable pub create : List Task → List ℕ → List ℕ → List ℕ → List ℕ → Made
create table pool ends image program =
    create_fit table pool ends image program (creation_tests (length table) (length pool) (length program) image)

-- a table of 256 slots, all blank
unfoldable pub blank_table : List Task
blank_table = replicate 256 blank

-- ---- after it

-- a machine that does not start
abbrev pub stopped : Machine
stopped = phased (new_machine 0 0 0 0) Stopped

-- the machine that was created; one that does not start, if none was
unfoldable pub machine_of : Result Machine Refusal → Machine
machine_of (Ok machine) = machine
machine_of (Err refusal) = stopped
