-- How the code creates a machine: it prepares, then loads record after record. Nobody has to believe it: `create_is` says that it is machine's Creation.
use Rattle.std.specs.Prelude.{ℕ, List, length, replicate, Ok, Err, Result}
use Rattle.errors.specs.declared.Refusal.{Refusal}
use Rattle.pools.specs.Pool.{Pooled, interned}
use Rattle.storage.specs.declared.Task.{Task}
use Rattle.storage.specs.Tasks.{blank}
use Rattle.image.specs.Table.{Loading}
use Rattle.table_image.specs.Creation.{creation_tests}
use Rattle.table_image.specs.Loops.{load_records}
use Rattle.table_image.specs.Tables.{in_use, loading}
use Rattle.table_image.specs.declared.InUse.{InUse}
use Rattle.machine.specs.declared.Machine.{Machine}
use Rattle.machine.specs.Machines.{with_pool}
use Rattle.machine.specs.Creation.{new_machine, Made, made}
use Rattle.machine.specs.declared.Preparation.{Preparation}
use Rattle.pools.specs.declared.InstructionsRef.{InstructionsRef}
use Rattle.table_image.specs.declared.creation.Fit.{Fit}

-- what is prepared, and the pool and its ends after it
pub record PreparedIn : Type 0 where
  pub ready : Result Preparation Refusal
  pub pool : List ℕ
  pub ends : List ℕ

abbrev pub prepared : Result Preparation Refusal → List ℕ → List ℕ → PreparedIn
prepared ready pool ends = record { ready = ready; pool = pool; ends = ends }

-- the program is entry 0
unfoldable pub with_program : ℕ → ℕ → ℕ → Result (InstructionsRef × ℕ) Refusal → Result Preparation Refusal
with_program next_id count s_len (Ok (entry, bytes)) = Ok (record { machine = new_machine bytes 1 next_id s_len; count = count })
with_program next_id count s_len (Err refusal) = Err refusal

abbrev pub interned_program : ℕ → ℕ → ℕ → Pooled → PreparedIn
interned_program next_id count s_len p = prepared (with_program next_id count s_len p.answer) p.pool p.ends

unfoldable pub prepare_fit : List ℕ → List ℕ → List ℕ → Result Fit Refusal → PreparedIn
prepare_fit pool ends program (Ok fit) = interned_program fit.next_id.0 fit.count fit.s_len (interned pool ends 0 0 program)
prepare_fit pool ends program (Err refusal) = prepared (Err refusal) pool ends

-- 26 for the table, then 1, 28, 25, 22, before anything is written
unfoldable pub prepare : List ℕ → List ℕ → List ℕ → List ℕ → ℕ → PreparedIn
prepare pool ends image program slots = prepare_fit pool ends program (creation_tests slots (length pool) (length program) image)

-- the machine, once its tasks are loaded
abbrev pub created_with : Machine → InUse → Result Machine Refusal
created_with machine used = Ok (with_pool machine used.bytes used.entries)

-- the tasks of the image in a table whose other slots are blank
abbrev pub loaded_from : Machine → Loading → Made
loaded_from machine l = made (created_with machine (in_use l.bytes l.entries)) l.table l.pool l.ends

unfoldable pub create_ready : List Task → List ℕ → List ℕ → List ℕ → Result Preparation Refusal → Made
create_ready table image pool ends (Ok ready) =
    loaded_from ready.machine
    (load_records ready.count image 14
    (loading (replicate (length table) blank) pool ends (in_use ready.machine.pool ready.machine.entries)))
create_ready table image pool ends (Err refusal) = made (Err refusal) table pool ends

abbrev pub create_as : List Task → List ℕ → PreparedIn → Made
create_as table image p = create_ready table image p.pool p.ends p.ready

-- creation, a part after the other
unfoldable pub create_by_parts : List Task → List ℕ → List ℕ → List ℕ → List ℕ → Made
create_by_parts table pool ends image program = create_as table image (prepare pool ends image program (length table))
