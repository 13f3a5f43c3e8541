-- A machine on its way, and everything lent to it.
use Rattle.std.specs.Prelude.{ℕ, cond, List, ◌==◌, slice_index_or, Ok, Err, Some, None, Result, Option}
use Rattle.errors.specs.declared.Refusal.{Refusal}
use Rattle.bytecode.specs.Opcodes.{CALL, END_CALL, S_SAVE}
use Rattle.storage.specs.declared.Task.{Task}
use Rattle.storage.specs.Tasks.{After, blank}
use Rattle.mechanism.specs.Changes.{applied}
use Rattle.image.specs.Table.{SavedTable, save_table}
use Rattle.mechanism.specs.Frames.{op_call, op_end_call}
use Rattle.mechanism.specs.Act.{OnAll, act}
use Rattle.mechanism.specs.Advance.{ProgressOn, named, wanted, advance}
use Rattle.mechanism.specs.Turns.{turned}
use Rattle.runner.specs.Behind.{saved}
use Rattle.mechanism.specs.declared.Progress.{Progress}
use Rattle.mechanism.specs.declared.Standing.{Standing}
use Rattle.mechanism.specs.declared.Standing.TheVariants as standing
use Rattle.mechanism.specs.declared.Change.{Change}
use Rattle.machine.specs.declared.Machine.{Machine}
use Rattle.machine.specs.World.{World, world}
use Rattle.runner.specs.Behind.{next_of}
use Rattle.runner.specs.States.{stated}

-- the machine, then what is lent, in the order of each call
pub record Going : Type 0 where
  pub progress : Progress
  pub table : List Task
  pub stack : List ℕ
  pub memory : List ℕ
  pub pool : List ℕ
  pub ends : List ℕ
  pub save : List ℕ

-- these seven together
abbrev pub going : Progress → List Task → List ℕ → List ℕ → List ℕ → List ℕ → List ℕ → Going
going progress table stack memory pool ends save =
    record { progress = progress; table = table; stack = stack; memory = memory; pool = pool; ends = ends; save = save }

-- ---- an instruction on the record of the slot it names

-- without the save buffer
pub record Acting : Type 0 where
  pub progress : Progress
  pub table : List Task
  pub stack : List ℕ
  pub memory : List ℕ
  pub pool : List ℕ
  pub ends : List ℕ

abbrev pub acting : Progress → List Task → List ℕ → List ℕ → List ℕ → List ℕ → Acting
acting progress table stack memory pool ends = record { progress = progress; table = table; stack = stack; memory = memory; pool = pool; ends = ends }

-- finished, with a change of the slot, or refused
unfoldable pub acted : Machine → ℕ → ℕ → List Task → OnAll → Result (Machine × Change) Refusal → Acting
acted machine left slot table after (Ok (reached, change)) =
    acting (turned machine left (Ok reached)) (applied table slot change) after.stack after.memory after.pool after.ends
acted machine left slot table after (Err refusal) =
    acting (turned machine left (Err refusal)) table after.stack after.memory after.pool after.ends

abbrev pub after_act : Machine → ℕ → ℕ → List Task → OnAll → Acting
after_act machine left slot table after = acted machine left slot table after after.acted

unfoldable pub task_turn : List Task → List ℕ → List ℕ → List ℕ → List ℕ → Machine → ℕ → ℕ → Acting
task_turn table stack memory pool ends machine left op =
    after_act machine left (wanted stack machine op) table (act stack memory pool ends machine (slice_index_or table (wanted stack machine op) blank))

-- ---- CALL and END_CALL, which change no slot

-- after END_CALL
unfoldable pub returned : Machine → ℕ → Progress
returned machine left = turned machine left (op_end_call machine (next_of machine))

-- after CALL of a task
unfoldable pub called : List ℕ → List ℕ → Machine → ℕ → Task → Progress
called stack ends machine left task = turned machine left (op_call stack ends machine (next_of machine) task)

-- without memory, the pool and the save buffer
pub record Entering : Type 0 where
  pub progress : Progress
  pub table : List Task
  pub stack : List ℕ
  pub ends : List ℕ

abbrev pub entering : Progress → List Task → List ℕ → List ℕ → Entering
entering progress table stack ends = record { progress = progress; table = table; stack = stack; ends = ends }

unfoldable pub call_turn : List Task → List ℕ → List ℕ → Machine → ℕ → Entering
call_turn table stack ends machine left = entering (called stack ends machine left (slice_index_or table (named stack machine.height) blank)) table stack ends

abbrev pub from_entering : Entering → List ℕ → List ℕ → Acting
from_entering e memory pool = acting e.progress e.table e.stack memory pool e.ends

-- ---- an instruction by its opcode

-- on a state without the rest of a record, or on the whole one
unfoldable pub state_turned : List Task → List ℕ → List ℕ → List ℕ → List ℕ → Machine → ℕ → ℕ → ℕ → Option (Machine × Change) → Acting
state_turned table stack memory pool ends machine left op slot None = task_turn table stack memory pool ends machine left op
state_turned table stack memory pool ends machine left op slot (Some (reached, change)) =
    acting (turned machine left (Ok reached)) (applied table slot change) stack memory pool ends

abbrev pub state_turn : List Task → List ℕ → List ℕ → List ℕ → Machine → ℕ → ℕ → ℕ → After (Option (Machine × Change)) (List ℕ) → Acting
state_turn table memory pool ends machine left op slot a = state_turned table a.lent memory pool ends machine left op slot a.answer

unfoldable pub act_turn : List Task → List ℕ → List ℕ → List ℕ → List ℕ → Machine → ℕ → ℕ → Acting
act_turn table stack memory pool ends machine left op =
    cond (op == END_CALL) (acting (returned machine left) table stack memory pool ends)
    (cond (op == CALL) (from_entering (call_turn table stack ends machine left) memory pool)
    (state_turn table memory pool ends machine left op (wanted stack machine op) (stated stack machine op (slice_index_or table (wanted stack machine op) blank))))

-- ---- S_SAVE

-- without the stack and memory
pub record Saving : Type 0 where
  pub progress : Progress
  pub table : List Task
  pub pool : List ℕ
  pub ends : List ℕ
  pub save : List ℕ

abbrev pub saving : Progress → List Task → List ℕ → List ℕ → List ℕ → Saving
saving progress table pool ends save = record { progress = progress; table = table; pool = pool; ends = ends; save = save }

abbrev pub after_save : Machine → ℕ → List Task → List ℕ → List ℕ → SavedTable → Saving
after_save machine left table pool ends after = saving (saved machine left after.answer) table pool ends after.save

unfoldable pub save_turn : List Task → List ℕ → List ℕ → List ℕ → Machine → ℕ → Saving
save_turn table pool ends save machine left =
    after_save machine left table pool ends (save_table machine.next_id.0 table pool ends machine.entries save)

-- ---- a turn

abbrev pub from_acting : Acting → List ℕ → Going
from_acting a save = going a.progress a.table a.stack a.memory a.pool a.ends save

abbrev pub from_saving : Saving → List ℕ → List ℕ → Going
from_saving s stack memory = going s.progress s.table stack memory s.pool s.ends s.save

-- the instruction at hand; where none is, all stays as it is
unfoldable pub turn_by : Going → Standing → Going
turn_by g (standing.AtHand op) =
    cond (op == S_SAVE) (from_saving (save_turn g.table g.pool g.ends g.save g.progress.machine g.progress.left) g.stack g.memory)
    (from_acting (act_turn g.table g.stack g.memory g.pool g.ends g.progress.machine g.progress.left op) g.save)
turn_by g standing.Going = g
turn_by g (standing.Ended outcome) = g

abbrev pub turn : Going → Going
turn g = turn_by g g.progress.standing

-- the run of the current code, with the table and the save buffer beside it
abbrev pub beside : ProgressOn → List Task → List ℕ → Going
beside a table save = going a.progress table a.stack a.memory a.pool a.ends save

unfoldable pub begins : ℕ → World → Going
begins fuel w = beside (advance w.stack w.memory w.pool w.ends w.machine fuel) w.table w.save

-- that run, and the instruction that it comes to
unfoldable pub goes_on : Going → Going
goes_on g = turn (begins g.progress.left (world g.progress.machine g.table g.stack g.memory g.pool g.ends g.save))
