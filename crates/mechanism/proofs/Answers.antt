-- What the callees of each call of a host answer, put together: a test of the record, a run, a read, a save, a creation.
use Prim.Native.Nat.{ℕ}
use mathlib.Core.Path.{◌≡◌, sym, ◌∙◌, ap}
use mathlib.Core.Bool.{Bool, true, false, cond, false≢true}
use mathlib.Core.List.{List}
use lib.ListN.{length, replicate, get_or}
use Rattle.storage.specs.declared.Task.{Task}
use Rattle.storage.specs.declared.TaskId.{TaskId}
use Rattle.storage.specs.Storage.{slot_of}
use Rattle.storage.specs.Tasks.{blank, After, after}
use Rattle.storage.specs.Table.{sound_table}
use Rattle.image.specs.Table.{SavedTable, saved_table, save_table}
use Rattle.image.specs.Writing.{Stepped, stepped}
use Rattle.table_image.specs.Loops.{load_records}
use Rattle.table_image.specs.Tables.{Held, held, in_use, loading}
use Rattle.table_image.specs.declared.InUse.{InUse}
use Rattle.memory.specs.declared.unbox.Return.{Return}
use Rattle.machine.specs.declared.Machine.{Machine}
use Rattle.machine.specs.declared.RunEnd.{RunEnd}
use Rattle.machine.specs.World.{world}
use Rattle.machine.specs.Run.{ran_to, run}
use Rattle.machine.specs.Sound.{Tested, tested, RecordTested, record_tested, sound_record, sound_world}
use Rattle.machine.specs.Calls.{reported, begun, allowing, allowed, report, not_allowed, reported_end, call_with, call}
use Rattle.machine.specs.Reads.{read_to, value_at, value_read, task_answer, task_read, saved_to, host_saved, not_saved, host_save_as, host_save}
use Rattle.machine.specs.Reads as reads
use Rattle.machine.specs.Creation.{made, create}
use Rattle.mechanism.specs.Creating.{prepared, prepare, created_with, loaded_from, create_ready, create_as, create_by_parts}
use Rattle.mechanism.proofs.Creates.{create_is}
use Rattle.machine.specs.declared.Verb.{Verb}
use Rattle.machine.specs.declared.Report.{Report}
use Rattle.machine.specs.declared.Preparation.{Preparation}
use Rattle.machine.specs.declared.TaskRead.{TaskRead}
use Rattle.machine.specs.declared.SaveReport.{SaveReport}
use Rattle.std.specs.Prelude.{Ok, Err, Result}
use Rattle.errors.specs.declared.Refusal.{Refusal}

-- ---- the test of the record

-- the table's slots, then the record beside it
pub tests : (table : List Task) (memory pool ends save : List ℕ) (machine : Machine) {good answer : Bool} {table' : List Task} {memory' pool' ends' save' : List ℕ}
    → after good table' ≡ after (sound_table table machine.next_id.0 machine.count) table
    → record_tested answer memory' pool' ends' save' ≡ record_tested (sound_record (length memory) (length pool) ends (length save) machine good) memory pool ends save
    → tested answer table' memory' pool' ends' save' ≡ tested (sound_world table memory pool ends save machine) table memory pool ends save
unfolding sound_world
tests table memory pool ends save machine {good} {answer} {table'} e f =
    ap (λ (b : RecordTested). tested b.answer table' b.memory b.pool b.ends b.save) f
    ∙ ap (λ (a : After Bool (List Task)). tested (sound_record (length memory) (length pool) ends (length save) machine a.answer) a.lent memory pool ends save) e

-- ---- creation

module _ (table : List Task) (pool ends image program : List ℕ) {pool' ends' : List ℕ} where
  -- it goes on to the image's tasks
  pub creates : {ready : Preparation} {used : InUse} {table'' : List Task} {pool'' ends'' : List ℕ}
      → prepared (Ok ready) pool' ends' ≡ prepare pool ends image program (length table)
      → loading table'' pool'' ends'' used ≡ load_records ready.count image 14 (loading (replicate (length table) blank) pool' ends' (in_use ready.machine.pool ready.machine.entries))
      → made (created_with ready.machine used) table'' pool'' ends'' ≡ create table pool ends image program
  unfolding create_by_parts create_ready
  creates {ready} e f = ap (loaded_from ready.machine) f ∙ ap (create_as table image) e ∙ create_is table pool ends image program

  -- it is refused
  pub creates_none : {refusal : Refusal} → prepared (Err refusal) pool' ends' ≡ prepare pool ends image program (length table)
      → made (Err refusal) table pool' ends' ≡ create table pool ends image program
  unfolding create_by_parts create_ready
  creates_none e = ap (create_as table image) e ∙ create_is table pool ends image program

-- ---- what follows a test

-- what is allowed begins with what its verb says
permitted : (machine : Machine) (good : Bool) (verb : Verb) → (allowed machine good verb).allowed ≡ true → allowed machine good verb ≡ allowing true (begun verb machine)
unfolding allowed
permitted machine true verb e = ap (λ (may : Bool). allowing may (begun verb machine)) e
permitted machine false verb e = absurd (false≢true e)

module _ (machine : Machine) (table : List Task) (stack memory pool ends save : List ℕ) {good : Bool} {table' : List Task} {memory' pool' ends' save' : List ℕ}
    (e : tested good table' memory' pool' ends' save' ≡ tested (sound_world table memory pool ends save machine) table memory pool ends save) where
  -- a call
  calls : (verb : Verb) (fuel : ℕ) → call_with fuel (world machine table' stack memory' pool' ends' save') (allowed machine good verb) ≡ call verb fuel (world machine table stack memory pool ends save)
  unfolding call
  calls verb fuel = ap (λ (t : Tested). call_with fuel (world machine t.table stack t.memory t.pool t.ends t.save) (allowed machine t.answer verb)) e

  -- one that is allowed
  pub calls_run : (verb : Verb) (fuel : ℕ) {may : Bool} {begins : Machine} {ran : RunEnd} {r : Report} {table'' : List Task} {stack'' memory'' pool'' ends'' save'' : List ℕ}
      → may ≡ (allowed machine good verb).allowed → may ≡ true → begins ≡ begun verb machine
      → ran_to ran table'' stack'' memory'' pool'' ends'' save'' ≡ run fuel (world begins table' stack memory' pool' ends' save') → r ≡ report fuel ran
      → reported r table'' stack'' memory'' pool'' ends'' save'' ≡ call verb fuel (world machine table stack memory pool ends save)
  unfolding call_with
  calls_run verb fuel {begins = begins} {r = r} {table'' = table''} {stack'' = stack''} {memory'' = memory''} {pool'' = pool''} {ends'' = ends''} {save'' = save''} asks granted begin result reports =
      ap (λ (x : Report). reported x table'' stack'' memory'' pool'' ends'' save'') reports ∙ ap (reported_end fuel) result
      ∙ ap (λ (m : Machine). call_with fuel (world machine table' stack memory' pool' ends' save') (allowing true m)) begin
      ∙ ap (call_with fuel (world machine table' stack memory' pool' ends' save')) (sym (permitted machine good verb (sym asks ∙ granted))) ∙ calls verb fuel

  pub calls_none : (verb : Verb) (fuel : ℕ) {may : Bool} {r : Report} → may ≡ (allowed machine good verb).allowed → may ≡ false → r ≡ not_allowed machine
      → reported r table' stack memory' pool' ends' save' ≡ call verb fuel (world machine table stack memory pool ends save)
  unfolding call_with
  calls_none verb fuel asks denied reports =
      let refused : (allowed machine good verb).allowed ≡ false = sym asks ∙ denied in
      ap (λ (x : Report). reported x table' stack memory' pool' ends' save') reports ∙ sym (simp (refused)) ∙ calls verb fuel

  -- the read of a value
  pub reads_value : (position : ℕ) {r : Result Return Refusal} {stack'' memory'' ends'' : List ℕ} → reads.value_on r stack'' memory'' ends'' ≡ reads.value_on (value_at stack memory' ends' machine good position) stack memory' ends'
      → read_to r (world machine table' stack'' memory'' pool' ends'' save') ≡ value_read position (world machine table stack memory pool ends save)
  unfolding value_read
  reads_value position f =
      ap (λ (b : reads.ValueOn). read_to b.answer (world machine table' b.stack b.memory pool' b.ends save')) f
      ∙ ap (λ (t : Tested). read_to (value_at stack t.memory t.ends machine t.answer position) (world machine t.table stack t.memory t.pool t.ends t.save)) e

  -- the read of a task
  pub reads_task : (id : TaskId) {slot : ℕ} {task : Task} {r : TaskRead} {table'' : List Task} {pool'' ends'' : List ℕ} → slot ≡ slot_of id → after task table'' ≡ after (get_or table' slot blank) table'
      → stepped r pool'' ends'' ≡ stepped (task_answer ends' machine good id task) pool' ends'
      → read_to r (world machine table'' stack memory' pool'' ends'' save') ≡ task_read id (world machine table stack memory pool ends save)
  unfolding task_read
  reads_task id {slot} {task} {r} {table''} at found f =
      ap (λ (b : Stepped TaskRead). read_to b.answer (world machine table'' stack memory' b.pool b.ends save')) f
      ∙ ap (λ (a : After Task (List Task)). read_to (task_answer ends' machine good id a.answer) (world machine a.lent stack memory' pool' ends' save')) found
      ∙ ap (λ (n : ℕ). read_to (task_answer ends' machine good id (get_or table' n blank)) (world machine table' stack memory' pool' ends' save')) at
      ∙ ap (λ (t : Tested). read_to (task_answer t.ends machine t.answer id (get_or t.table (slot_of id) blank)) (world machine t.table stack t.memory t.pool t.ends t.save)) e

  -- a save
  hosts : cond good (host_save_as (world machine table' stack memory' pool' ends' save') (save_table machine.next_id.0 table' pool' ends' machine.entries save')) (saved_to (not_saved machine) table' stack memory' pool' ends' save')
      ≡ host_save (world machine table stack memory pool ends save)
  unfolding host_save
  hosts =
      ap (λ (t : Tested). cond t.answer
      (host_save_as (world machine t.table stack t.memory t.pool t.ends t.save) (save_table machine.next_id.0 t.table t.pool t.ends machine.entries t.save))
      (saved_to (not_saved machine) t.table stack t.memory t.pool t.ends t.save)) e

  -- one of a sound record
  pub hosts_save : {result : Result ℕ Refusal} {r : SaveReport} {table'' : List Task} {pool'' ends'' save'' : List ℕ} → good ≡ true
      → held (saved_table result save'') table'' pool'' ends'' ≡ held (save_table machine.next_id.0 table' pool' ends' machine.entries save') table' pool' ends' → r ≡ host_saved machine result
      → saved_to r table'' stack memory' pool'' ends'' save'' ≡ host_save (world machine table stack memory pool ends save)
  hosts_save {result} {r} {table''} {pool''} {ends''} {save''} sound f g =
      ap (λ (x : SaveReport). saved_to x table'' stack memory' pool'' ends'' save'') g
      ∙ ap (λ (h : Held SavedTable). saved_to (host_saved machine h.answer.answer) h.table stack memory' h.pool h.ends h.answer.save) f
      ∙ sym (simp (sound)) ∙ hosts

  -- one of an unsound record
  pub hosts_none : {r : SaveReport} → good ≡ false → r ≡ not_saved machine → saved_to r table' stack memory' pool' ends' save' ≡ host_save (world machine table stack memory pool ends save)
  hosts_none sound g = ap (λ (x : SaveReport). saved_to x table' stack memory' pool' ends' save') g ∙ sym (simp (sound)) ∙ hosts
