-- A finished T_CREATE leaves a living task of the id that it gives.
use Prim.Native.Nat.{ℕ, ◌<◌}
use mathlib.Core.Bool.{true}
use mathlib.Core.List.{List}
use mathlib.Core.Path.{◌≡◌, sym, ap, subst}
use native.Mathlib.Omega.{arith}
use lib.Dec.{ltb, leb}
use lib.ListN.{length, get_or, set}
use lib.Seq.{get_or-set_same}
use borrow.Author.Tests.{leb-false}
use Rattle.errors.specs.declared.Refusal.{Refusal}
use Rattle.bytecode.specs.Opcodes.{T_CREATE}
use Rattle.values.specs.declared.FatPointer.{FatPointer}
use Rattle.memory.specs.Change.{inside}
use Rattle.pools.specs.declared.InstructionsRef.{InstructionsRef}
use Rattle.storage.specs.Storage as storage
use Rattle.storage.specs.Storage.{slot_of}
use Rattle.storage.specs.Tasks.{blank, new_task}
use Rattle.storage.specs.declared.Task.{Task}
use Rattle.storage.specs.declared.TaskState.{TaskState}
use Rattle.machine.specs.Machines.{placed}
use Rattle.machine.specs.World.{World, op, at_end, memory_in_use}
use Rattle.machine.specs.Words.{StepResult, next, refused, test, popped, first_state, pointed, bytes_of, with_room, room}
use Rattle.machine.specs.Opcodes.{onward, next_id, with_next_task, reference_of, t_create}
use Rattle.machine.specs.Step.{execute, step}
use Rattle.laws.specs.Sound.{Passes}
use Rattle.laws.proofs.Either.{either}
use Rattle.laws.proofs.Parts.{passes_kept}
use Rattle.laws.proofs.Tables.{table_counts}
use Rattle.std.specs.Prelude.{Ok, Err, Result, ⊤}

module _ (w : World) where
  -- the next task in its slot, or a refusal
  data Makes : StepResult → Type 0 where
    makes : (left : ℕ) (title : List ℕ) (state : TaskState) (reference : InstructionsRef) → w.machine.next_id.0 < 256
        → Makes (next (with_next_task (onward w left) (new_task (next_id w) title state reference)))
    makes_none : (refusal : Refusal) → Makes (refused refusal)

  popped_makes : (result : Result (ℕ × ℕ) Refusal) (onward : ℕ → ℕ → StepResult) → ((value below : ℕ) → Makes (onward value below)) → Makes (popped result onward)
  unfolding popped
  popped_makes (Ok (value, below)) onward more = more value below
  popped_makes (Err refusal) onward more = makes_none refusal

  state_makes : (result : Result TaskState Refusal) (onward : TaskState → StepResult) → ((state : TaskState) → Makes (onward state)) → Makes (first_state result onward)
  unfolding first_state
  state_makes (Ok state) onward more = more state
  state_makes (Err refusal) onward more = makes_none refusal

  pointed_makes : (result : Result FatPointer Refusal) (onward : FatPointer → StepResult) → ((vector : FatPointer) → Makes (onward vector)) → Makes (pointed result onward)
  unfolding pointed
  pointed_makes (Ok vector) onward more = more vector
  pointed_makes (Err refusal) onward more = makes_none refusal

  bytes_make : (vector : FatPointer) (onward : List ℕ → StepResult) → ((bytes : List ℕ) → Makes (onward bytes)) → Makes (bytes_of w vector onward)
  unfolding bytes_of test
  bytes_make vector onward more = either Makes (inside (memory_in_use w) vector) _ _ (λ _. more _) (λ _. makes_none _)

  room_makes : (title : ℕ) (onward : StepResult) → (w.machine.next_id.0 < 256 → Makes onward) → Makes (room w title onward)
  unfolding with_room storage.room
  room_makes title onward more =
      either (λ (r : Result ⊤ Refusal). Makes (with_room r onward)) (leb 256 w.machine.next_id.0) _ _ (λ _. makes_none _)
      (λ less. either (λ (r : Result ⊤ Refusal). Makes (with_room r onward)) (ltb 128 title) _ _ (λ _. makes_none _) (λ _. more (leb-false _ _ less)))

  create_makes : Makes (t_create w)
  unfolding t_create
  create_makes =
      popped_makes _ _
      (λ reference above. popped_makes _ _
      (λ count below. state_makes _ _
      (λ state. popped_makes _ _ (λ title left. pointed_makes _ _ (λ vector. bytes_make vector _ (λ bytes. room_makes vector.size _ (λ less. makes left bytes state (reference_of reference) less)))))))

  step_makes : op w ≡ T_CREATE → Makes (step w)
  unfolding step execute
  step_makes is = either Makes (at_end w) _ _ (λ _. makes_none _) (λ _. subst (λ (opcode : ℕ). Makes (execute opcode w)) (sym is) create_makes)

-- ---- what is said of it

-- the task of an id lives in its slot
abbrev Lives : ℕ → List Task → Type 0
Lives id table = ((get_or table id blank).living ≡ true) × ((get_or table id blank).id.0 ≡ id)

lives_there : (id : ℕ) (table : List Task) (title : List ℕ) (state : TaskState) (reference : InstructionsRef) → id < length table
    → Lives id (set table id (new_task (record { 0 = id }) title state reference))
unfolding new_task
lives_there id table title state reference inside =
    let e = get_or-set_same table id (new_task (record { 0 = id }) title state reference) blank inside in
    (ap (λ (t : Task). t.living) e, ap (λ (t : Task). t.id.0) e)

made_lives : (w v : World) (s : StepResult) → length w.table ≡ 256 → Makes w s → s ≡ next v → Lives w.machine.next_id.0 v.table
unfolding slot_of placed
made_lives w v _ slots (makes left title state reference less) e =
    let same : with_next_task (onward w left) (new_task (next_id w) title state reference) ≡ v = cc in
    subst (λ (u : World). Lives w.machine.next_id.0 u.table) same (lives_there w.machine.next_id.0 w.table title state reference (omega (arith, less, slots)))
made_lives w v _ slots (makes_none refusal) e = absurd (let z : ◌≡◌ {A = ℕ} 0 1 = cc in omega arith)

-- a finished T_CREATE gives out the next id: after it a task of this id lives in the slot of this id
pub given_lives : (w v : World) → Passes w → op w ≡ T_CREATE → step w ≡ next v
    → ((get_or v.table w.machine.next_id.0 blank).living ≡ true) × ((get_or v.table w.machine.next_id.0 blank).id.0 ≡ w.machine.next_id.0)
given_lives w v passes is s =
    made_lives w v (step w) (table_counts w.table w.machine.next_id.0 w.machine.count (passes_kept w passes).table_kept.sound).slots_are (step_makes w is) s
