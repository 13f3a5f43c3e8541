-- An instruction that needs a task, a frame or the pool keeps the machine and the table sound, and the pool's entries as they were.
use Prim.Native.Nat.{ℕ, ◌+◌, ◌%◌, ◌^◌, ◌≤◌}
use mathlib.Core.Bool.{true, false}
use mathlib.Core.List.{List}
use mathlib.Core.Path.{◌≡◌, refl, sym, subst}
use native.Mathlib.Omega.{arith}
use lib.Dec.{eqb, leb}
use lib.ListN.{length, get_or}
use borrow.Author.Tests.{eqb-true, le-ltb}
use Rattle.errors.specs.declared.Refusal.{Refusal}
use Rattle.bytecode.specs.Opcodes.{PUSH_CALLDATA, T_CREATE, T_GET_FIELD, T_SET_FIELD, T_DELETE, CALL, END_CALL}
use Rattle.storage.specs.declared.Task.{Task}
use Rattle.storage.specs.Storage.{len_after}
use Rattle.storage.specs.Tasks.{blank}
use Rattle.mechanism.specs.Registers.{OnMemory}
use Rattle.mechanism.specs.declared.Registers.{Registers}
use Rattle.mechanism.specs.Changes.{applied}
use Rattle.mechanism.specs.Create.{op_t_create}
use Rattle.mechanism.specs.declared.Change.{Change}
use Rattle.machine.specs.declared.Machine.{Machine}
use Rattle.machine.specs.Machines.{current, code_of, with_ids}
use Rattle.mechanism.specs.Registers.{registers_of, settled}
use Rattle.mechanism.specs.Frames.{OnPool}
use Rattle.mechanism.specs.Registers.{machine_at}
use Rattle.mechanism.specs.Act.{keeping, OnAll, on_all, settled_by, created, tasked_by, created_by, on_task, after_pool, after_memory, on_frames, act_by, act_at, act}
use Rattle.machine.specs.Machines.{op_at}
use Rattle.laws.specs.Counted.{creates, deletes}
use Rattle.laws.proofs.Either.{either}
use Rattle.laws.proofs.Parts.{Machined, Tabled}
use Rattle.laws.proofs.Memory as memories
use Rattle.laws.proofs.Frames.{Same, Given, none_given, WentOn, went_on, registered, settled_sound, placed_sound, call_on, end_call_on}
use Rattle.laws.proofs.Frames as frames
use Rattle.laws.proofs.Pool.{Grows, same_pool, Pushed, pushed, calldata_keeps}
use Rattle.laws.proofs.Pool as pools
use Rattle.laws.proofs.Tables.{Lived, none_lived, table_counts}
use Rattle.laws.proofs.Tasks.{Changes, changes, create_makes, delete_deletes, set_field_sets, get_field_keeps}
use Rattle.laws.proofs.Tasks as tasks
use Rattle.std.specs.Prelude.{Ok, Err, Some, None, Result, Option}
use Rattle.mechanism.specs.declared.Change.TheVariants.{Keep}

-- finished soundly, so many tasks made and deleted; or refused
pub data Acts (asked : Type 0) (save : ℕ) (pool ends : List ℕ) (machine : Machine) (table : List Task) (slot made deleted : ℕ) : OnAll → Type 0 where
  acts : (after : Machine) (change : Change) (stack memory new_pool new_ends : List ℕ) → Machined asked (length memory) (length new_pool) save stack new_ends after
      → Tabled asked (applied table slot change) after.next_id.0 after.count → Grows pool ends machine.entries new_pool new_ends after.entries
      → Lived table (applied table slot change) made deleted → Given made machine after → Acts asked save pool ends machine table slot made deleted (on_all (Ok (after, change)) stack memory new_pool new_ends)
  refused : (refusal : Refusal) (stack memory new_pool new_ends : List ℕ)
      → Acts asked save pool ends machine table slot made deleted (on_all (Err refusal) stack memory new_pool new_ends)

-- other ids
ids_sound : {asked : Type 0} {memory pool save : ℕ} {stack ends : List ℕ} {machine : Machine} (next_id count : ℕ) → Machined asked memory pool save stack ends machine
    → Machined asked memory pool save stack ends (with_ids machine next_id count)
ids_sound next_id count m = record { values = m.values; entries = m.entries; frames = m.frames; kept = m.kept }

-- an opcode that is not T_CREATE makes no task
pub none_made : (op : ℕ) → eqb op T_CREATE ≡ false → creates op ≡ 0
unfolding creates
none_made op other = simp other

-- one that is not T_DELETE deletes none
pub none_deleted : (op : ℕ) → eqb op T_DELETE ≡ false → deletes op ≡ 0
unfolding deletes
none_deleted op other = simp other

module _ {asked : Type 0} (save : ℕ) (stack memory pool ends : List ℕ) (machine : Machine) (table : List Task) (slot : ℕ)
    (m : Machined asked (length memory) (length pool) save stack ends machine) (t : Tabled asked table machine.next_id.0 machine.count) where
  abbrev task : Task
  task = get_or table slot blank

  abbrev On : ℕ → ℕ → OnAll → Type 0
  On = Acts asked save pool ends machine table slot

  -- ---- the opcodes that leave the table

  keeps : (after : Machine) (s mem p e : List ℕ) → Machined asked (length mem) (length p) save s e after → Same machine after → Grows pool ends machine.entries p e after.entries
      → On 0 0 (on_all (Ok (after, Keep)) s mem p e)
  unfolding applied
  keeps after s mem p e sound same grows =
      acts after Keep s mem p e sound
      (subst (λ (n : ℕ). Tabled asked table n after.count) (sym same.next_id) (subst (λ (c : ℕ). Tabled asked table machine.next_id.0 c) (sym same.count) t)) grows
      (none_lived table) (none_given same)

  pool_acts : (a : OnPool) → Pushed asked (length memory) save pool ends machine a → On 0 0 (after_pool a memory)
  unfolding keeping
  pool_acts _ (pushed after s p e sound grows same) = keeps after s memory p e sound same grows
  pool_acts _ (pools.refused refusal s p e) = refused refusal s memory p e

  -- the same entries
  same_entries : (after : Machine) → after.entries ≡ machine.entries → Grows pool ends machine.entries pool ends after.entries
  same_entries after same = subst (λ (n : ℕ). Grows pool ends machine.entries pool ends n) (sym same) (same_pool pool ends machine.entries)

  result_acts : (result : Result Machine Refusal) → WentOn asked (length memory) (length pool) save stack ends machine result → On 0 0 (on_all (keeping result) stack memory pool ends)
  unfolding keeping
  result_acts _ (went_on after sound many same) = keeps after stack memory pool ends sound same (same_entries after many)
  result_acts _ (frames.refused refusal) = refused refusal stack memory pool ends

  settled_same : (registers : Registers) → Same machine (settled machine registers)
  unfolding settled
  settled_same registers = record { next_id = refl; count = refl }

  settled_entries : (registers : Registers) → (settled machine registers).entries ≡ machine.entries
  unfolding settled
  settled_entries registers = refl

  memory_acts : (a : OnMemory) → memories.Keeps asked (length memory) a → On 0 0 (after_memory machine a pool ends)
  unfolding settled_by keeping
  memory_acts _ (memories.finished registers s mem r long) =
      keeps (settled machine registers) s mem pool ends
      (subst (λ (n : ℕ). Machined asked n (length pool) save s ends (settled machine registers)) (sym long) (settled_sound registers s m r)) (settled_same registers)
      (same_entries (settled machine registers) (settled_entries registers))
  memory_acts _ (memories.refused refusal s mem) = refused refusal s mem pool ends

  -- ---- the opcodes that change a slot

  by_acts : (deleted : ℕ) (a : Result (Registers × Change) Refusal) → Changes asked (length memory) stack table slot machine.next_id.0 machine.count 0 deleted a → On 0 deleted (on_all (tasked_by machine a) stack memory pool ends)
  unfolding tasked_by settled
  by_acts deleted _ (changes registers change r sound lived) =
      acts (settled machine registers) change stack memory pool ends (settled_sound registers stack m r) sound (same_entries (settled machine registers) (settled_entries registers)) lived (none_given (settled_same registers))
  by_acts deleted _ (tasks.refused refusal) = refused refusal stack memory pool ends

  -- the id given is the next one, which was not above 256
  one_given : (registers : Registers)
      → Given 1 machine (with_ids (settled machine registers) ((machine.next_id.0 + 1) % 2 ^ 32) (len_after machine.count machine.next_id.0))
  unfolding len_after
  one_given registers =
      let counts = table_counts table machine.next_id.0 machine.count t.sound in
      let small : machine.next_id.0 ≤ 256 = counts.next_most in
      let low : machine.count ≤ machine.next_id.0 = counts.count_below in
      record {
        next_id = omega arith;
        none = λ e. absurd (omega arith);
        one = λ _. simp (le-ltb machine.next_id.0 machine.count low) (omega arith);
      }

  created_acts : (a : Result (Registers × Change) Refusal) → Changes asked (length memory) stack table slot ((machine.next_id.0 + 1) % 2 ^ 32) (len_after machine.count machine.next_id.0) 1 0 a
      → On 1 0 (on_all (created_by machine a) stack memory pool ends)
  unfolding created_by created
  created_acts _ (changes registers change r sound lived) =
      acts _ change stack memory pool ends (ids_sound _ _ (settled_sound registers stack m r)) sound (same_entries (settled machine registers) (settled_entries registers)) lived (one_given registers)
  created_acts _ (tasks.refused refusal) = refused refusal stack memory pool ends

  abbrev creation : ℕ → Result (Registers × Change) Refusal
  creation next = op_t_create stack memory (registers_of machine) next machine.next_id.0

  created_here : (next : ℕ) → slot ≡ machine.next_id.0
      → Changes asked (length memory) stack table slot ((machine.next_id.0 + 1) % 2 ^ 32) (len_after machine.count machine.next_id.0) 1 0 (creation next)
  created_here next e =
      subst (λ (k : ℕ). Changes asked (length memory) stack table k ((machine.next_id.0 + 1) % 2 ^ 32) (len_after machine.count machine.next_id.0) 1 0 (creation next)) (sym e)
      (create_makes (length memory) stack table machine.next_id.0 machine.count t memory (registers_of machine) next (registered m))

  -- an opcode counts as it is
  by_op : (op k : ℕ) (a : OnAll) → eqb op k ≡ true → On (creates k) (deletes k) a → On (creates op) (deletes op) a
  by_op op k a is on = subst (λ (o : ℕ). On (creates o) (deletes o) a) (sym (eqb-true op k is)) on

  idle_acts : (next : ℕ) → On 0 0 (on_all (Ok (machine_at machine next machine.height, Keep)) stack memory pool ends)
  idle_acts next =
      keeps (machine_at machine next machine.height) stack memory pool ends (placed_sound next machine.height m (omega arith)) (settled_same _)
      (same_entries (machine_at machine next machine.height) (settled_entries _))

  as_none : (op next : ℕ) → eqb op T_CREATE ≡ false → eqb op T_DELETE ≡ false
      → On (creates op) (deletes op) (on_all (Ok (machine_at machine next machine.height, Keep)) stack memory pool ends)
  as_none op next made deleted =
      subst (λ (c : ℕ). On c (deletes op) (on_all (Ok (machine_at machine next machine.height, Keep)) stack memory pool ends)) (sym (none_made op made))
      (subst (λ (d : ℕ). On 0 d (on_all (Ok (machine_at machine next machine.height, Keep)) stack memory pool ends)) (sym (none_deleted op deleted)) (idle_acts next))

  abbrev OnTask : ℕ → Result (Machine × Change) Refusal → Type 0
  OnTask op a = On (creates op) (deletes op) (on_all a stack memory pool ends)

  task_acts : (op next : ℕ) → (eqb op T_CREATE ≡ true → slot ≡ machine.next_id.0) → OnTask op (on_task stack memory machine task op next)
  unfolding on_task creates deletes
  task_acts op next here =
      either (OnTask op) (eqb op T_CREATE) _ _ (λ is. by_op op T_CREATE _ is (created_acts _ (created_here next (here is))))
      (λ made. either (OnTask op) (eqb op T_SET_FIELD) _ _
      (λ is. by_op op T_SET_FIELD _ is (by_acts 0 _ (set_field_sets (length memory) stack table slot machine.next_id.0 machine.count t memory (registers_of machine) next (registered m))))
      (λ _. either (OnTask op) (eqb op T_DELETE) _ _
      (λ is. by_op op T_DELETE _ is (by_acts 1 _ (delete_deletes (length memory) stack table slot machine.next_id.0 machine.count t (registers_of machine) next (registered m))))
      (λ deleted. as_none op next made deleted)))

  frames_acts : (op place next : ℕ) → (eqb op T_CREATE ≡ true → slot ≡ machine.next_id.0) → On (creates op) (deletes op) (on_frames stack memory pool ends machine task op place next)
  unfolding on_frames creates deletes
  frames_acts op place next here =
      either (On (creates op) (deletes op)) (eqb op PUSH_CALLDATA) _ _
      (λ is. by_op op PUSH_CALLDATA _ is (pool_acts _ (calldata_keeps (length memory) save stack pool ends machine m next place)))
      (λ _. either (On (creates op) (deletes op)) (eqb op T_GET_FIELD) _ _
      (λ is. by_op op T_GET_FIELD _ is (memory_acts _ (get_field_keeps stack memory (registers_of machine) next task (registered m))))
      (λ _. either (On (creates op) (deletes op)) (eqb op CALL) _ _
      (λ is. by_op op CALL _ is (result_acts _ (call_on (length memory) (length pool) save stack ends machine m next task)))
      (λ _. either (On (creates op) (deletes op)) (eqb op END_CALL) _ _
      (λ is. by_op op END_CALL _ is (result_acts _ (end_call_on (length memory) (length pool) save stack ends machine m next)))
      (λ _. task_acts op next here))))

  extent_acts : (op place : ℕ) (extent : Option ℕ) → (eqb op T_CREATE ≡ true → slot ≡ machine.next_id.0)
      → On (creates op) (deletes op) (act_by stack memory pool ends machine task op place extent)
  unfolding act_by
  extent_acts op place (Some next) here = frames_acts op place next here
  extent_acts op place None here = refused _ stack memory pool ends

  pub act_acts : (eqb (op_at pool ends machine) T_CREATE ≡ true → slot ≡ machine.next_id.0)
      → On (creates (op_at pool ends machine)) (deletes (op_at pool ends machine)) (act stack memory pool ends machine task)
  unfolding act act_at op_at
  act_acts here =
      either (On _ _) (leb (length (code_of pool ends machine)) (current machine.frames).place) _ _ (λ _. refused _ stack memory pool ends)
      (λ _. extent_acts (get_or (code_of pool ends machine) (current machine.frames).place 0) (current machine.frames).place _ here)
