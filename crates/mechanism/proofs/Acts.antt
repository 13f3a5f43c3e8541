-- A refused instruction that needs a task, a frame or the pool leaves its slot, the stack, memory, the pool and its ends as they were.
use Prim.Native.Nat.{ℕ}
use mathlib.Core.Bool.{Bool, true, false, cond}
use mathlib.Core.List.{List}
use lib.Dec.{eqb, leb}
use lib.ListN.{length}
use Rattle.errors.specs.declared.Refusal.{Refusal}
use Rattle.bytecode.specs.Opcodes.{PUSH_CALLDATA, T_CREATE, T_GET_FIELD, T_SET_FIELD, T_DELETE, CALL, END_CALL}
use Rattle.pools.specs.Pool.{Pooled, pooled, has_room, interned}
use Rattle.pools.specs.declared.InstructionsRef.{InstructionsRef}
use Rattle.storage.specs.declared.Task.{Task}
use Rattle.mechanism.specs.Registers.{OnMemory}
use Rattle.mechanism.specs.declared.Change.{Change}
use Rattle.mechanism.specs.declared.Registers.{Registers}
use Rattle.machine.specs.declared.Machine.{Machine}
use Rattle.machine.specs.Machines.{current, code_of}
use Rattle.mechanism.specs.Frames.{OnPool, intern_sized, intern_calldata, calldata_pushed, push_calldata}
use Rattle.mechanism.specs.Act.{keeping, OnAll, on_all, settled_by, after_pool, after_memory, on_frames, act_by, act_at, act}
use Rattle.mechanism.proofs.Either.{either}
use Rattle.mechanism.proofs.Memory as memory
use Rattle.mechanism.proofs.Tasks.{get_leaves}
use Rattle.std.specs.Prelude.{Ok, Err, Some, None, Result, Option}

-- finished, or refused with everything as it was
pub data Leaves (s m pool ends : List ℕ) : OnAll → Type 0 where
  finished : (machine : Machine) (change : Change) (s₁ m₁ p₁ e₁ : List ℕ) → Leaves s m pool ends (on_all (Ok (machine, change)) s₁ m₁ p₁ e₁)
  kept : (refusal : Refusal) → Leaves s m pool ends (on_all (Err refusal) s m pool ends)

-- ---- PUSH_CALLDATA

data Interns (pool ends : List ℕ) : Pooled → Type 0 where
  has_interned : (entry : InstructionsRef) (bytes : ℕ) (p e : List ℕ) → Interns pool ends (pooled (Ok (entry, bytes)) p e)
  not_interned : (refusal : Refusal) → Interns pool ends (pooled (Err refusal) pool ends)

sized_leaves : (pool ends : List ℕ) (machine : Machine) (place : ℕ) (result : Result ℕ Refusal) → Interns pool ends (intern_sized pool ends machine place result)
unfolding intern_sized interned
sized_leaves pool ends machine place (Ok size) = either (Interns pool ends) (has_room _ _ _ _) _ _ (has_interned _ _ _ _) (not_interned _)
sized_leaves pool ends machine place (Err refusal) = not_interned refusal

pushed_leaves : (s m pool ends : List ℕ) (machine : Machine) (next : ℕ) (a : Pooled) → Interns pool ends a
    → Leaves s m pool ends (after_pool (calldata_pushed s machine next a a.answer) m)
unfolding calldata_pushed keeping
pushed_leaves s m pool ends machine next _ (has_interned entry bytes p e) = finished _ _ _ _ _ _
pushed_leaves s m pool ends machine next _ (not_interned refusal) = kept refusal

test_pool : (b : Bool) (x y : OnPool) (s m pool ends : List ℕ) → Leaves s m pool ends (after_pool x m) → Leaves s m pool ends (after_pool y m)
    → Leaves s m pool ends (after_pool (cond b x y) m)
test_pool true x y s m pool ends p q = p
test_pool false x y s m pool ends p q = q

calldata_leaves : (s m pool ends : List ℕ) (machine : Machine) (place next : ℕ)
    → Leaves s m pool ends (after_pool (push_calldata s pool ends machine place next) m)
unfolding push_calldata intern_calldata keeping
calldata_leaves s m pool ends machine place next =
    test_pool (leb 1000 machine.height) _ _ s m pool ends (kept _)
    (pushed_leaves s m pool ends machine next _ (sized_leaves pool ends machine place _))

-- ---- the others

unwritten : (s m pool ends : List ℕ) (acted : Result (Machine × Change) Refusal) → Leaves s m pool ends (on_all acted s m pool ends)
unwritten s m pool ends (Ok (machine, change)) = finished _ _ _ _ _ _
unwritten s m pool ends (Err refusal) = kept refusal

memory_leaves : (s m pool ends : List ℕ) (machine : Machine) (a : OnMemory) → memory.Leaves s m a → Leaves s m pool ends (after_memory machine a pool ends)
unfolding settled_by keeping
memory_leaves s m pool ends machine _ (memory.finished registers s₁ m₁) = finished _ _ _ _ _ _
memory_leaves s m pool ends machine _ (memory.kept refusal) = kept refusal

frames_leaves : (s m pool ends : List ℕ) (machine : Machine) (task : Task) (op place next : ℕ) → Leaves s m pool ends (on_frames s m pool ends machine task op place next)
unfolding on_frames
frames_leaves s m pool ends machine task op place next =
    either (Leaves s m pool ends) (eqb op PUSH_CALLDATA) _ _ (calldata_leaves s m pool ends machine place next)
    (either (Leaves s m pool ends) (eqb op T_GET_FIELD) _ _ (memory_leaves s m pool ends machine _ (get_leaves s m _ next task))
    (either (Leaves s m pool ends) (eqb op CALL) _ _ (unwritten s m pool ends _)
    (either (Leaves s m pool ends) (eqb op END_CALL) _ _ (unwritten s m pool ends _)
    (unwritten s m pool ends _))))

by_extent_leaves : (s m pool ends : List ℕ) (machine : Machine) (task : Task) (op place : ℕ) (extent : Option ℕ) → Leaves s m pool ends (act_by s m pool ends machine task op place extent)
unfolding act_by
by_extent_leaves s m pool ends machine task op place (Some next) = frames_leaves s m pool ends machine task op place next
by_extent_leaves s m pool ends machine task op place None = kept _

pub act_leaves : (s m pool ends : List ℕ) (machine : Machine) (task : Task) → Leaves s m pool ends (act s m pool ends machine task)
unfolding act act_at
act_leaves s m pool ends machine task =
    either (Leaves s m pool ends) (leb (length (code_of pool ends machine)) (current machine.frames).place) _ _ (kept _) (by_extent_leaves s m pool ends machine task _ _ _)
