-- A finished instruction leaves what passes the test of 26 passing and a sound world sound, the pool's entries as they were, and as many living tasks and ids given out as it made and deleted.
use Prim.Native.Nat.{ℕ, ◌+◌, ◌≤◌, ◌<◌}
use mathlib.Core.Bool.{Bool, true, false, true≢false}
use mathlib.Core.List.{List}
use mathlib.Core.Path.{◌≡◌, refl, sym, ap, ◌∙◌, subst}
use native.Mathlib.Omega.{arith}
use lib.Dec.{eqb}
use lib.ListN.{length}
use borrow.Author.Tests.{eqb-true}
use Rattle.errors.specs.declared.Refusal.{Refusal}
use Rattle.bytecode.specs.Opcodes.{T_CREATE, T_DELETE, S_SAVE}
use Rattle.pools.specs.Pool.{entry_of}
use Rattle.storage.specs.Table.{living_of}
use Rattle.image.specs.Table.{SavedTable}
use Rattle.mechanism.specs.Registers.{OnMemory}
use Rattle.mechanism.specs.declared.Registers.{Registers}
use Rattle.mechanism.specs.Changes.{applied}
use Rattle.mechanism.specs.Steps.{is_outer}
use Rattle.machine.specs.Machines.{with_saved}
use Rattle.mechanism.specs.Registers.{registers_of, settled}
use Rattle.mechanism.specs.Registers.{machine_at}
use Rattle.mechanism.specs.Act.{OnAll}
use Rattle.mechanism.specs.Advance.{wanted}
use Rattle.mechanism.specs.Turns.{save_result}
use Rattle.machine.specs.World.{World, world, code}
use Rattle.machine.specs.Words.{StepResult, next}
use Rattle.machine.specs.Step.{step}
use Rattle.mechanism.specs.Step.{inner_result, inner, acts_result, acts, saves_result, saves, outer, step_by_parts}
use Rattle.machine.specs.World.{op}
use Rattle.machine.specs.Words as runs
use Rattle.mechanism.proofs.Whole.{step_is}
use Rattle.laws.specs.Sound.{Passes, Sound}
use Rattle.laws.specs.Counted.{creates, deletes}
use Rattle.laws.proofs.Either.{either}
use Rattle.laws.proofs.Parts.{Machined, Tabled, Kept, passes_kept, sound_kept, kept_passes, kept_sound}
use Rattle.laws.proofs.Memory as memories
use Rattle.laws.proofs.Instruction.{instruct_keeps}
use Rattle.laws.proofs.Frames.{Same, Given, none_given, registered, settled_sound, placed_sound}
use Rattle.laws.proofs.Pool.{Grows, same_pool}
use Rattle.laws.proofs.Tables.{Lived}
use Rattle.laws.proofs.Acts as acted
use Rattle.laws.proofs.Acts.{Acts, none_made, none_deleted, act_acts}
use Rattle.laws.proofs.Saves as saved
use Rattle.laws.proofs.Saves.{Saves, save_keeps, image_sound}

-- no entry of the pool is lost or changed from one world to another
abbrev pub Pools : World → World → Type 0
Pools w v = Grows w.pool w.ends w.machine.entries v.pool v.ends v.machine.entries

-- what a finished instruction leaves
record Stepping (asked : Type 0) (w v : World) : Type 0 where
  still : Kept asked v
  pools : Pools w v
  lived : Lived w.table v.table (creates (op w)) (deletes (op w))
  given : Given (creates (op w)) w.machine v.machine

-- finished so, or refused
data Steps (asked : Type 0) (w : World) : StepResult → Type 0 where
  steps : (v : World) → Stepping asked w v → Steps asked w (next v)
  refused : (refusal : Refusal) → Steps asked w (runs.refused refusal)

-- an opcode that is none of those that need a task, a frame or the pool
apart_by : (op k : ℕ) (b : Bool) → eqb op k ≡ b → is_outer op ≡ false → is_outer k ≡ true → b ≡ false
apart_by op k true e none outer = absurd (true≢false (sym outer ∙ ap is_outer (sym (eqb-true op k e)) ∙ none))
apart_by op k false e none outer = refl

apart : (op k : ℕ) → is_outer op ≡ false → is_outer k ≡ true → eqb op k ≡ false
apart op k none outer = apart_by op k (eqb op k) refl none outer

-- an opcode that makes and deletes no task
record Idle (op : ℕ) : Type 0 where
  makes : creates op ≡ 0
  ends_none : deletes op ≡ 0

inner_idle : (op : ℕ) → is_outer op ≡ false → Idle op
unfolding is_outer
inner_idle op none = record { makes = none_made op (apart op T_CREATE none refl); ends_none = none_deleted op (apart op T_DELETE none refl) }

save_idle : (op : ℕ) → eqb op S_SAVE ≡ true → Idle op
unfolding creates deletes
save_idle op is = subst Idle (sym (eqb-true op S_SAVE is)) (record { makes = refl; ends_none = refl })

module _ {asked : Type 0} (w : World) (s : Kept asked w) where
  -- an instruction that leaves the table and the ids
  idle_steps : (v : World) → Idle (op w) → Kept asked v → Pools w v → w.table ≡ v.table → Same w.machine v.machine → Steps asked w (next v)
  idle_steps v idle still pools table same =
      steps v (record {
        still = still;
        pools = pools;
        lived = let n = ap living_of table in omega (arith, n, idle.makes, idle.ends_none);
        given = subst (λ (made : ℕ). Given made w.machine v.machine) (sym idle.makes) (none_given same);
      })

  -- ---- an instruction that needs no task, frame or pool

  settled_tabled : (registers : Registers) → Tabled asked w.table (settled w.machine registers).next_id.0 (settled w.machine registers).count
  unfolding settled
  settled_tabled registers = s.table_kept

  settled_pools : (registers : Registers) → Grows w.pool w.ends w.machine.entries w.pool w.ends (settled w.machine registers).entries
  unfolding settled
  settled_pools registers = same_pool w.pool w.ends w.machine.entries

  settled_same : (registers : Registers) → Same w.machine (settled w.machine registers)
  unfolding settled
  settled_same registers = record { next_id = refl; count = refl }

  registers_steps : (a : OnMemory) → is_outer (op w) ≡ false → memories.Keeps asked (length w.memory) a → Steps asked w (inner_result w a.stack a.memory a.result)
  unfolding inner_result
  registers_steps _ none (memories.finished registers stack memory r long) =
      idle_steps (world (settled w.machine registers) w.table stack memory w.pool w.ends w.save) (inner_idle (op w) none)
      (record {
        machine_kept = subst (λ (n : ℕ). Machined asked n (length w.pool) (length w.save) stack w.ends (settled w.machine registers)) (sym long) (settled_sound registers stack s.machine_kept r);
        table_kept = settled_tabled registers;
      }) (settled_pools registers) refl (settled_same registers)
  registers_steps _ none (memories.refused refusal stack memory) = refused refusal

  inner_steps : is_outer (op w) ≡ false → Steps asked w (inner w)
  unfolding inner
  inner_steps none = registers_steps _ none (instruct_keeps (registers_of w.machine) w.stack w.memory (code w) w.machine.count (registered s.machine_kept))

  -- ---- one that needs a task, a frame or the pool

  result_steps : (slot : ℕ) (a : OnAll) → Acts asked (length w.save) w.pool w.ends w.machine w.table slot (creates (op w)) (deletes (op w)) a → Steps asked w (acts_result w slot a a.acted)
  unfolding acts_result
  result_steps slot _ (acted.acts after change stack memory pool ends m t grows lived given) =
      steps (world after (applied w.table slot change) stack memory pool ends w.save) (record { still = record { machine_kept = m; table_kept = t }; pools = grows; lived = lived; given = given })
  result_steps slot _ (acted.refused refusal stack memory pool ends) = refused refusal

  named : eqb (op w) T_CREATE ≡ true → wanted w.stack w.machine (op w) ≡ w.machine.next_id.0
  unfolding wanted
  named is = simp is

  acts_steps : Steps asked w (acts w (wanted w.stack w.machine (op w)))
  unfolding acts
  acts_steps =
      result_steps (wanted w.stack w.machine (op w)) _
      (act_acts (length w.save) w.stack w.memory w.pool w.ends w.machine w.table (wanted w.stack w.machine (op w)) s.machine_kept s.table_kept named)

  -- ---- S_SAVE

  -- the place behind it
  abbrev behind : ℕ
  behind = (registers_of w.machine).place + 1

  abbrev saved_world : ℕ → List ℕ → World
  saved_world size save = world (with_saved (machine_at w.machine behind w.machine.height) size) w.table w.stack w.memory w.pool w.ends save

  saved_same : (size : ℕ) (registers : Registers) → Same w.machine (with_saved (settled w.machine registers) size)
  unfolding settled
  saved_same size registers = record { next_id = refl; count = refl }

  saved_kept : (size : ℕ) (save : List ℕ) → size ≤ length w.save → length save ≡ length w.save → Kept asked (saved_world size save)
  saved_kept size save fits long = record {
    machine_kept = image_sound size (placed_sound behind w.machine.height s.machine_kept (omega arith)) (omega (arith, fits, long));
    table_kept = settled_tabled _;
  }

  saved_steps : (a : SavedTable) → eqb (op w) S_SAVE ≡ true → Saves w.save a → Steps asked w (saves_result w a.save (save_result w.machine a.answer))
  unfolding saves_result save_result
  saved_steps _ is (saved.saves size save fits long) =
      idle_steps (saved_world size save) (save_idle (op w) is) (saved_kept size save fits long) (settled_pools _) refl (saved_same size _)
  saved_steps _ is (saved.not_saves refusal) = refused refusal

  saves_steps : eqb (op w) S_SAVE ≡ true → Steps asked w (saves w)
  unfolding saves
  saves_steps is = saved_steps _ is (save_keeps w.machine.next_id.0 w.table w.pool w.ends w.machine.entries w.save)

  -- ---- each

  parts_steps : Steps asked w (step_by_parts w)
  unfolding step_by_parts outer
  parts_steps =
      either (Steps asked w) (is_outer (op w)) _ _ (λ _. either (Steps asked w) (eqb (op w) S_SAVE) _ _ (λ is. saves_steps is) (λ _. acts_steps)) (λ none. inner_steps none)

  step_steps : Steps asked w (step w)
  step_steps = subst (Steps asked w) (step_is w) parts_steps

-- ---- what is said of the world after

is_next : StepResult → ℕ
is_next (next v) = 1
is_next (runs.refused refusal) = 0

world_of : World → StepResult → World
world_of w (next v) = v
world_of w (runs.refused refusal) = w

stepping_by : {asked : Type 0} (w v : World) (a : StepResult) → Steps asked w a → a ≡ next v → Stepping asked w v
unfolding is_next world_of
stepping_by {asked} w v _ (steps u left) e = subst (Stepping asked w) (ap (world_of w) e) left
stepping_by w v _ (refused refusal) e = absurd (let z : ◌≡◌ {A = ℕ} 0 1 = ap is_next e in omega arith)

stepping : {asked : Type 0} (w v : World) → Kept asked w → step w ≡ next v → Stepping asked w v
stepping w v s e = stepping_by w v (step w) (step_steps w s) e

pub step_kept : {asked : Type 0} (w v : World) → Kept asked w → step w ≡ next v → Kept asked v
step_kept w v s e = (stepping w v s e).still

-- a finished instruction leaves a sound world sound
pub step_sound : (w v : World) → Sound w → step w ≡ next v → Sound v
step_sound w v s e = kept_sound v (step_kept w v (sound_kept w s) e)

-- what passes the test of 26 passes it after a finished instruction
pub step_passes : (w v : World) → Passes w → step w ≡ next v → Passes v
step_passes w v p e = kept_passes v (step_kept w v (passes_kept w p) e)

module _ (w v : World) (p : Passes w) (e : step w ≡ next v) where
  told : Stepping ⊥ w v
  told = stepping w v (passes_kept w p) e

  -- a finished instruction leaves every entry of the pool as it was
  pub entries_stay : (i : ℕ) → i < w.machine.entries → entry_of v.pool v.ends i ≡ entry_of w.pool w.ends i
  entries_stay = told.pools.same

  -- no entry is lost
  pub entries_grow : w.machine.entries ≤ v.machine.entries
  entries_grow = told.pools.no_fewer

  -- a finished T_CREATE makes one task live, a finished T_DELETE one less, any other instruction leaves as many
  pub step_living : living_of v.table + deletes (op w) ≡ living_of w.table + creates (op w)
  step_living = told.lived

  -- a finished T_CREATE gives out the next id, which the S_LEN count is then above; any other instruction leaves both
  pub step_given : Given (creates (op w)) w.machine v.machine
  step_given = told.given
