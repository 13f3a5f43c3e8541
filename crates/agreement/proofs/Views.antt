-- The view of a world after an instruction: the frame that runs is changed, the frames below it stay.
use Prim.Native.Nat.{ℕ, ◌+◌, ◌<◌}
use mathlib.Core.Bool.{Bool, true, false}
use mathlib.Core.Path.{◌≡◌, refl, ap, ◌∙◌}
use mathlib.Core.List.{List, ◌∷◌}
use native.Mathlib.Omega.{arith}
use lib.Dec.{eqb, ltb}
use lib.ListN.{length, take, set}
use Rattle.slices.specs.Numbers.{Bytes}
use Rattle.inlinevec.specs.Stacks.{if_room, push, values_of, loops_of, last_two, change_two}
use Rattle.inlinevec.specs.declared.Frame.{Frame}
use Rattle.inlinevec.proofs.Lists.{pushed_values, length_values}
use borrow.Author.Tests.{ltb-true}
use Rattle.pools.specs.Pool.{entries_of}
use Rattle.storage.specs.declared.Task.{Task}
use Rattle.mechanism.specs.Registers.{OnMemory, on_memory, moved}
use Rattle.mechanism.specs.Stack.{push_value, pushed_to}
use Rattle.mechanism.specs.declared.Registers.{Registers}
use Rattle.mechanism.specs.Execute.{kept}
use Rattle.machine.specs.declared.Machine.{Machine}
use Rattle.machine.specs.Machines.{current, with_current, with_ids}
use Rattle.mechanism.specs.Registers.{registers_of, settled}
use Rattle.machine.specs.World.{World, world}
use Rattle.machine.specs.Words.{StepResult}
use Rattle.mechanism.specs.Step.{inner_result}
use Rattle.rust.specs.Errors.{StackOverflow, ok}
use Rattle.rust.specs.InlineVec as rust
use Rattle.rust.specs.Vm.{VM, at, pushes}
use Rattle.agreement.specs.View.{callers, storage_of, shown, view}
use Rattle.agreement.specs.Agreement.{Agree, errs}
use Rattle.agreement.proofs.Facts.{Facts}
use Rattle.agreement.proofs.Laws.{goes_by}
use Rattle.std.specs.Prelude.{Ok}
use Rattle.inlinevec.specs.declared.Two.{Two}

module _ (frames : Two Frame) (frame : Frame) where
  by_current : (one : Bool) → eqb frames.count 1 ≡ one → current (with_current frames frame) ≡ frame
  unfolding current with_current last_two change_two
  by_current true e = rw (e) (rw e)
  by_current false e = rw (e) (rw e)

  -- the frame that runs
  pub current_is : current (with_current frames frame) ≡ frame
  current_is = by_current (eqb frames.count 1) refl

  by_callers : (one : Bool) → eqb frames.count 1 ≡ one → callers (with_current frames frame) ≡ callers frames
  unfolding callers with_current change_two
  by_callers true e = rw (e) (rw e)
  by_callers false e = rw (e) (rw e)

  -- and those below it
  pub callers_are : callers (with_current frames frame) ≡ callers frames
  callers_are = by_callers (eqb frames.count 1) refl

-- a machine with other registers
module _ (stale : ℕ) (m : Machine) (registers : Registers) (table : List Task) (stack memory pool ends save : List ℕ) where
  pub view_settled : view stale (world (settled m registers) table stack memory pool ends save)
      ≡ shown (record { instructions_ref = (current m.frames).entry.0; pc = registers.place }) stale (callers m.frames)
      (values_of registers.height stack) (loops_of registers.loops) (take registers.memory memory)
      (entries_of pool ends m.entries) (storage_of m.next_id.0 m.count table)
  unfolding view settled
  view_settled = rw (current_is m.frames (record { entry = (current m.frames).entry; place = registers.place }), callers_are m.frames (record { entry = (current m.frames).entry; place = registers.place }))

  -- and other ids
  pub view_with_ids : (next_id count : ℕ) → view stale (world (with_ids (settled m registers) next_id count) table stack memory pool ends save)
      ≡ shown (record { instructions_ref = (current m.frames).entry.0; pc = registers.place }) stale (callers m.frames)
      (values_of registers.height stack) (loops_of registers.loops) (take registers.memory memory)
      (entries_of pool ends m.entries) (storage_of next_id count table)
  unfolding view settled
  view_with_ids next_id count = rw (current_is m.frames (record { entry = (current m.frames).entry; place = registers.place }), callers_are m.frames (record { entry = (current m.frames).entry; place = registers.place }))

-- an instruction that needs no task, frame or pool, as a step
abbrev pub stepped : World → OnMemory → StepResult
stepped w after = inner_result w after.stack after.memory after.result

module _ (w : World) (stale : ℕ) (bytes : Bytes w.pool) where
  -- on with other registers
  pub goes : (registers : Registers) (stack memory : List ℕ) (vm : VM)
      → shown (record { instructions_ref = (current w.machine.frames).entry.0; pc = registers.place }) stale (callers w.machine.frames)
      (values_of registers.height stack) (loops_of registers.loops) (take registers.memory memory)
      (entries_of w.pool w.ends w.machine.entries) (storage_of w.machine.next_id.0 w.machine.count w.table) ≡ vm
      → Agree w (stepped w (on_memory (Ok registers) stack memory)) (ok vm)
  unfolding inner_result
  goes registers stack memory vm e =
      goes_by stale bytes (view_settled stale w.machine registers w.table stack memory w.pool w.ends w.save ∙ e)

  -- on at another place with other values
  pub moves : (place height : ℕ) (stack values : List ℕ) → values_of height stack ≡ values
      → Agree w (stepped w (on_memory (Ok (moved (registers_of w.machine) place height)) stack w.memory)) (ok (at (view stale w) place values))
  unfolding registers_of view
  moves place height stack values e =
      goes (moved (registers_of w.machine) place height) stack w.memory _
      (ap (λ (l : List ℕ). shown (record { instructions_ref = (current w.machine.frames).entry.0; pc = place }) stale (callers w.machine.frames)
      l (loops_of w.machine.loops) (take w.machine.memory w.memory)
      (entries_of w.pool w.ends w.machine.entries) (storage_of w.machine.next_id.0 w.machine.count w.table)) e)

  -- a value more, at a height
  pub pushed : Facts w → (place height value : ℕ)
      → Agree w (stepped w (kept (push_value w.stack (registers_of w.machine) place height value) w.memory)) (pushes (view stale w) place (values_of height w.stack) value)
  unfolding push_value push if_room pushes rust.push inner_result pushed_to
  pushed h place height value = by (ltb height 1000) refl (rw (length_values w.stack height))
    where
      by : (b : Bool) → ltb height 1000 ≡ b → ltb (length (values_of height w.stack)) 1000 ≡ ltb height 1000
          → Agree w (stepped w (kept (push_value w.stack (registers_of w.machine) place height value) w.memory)) (pushes (view stale w) place (values_of height w.stack) value)
      by true e f = rw (f, e) (moves place (height + 1) (set w.stack height value) (value ∷ values_of height w.stack) (pushed_values w.stack height value (let z : height < 1000 = ltb-true _ _ e in omega (arith, h.stack_lent))))
      by false e f = rw (f, e) (errs StackOverflow)
