-- A machine that runs an admitted program: in main, over the pool whose first entry is the program, with the values and loops of the label where it stands.
use Prim.Native.Nat.{ℕ, ◌<◌}
use mathlib.Core.Path.{◌≡◌, sym, ap, ◌∙◌, subst}
use mathlib.Core.Bool.{true}
use mathlib.Core.List.{List}
use lib.Dec.{eqb}
use lib.ListN.{length}
use Rattle.errors.specs.declared.Refusal.{Refusal}
use Rattle.pools.specs.Pool.{entry_of, end_to_end}
use Rattle.inlinevec.specs.Stacks.{change_two}
use Rattle.inlinevec.specs.declared.Frame.{Frame}
use Rattle.storage.specs.declared.Task.{Task}
use Rattle.mechanism.specs.declared.Registers.{Registers}
use Rattle.machine.specs.declared.Machine.{Machine}
use Rattle.machine.specs.Machines.{current, with_current, code_of}
use Rattle.mechanism.specs.Registers.{settled}
use Rattle.machine.specs.World.{World, world, place}
use Rattle.machine.specs.World as worlds
use Rattle.machine.specs.Words.{StepResult, next, refused}
use Rattle.mechanism.specs.Step.{inner_result}
use Rattle.mechanism.proofs.Settled.{current_changed}
use Rattle.labels.specs.Labels.{Label}
use Rattle.safety.proofs.Rules.{on_bool}
use Rattle.safety.proofs.Holds.{May, Holds, Good, goes_on, may_end}
use Rattle.std.specs.Prelude.{Result}
use Rattle.inlinevec.specs.declared.Two.{Two}

-- one frame, that of the program, which is entry 0 of a pool whose entries stand end to end
pub record Main (code : List ℕ) (frames : Two Frame) (bytes entries : ℕ) (pool ends : List ℕ) : Type 0 where
  pub one_frame : frames.count ≡ 1
  pub in_main : (current frames).entry.0 ≡ 0
  pub ends_lent : length ends ≡ 1024
  pub pooled : end_to_end ends bytes entries ≡ true
  pub some_entries : 0 < entries
  pub program : entry_of pool ends 0 ≡ code

pub record Stands (code : List ℕ) (labels : ℕ → Label) (w : World) : Type 0 where
  pub lent : length w.stack ≡ 1000
  pub main : Main code w.machine.frames w.machine.pool w.machine.entries w.pool w.ends
  pub holds : Holds code labels (place w) w.machine.height w.machine.loops w.stack

-- an instruction leaves such a machine, or is refused with what admission leaves possible
pub data Steps (code : List ℕ) (labels : ℕ → Label) : StepResult → Type 0 where
  steps_to : {v : World} → Stands code labels v → Steps code labels (next v)
  may_stop : {refusal : Refusal} → May refusal → Steps code labels (refused refusal)

-- the code that runs is the program
pub runs_program : {code : List ℕ} (w : World) → Main code w.machine.frames w.machine.pool w.machine.entries w.pool w.ends → worlds.code w ≡ code
unfolding code_of
runs_program w main = ap (entry_of w.pool w.ends) main.in_main ∙ main.program

-- ---- at another place of the same code

abbrev pub moved_to : Two Frame → ℕ → Two Frame
moved_to frames place = with_current frames (record { entry = (current frames).entry; place = place })

count_kept : (frames : Two Frame) (frame : Frame) → (with_current frames frame).count ≡ frames.count
unfolding with_current change_two
count_kept frames frame = on_bool (eqb frames.count 1) (λ t. simp (t)) (λ t. simp (t))

pub moved_main : {code : List ℕ} {frames : Two Frame} {bytes entries : ℕ} {pool ends : List ℕ} (place : ℕ) → Main code frames bytes entries pool ends → Main code (moved_to frames place) bytes entries pool ends
moved_main {frames = frames} place main = record {
  one_frame = count_kept frames (record { entry = (current frames).entry; place = place }) ∙ main.one_frame;
  in_main = ap (λ (f : Frame). f.entry.0) (current_changed frames (record { entry = (current frames).entry; place = place })) ∙ main.in_main;
  ends_lent = main.ends_lent;
  pooled = main.pooled;
  some_entries = main.some_entries;
  program = main.program;
}

-- the machine after an instruction's registers, with any table, memory and save buffer
pub settles : {code : List ℕ} {labels : ℕ → Label} (machine : Machine) (registers : Registers) (table : List Task) (stack memory pool ends save : List ℕ) → length stack ≡ 1000
    → Main code machine.frames machine.pool machine.entries pool ends → Holds code labels registers.place registers.height registers.loops stack
    → Stands code labels (world (settled machine registers) table stack memory pool ends save)
unfolding settled
settles {code} {labels} machine registers table stack memory pool ends save lent main holds = record {
  lent = lent;
  main = moved_main registers.place main;
  holds = subst (λ (f : Frame). Holds code labels f.place registers.height registers.loops stack)
      (sym (current_changed machine.frames (record { entry = (current machine.frames).entry; place = registers.place }))) holds;
}

-- an instruction that needs no task, frame or pool
pub inner_steps : {code : List ℕ} {labels : ℕ → Label} {result : Result Registers Refusal} {stack : List ℕ} (w : World) (memory : List ℕ) → Main code w.machine.frames w.machine.pool w.machine.entries w.pool w.ends
    → Good code labels result stack → Steps code labels (inner_result w stack memory result)
unfolding inner_result
inner_steps w memory main (goes_on {registers = registers} lent holds) = steps_to (settles w.machine registers w.table _ memory w.pool w.ends w.save lent main holds)
inner_steps w memory main (may_end may) = may_stop may
