-- One step in an admitted program keeps the invariant, or is refused with what admission leaves possible.
use Prim.Native.Nat.{ℕ, ◌≤◌, ◌<◌}
use mathlib.Core.Path.{◌≡◌, refl, sym, ◌∙◌, subst}
use mathlib.Core.Bool.{true, false, true≢false, false≢true}
use mathlib.Core.List.{List}
use lib.Dec.{eqb}
use lib.ListN.{length, get_or}
use borrow.Author.Tests.{leb-false}
use Rattle.bytecode.specs.Opcodes.{S_SAVE}
use Rattle.mechanism.specs.Steps.{is_outer}
use Rattle.mechanism.specs.Registers.{registers_of}
use Rattle.machine.specs.Machines.{op_at}
use Rattle.machine.specs.World.{World, place, at_end}
use Rattle.machine.specs.World as worlds
use Rattle.machine.specs.Step.{step}
use Rattle.mechanism.specs.Step.{inner, outer, step_by_parts}
use Rattle.mechanism.proofs.Whole.{step_is}
use Rattle.machine.specs.Words.{StepResult}
use Rattle.labels.specs.declared.Kind.{Kind}
use Rattle.labels.specs.Labels.{Open, Label, Labelling}
use Rattle.safety.proofs.Kinded.{Kinded}
use Rattle.safety.proofs.Rules.{on_bool}
use Rattle.safety.proofs.Holds.{is_get, is_set, At, Looping, Holds, starts, middle}
use Rattle.safety.proofs.Opcodes.{Opcode, at_push_u32, at_push_state, at_push_calldata, at_push_task_field, at_push_max_states, at_t_create, at_t_get_field, at_t_set_field, at_t_delete, at_s_save, at_s_len, at_do, at_loop, at_loop_index, at_call, at_end_call, at_drop, at_dup, at_swap, at_eq, at_neq, at_lt, at_gt, at_jump_if_false, at_m_sti, at_m_st, at_m_muta, at_muli, at_mul, at_unused, opcode}
use Rattle.safety.proofs.Instruction.{instruction_good}
use Rattle.safety.proofs.Stands.{Main, Stands, Steps, runs_program, inner_steps}
use Rattle.safety.proofs.Acts.{get_acts, set_acts, create_acts, delete_acts, end_call_acts, calldata_acts, call_acts, lone_get_acts, lone_set_acts, save_acts}

module _ (w : World) (labels : ℕ → Label) (lent : length w.stack ≡ 1000) (main : Main (worlds.code w) w.machine.frames w.machine.pool w.machine.entries w.pool w.ends)
    (lab : Labelling (worlds.code w) labels) (short : length (worlds.code w) ≤ 65535) (inside : at_end w ≡ false) where
  -- the code that runs, and the place in it
  abbrev code : List ℕ
  code = worlds.code w

  abbrev here : ℕ
  here = place w

  less : here < length code
  unfolding at_end
  less = leb-false (length code) here inside

  -- ---- at an element's start

  module _ {kinds : List Kind} {opens : List Open} (at : At code labels here kinds opens) (kinded : Kinded w.stack w.machine.height kinds) (looping : Looping code labels w.machine.loops opens) where
    outer_start : (byte : ℕ) → Opcode byte → is_outer byte ≡ true → get_or code here 0 ≡ byte → (slot : ℕ) → Steps code labels (outer w (eqb byte S_SAVE) slot)
    unfolding is_outer outer
    outer_start byte at_push_calldata t e slot = calldata_acts w labels lent main lab at inside less kinded looping slot e
    outer_start byte at_t_create t e slot = create_acts w labels lent main lab at inside less kinded looping slot e
    outer_start byte at_t_get_field t e slot = lone_get_acts w labels lent main lab at inside less kinded looping e
    outer_start byte at_t_set_field t e slot = lone_set_acts w labels lent main lab at inside less kinded looping e
    outer_start byte at_t_delete t e slot = delete_acts w labels lent main lab at inside less kinded looping slot e
    outer_start byte at_s_save t e slot = save_acts w labels lent main lab at inside less kinded looping e
    outer_start byte at_call t e slot = call_acts w labels lent main lab at inside less kinded looping e
    outer_start byte at_end_call t e slot = end_call_acts w labels lent main lab at inside less kinded looping slot e
    outer_start byte at_push_u32 t e slot = absurd (false≢true t)
    outer_start byte at_push_state t e slot = absurd (false≢true t)
    outer_start byte at_push_task_field t e slot = absurd (false≢true t)
    outer_start byte at_push_max_states t e slot = absurd (false≢true t)
    outer_start byte at_s_len t e slot = absurd (false≢true t)
    outer_start byte at_do t e slot = absurd (false≢true t)
    outer_start byte at_loop t e slot = absurd (false≢true t)
    outer_start byte at_loop_index t e slot = absurd (false≢true t)
    outer_start byte at_drop t e slot = absurd (false≢true t)
    outer_start byte at_dup t e slot = absurd (false≢true t)
    outer_start byte at_swap t e slot = absurd (false≢true t)
    outer_start byte at_eq t e slot = absurd (false≢true t)
    outer_start byte at_neq t e slot = absurd (false≢true t)
    outer_start byte at_lt t e slot = absurd (false≢true t)
    outer_start byte at_gt t e slot = absurd (false≢true t)
    outer_start byte at_jump_if_false t e slot = absurd (false≢true t)
    outer_start byte at_m_sti t e slot = absurd (false≢true t)
    outer_start byte at_m_st t e slot = absurd (false≢true t)
    outer_start byte at_m_muta t e slot = absurd (false≢true t)
    outer_start byte at_muli t e slot = absurd (false≢true t)
    outer_start byte at_mul t e slot = absurd (false≢true t)
    outer_start byte (at_unused unused) t e slot = absurd (true≢false (sym t ∙ unused.inner))

    inner_start : is_outer (get_or code here 0) ≡ false → Steps code labels (inner w)
    unfolding inner registers_of
    inner_start f = inner_steps w _ main (instruction_good code labels lab here w.machine.height w.machine.memory w.machine.count w.machine.loops w.stack w.memory lent at less kinded looping f)

    step_start : Steps code labels (step_by_parts w)
    unfolding step_by_parts op_at
    step_start =
        on_bool (is_outer (get_or code here 0))
        (λ t. rw t (outer_start (get_or code here 0) (opcode (get_or code here 0)) t refl _))
        (λ f. rw f (inner_start f))

  -- ---- in the middle of a joined element

  step_holds : Holds code labels here w.machine.height w.machine.loops w.stack → Steps code labels (step_by_parts w)
  unfolding step_by_parts op_at is_outer outer
  step_holds (starts at kinded looping) = step_start at kinded looping
  step_holds (middle there e is_get high few top fielded kinded at looping) = rw e (get_acts w labels lent main _ inside less e high few top fielded kinded at looping)
  step_holds (middle there e is_set high few top fielded kinded at looping) = rw e (set_acts w labels lent main _ inside less e high few top fielded kinded at looping)

-- a step in an admitted program keeps the invariant, or is refused with what admission leaves possible
pub step_good : {program : List ℕ} {labels : ℕ → Label} → Labelling program labels → length program ≤ 65535 → (w : World) → Stands program labels w → at_end w ≡ false → Steps program labels (step w)
step_good {program} {labels} lab short w stands inside =
    let runs : worlds.code w ≡ program = runs_program w stands.main in
    let main = subst (λ (c : List ℕ). Main c w.machine.frames w.machine.pool w.machine.entries w.pool w.ends) (sym runs) stands.main in
    let lab-here = subst (λ (c : List ℕ). Labelling c labels) (sym runs) lab in
    let short-here = subst (λ (c : List ℕ). length c ≤ 65535) (sym runs) short in
    let holds = subst (λ (c : List ℕ). Holds c labels (place w) w.machine.height w.machine.loops w.stack) (sym runs) stands.holds in
    subst (λ (a : StepResult). Steps program labels a) (step_is w)
    (subst (λ (c : List ℕ). Steps c labels (step_by_parts w)) runs (step_holds w labels stands.lent main lab-here short-here inside holds))
