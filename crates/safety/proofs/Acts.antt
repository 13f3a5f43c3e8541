-- Each instruction that needs a task, a frame or the pool, in a labelled program that runs in main.
use Prim.Native.Nat.{ℕ, suc, ◌+◌, ◌≤◌, ◌<◌}
use mathlib.Core.Path.{◌≡◌, refl, sym, subst}
use mathlib.Core.Bool.{false}
use mathlib.Core.List.{List, ◌∷◌}
use native.Mathlib.Omega.{arith}
use lib.Dec.{eqb}
use lib.ListN.{length, get_or}
use borrow.Author.Tests.{le-leb}
use Rattle.bytecode.specs.Opcodes.{PUSH_CALLDATA, PUSH_TASK_FIELD, T_CREATE, T_GET_FIELD, T_SET_FIELD, T_DELETE, S_SAVE, CALL, END_CALL, operand_size}
use Rattle.bytecode.specs.Operands.{behind, data_size}
use Rattle.values.specs.Values.{to_u32_val}
use Rattle.storage.specs.Tasks.{blank}
use Rattle.mechanism.specs.Registers.{moved}
use Rattle.mechanism.specs.Fields.{op_t_get_field, op_t_set_field}
use Rattle.mechanism.specs.declared.Change.{Change}
use Rattle.mechanism.specs.Registers.{registers_of}
use Rattle.mechanism.specs.Frames.{op_end_call}
use Rattle.mechanism.specs.Act.{keeping, OnAll, on_all, settled_by, created, tasked_by, created_by, on_task, on_frames, act_by, act_at, act}
use Rattle.mechanism.specs.Turns.{save_result}
use Rattle.machine.specs.World.{World, place, at_end}
use Rattle.machine.specs.World as worlds
use Rattle.mechanism.specs.Step.{acts_result, acted_at, acts, saves_result, saves}
use Rattle.machine.specs.Opcodes.{saving}
use Rattle.labels.specs.declared.Kind.{Kind}
use Rattle.labels.specs.declared.Kind.TheVariants.{Number, Calldata}
use Rattle.labels.specs.declared.Exchange.{Exchange}
use Rattle.labels.specs.declared.Exchange.TheVariants.{Unchanged, Adds, Takes, Creates}
use Rattle.labels.specs.declared.Element.TheVariants.{NoRule, Kinds}
use Rattle.labels.specs.Elements.{moving_element, plain_element, whole_element}
use Rattle.labels.specs.Labels.{Open, Label, Labelling}
use Rattle.safety.proofs.Kinded.{Kinded, lengths}
use Rattle.safety.proofs.Rules.{Shape, is_unchanged, is_adds}
use Rattle.safety.proofs.Holds.{FieldKind, registers_at, At, Looping, starts, Good, goes_on, may_end, GoodIn}
use Rattle.safety.proofs.Tasks.{GoodTasked, changes_to, may_refuse, create_good, delete_good, get_good, set_good}
use Rattle.safety.proofs.Places.{behind_get, behind_set, operands, extent_whole, instruction_whole, follows_op, no_rule, exchanges}
use Rattle.safety.proofs.Stands.{Main, Steps, steps_to, may_stop, settles}
use Rattle.safety.proofs.Saves.{SavesAs, is_saved, not_saved, table_saves}
use Rattle.safety.proofs.Calldata.{calldata_steps}
use Rattle.std.specs.Prelude.{Ok, Result}
use Rattle.errors.specs.declared.Refusal.{Refusal}
use Rattle.mechanism.specs.declared.Registers.{Registers}
use Rattle.machine.specs.declared.Machine.{Machine}
use Rattle.inlinevec.specs.declared.Two.{Two}
use Rattle.inlinevec.specs.declared.Loop as records
use Rattle.storage.specs.declared.Task.{Task}

module _ (w : World) (labels : ℕ → Label) (lent : length w.stack ≡ 1000) (main : Main (worlds.code w) w.machine.frames w.machine.pool w.machine.entries w.pool w.ends) where
  -- the code that runs, and what an instruction makes of everything lent
  abbrev code : List ℕ
  code = worlds.code w

  abbrev here : ℕ
  here = place w

  abbrev next : ℕ
  next = behind code here

  abbrev StepsBy : ℕ → OnAll → Type 0
  StepsBy slot after = Steps code labels (acts_result w slot after after.acted)

  -- ---- what an instruction's registers leave

  by_registers : {result : Result Registers Refusal} {stack : List ℕ} (slot : ℕ) (memory : List ℕ) → Good code labels result stack → StepsBy slot (on_all (keeping (settled_by w.machine result)) stack memory w.pool w.ends)
  unfolding acts_result settled_by keeping
  by_registers slot memory (goes_on {registers = registers} long holds) = steps_to (settles w.machine registers _ _ memory w.pool w.ends w.save long main holds)
  by_registers slot memory (may_end may) = may_stop may

  -- and with a change of the slot
  by_change : {place used next : ℕ} {loops : Two records.Loop} {task : Task} {result : Result (Registers × Change) Refusal} (slot : ℕ) → GoodTasked code labels place used next w.stack w.memory lent loops task result
      → StepsBy slot (on_all (tasked_by w.machine result) w.stack w.memory w.pool w.ends)
  unfolding acts_result tasked_by
  by_change slot (changes_to {registers = registers} long holds) = steps_to (settles w.machine registers _ _ w.memory w.pool w.ends w.save long main holds)
  by_change slot (may_refuse may) = may_stop may

  by_creation : {place used next : ℕ} {loops : Two records.Loop} {task : Task} {result : Result (Registers × Change) Refusal} (slot : ℕ) → GoodTasked code labels place used next w.stack w.memory lent loops task result
      → StepsBy slot (on_all (created_by w.machine result) w.stack w.memory w.pool w.ends)
  unfolding acts_result created_by created
  by_creation slot (changes_to {registers = registers} long holds) =
      let s = settles w.machine registers w.table w.stack w.memory w.pool w.ends w.save long main holds in
      steps_to (record { lent = s.lent; main = s.main; holds = s.holds })
  by_creation slot (may_refuse may) = may_stop may

  -- ---- the instruction at the place

  acted_is : (op slot : ℕ) → at_end w ≡ false → get_or code here 0 ≡ op → next ≤ length code
      → acted_at w slot ≡ on_frames w.stack w.memory w.pool w.ends w.machine (get_or w.table slot blank) op here next
  unfolding at_end act act_at act_by
  acted_is op slot inside e whole = simp (inside, extent_whole code here whole, e)

  by_acting : (op slot : ℕ) → at_end w ≡ false → get_or code here 0 ≡ op → next ≤ length code
      → StepsBy slot (on_frames w.stack w.memory w.pool w.ends w.machine (get_or w.table slot blank) op here next) → Steps code labels (acts w slot)
  unfolding acts
  by_acting op slot inside e whole steps = subst (StepsBy slot) (sym (acted_is op slot inside e whole)) steps

  -- ---- between the two instructions of a joined element

  pub get_acts : {h field : ℕ} {kind : Kind} {kinds : List Kind} {opens : List Open} (slot : ℕ) → at_end w ≡ false → here < length code → get_or code here 0 ≡ T_GET_FIELD → w.machine.height ≡ suc h → h < 1000
      → get_or w.stack h 0 ≡ to_u32_val field → FieldKind field kind → Kinded w.stack h (Number ∷ kinds) → At code labels (here + 1) (kind ∷ kinds) opens → Looping code labels w.machine.loops opens → Steps code labels (acts w slot)
  unfolding on_frames registers_of
  get_acts {h} {kind = kind} {kinds = kinds} {opens = opens} slot inside less e high few top fielded kinded at looping =
      let n : next ≡ here + 1 = behind_get code here e in
      let a : At code labels next (kind ∷ kinds) opens = subst (λ (i : ℕ). At code labels i (kind ∷ kinds) opens) (sym n) at in
      by_acting T_GET_FIELD slot inside e (omega arith)
      (by_registers slot _ (subst (λ (k : ℕ). GoodIn code labels (op_t_get_field w.stack w.memory (registers_at here k w.machine.loops w.machine.memory) next (get_or w.table slot blank))) (sym high)
      (get_good code labels here w.machine.memory next w.stack w.memory lent w.machine.loops (get_or w.table slot blank) few top fielded a kinded looping)))

  pub set_acts : {h field : ℕ} {kind : Kind} {kinds : List Kind} {opens : List Open} (slot : ℕ) → at_end w ≡ false → here < length code → get_or code here 0 ≡ T_SET_FIELD → w.machine.height ≡ suc h → h < 1000
      → get_or w.stack h 0 ≡ to_u32_val field → FieldKind field kind → Kinded w.stack h (Number ∷ kind ∷ kinds) → At code labels (here + 1) kinds opens → Looping code labels w.machine.loops opens → Steps code labels (acts w slot)
  unfolding on_frames on_task tasked_by registers_of
  set_acts {h} {kinds = kinds} {opens = opens} slot inside less e high few top fielded kinded at looping =
      let n : next ≡ here + 1 = behind_set code here e in
      let a : At code labels next kinds opens = subst (λ (i : ℕ). At code labels i kinds opens) (sym n) at in
      by_acting T_SET_FIELD slot inside e (omega arith)
      (by_change slot (subst (λ (k : ℕ). GoodTasked code labels here w.machine.memory next w.stack w.memory lent w.machine.loops (get_or w.table slot blank) (op_t_set_field w.stack w.memory (registers_at here k w.machine.loops w.machine.memory) next (get_or w.table slot blank))) (sym high)
      (set_good code labels here w.machine.memory next w.stack w.memory lent w.machine.loops (get_or w.table slot blank) few top fielded a kinded looping)))

  -- ---- at an element's start

  module _ (lab : Labelling code labels) {kinds : List Kind} {opens : List Open} (at : At code labels here kinds opens) (inside : at_end w ≡ false) (less : here < length code)
      (kinded : Kinded w.stack w.machine.height kinds) (looping : Looping code labels w.machine.loops opens) where
    whole_here : next ≤ length code
    whole_here = instruction_whole code labels lab at less

    few : w.machine.height ≤ 1000
    few = omega (arith, lengths kinded, at.few_kinds)

    by_kinds : {A : Type 0} (op : ℕ) (exchange : Exchange) → get_or code here 0 ≡ op → eqb op PUSH_TASK_FIELD ≡ false → whole_element code here op ≡ Kinds exchange
        → ((left : List Kind) → Shape exchange kinds left → At code labels next left opens → A) → A
    by_kinds op exchange e alone f then = exchanges code labels lab at less (follows_op code labels lab at less op (Kinds exchange) e alone f) then

    without_rule : {A : Type 0} (op : ℕ) → get_or code here 0 ≡ op → eqb op PUSH_TASK_FIELD ≡ false → whole_element code here op ≡ NoRule → A
    without_rule op e alone f = no_rule code labels lab at less (follows_op code labels lab at less op NoRule e alone f)

    pub create_acts : (slot : ℕ) → get_or code here 0 ≡ T_CREATE → Steps code labels (acts w slot)
    unfolding on_frames on_task created_by registers_of whole_element plain_element
    create_acts slot e = by_kinds T_CREATE Creates e refl refl (λ left s a. by_acting T_CREATE slot inside e whole_here
        (by_creation slot (create_good code labels here w.machine.memory next w.stack w.memory lent w.machine.loops (get_or w.table slot blank) w.machine.next_id.0 few s a kinded looping)))

    pub delete_acts : (slot : ℕ) → get_or code here 0 ≡ T_DELETE → Steps code labels (acts w slot)
    unfolding on_frames on_task tasked_by registers_of whole_element plain_element
    delete_acts slot e = by_kinds T_DELETE (Takes Number) e refl refl (λ left s a. by_acting T_DELETE slot inside e whole_here
        (by_change slot (delete_good code labels here w.machine.memory next w.stack w.memory lent w.machine.loops (get_or w.table slot blank) few s a kinded looping)))

    -- kinds that stay
    unchanged : {before left : List Kind} → Shape Unchanged before left → Kinded w.stack w.machine.height before → Kinded w.stack w.machine.height left
    unchanged is_unchanged k = k

    -- END_CALL in main
    end_call_is : op_end_call w.machine next ≡ settled_by w.machine (Ok (registers_at next w.machine.height w.machine.loops w.machine.memory))
    unfolding op_end_call settled_by registers_of
    end_call_is = simp (le-leb w.machine.frames.count 1 (omega (arith, main.one_frame)))

    pub end_call_acts : (slot : ℕ) → get_or code here 0 ≡ END_CALL → Steps code labels (acts w slot)
    unfolding on_frames whole_element plain_element moving_element
    end_call_acts slot e = by_kinds END_CALL Unchanged e refl refl (λ left s a. by_acting END_CALL slot inside e whole_here
        (subst (λ (result : Result Machine Refusal). StepsBy slot (on_all (keeping result) w.stack w.memory w.pool w.ends)) (sym end_call_is)
        (by_registers slot w.memory (goes_on lent (starts a (unchanged s kinded) looping)))))

    -- PUSH_CALLDATA
    calldata_added : {left : List Kind} (slot : ℕ) → get_or code here 0 ≡ PUSH_CALLDATA → Shape (Adds Calldata) kinds left → At code labels next left opens
        → StepsBy slot (on_frames w.stack w.memory w.pool w.ends w.machine (get_or w.table slot blank) PUSH_CALLDATA here next)
    unfolding on_frames operand_size
    calldata_added slot e s a = by s kinded a
      where
        by : {before left : List Kind} → Shape (Adds Calldata) before left → Kinded w.stack w.machine.height before → At code labels next left opens
            → StepsBy slot (on_frames w.stack w.memory w.pool w.ends w.machine (get_or w.table slot blank) PUSH_CALLDATA here next)
        by is_adds k b = calldata_steps w labels lent main slot next (get_or w.table slot blank) b k looping (omega (arith, operands code here PUSH_CALLDATA e whole_here))

    pub calldata_acts : (slot : ℕ) → get_or code here 0 ≡ PUSH_CALLDATA → Steps code labels (acts w slot)
    unfolding whole_element
    calldata_acts slot e = by_kinds PUSH_CALLDATA (Adds Calldata) e refl refl (λ left s a. by_acting PUSH_CALLDATA slot inside e whole_here (calldata_added slot e s a))

    -- CALL, a lone T_GET_FIELD and a lone T_SET_FIELD have no rule
    pub call_acts : {A : Type 0} → get_or code here 0 ≡ CALL → A
    unfolding whole_element plain_element moving_element
    call_acts e = without_rule CALL e refl refl

    pub lone_get_acts : {A : Type 0} → get_or code here 0 ≡ T_GET_FIELD → A
    unfolding whole_element plain_element moving_element
    lone_get_acts e = without_rule T_GET_FIELD e refl refl

    pub lone_set_acts : {A : Type 0} → get_or code here 0 ≡ T_SET_FIELD → A
    unfolding whole_element plain_element moving_element
    lone_set_acts e = without_rule T_SET_FIELD e refl refl

    -- S_SAVE
    saved_steps : {answer : Result ℕ Refusal} {left : List Kind} (save : List ℕ) → here + 1 ≡ next → Shape Unchanged kinds left → At code labels next left opens → SavesAs answer
        → Steps code labels (saves_result w save (save_result w.machine answer))
    unfolding saves_result save_result registers_of
    saved_steps {left = left} save n s a is_saved =
        let b : At code labels (here + 1) left opens = subst (λ (i : ℕ). At code labels i left opens) (sym n) a in
        let t = settles w.machine (moved (registers_of w.machine) (here + 1) w.machine.height) w.table w.stack w.memory w.pool w.ends save lent main (starts b (unchanged s kinded) looping) in
        steps_to (record { lent = t.lent; main = t.main; holds = t.holds })
    saved_steps save n s a (not_saved may) = may_stop may

    behind_save : get_or code here 0 ≡ S_SAVE → here + 1 ≡ next
    unfolding behind operand_size data_size
    behind_save e = rw e (omega arith)

    pub save_acts : get_or code here 0 ≡ S_SAVE → Steps code labels (saves w)
    unfolding saves whole_element plain_element moving_element
    save_acts e =
        by_kinds S_SAVE Unchanged e refl refl (λ left s a. saved_steps (saving w).save (behind_save e) s a
        (table_saves w.machine.next_id.0 w.table w.pool w.ends w.machine.entries w.save))
