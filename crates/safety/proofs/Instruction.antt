-- Each instruction that needs no task, frame or pool, at an element's start of a labelled program.
use Prim.Native.Nat.{ℕ, ◌+◌, ◌%◌, ◌≤◌, ◌<◌}
use mathlib.Core.Path.{◌≡◌, refl, ap, ◌∙◌, subst}
use mathlib.Core.Bool.{true, false, ◌||◌, true≢false}
use mathlib.Core.List.{List, ◌∷◌}
use mathlib.Core.Logic.{⊎_elim}
use mathlib.Core.Option.{some}
use native.Mathlib.Numerals.{add-one}
use native.Mathlib.Omega.{arith}
use lib.Dec.{eqb}
use lib.ListN.{length, get_or, length-set}
use lib.Seq.{get_or-set_same}
use borrow.Author.Tests.{eqb-true, lt-ltb}
use Rattle.bytecode.specs.Opcodes.{PUSH_U32, PUSH_STATE, PUSH_TASK_FIELD, PUSH_MAX_STATES, T_GET_FIELD, T_SET_FIELD, S_LEN, DO, LOOP, LOOP_INDEX, DROP, DUP, SWAP, EQ, NEQ, LT, GT, JUMP_IF_FALSE, M_STI, M_ST, M_MUTA, MULI, MUL, operand_size}
use Rattle.bytecode.specs.Operands.{big_endian, operand, behind}
use Rattle.values.specs.Values.{to_u32_val}
use Rattle.inlinevec.specs.Stacks.{if_room, push}
use Rattle.mechanism.specs.Registers.{on_memory, moved}
use Rattle.mechanism.specs.Stack.{pushed_to, push_value, op_push}
use Rattle.mechanism.specs.declared.Registers.{Registers}
use Rattle.mechanism.specs.Operated.{with_operand, push_u32, push_u8, muli, jump_if_false, m_st, payload_of, m_sti_of, m_sti}
use Rattle.mechanism.specs.Execute.{plain, operated, is_equality, execute, by_extent, instruct}
use Rattle.mechanism.specs.Steps.{is_outer}
use Rattle.labels.specs.declared.Kind.{Kind}
use Rattle.labels.specs.declared.Kind.TheVariants.{Number, Boolean}
use Rattle.labels.specs.declared.Exchange.{Exchange}
use Rattle.labels.specs.declared.Exchange.TheVariants.{Unchanged, Adds, Turns, Joins, Gets, Sets, Dup, Swap, Drop, Compares, Changes}
use Rattle.labels.specs.declared.Element.TheVariants.{NoRule, Kinds, Do, Loop, LoopIndex, JumpIfFalse}
use Rattle.labels.specs.Elements.{joined, element_end, tag_kind, field_kind, with_kind, field_element, jump_element, moving_element, plain_element, whole_element, element}
use Rattle.labels.specs.Labels.{Open, opened, Label, kinds_after, loops_after, Labelling}
use Rattle.safety.proofs.Kinded.{Kinded, lengths, kept_below}
use Rattle.safety.proofs.Rules.{on_bool, Shape, is_unchanged, is_adds, is_gets, is_sets, two_numbers, one_bool}
use Rattle.safety.proofs.Holds.{FieldKind, Second, is_get, is_set, registers_at, At, Looping, starts, middle, goes_on, GoodOn, GoodIn}
use Rattle.safety.proofs.Stack.{number_good, mul_good, muli_good, compare_good, equality_good, dup_good, swap_good, drop_good, jump_good, do_good, loop_good, loop_index_good}
use Rattle.safety.proofs.Store.{TagKind, is_text, is_numbers, store_good, m_st_good, m_muta_good}
use Rattle.safety.proofs.Opcodes.{Unused, Opcode, at_push_u32, at_push_state, at_push_calldata, at_push_task_field, at_push_max_states, at_t_create, at_t_get_field, at_t_set_field, at_t_delete, at_s_save, at_s_len, at_do, at_loop, at_loop_index, at_call, at_end_call, at_drop, at_dup, at_swap, at_eq, at_neq, at_lt, at_gt, at_jump_if_false, at_m_sti, at_m_st, at_m_muta, at_muli, at_mul, at_unused, opcode}
use Rattle.safety.proofs.Places.{one_byte, operand_there, tags, fields, behind_field, operands, after_alone, extent_whole, element_whole, whole, instruction_whole, follows, follows_op, no_rule, exchanges}
use Rattle.std.specs.Prelude.{Ok, Some, None}
use Rattle.inlinevec.specs.declared.Loop as records
use Rattle.inlinevec.specs.declared.Two.{Two}

-- the tag of a vector is below 256
tag_wrapped : {tag : ℕ} {kind : Kind} → TagKind tag kind → tag % 256 ≡ tag
tag_wrapped is_text = refl
tag_wrapped is_numbers = refl

-- the fields of a joined element
data Joined (field : ℕ) (kinds left : List Kind) : ℕ → Type 0 where
  joins : {op : ℕ} {kind : Kind} {before : List Kind} → FieldKind field kind → kinds ≡ before → Second op kind before left → length kinds < 1000 → Joined field kinds left op

gets_joined : {kind : Kind} {kinds left : List Kind} (field : ℕ) → FieldKind field kind → Shape (Gets kind) kinds left → Joined field kinds left T_GET_FIELD
gets_joined field fielded (is_gets few) = joins fielded refl is_get few

sets_joined : {kind : Kind} {kinds left : List Kind} (field : ℕ) → FieldKind field kind → Shape (Sets kind) kinds left → Joined field kinds left T_SET_FIELD
sets_joined field fielded (is_sets few) = joins fielded refl is_set few

module _ (code : List ℕ) (labels : ℕ → Label) (lab : Labelling code labels) (place height used count : ℕ) (loops : Two records.Loop) (stack memory : List ℕ) (lent : length stack ≡ 1000)
    {kinds : List Kind} {opens : List Open} (at : At code labels place kinds opens) (inside : place < length code) (kinded : Kinded stack height kinds) (looping : Looping code labels loops opens) where
  -- the registers, and the place behind the instruction
  abbrev now : Registers
  now = registers_at place height loops used

  abbrev next : ℕ
  next = behind code place

  -- what is to be shown of an opcode that stands at the place
  abbrev Goal : ℕ → Type 0
  Goal op = get_or code place 0 ≡ op → GoodIn code labels (execute stack memory code now next op count)

  few : height ≤ 1000
  few = omega (arith, lengths kinded, at.few_kinds)

  -- the operand behind the opcode
  operand_is : (op size : ℕ) → get_or code place 0 ≡ op → operand_size op ≡ size → operand size code (place + 1) ≡ Ok (big_endian size code (place + 1))
  operand_is op size e s = operand_there size code (place + 1) (subst (λ (n : ℕ). place + 1 + n ≤ length code) s (operands code place op e (instruction_whole code labels lab at inside)))

  -- an opcode whose element exchanges kinds
  by_kinds : {A : Type 0} (op : ℕ) (exchange : Exchange) → get_or code place 0 ≡ op → eqb op PUSH_TASK_FIELD ≡ false → whole_element code place op ≡ Kinds exchange
      → ((left : List Kind) → Shape exchange kinds left → At code labels next left opens → A) → A
  by_kinds op exchange e alone f then = exchanges code labels lab at inside (follows_op code labels lab at inside op (Kinds exchange) e alone f) then

  -- ---- opcodes without operands

  mul_at : Goal MUL
  unfolding execute is_equality operated plain whole_element plain_element
  mul_at e = by_kinds MUL (Joins Number) e refl refl (λ left s a. mul_good code labels place used next stack lent few s a kinded looping)

  lt_at : Goal LT
  unfolding execute is_equality operated plain whole_element plain_element
  lt_at e = by_kinds LT (Joins Boolean) e refl refl (λ left s a. compare_good code labels place used next stack lent true few s a kinded looping)

  gt_at : Goal GT
  unfolding execute is_equality operated plain whole_element plain_element
  gt_at e = by_kinds GT (Joins Boolean) e refl refl (λ left s a. compare_good code labels place used next stack lent false few s a kinded looping)

  eq_at : Goal EQ
  unfolding execute is_equality whole_element plain_element
  eq_at e = by_kinds EQ Compares e refl refl (λ left s a. equality_good code labels place used next stack lent memory true few s a kinded looping)

  neq_at : Goal NEQ
  unfolding execute is_equality whole_element plain_element
  neq_at e = by_kinds NEQ Compares e refl refl (λ left s a. equality_good code labels place used next stack lent memory false few s a kinded looping)

  dup_at : Goal DUP
  unfolding execute is_equality operated plain whole_element plain_element moving_element
  dup_at e = by_kinds DUP Dup e refl refl (λ left s a. dup_good code labels place used next stack lent few s a kinded looping)

  swap_at : Goal SWAP
  unfolding execute is_equality operated plain whole_element plain_element moving_element
  swap_at e = by_kinds SWAP Swap e refl refl (λ left s a. swap_good code labels place used next stack lent few s a kinded looping)

  drop_at : Goal DROP
  unfolding execute is_equality operated plain whole_element plain_element moving_element
  drop_at e = by_kinds DROP Drop e refl refl (λ left s a. drop_good code labels place used next stack lent few s a kinded looping)

  s_len_at : Goal S_LEN
  unfolding execute is_equality operated plain whole_element plain_element
  s_len_at e = by_kinds S_LEN (Adds Number) e refl refl (λ left s a. number_good code labels place used next stack lent count s a kinded looping)

  m_muta_at : Goal M_MUTA
  unfolding execute is_equality whole_element plain_element
  m_muta_at e = by_kinds M_MUTA Changes e refl refl (λ left s a. m_muta_good code labels next stack memory lent place used loops few s a kinded looping)

  unchanged : {left : List Kind} → Shape Unchanged kinds left → At code labels next left opens → GoodIn code labels (on_memory (Ok (moved now next height)) stack memory)
  unchanged s a = goes_on lent (starts a (same s kinded) looping)
    where
      same : {before left : List Kind} → Shape Unchanged before left → Kinded stack height before → Kinded stack height left
      same is_unchanged k = k

  unused_at : (op : ℕ) → Unused op → Goal op
  unused_at op u e = rw (u.executes stack memory code now next count) (by_kinds op Unchanged e u.alone (u.element_is code place) (λ left s a. unchanged s a))

  -- ---- loops

  do_at : Goal DO
  unfolding execute is_equality operated plain whole_element plain_element moving_element kinds_after loops_after
  do_at e =
      let f = follows_op code labels lab at inside DO Do e refl refl in
      let g = f.rule_gave in
      let same : some (opened next g.left ∷ opens) ≡ some g.opens = g.loops_are in
      let loops_are : g.opens ≡ opened next g.left ∷ opens = cc in
      do_good code labels place used next stack lent few (subst (λ (o : List Open). At code labels next g.left o) loops_are f.at_next) (subst (Kinded stack height) (two_numbers kinds g.left g.kinds_are) kinded) looping

  loop_at : Goal LOOP
  unfolding execute is_equality operated plain whole_element plain_element moving_element kinds_after loops_after
  loop_at e =
      let f = follows_op code labels lab at inside LOOP Loop e refl refl in
      let g = f.rule_gave in
      let same : some kinds ≡ some g.left = g.kinds_are in
      let kinds_are : kinds ≡ g.left = cc in
      loop_good code labels place used next stack lent g.loops_are f.at_next (subst (Kinded stack height) kinds_are kinded) looping

  loop_index_at : Goal LOOP_INDEX
  unfolding execute is_equality operated plain whole_element plain_element moving_element kinds_after loops_after
  loop_index_at e =
      let f = follows_op code labels lab at inside LOOP_INDEX LoopIndex e refl refl in
      let g = f.rule_gave in
      let same : some (Number ∷ kinds) ≡ some g.left = g.kinds_are in
      let kinds_are : g.left ≡ Number ∷ kinds = cc in
      loop_index_good code labels place used next stack lent g.loops_are (subst (λ (k : List Kind). At code labels next k g.opens) kinds_are f.at_next) kinded looping

  -- ---- opcodes with operands

  push_u32_at : Goal PUSH_U32
  unfolding execute is_equality operated push_u32 with_operand operand_size whole_element
  push_u32_at e =
      rw (operand_is PUSH_U32 4 e refl) (by_kinds PUSH_U32 (Adds Number) e refl refl (λ left s a. number_good code labels place used next stack lent (big_endian 4 code (place + 1)) s a kinded looping))

  push_state_at : Goal PUSH_STATE
  unfolding execute is_equality operated push_u8 with_operand operand_size whole_element
  push_state_at e =
      rw (operand_is PUSH_STATE 1 e refl) (by_kinds PUSH_STATE (Adds Number) e refl refl (λ left s a. number_good code labels place used next stack lent (big_endian 1 code (place + 1)) s a kinded looping))

  push_max_states_at : Goal PUSH_MAX_STATES
  unfolding execute is_equality operated push_u8 with_operand operand_size whole_element
  push_max_states_at e =
      rw (operand_is PUSH_MAX_STATES 1 e refl) (by_kinds PUSH_MAX_STATES (Adds Number) e refl refl (λ left s a. number_good code labels place used next stack lent (big_endian 1 code (place + 1)) s a kinded looping))

  muli_at : Goal MULI
  unfolding execute is_equality operated muli with_operand operand_size whole_element
  muli_at e =
      rw (operand_is MULI 4 e refl) (by_kinds MULI (Turns Number Number) e refl refl (λ left s a. muli_good code labels place used next stack lent (big_endian 4 code (place + 1)) few s a kinded looping))

  -- JUMP_IF_FALSE
  abbrev target : ℕ
  target = big_endian 4 code (place + 1)

  jump_element_is : get_or code place 0 ≡ JUMP_IF_FALSE → whole_element code place JUMP_IF_FALSE ≡ JumpIfFalse target
  unfolding whole_element jump_element operand_size
  jump_element_is e = rw (operand_is JUMP_IF_FALSE 4 e refl)

  -- the target has the label behind the jump
  at_target : {left : List Kind} → get_or code place 0 ≡ JUMP_IF_FALSE → At code labels next left opens → At code labels target left opens
  at_target e a =
      let f : element code place ≡ JumpIfFalse target = element_whole code place (whole code labels lab at inside) ∙ ap (whole_element code place) e ∙ jump_element_is e in
      let j = lab.jumps place target at.start inside f in
      let n : element_end code place ≡ next = after_alone code place (ap (λ (b : ℕ). eqb b PUSH_TASK_FIELD) e) in
      record { start = j.0; label_is = j.1 ∙ ap labels n ∙ a.label_is; few_kinds = a.few_kinds; few_loops = a.few_loops }

  jump_at : Goal JUMP_IF_FALSE
  unfolding execute is_equality operated jump_if_false with_operand operand_size kinds_after loops_after
  jump_at e =
      let f = follows_op code labels lab at inside JUMP_IF_FALSE (JumpIfFalse target) e refl (jump_element_is e) in
      let g = f.rule_gave in
      let same : some opens ≡ some g.opens = g.loops_are in
      let loops_are : g.opens ≡ opens = cc in
      let a : At code labels next g.left opens = subst (λ (o : List Open). At code labels next g.left o) loops_are f.at_next in
      rw (operand_is JUMP_IF_FALSE 4 e refl)
      (jump_good code labels place used next stack lent target few a (at_target e a) (subst (Kinded stack height) (one_bool kinds g.left g.kinds_are) kinded) looping)

  -- M_ST
  abbrev st_tag : ℕ
  st_tag = get_or code (place + 1) 0

  m_st_known : (kind : Kind) → TagKind st_tag kind → tag_kind st_tag ≡ Some kind → Goal M_ST
  unfolding execute is_equality m_st with_operand operand_size whole_element with_kind
  m_st_known kind tagged known e =
      rw (operand_is M_ST 1 e refl, one_byte code (place + 1), tag_wrapped tagged)
      (by_kinds M_ST (Turns Number kind) e refl (rw known) (λ left s a. m_st_good code labels next stack memory lent place used loops few tagged s a kinded looping))

  m_st_at : Goal M_ST
  unfolding whole_element with_kind
  m_st_at e =
      ⊎_elim (λ unknown. no_rule code labels lab at inside (follows_op code labels lab at inside M_ST NoRule e refl (rw unknown)))
      (λ found. m_st_known found.0 found.1 found.2 e) (tags st_tag)

  -- M_STI
  abbrev sti_tag : ℕ
  sti_tag = get_or code (place + 3) 0

  sti_operand : (ahead size : ℕ) → ahead + size ≤ 5 → get_or code place 0 ≡ M_STI → operand size code (place + ahead) ≡ Ok (big_endian size code (place + ahead))
  unfolding operand_size
  sti_operand ahead size short e = operand_there size code (place + ahead) (omega (arith, operands code place M_STI e (instruction_whole code labels lab at inside)))

  sti_store : {kind : Kind} {before left : List Kind} (size signal : ℕ) → TagKind sti_tag kind → Shape (Adds kind) before left → At code labels next left opens → Kinded stack height before
      → GoodIn code labels (m_sti_of stack memory code now next size sti_tag signal)
  unfolding m_sti_of
  sti_store size signal tagged is_adds a k = rw (tag_wrapped tagged) (store_good code labels next stack memory lent now (payload_of code place size signal) (size % 65536) tagged a k looping)

  m_sti_known : (kind : Kind) → TagKind sti_tag kind → tag_kind sti_tag ≡ Some kind → Goal M_STI
  unfolding execute is_equality m_sti with_operand whole_element with_kind
  m_sti_known kind tagged known e =
      rw (sti_operand 1 2 (omega arith) e, sti_operand 3 1 (omega arith) e, sti_operand 4 1 (omega arith) e, one_byte code (place + 3))
      (by_kinds M_STI (Adds kind) e refl (rw known) (λ left s a. sti_store (big_endian 2 code (place + 1)) (big_endian 1 code (place + 4)) tagged s a kinded))

  m_sti_at : Goal M_STI
  unfolding whole_element with_kind
  m_sti_at e =
      ⊎_elim (λ unknown. no_rule code labels lab at inside (follows_op code labels lab at inside M_STI NoRule e refl (rw unknown)))
      (λ found. m_sti_known found.0 found.1 found.2 e) (tags sti_tag)

  -- ---- PUSH_TASK_FIELD, lone or joined to the byte behind it

  abbrev field : ℕ
  field = get_or code (place + 1) 0

  abbrev second : ℕ
  second = get_or code (place + 2) 0

  field_element_is : get_or code place 0 ≡ PUSH_TASK_FIELD → element code place ≡ field_element code place
  unfolding whole_element
  field_element_is e = element_whole code place (whole code labels lab at inside) ∙ ap (whole_element code place) e

  -- joined: the field is pushed, and the machine stands before the second instruction
  joined_good : {op : ℕ} {left : List Kind} → get_or code place 0 ≡ PUSH_TASK_FIELD → second ≡ op → place + 3 ≤ length code → Joined field kinds left op → At code labels (place + 3) left opens → GoodOn code labels (op_push stack now next field)
  unfolding op_push push_value push if_room pushed_to
  joined_good {op} {left} e c there (joins fielded same half room) a =
      let n : next ≡ place + 2 = behind_field code place e in
      let less : height < 1000 = omega (arith, lengths kinded) in
      let more : place + 3 ≡ next + 1 = omega arith in
      let within : next < length code = omega arith in
      simp (lt-ltb height 1000 less)
      (goes_on (length-set stack height (to_u32_val field) ∙ lent)
      (middle within (ap (λ (i : ℕ). get_or code i 0) n ∙ c) half (add-one height) less (get_or-set_same stack height (to_u32_val field) 0 (omega arith)) fielded
      (kept_below height (to_u32_val field) (omega arith) (subst (Kinded stack height) same kinded)) (subst (λ (i : ℕ). At code labels i left opens) more a) looping))

  after_joined : get_or code place 0 ≡ PUSH_TASK_FIELD → (eqb second T_GET_FIELD || eqb second T_SET_FIELD) ≡ true → element_end code place ≡ place + 3
  unfolding element_end joined
  after_joined e t = rw (e, t)

  after_lone : get_or code place 0 ≡ PUSH_TASK_FIELD → (eqb second T_GET_FIELD || eqb second T_SET_FIELD) ≡ false → element_end code place ≡ next
  unfolding element_end joined
  after_lone e t = rw (e, t)

  within_joined : get_or code place 0 ≡ PUSH_TASK_FIELD → (eqb second T_GET_FIELD || eqb second T_SET_FIELD) ≡ true → place + 3 ≤ length code
  within_joined e t = rw (after_joined e t) at (whole code labels lab at inside)

  -- before T_GET_FIELD
  get_known : (kind : Kind) → FieldKind field kind → field_kind field ≡ Some kind → eqb second T_GET_FIELD ≡ true → get_or code place 0 ≡ PUSH_TASK_FIELD → GoodOn code labels (op_push stack now next field)
  unfolding field_element with_kind
  get_known kind fielded known t e =
      let joined_to : (eqb second T_GET_FIELD || eqb second T_SET_FIELD) ≡ true = rw t in
      exchanges code labels lab at inside (follows code labels lab at inside (Kinds (Gets kind)) (place + 3) (field_element_is e ∙ rw (t, known)) (after_joined e joined_to))
      (λ left s a. joined_good e (eqb-true second T_GET_FIELD t) (within_joined e joined_to) (gets_joined field fielded s) a)

  get_unknown : field_kind field ≡ None → eqb second T_GET_FIELD ≡ true → get_or code place 0 ≡ PUSH_TASK_FIELD → GoodOn code labels (op_push stack now next field)
  unfolding field_element with_kind
  get_unknown unknown t e =
      no_rule code labels lab at inside (follows code labels lab at inside NoRule (place + 3) (field_element_is e ∙ rw (t, unknown)) (after_joined e (rw t)))

  -- before T_SET_FIELD
  set_known : (kind : Kind) → FieldKind field kind → field_kind field ≡ Some kind → eqb second T_GET_FIELD ≡ false → eqb second T_SET_FIELD ≡ true → get_or code place 0 ≡ PUSH_TASK_FIELD → GoodOn code labels (op_push stack now next field)
  unfolding field_element with_kind
  set_known kind fielded known f t e =
      let joined_to : (eqb second T_GET_FIELD || eqb second T_SET_FIELD) ≡ true = rw (f, t) in
      exchanges code labels lab at inside (follows code labels lab at inside (Kinds (Sets kind)) (place + 3) (field_element_is e ∙ rw (f, t, known)) (after_joined e joined_to))
      (λ left s a. joined_good e (eqb-true second T_SET_FIELD t) (within_joined e joined_to) (sets_joined field fielded s) a)

  set_unknown : field_kind field ≡ None → eqb second T_GET_FIELD ≡ false → eqb second T_SET_FIELD ≡ true → get_or code place 0 ≡ PUSH_TASK_FIELD → GoodOn code labels (op_push stack now next field)
  unfolding field_element with_kind
  set_unknown unknown f t e =
      no_rule code labels lab at inside (follows code labels lab at inside NoRule (place + 3) (field_element_is e ∙ rw (f, t, unknown)) (after_joined e (rw (f, t))))

  -- before any other byte, or at the end
  lone_good : eqb second T_GET_FIELD ≡ false → eqb second T_SET_FIELD ≡ false → get_or code place 0 ≡ PUSH_TASK_FIELD → GoodOn code labels (op_push stack now next field)
  unfolding field_element
  lone_good f g e =
      exchanges code labels lab at inside (follows code labels lab at inside (Kinds (Adds Number)) next (field_element_is e ∙ rw (f, g)) (after_lone e (rw (f, g))))
      (λ left s a. number_good code labels place used next stack lent field s a kinded looping)

  field_good : get_or code place 0 ≡ PUSH_TASK_FIELD → GoodOn code labels (op_push stack now next field)
  field_good e =
      on_bool (eqb second T_GET_FIELD)
      (λ t. ⊎_elim (λ unknown. get_unknown unknown t e) (λ found. get_known found.0 found.1 found.2 t e) (fields field))
      (λ f. on_bool (eqb second T_SET_FIELD)
      (λ t. ⊎_elim (λ unknown. set_unknown unknown f t e) (λ found. set_known found.0 found.1 found.2 f t e) (fields field))
      (λ g. lone_good f g e))

  field_at : Goal PUSH_TASK_FIELD
  unfolding execute is_equality operated push_u8 with_operand operand_size
  field_at e = rw (operand_is PUSH_TASK_FIELD 1 e refl, one_byte code (place + 1)) (field_good e)

  -- ---- every opcode that needs no task, frame or pool

  inner_at : (op : ℕ) → Opcode op → is_outer op ≡ false → Goal op
  unfolding is_outer
  inner_at op at_push_u32 inner = push_u32_at
  inner_at op at_push_state inner = push_state_at
  inner_at op at_push_calldata inner = absurd (true≢false inner)
  inner_at op at_push_task_field inner = field_at
  inner_at op at_push_max_states inner = push_max_states_at
  inner_at op at_t_create inner = absurd (true≢false inner)
  inner_at op at_t_get_field inner = absurd (true≢false inner)
  inner_at op at_t_set_field inner = absurd (true≢false inner)
  inner_at op at_t_delete inner = absurd (true≢false inner)
  inner_at op at_s_save inner = absurd (true≢false inner)
  inner_at op at_s_len inner = s_len_at
  inner_at op at_do inner = do_at
  inner_at op at_loop inner = loop_at
  inner_at op at_loop_index inner = loop_index_at
  inner_at op at_call inner = absurd (true≢false inner)
  inner_at op at_end_call inner = absurd (true≢false inner)
  inner_at op at_drop inner = drop_at
  inner_at op at_dup inner = dup_at
  inner_at op at_swap inner = swap_at
  inner_at op at_eq inner = eq_at
  inner_at op at_neq inner = neq_at
  inner_at op at_lt inner = lt_at
  inner_at op at_gt inner = gt_at
  inner_at op at_jump_if_false inner = jump_at
  inner_at op at_m_sti inner = m_sti_at
  inner_at op at_m_st inner = m_st_at
  inner_at op at_m_muta inner = m_muta_at
  inner_at op at_muli inner = muli_at
  inner_at op at_mul inner = mul_at
  inner_at op (at_unused unused) inner = unused_at op unused

  -- the instruction at the place
  pub instruction_good : is_outer (get_or code place 0) ≡ false → GoodIn code labels (instruct stack memory code now count)
  unfolding instruct by_extent
  instruction_good inner =
      rw (extent_whole code place (instruction_whole code labels lab at inside)) (inner_at (get_or code place 0) (opcode (get_or code place 0)) inner refl)
