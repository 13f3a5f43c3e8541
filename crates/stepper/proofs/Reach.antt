-- The instruction at the place by what stands behind its opcode is the one by the table of operand sizes.
use Prim.Native.Nat.{ℕ, ◌+◌, ◌<◌, ◌≤◌}
use mathlib.Core.Bool.{Bool, true, false, cond, ◌||◌}
use mathlib.Core.List.{List, [], ◌∷◌}
use mathlib.Core.Path.{◌≡◌, refl, sym, ap, subst, ◌∙◌}
use native.Mathlib.Decide.{dec_le, ℕ_discrete}
use native.Mathlib.Omega.{arith}
use lib.Dec.{eqb, ltb}
use lib.ListN.{get_or, length}
use borrow.Author.Tests.{eqb-true, eqb-false, ltb-true, le-leb, lt-leb}
use Rattle.errors.specs.declared.Refusal.TheVariants.{UnexpectedEOB}
use Rattle.bytecode.specs.Opcodes.{PUSH_U32, PUSH_STATE, PUSH_CALLDATA, PUSH_TASK_FIELD, PUSH_MAX_STATES, S_LEN, DO, LOOP, LOOP_INDEX, DROP, DUP, SWAP, EQ, NEQ, LT, GT, JUMP_IF_FALSE, M_STI, MULI, MUL, operand_size}
use Rattle.bytecode.specs.Operands.{operand, data_size, behind, extent}
use Rattle.mechanism.specs.Registers.{OnStack, on_stack, on_memory}
use Rattle.mechanism.specs.Control.{op_jump_if_false}
use Rattle.mechanism.specs.Equality.{op_eq}
use Rattle.mechanism.specs.declared.Registers.{Registers}
use Rattle.mechanism.specs.Cut.{cut}
use Rattle.mechanism.specs.Operated.{with_operand, push_u32, push_u8, muli, jump_if_false}
use Rattle.mechanism.specs.Execute.{kept, plain, operated, is_equality, execute, by_extent, instruct}
use Rattle.mechanism.specs.Steps.{is_outer}
use Rattle.stepper.specs.Kinds.{among, is_plain, has_number, pushes_byte, with_number, numbered, stored, cut_stored, stored_by, whole_or_cut}
use Rattle.std.specs.Prelude.{Ok, Err, Result, Option, Some, None}
use Rattle.errors.specs.declared.Refusal.{Refusal}

-- ---- opcodes among some

-- what holds of each of some opcodes
data Each (P : ℕ → Type 0) : List ℕ → Type 0 where
  none : Each P []
  also : {one : ℕ} {others : List ℕ} → P one → Each P others → Each P (one ∷ others)

-- holds of an opcode among them
at_first : (P : ℕ → Type 0) (op one : ℕ) (others tested : Bool) → eqb op one ≡ tested → P one → (others ≡ true → P op) → (tested || others) ≡ true → P op
at_first P op one others true same here there e = subst P (sym (eqb-true op one same)) here
at_first P op one others false same here there e = there e

at_one : (P : ℕ → Type 0) (op : ℕ) {ones : List ℕ} → Each P ones → among op ones ≡ true → P op
at_one P op none e = absurd (let z : ◌≡◌ {A = ℕ} 0 1 = cc in omega arith)
at_one P op (also {one} {others} here there) e = at_first P op one (among op others) (eqb op one) refl here (λ t. at_one P op there t) e

-- an opcode of which a test fails differs from each that passes it
differs : (test : ℕ → Bool) (op one : ℕ) → test op ≡ false → test one ≡ true → eqb op one ≡ false
differs test op one out inside = by (eqb op one) refl
  where
    by : (b : Bool) → eqb op one ≡ b → b ≡ false
    by true same =
        let e : test op ≡ true = subst (λ (o : ℕ). test o ≡ true) (sym (eqb-true op one same)) inside in
        absurd (let z : ◌≡◌ {A = ℕ} 0 1 = cc in omega arith)
    by false same = refl

-- the opcodes that push a byte
abbrev byte_opcodes : List ℕ
byte_opcodes = PUSH_STATE ∷ PUSH_TASK_FIELD ∷ PUSH_MAX_STATES ∷ []

-- two tests that both pass
both : (first second : Bool) → cond first second false ≡ true → (first ≡ true) × (second ≡ true)
both true second e = (refl, e)
both false second e = absurd (let z : ◌≡◌ {A = ℕ} 0 1 = cc in omega arith)

-- they are those of the range, but for PUSH_CALLDATA, which needs the pool
byte_among : (op : ℕ) → is_outer op ≡ false → pushes_byte op ≡ true → among op byte_opcodes ≡ true
unfolding is_outer pushes_byte
byte_among op inner byte = by (ℕ_discrete op PUSH_STATE) (ℕ_discrete op PUSH_TASK_FIELD) (ℕ_discrete op PUSH_MAX_STATES)
  where
    range : (ltb 2 op ≡ true) × (ltb op 7 ≡ true)
    range = both (ltb 2 op) (ltb op 7) byte

    above : 2 < op
    above = ltb-true 2 op range.0

    below : op < 7
    below = ltb-true op 7 range.1

    at : {one : ℕ} → among one byte_opcodes ≡ true → op ≡ one → among op byte_opcodes ≡ true
    at inside same = subst (λ (o : ℕ). among o byte_opcodes ≡ true) (sym same) inside

    by : Dec (op ≡ PUSH_STATE) → Dec (op ≡ PUSH_TASK_FIELD) → Dec (op ≡ PUSH_MAX_STATES) → among op byte_opcodes ≡ true
    by (yes same) _ _ = at refl same
    by (no _) (yes same) _ = at refl same
    by (no _) (no _) (yes same) = at refl same
    by (no first) (no second) (no third) = absurd (eqb-false op PUSH_CALLDATA (differs is_outer op PUSH_CALLDATA inner refl) (omega (arith, first, second, third, above, below)))

-- ---- how far an instruction reaches

-- EQ and NEQ, as the others
or_none : (b : Bool) → (b || false) ≡ b
or_none true = refl
or_none false = refl

equality_among : (op : ℕ) → is_equality op ≡ true → among op (EQ ∷ NEQ ∷ []) ≡ true
unfolding is_equality
equality_among op e = ap (λ (b : Bool). eqb op EQ || b) (or_none (eqb op NEQ)) ∙ e

-- so many bytes of operands, and none behind them
record Operands (size op : ℕ) : Type 0 where
  operands : operand_size op ≡ size
  no_calldata : eqb op PUSH_CALLDATA ≡ false
  no_payload : eqb op M_STI ≡ false

fixed : {size op : ℕ} → operand_size op ≡ size → eqb op PUSH_CALLDATA ≡ false → eqb op M_STI ≡ false → Operands size op
fixed operands no_calldata no_payload = record { operands = operands; no_calldata = no_calldata; no_payload = no_payload }

plain_operands : (op : ℕ) → is_plain op ≡ true → Operands 0 op
unfolding is_plain operand_size
plain_operands op e = at_one (Operands 0) op (also (fixed refl refl refl) (also (fixed refl refl refl) (also (fixed refl refl refl) (also (fixed refl refl refl) (also (fixed refl refl refl) (also (fixed refl refl refl) (also (fixed refl refl refl) (also (fixed refl refl refl) (also (fixed refl refl refl) (also (fixed refl refl refl) none)))))))))) e

equality_operands : (op : ℕ) → is_equality op ≡ true → Operands 0 op
unfolding is_equality operand_size
equality_operands op e = at_one (Operands 0) op (also (fixed refl refl refl) (also (fixed refl refl refl) none)) (equality_among op e)

byte_operands : (op : ℕ) → among op byte_opcodes ≡ true → Operands 1 op
unfolding operand_size
byte_operands op e = at_one (Operands 1) op (also (fixed refl refl refl) (also (fixed refl refl refl) (also (fixed refl refl refl) none))) e

number_operands : (op : ℕ) → has_number op ≡ true → Operands 4 op
unfolding has_number operand_size
number_operands op e = at_one (Operands 4) op (also (fixed refl refl refl) (also (fixed refl refl refl) (also (fixed refl refl refl) none))) e

module _ (code : List ℕ) (place size : ℕ) (known : Operands size (get_or code place 0)) where
  no_data : data_size code place ≡ 0
  unfolding data_size
  no_data = simp (known.no_calldata, known.no_payload)

  behind_is : behind code place ≡ place + (size + 1)
  unfolding behind
  behind_is = omega (arith, known.operands, no_data)

  -- to the next one
  whole : place + (size + 1) ≤ length code → extent code place ≡ Some (place + (size + 1))
  unfolding extent
  whole inside = simp (behind_is, le-leb (place + (size + 1)) (length code) inside)

  -- or past the end
  past : length code < place + (size + 1) → extent code place ≡ None
  unfolding extent
  past outside = simp (behind_is, lt-leb (place + (size + 1)) (length code) outside)

-- ---- what it does

-- an answer over an operand, and the stack beside it
operand_on_stack : (stack : List ℕ) (onward : ℕ → Result Registers Refusal) (read : Result ℕ Refusal)
    → on_stack (with_operand Err onward read) stack
    ≡ with_operand (λ refusal. on_stack (Err refusal) stack) (λ number. on_stack (onward number) stack) read
unfolding with_operand
operand_on_stack stack onward (Ok number) = refl
operand_on_stack stack onward (Err refusal) = refl

module _ (stack memory code : List ℕ) (registers : Registers) (next op count : ℕ) where
  executed_plain : is_plain op ≡ true → execute stack memory code registers next op count ≡ kept (plain stack registers next op count) memory
  unfolding is_plain execute is_equality operated
  executed_plain e =
      at_one (λ (o : ℕ). execute stack memory code registers next o count ≡ kept (plain stack registers next o count) memory) op
      (also refl (also refl (also refl (also refl (also refl (also refl (also refl (also refl (also refl (also refl none)))))))))) e

  -- the count is read by S_LEN alone
  executed_uncounted : is_plain op ≡ false → execute stack memory code registers next op 0 ≡ execute stack memory code registers next op count
  unfolding is_plain execute operated plain
  executed_uncounted no_plain = simp (differs is_plain op S_LEN no_plain refl)

  executed_equality : is_equality op ≡ true → execute stack memory code registers next op count ≡ kept (op_eq stack memory registers next (eqb op EQ)) memory
  unfolding execute
  executed_equality e = simp (e)

  executed_byte : among op byte_opcodes ≡ true → execute stack memory code registers next op count ≡ kept (push_u8 stack code registers next) memory
  unfolding execute is_equality operated
  executed_byte e =
      at_one (λ (o : ℕ). execute stack memory code registers next o count ≡ kept (push_u8 stack code registers next) memory) op
      (also refl (also refl (also refl none))) e

  cut_byte : among op byte_opcodes ≡ true → cut stack registers op ≡ Err UnexpectedEOB
  unfolding cut
  cut_byte e = at_one (λ (o : ℕ). cut stack registers o ≡ Err UnexpectedEOB) op (also refl (also refl (also refl none))) e

  executed_number : has_number op ≡ true → execute stack memory code registers next op count ≡ kept (numbered stack code registers next op) memory
  unfolding has_number execute is_equality operated push_u32 muli jump_if_false numbered with_number
  executed_number e =
      at_one (λ (o : ℕ). execute stack memory code registers next o count ≡ kept (numbered stack code registers next o) memory) op
      (also refl (also refl (also (ap (λ (after : OnStack). kept after memory)
      (operand_on_stack stack (op_jump_if_false stack registers next) (operand 4 code (registers.place + 1)))) none))) e

  module _ (no_plain : is_plain op ≡ false) (no-equality : is_equality op ≡ false) (no_number : has_number op ≡ false) (no_byte : pushes_byte op ≡ false) where
    not_plain : (one : ℕ) → is_plain one ≡ true → eqb op one ≡ false
    not_plain one inside = differs is_plain op one no_plain inside

    not_number : (one : ℕ) → has_number one ≡ true → eqb op one ≡ false
    not_number one inside = differs has_number op one no_number inside

    not_byte : (one : ℕ) → pushes_byte one ≡ true → eqb op one ≡ false
    not_byte one inside = differs pushes_byte op one no_byte inside

    executed_other : execute stack memory code registers next op count ≡ stored stack memory code registers next op
    unfolding is_plain has_number pushes_byte execute operated plain stored
    executed_other =
        simp (no-equality, not_number PUSH_U32 refl, not_byte PUSH_STATE refl, not_byte PUSH_TASK_FIELD refl, not_byte PUSH_MAX_STATES refl, not_number MULI refl, not_number JUMP_IF_FALSE refl, not_plain MUL refl, not_plain LT refl, not_plain GT refl, not_plain DUP refl, not_plain SWAP refl, not_plain DROP refl, not_plain DO refl, not_plain LOOP refl, not_plain LOOP_INDEX refl, not_plain S_LEN refl)

    cut_other : cut stack registers op ≡ cut_stored stack registers op
    unfolding has_number cut cut_stored
    cut_other = simp (not_number MULI refl, not_number JUMP_IF_FALSE refl)

-- ---- the instruction at the place

module _ (stack memory code : List ℕ) (registers : Registers) (count : ℕ) where
  abbrev op_at : ℕ
  op_at = get_or code registers.place 0

  module _ (inside : registers.place < length code) where
    -- over the stack alone
    pub instruct_plain : is_plain op_at ≡ true → kept (plain stack registers (registers.place + 1) op_at count) memory ≡ instruct stack memory code registers count
    unfolding instruct by_extent
    instruct_plain e =
        let reach : extent code registers.place ≡ Some (registers.place + 1) = whole code registers.place 0 (plain_operands op_at e) (omega arith) in
        simp (reach, executed_plain stack memory code registers (registers.place + 1) op_at count e)

    -- EQ and NEQ
    pub instruct_equality : is_equality op_at ≡ true → kept (op_eq stack memory registers (registers.place + 1) (eqb op_at EQ)) memory ≡ instruct stack memory code registers count
    unfolding instruct by_extent
    instruct_equality e =
        let reach : extent code registers.place ≡ Some (registers.place + 1) = whole code registers.place 0 (equality_operands op_at e) (omega arith) in
        simp (reach, executed_equality stack memory code registers (registers.place + 1) op_at count e)

  -- a byte is pushed
  byte_whole : registers.place + 2 ≤ length code → among op_at byte_opcodes ≡ true
      → kept (push_u8 stack code registers (registers.place + 2)) memory ≡ instruct stack memory code registers count
  unfolding instruct by_extent
  byte_whole inside e =
      let reach : extent code registers.place ≡ Some (registers.place + 2) = whole code registers.place 1 (byte_operands op_at e) inside in
      simp (reach, executed_byte stack memory code registers (registers.place + 2) op_at count e)

  byte_cut : length code < registers.place + 2 → among op_at byte_opcodes ≡ true
      → kept (push_u8 stack code registers (registers.place + 2)) memory ≡ instruct stack memory code registers count
  unfolding instruct by_extent push_u8 operand with_operand
  byte_cut outside e =
      let reach : extent code registers.place ≡ None = past code registers.place 1 (byte_operands op_at e) outside in
      simp (reach, cut_byte stack memory code registers (registers.place + 2) op_at count e, lt-leb (registers.place + 1 + 1) (length code) (omega arith))

  pub instruct_byte : is_outer op_at ≡ false → pushes_byte op_at ≡ true
      → kept (push_u8 stack code registers (registers.place + 2)) memory ≡ instruct stack memory code registers count
  instruct_byte inner byte = by (dec_le (registers.place + 2) (length code))
    where
      by : Dec (registers.place + 2 ≤ length code) → kept (push_u8 stack code registers (registers.place + 2)) memory ≡ instruct stack memory code registers count
      by (yes inside) = byte_whole inside (byte_among op_at inner byte)
      by (no outside) = byte_cut (omega arith) (byte_among op_at inner byte)

  -- a number is taken
  pub instruct_number : registers.place + 5 ≤ length code → has_number op_at ≡ true
      → kept (numbered stack code registers (registers.place + 5) op_at) memory ≡ instruct stack memory code registers count
  unfolding instruct by_extent
  instruct_number inside number =
      let reach : extent code registers.place ≡ Some (registers.place + 5) = whole code registers.place 4 (number_operands op_at number) inside in
      simp (reach, executed_number stack memory code registers (registers.place + 5) op_at count number)

  pub instruct_cut : length code < registers.place + 5 → has_number op_at ≡ true
      → on_memory (cut stack registers op_at) stack memory ≡ instruct stack memory code registers count
  unfolding instruct by_extent
  instruct_cut outside number =
      let reach : extent code registers.place ≡ None = past code registers.place 4 (number_operands op_at number) outside in
      simp (reach)

  -- any other, by the table
  module _ (no_plain : is_plain op_at ≡ false) (no-equality : is_equality op_at ≡ false) (no_number : has_number op_at ≡ false) (no_byte : pushes_byte op_at ≡ false) where
    other_by : (reach : Option ℕ) → stored_by stack memory code registers op_at reach ≡ by_extent stack memory code registers op_at count reach
    unfolding by_extent stored_by
    other_by (Some next) = sym (executed_other stack memory code registers next op_at count no_plain no-equality no_number no_byte)
    other_by None =
        ap (λ (result : Result Registers Refusal). on_memory result stack memory) (sym (cut_other stack memory code registers 0 op_at count no_plain no-equality no_number no_byte))

    pub instruct_other : whole_or_cut stack memory code registers op_at ≡ instruct stack memory code registers count
    unfolding instruct whole_or_cut
    instruct_other = other_by (extent code registers.place)

  -- the count is read by a plain one alone
  uncounted_by : (reach : Option ℕ) → is_plain op_at ≡ false → by_extent stack memory code registers op_at 0 reach ≡ by_extent stack memory code registers op_at count reach
  unfolding by_extent
  uncounted_by (Some next) no_plain = executed_uncounted stack memory code registers next op_at count no_plain
  uncounted_by None no_plain = refl

  pub instruct_uncounted : is_plain op_at ≡ false → instruct stack memory code registers 0 ≡ instruct stack memory code registers count
  unfolding instruct
  instruct_uncounted = uncounted_by (extent code registers.place)
