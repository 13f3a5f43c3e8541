-- The element at a place of a labelled program, the operands behind its opcode, and the label behind it.
use Prim.Native.Nat.{ℕ, ◌+◌, ◌≤◌, ◌<◌}
use mathlib.Core.Path.{◌≡◌, ap, ◌∙◌, subst}
use mathlib.Core.Bool.{false, ◌&&◌, ◌||◌}
use mathlib.Core.List.{List}
use mathlib.Core.Logic.{◌⊎◌, inl, inr}
use mathlib.Core.Option.{some}
use native.Mathlib.Omega.{arith}
use lib.Dec.{eqb}
use lib.ListN.{length, get_or}
use borrow.Author.Tests.{le-leb, eqb-true}
use Rattle.bytecode.specs.Opcodes.{PUSH_TASK_FIELD, T_GET_FIELD, T_SET_FIELD, operand_size}
use Rattle.bytecode.specs.Operands.{big_endian, operand, data_size, behind, extent}
use Rattle.labels.specs.declared.Kind.{Kind}
use Rattle.labels.specs.declared.Kind.TheVariants.{Number, Calldata, Text, Numbers}
use Rattle.labels.specs.declared.Exchange.{Exchange}
use Rattle.labels.specs.declared.Element.{Element}
use Rattle.labels.specs.declared.Element.TheVariants.{NoRule, Kinds}
use Rattle.labels.specs.Elements.{joined, element_end, tag_kind, field_kind, whole_element, element}
use Rattle.labels.specs.Labels.{Open, Label, kinds_after, loops_after, rule, next_label, Start, follow, Labelling}
use Rattle.labels.proofs.Comparison.{and_left}
use Rattle.labels.proofs.Ways.{fits}
use Rattle.safety.proofs.Rules.{on_bool, no_answer, Given, given, Shape, shape}
use Rattle.safety.proofs.Holds.{FieldKind, is_title, is_state, is_instructions, At}
use Rattle.safety.proofs.Store.{TagKind, is_text, is_numbers}
use Rattle.std.specs.Prelude.{Ok, Some, None}

-- ---- operands

-- one byte
pub one_byte : (code : List ℕ) (at : ℕ) → big_endian 1 code at ≡ get_or code at 0
unfolding big_endian
one_byte code at =
    let here : at + 0 ≡ at = omega arith in
    let same : get_or code (at + 0) 0 ≡ get_or code at 0 = ap (λ (i : ℕ). get_or code i 0) here in
    omega arith

-- an operand that the code holds
pub operand_there : (size : ℕ) (code : List ℕ) (at : ℕ) → at + size ≤ length code → operand size code at ≡ Ok (big_endian size code at)
unfolding operand
operand_there size code at there = simp (le-leb (at + size) (length code) there)

-- a tag that has a kind
pub tags : (tag : ℕ) → (tag_kind tag ≡ None) ⊎ ((kind : Kind) × TagKind tag kind × (tag_kind tag ≡ Some kind))
unfolding tag_kind
tags tag =
    on_bool (eqb tag 4) (λ t. inr (Text, rw (eqb-true tag 4 t) is_text, rw t))
    (λ f. on_bool (eqb tag 6) (λ t. inr (Numbers, rw (eqb-true tag 6 t) is_numbers, rw (f, t))) (λ g. inl (rw (f, g))))

-- a field that has a kind
pub fields : (field : ℕ) → (field_kind field ≡ None) ⊎ ((kind : Kind) × FieldKind field kind × (field_kind field ≡ Some kind))
unfolding field_kind
fields field =
    on_bool (eqb field 0) (λ t. inr (Text, rw (eqb-true field 0 t) is_title, rw t))
    (λ f. on_bool (eqb field 1) (λ t. inr (Number, rw (eqb-true field 1 t) is_state, rw (f, t)))
    (λ g. on_bool (eqb field 2) (λ t. inr (Calldata, rw (eqb-true field 2 t) is_instructions, rw (f, g, t))) (λ h. inl (rw (f, g, h)))))

-- ---- the place behind an instruction

module _ (code : List ℕ) (place : ℕ) where
  -- PUSH_TASK_FIELD has one operand
  pub behind_field : get_or code place 0 ≡ PUSH_TASK_FIELD → behind code place ≡ place + 2
  unfolding behind operand_size data_size
  behind_field e = rw e (omega arith)

  -- T_GET_FIELD and T_SET_FIELD have none
  pub behind_get : get_or code place 0 ≡ T_GET_FIELD → behind code place ≡ place + 1
  unfolding behind operand_size data_size
  behind_get e = rw e (omega arith)

  pub behind_set : get_or code place 0 ≡ T_SET_FIELD → behind code place ≡ place + 1
  unfolding behind operand_size data_size
  behind_set e = rw e (omega arith)

  -- the operands lie before it
  pub operands : (op : ℕ) → get_or code place 0 ≡ op → behind code place ≤ length code → place + 1 + operand_size op ≤ length code
  unfolding behind
  operands op e within = rw (← e) (omega arith)

  -- an element ends where its instruction does, or later
  pub behind_within : behind code place ≤ element_end code place
  unfolding element_end joined
  behind_within =
      on_bool (eqb (get_or code place 0) PUSH_TASK_FIELD && (eqb (get_or code (place + 2) 0) T_GET_FIELD || eqb (get_or code (place + 2) 0) T_SET_FIELD))
      (λ t. rw t (omega (arith, behind_field (eqb-true (get_or code place 0) PUSH_TASK_FIELD (and_left (eqb (get_or code place 0) PUSH_TASK_FIELD) _ t)))))
      (λ f. rw f (omega arith))

  -- any but PUSH_TASK_FIELD is an element by itself
  pub after_alone : eqb (get_or code place 0) PUSH_TASK_FIELD ≡ false → element_end code place ≡ behind code place
  unfolding element_end joined
  after_alone alone = rw alone

  -- a whole instruction
  pub extent_whole : behind code place ≤ length code → extent code place ≡ Some (behind code place)
  unfolding extent
  extent_whole whole = simp (le-leb (behind code place) (length code) whole)

  pub element_whole : element_end code place ≤ length code → element code place ≡ whole_element code place (get_or code place 0)
  unfolding element
  element_whole whole = simp (le-leb (element_end code place) (length code) whole)

-- ---- the label behind an element

module _ (code : List ℕ) (labels : ℕ → Label) (lab : Labelling code labels) {place : ℕ} {kinds : List Kind} {opens : List Open} (at : At code labels place kinds opens) (inside : place < length code) where
  -- the element is whole
  pub whole : element_end code place ≤ length code
  whole = fits code place (labels place) (lab.rules place at.start inside)

  pub instruction_whole : behind code place ≤ length code
  instruction_whole = omega (arith, behind_within code place, whole)

  -- what its rule gave
  rule_given : Given (element code place) (element_end code place) kinds opens (labels (element_end code place))
  unfolding next_label
  rule_given =
      given (element code place) (element_end code place) kinds opens (labels (element_end code place))
      (subst (λ (l : Label). rule (element code place) (element_end code place) l ≡ some (labels (element_end code place))) at.label_is (lab.rules place at.start inside))

  -- the rule of the element, and the label behind it
  pub record Follows (found : Element) (next : ℕ) : Type 0 where
    pub rule_gave : Given found next kinds opens (labels next)
    pub at_next : At code labels next rule_gave.left rule_gave.opens

  pub follows : (found : Element) (next : ℕ) → element code place ≡ found → element_end code place ≡ next → Follows found next
  follows found next e n =
      let g : Given found next kinds opens (labels next) =
      subst (λ (k : ℕ). Given found k kinds opens (labels k)) n (subst (λ (x : Element). Given x (element_end code place) kinds opens (labels (element_end code place))) e rule_given) in
      record {
        rule_gave = g;
        at_next = record {
          start = subst (Start code) n (follow at.start inside);
          label_is = g.label_is;
          few_kinds = g.few_kinds;
          few_loops = g.few_loops;
        };
      }

  -- the same for the element of an opcode
  pub follows_op : (op : ℕ) (found : Element) → get_or code place 0 ≡ op → eqb op PUSH_TASK_FIELD ≡ false → whole_element code place op ≡ found → Follows found (behind code place)
  follows_op op found e alone f =
      follows found (behind code place) (element_whole code place whole ∙ ap (whole_element code place) e ∙ f) (after_alone code place (ap (λ (b : ℕ). eqb b PUSH_TASK_FIELD) e ∙ alone))

  -- an element without a rule is not there
  pub no_rule : {A : Type 0} {next : ℕ} → Follows NoRule next → A
  unfolding kinds_after
  no_rule f = no_answer f.rule_gave.kinds_are

  -- an exchange of kinds leaves the loops
  pub exchanges : {A : Type 0} {next : ℕ} {exchange : Exchange} → Follows (Kinds exchange) next → ((left : List Kind) → Shape exchange kinds left → At code labels next left opens → A) → A
  unfolding kinds_after loops_after
  exchanges {next = next} {exchange = exchange} f then =
      let g = f.rule_gave in
      let same : some opens ≡ some g.opens = g.loops_are in
      let loops : g.opens ≡ opens = cc in
      then g.left (shape exchange kinds g.left g.kinds_are) (subst (λ (o : List Open). At code labels next g.left o) loops f.at_next)
