-- How far an element reaches: a joined one three bytes, any other as far as its instruction.
use Prim.Native.Nat.{ℕ, ◌+◌, ◌≤◌, ◌<◌}
use mathlib.Core.Path.{◌≡◌, refl, sym, ◌∙◌, ap}
use mathlib.Core.Bool.{Bool, true, false, cond, ◌&&◌, ◌||◌, false≢true}
use mathlib.Core.List.{List}
use native.Mathlib.Omega.{arith}
use lib.Dec.{eqb, leb, ltb}
use lib.ListN.{length, get_or, get_or-eq_default}
use borrow.Author.Tests.{le-leb, lt-leb, ltb-true, ltb-false}
use Rattle.bytecode.specs.Opcodes.{PUSH_TASK_FIELD, T_GET_FIELD, T_SET_FIELD}
use Rattle.bytecode.specs.Operands.{behind, extent, behind_by, extent_by, Follows}
use Rattle.bytecode.proofs.OperandRule.{by_table}
use Rattle.labels.proofs.Ways.{cond_false}
use Rattle.labels.proofs.Comparison.{and_right}
use Rattle.labels.specs.Elements.{joined, element_end, whole_element}
use Rattle.admission.specs.Found.{whole, found, found_extent, found_by}
use Rattle.std.specs.Prelude.{Some, None, Option}

module _ (code : List ℕ) (at : ℕ) where
  -- a joined element is whole
  joined_whole : joined code at ≡ true → at + 3 ≤ length code
  unfolding joined
  joined_whole pair = by (ltb (at + 2) (length code)) refl
    where
      by : (b : Bool) → ltb (at + 2) (length code) ≡ b → at + 3 ≤ length code
      by true t = omega (arith, ltb-true (at + 2) (length code) t)
      by false t =
          let past : get_or code (at + 2) 0 ≡ 0 = get_or-eq_default code 0 (ltb-false _ _ t) in
          absurd (false≢true (ap (λ x. eqb x T_GET_FIELD || eqb x T_SET_FIELD) (sym past) ∙ and_right (eqb (get_or code at 0) PUSH_TASK_FIELD) _ pair))

  pub found_joined : joined code at ≡ true → whole (whole_element code at (get_or code at 0)) (at + 3) ≡ found code at
  unfolding found element_end
  found_joined pair = simp (pair, le-leb _ _ (joined_whole pair))

  pub found_next : {next : ℕ} → joined code at ≡ false → extent code at ≡ Some next → whole (whole_element code at (get_or code at 0)) next ≡ found code at
  unfolding found element_end extent
  found_next {next} lone reach = simp lone (by (leb (behind code at) (length code)) reach)
    where
      by : (b : Bool) → cond b (Some (behind code at)) None ≡ Some next
          → whole (whole_element code at (get_or code at 0)) next ≡ cond b (whole (whole_element code at (get_or code at 0)) (behind code at)) None
      by true e = let same : behind code at ≡ next = cc in ap (whole (whole_element code at (get_or code at 0))) (sym same)
      by false e = absurd (let z : ◌≡◌ {A = ℕ} 0 1 = cc in omega arith)

  pub found_cut : joined code at ≡ false → extent code at ≡ None → None ≡ found code at
  unfolding found element_end extent
  found_cut lone reach = simp lone (by (leb (behind code at) (length code)) reach)
    where
      by : (b : Bool) → cond b (Some (behind code at)) None ≡ None → None ≡ cond b (whole (whole_element code at (get_or code at 0)) (behind code at)) None
      by true e = absurd (let z : ◌≡◌ {A = ℕ} 0 1 = cc in omega arith)
      by false e = refl

  -- past the code's end no element stands
  pub found_past : (sizes : List ℕ) → length code ≤ at → None ≡ found_by sizes code at
  unfolding found_by joined extent_by behind_by found_extent
  found_past sizes past =
      let none : get_or code at 0 ≡ 0 = get_or-eq_default code 0 past in
      let lone : joined code at ≡ false = ap (λ x. eqb x PUSH_TASK_FIELD && (eqb (get_or code (at + 2) 0) T_GET_FIELD || eqb (get_or code (at + 2) 0) T_SET_FIELD)) none in
      let over : length code < behind_by sizes code at = omega arith in
      sym
      (cond_false (joined code at) _ _ lone
      ∙ ap (found_extent code at) (cond_false (leb (behind_by sizes code at) (length code)) (Some (behind_by sizes code at)) None (lt-leb _ _ over)))

  -- the table of operand sizes gives the element
  pub found_is : (sizes : List ℕ) → Follows sizes → get_or code at 0 < 256 → found_by sizes code at ≡ found code at
  unfolding found_by found_extent
  found_is sizes follows byte = ap (λ e. cond (joined code at) (whole (whole_element code at (get_or code at 0)) (at + 3)) (found_extent code at e)) (by_table sizes code at follows byte) ∙ by (joined code at) refl (extent code at) refl
    where
      by : (b : Bool) → joined code at ≡ b → (e : Option ℕ) → extent code at ≡ e → cond b (whole (whole_element code at (get_or code at 0)) (at + 3)) (found_extent code at e) ≡ found code at
      by true pair e reach = found_joined pair
      by false lone (Some next) reach = found_next lone reach
      by false lone None reach = found_cut lone reach
