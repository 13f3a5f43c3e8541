-- An opcode without operands reaches one byte.
use Rattle.std.proofs.Common.{◌≡◌, ℕ, ◌+◌, ◌<◌, Bool, true, false, cond, eqb, List, length, get_or, sym, refl, ap, ◌∙◌, subst, arith, eqb-true, le-leb}
use Rattle.bytecode.specs.Opcodes.{operand_size, PUSH_CALLDATA, M_STI, T_CREATE, T_GET_FIELD, T_SET_FIELD, T_DELETE, CALL, END_CALL}
use Rattle.bytecode.specs.Operands.{data_size, behind, extent}
use Rattle.mechanism.specs.Act.{bare}
use Rattle.std.specs.Prelude.{Some}

-- by a test
on_bool : {A : Type 0} (b : Bool) → (b ≡ true → A) → (b ≡ false → A) → A
on_bool true f g = f refl
on_bool false f g = g refl

never : {A : Type 0} → false ≡ true → A
never e = absurd (let z : ◌≡◌ {A = ℕ} 0 1 = ap (λ (b : Bool). cond {A = ℕ} b 1 0) e in omega arith)

-- nothing stands behind it
abbrev Alone : ℕ → Type 0
Alone op = (operand_size op ≡ 0) × (eqb op PUSH_CALLDATA ≡ false) × (eqb op M_STI ≡ false)

none_of : (op : ℕ) → eqb op T_CREATE ≡ false → eqb op T_GET_FIELD ≡ false → eqb op T_SET_FIELD ≡ false → eqb op T_DELETE ≡ false → eqb op CALL ≡ false → eqb op END_CALL ≡ false → bare op ≡ false
unfolding bare
none_of op create get set delete call end = simp (create, get, set, delete, call, end)

alone : (op : ℕ) → bare op ≡ true → Alone op
unfolding operand_size
alone op one =
    on_bool (eqb op T_CREATE) (λ t. subst Alone (sym (eqb-true op T_CREATE t)) (refl, refl, refl)) (λ create.
    on_bool (eqb op T_GET_FIELD) (λ t. subst Alone (sym (eqb-true op T_GET_FIELD t)) (refl, refl, refl)) (λ get.
    on_bool (eqb op T_SET_FIELD) (λ t. subst Alone (sym (eqb-true op T_SET_FIELD t)) (refl, refl, refl)) (λ set.
    on_bool (eqb op T_DELETE) (λ t. subst Alone (sym (eqb-true op T_DELETE t)) (refl, refl, refl)) (λ delete.
    on_bool (eqb op CALL) (λ t. subst Alone (sym (eqb-true op CALL t)) (refl, refl, refl)) (λ call.
    on_bool (eqb op END_CALL) (λ t. subst Alone (sym (eqb-true op END_CALL t)) (refl, refl, refl)) (λ end.
    never (sym (none_of op create get set delete call end) ∙ one)))))))

behind_alone : (code : List ℕ) (at : ℕ) → Alone (get_or code at 0) → behind code at ≡ at + 1
unfolding behind data_size
behind_alone code at (none, calldata, payload) =
    let e : behind code at ≡ at + 1 + 0 + 0 = simp (none, calldata, payload) in
    e ∙ omega arith

pub bare_extent : (code : List ℕ) (at : ℕ) → at < length code → bare (get_or code at 0) ≡ true → extent code at ≡ Some (at + 1)
unfolding extent
bare_extent code at inside one = simp (behind_alone code at (alone (get_or code at 0) one), le-leb (at + 1) (length code) (omega (arith, inside)))
