-- values.rs: the functions that can fail. Those that answer a number or a test are said once, in the crate values under the same names.
use Rattle.std.specs.Prelude.{ℕ, ◌*◌, ◌^◌, Bool, cond, ◌&&◌, ◌||◌, eqb, ltb}
use Rattle.values.specs.declared.FatPointer.{FatPointer}
use Rattle.values.specs.Values.{is_qnan, is_vec, is_u32_val, raw_tag, to_u32, to_u32_val, to_bool_val, bool_not, make_vec_tagged, fat_pointer}
use Rattle.rust.specs.Errors.{Out, err, MSliceParamOverflow, InvalidType, TypeMismatch, MultiplicationOverflowed}

module _ {B : Type 0} where
  unfoldable pub to_vec_val : ℕ → ℕ → ℕ → (ℕ → Out B) → Out B
  to_vec_val offset size type-tag onward = cond (ltb offset (2 ^ 25)) (onward (make_vec_tagged offset size type-tag)) (err MSliceParamOverflow)

  unfoldable pub tag : ℕ → (ℕ → Out B) → Out B
  tag v onward = cond (is_qnan v) (onward (raw_tag v)) (err InvalidType)

  unfoldable pub to_fat_pointer : ℕ → (FatPointer → Out B) → Out B
  to_fat_pointer v onward = cond (is_vec v) (onward (fat_pointer v)) (err InvalidType)

  -- l.checked_mul(r), boxed
  unfoldable pub product : ℕ → ℕ → (ℕ → Out B) → Out B
  product l r onward = cond (ltb (l * r) (2 ^ 32)) (onward (to_u32_val (l * r))) (err MultiplicationOverflowed)

  unfoldable pub mul_checked : ℕ → ℕ → (ℕ → Out B) → Out B
  mul_checked lhs rhs onward = cond (is_u32_val lhs && is_u32_val rhs) (product (to_u32 lhs) (to_u32 rhs) onward) (err InvalidType)

  unfoldable pub mul_checked_i : ℕ → ℕ → (ℕ → Out B) → Out B
  mul_checked_i lhs rhs onward = cond (is_u32_val lhs) (product (to_u32 lhs) rhs onward) (err InvalidType)

  -- the match on the left tag: TAG_U32 and TAG_CALLDATA, TAG_TRUE and TAG_FALSE
  unfoldable pub alike : ℕ → ℕ → ℕ → (ℕ → Out B) → Out B
  alike tag-left left right onward =
      cond (eqb tag-left 6 || eqb tag-left 5) (onward (to_bool_val (eqb (to_u32 left) (to_u32 right))))
      (cond (eqb tag-left 3 || eqb tag-left 2) (onward (to_bool_val (eqb left right))) (err InvalidType))

  unfoldable pub value_eq : ℕ → ℕ → (ℕ → Out B) → Out B
  value_eq left right onward =
      tag left λ tag-left.
      tag right λ tag-right.
      cond (eqb tag-left tag-right) (alike tag-left left right onward) (err TypeMismatch)

  unfoldable pub value_neq : ℕ → ℕ → (ℕ → Out B) → Out B
  value_neq left right onward = value_eq left right λ equal. onward (bool_not equal)

  unfoldable pub value_cmp : ℕ → ℕ → Bool → (ℕ → Out B) → Out B
  value_cmp left right is_lt onward =
      cond (is_u32_val left && is_u32_val right)
      (onward (to_bool_val (cond is_lt (ltb (to_u32 left) (to_u32 right)) (ltb (to_u32 right) (to_u32 left)))))
      (err InvalidType)
