-- A read of a value of a sound world beside the Rust's unbox_value.
use Prim.Native.Nat.{ℕ, ◌+◌, ◌%◌, ◌≤◌, ◌<◌}
use mathlib.Core.Bool.{Bool, true, false, cond}
use mathlib.Core.Path.{◌≡◌, refl, sym, ap, ◌∙◌}
use mathlib.Core.List.{List}
use native.Mathlib.Omega.{arith}
use lib.Dec.{eqb, ltb}
use lib.ListN.{length, get_or, take}
use lib.Seq.{length-take-le}
use Rattle.mechanism.proofs.Either.{either}
use borrow.Author.Tests.{ltb-true, ltb-false, le-leb, eq-eqb, eqb-true}
use Rattle.utf8.specs.Utf8.{valid}
use Rattle.values.specs.Values.{is_vec, is_scalar, raw_tag, fat_pointer, to_fat_pointer, to_u32, vec_type, scalar_type, get_value_type}
use Rattle.values.specs.declared.FatPointer.{FatPointer}
use Rattle.values.specs.declared.ValueType.{ValueType}
use Rattle.values.specs.declared.ValueType.TheVariants as type
use Rattle.memory.specs.Reads.{get_slice_bytes, get_slice_as_str, get_slice_as_u32}
use Rattle.pools.specs.Pool.{bounds, entries_of}
use Rattle.pools.proofs.Laws.{length_entries, getD_entries, found, not_found}
use Rattle.memory.specs.Unbox.{where_readable, text_at, numbers_at, where_bounded, by_type, unbox_value}
use Rattle.memory.specs.declared.unbox.Return.{Return}
use Rattle.memory.specs.declared.unbox.Return.TheVariants as ours
use Rattle.machine.specs.World.{World}
use Rattle.rust.specs.Errors.{InvalidType, InvalidInstructionsIndex, BytesToStringConversionError, SliceSizeMismatch, Out, ok}
use Rattle.rust.specs.Helpers.{slice}
use Rattle.rust.specs.Values as values
use Rattle.rust.specs.Memory as memory
use Rattle.rust.specs.Instructions as instructions
use Rattle.rust.specs.Unbox as rust
use Rattle.rust.specs.Vm.{VM}
use Rattle.agreement.specs.Reads.{Reads, number, truth, text, calldata, numbers, null, refused, Aligned}
use Rattle.agreement.proofs.Facts.{Facts}
use Rattle.agreement.proofs.Equality.{is_inside}
use Rattle.std.specs.Prelude.{Result, Option, Ok, Some, None}
use Rattle.errors.specs.declared.Refusal.{Refusal}

-- ---- the type of a vector of numbers

is_numbers : Option ValueType → ℕ
is_numbers (Some type.U32) = 0
is_numbers (Some type.String) = 0
is_numbers (Some type.CallData) = 0
is_numbers (Some type.Boolean) = 0
is_numbers (Some type.VecU32) = 1
is_numbers (Some type.Null) = 0
is_numbers None = 0

abbrev NotNumbers : Option ValueType → Type 0
NotNumbers t = is_numbers t ≡ 0

scalar_not : (tag : ℕ) → NotNumbers (scalar_type tag)
unfolding scalar_type is_numbers
scalar_not tag =
    either NotNumbers (eqb tag 6) _ _ refl
    (either NotNumbers (eqb tag 5) _ _ refl
    (either NotNumbers (eqb tag 4) _ _ refl
    (either NotNumbers (eqb tag 3) _ _ refl
    (either NotNumbers (eqb tag 2) _ _ refl
    (either NotNumbers (eqb tag 1) _ _ refl refl)))))

other_not : (value : ℕ) → NotNumbers (cond (is_scalar value) (scalar_type (raw_tag value)) None)
unfolding is_numbers
other_not value = either NotNumbers (is_scalar value) _ _ (scalar_not (raw_tag value)) refl

vec_not : (value : ℕ) → NotNumbers (cond (eqb (raw_tag value) 4) (Some type.String) None)
unfolding is_numbers
vec_not value = either NotNumbers (eqb (raw_tag value) 4) _ _ refl refl

-- is that of a vector with tag 6
numbers_tag : (value : ℕ) → get_value_type value ≡ Some type.VecU32 → (is_vec value ≡ true) × (raw_tag value ≡ 6)
unfolding get_value_type vec_type is_numbers
numbers_tag value is = by (is_vec value) (eqb (raw_tag value) 6) refl refl
  where
    by : (v six : Bool) → is_vec value ≡ v → eqb (raw_tag value) 6 ≡ six → (is_vec value ≡ true) × (raw_tag value ≡ 6)
    by true true e f = (e, eqb-true _ _ f)
    by true false e f = absurd (let z : ◌≡◌ {A = ℕ} 0 1 = sym (vec_not value) ∙ ap is_numbers (rw (e, f) at is) in omega arith)
    by false six e f = absurd (let z : ◌≡◌ {A = ℕ} 0 1 = sym (other_not value) ∙ ap is_numbers (rw e at is) in omega arith)

module _ (w : World) (h : Facts w) (vm : VM) (memory-is : vm.memory ≡ take w.machine.memory w.memory) (pool-is : vm.instructions_pool ≡ entries_of w.pool w.ends w.machine.entries) where
  abbrev used : List ℕ
  used = take w.machine.memory w.memory

  abbrev Same : Result Return Refusal → Out rust.Return → Type 0
  Same r o = Reads used w.pool w.ends r o

  -- one test on both sides
  same : {A : Type 0} (f : A → Result Return Refusal) (b : Bool) {x y : A} {o p : Out rust.Return} → (b ≡ true → Same (f x) o) → (b ≡ false → Same (f y) p) → Same (f (cond b x y)) (cond b o p)
  same f true t e = t refl
  same f false t e = e refl

  -- a text: 14 does not come, since the vector lies in memory in use
  text_same : (pointer : FatPointer) → pointer.offset + pointer.size ≤ length used
      → Same (where_readable (Ok (ours.String pointer)) (get_slice_as_str used pointer)) (memory.get_slice_as_str used pointer λ str. ok (rust.String str))
  unfolding where_readable get_slice_as_str memory.get_slice_as_str memory.get_slice_bytes slice
  text_same pointer lies =
      rw (is_inside used pointer lies, le-leb (pointer.offset + pointer.size) (length used) lies)
      (same (where_readable (Ok (ours.String pointer))) (valid (get_slice_bytes used pointer)) (λ t. text pointer) (λ t. refused BytesToStringConversionError))

  -- numbers: nor does 16, since their vectors are aligned
  numbers_same : (pointer : FatPointer) → pointer.offset + pointer.size ≤ length used → pointer.offset % 4 ≡ 0
      → Same (where_readable (Ok (ours.VecU32 pointer)) (get_slice_as_u32 used pointer)) (memory.get_slice_as_u32 used pointer λ u32-slice. ok (rust.VecU32 u32-slice))
  unfolding where_readable get_slice_as_u32 memory.get_slice_as_u32 memory.get_slice_bytes slice
  numbers_same pointer lies aligned =
      rw (is_inside used pointer lies, le-leb (pointer.offset + pointer.size) (length used) lies, eq-eqb (pointer.offset % 4) 0 aligned)
      (same (where_readable (Ok (ours.VecU32 pointer))) (eqb (pointer.size % 4) 0) (λ t. numbers pointer) (λ t. refused SliceSizeMismatch))

  entry_same : (value : ℕ)
      → Same (where_bounded (record { 0 = to_u32 value }) (bounds w.ends w.machine.entries (record { 0 = to_u32 value })))
      (instructions.get (entries_of w.pool w.ends w.machine.entries) (to_u32 value) λ bytecode. ok (rust.CallData bytecode))
  unfolding where_bounded instructions.get
  entry_same value = by (ltb (to_u32 value) w.machine.entries) refl
    where
      by : (b : Bool) → ltb (to_u32 value) w.machine.entries ≡ b
          → Same (where_bounded (record { 0 = to_u32 value }) (bounds w.ends w.machine.entries (record { 0 = to_u32 value })))
          (instructions.get (entries_of w.pool w.ends w.machine.entries) (to_u32 value) λ bytecode. ok (rust.CallData bytecode))
      by true e =
          rw (
            length_entries w.pool w.ends w.machine.entries,
            e,
            found w.ends w.machine.pool w.machine.entries h.ends (record { 0 = to_u32 value }) (ltb-true _ _ e),
            getD_entries w.pool w.ends w.machine.entries (to_u32 value) (ltb-true _ _ e),
          ) (calldata (record { 0 = to_u32 value }))
      by false e =
          rw (length_entries w.pool w.ends w.machine.entries, e, not_found w.ends w.machine.entries (record { 0 = to_u32 value }) (ltb-false _ _ e)) (refused (InvalidInstructionsIndex (to_u32 value)))

  -- a value by its type; those that lie in memory are vectors inside it
  typed : (value : ℕ) (t : Option ValueType) → get_value_type value ≡ t → (is_vec value ≡ true → (fat_pointer value).offset + (fat_pointer value).size ≤ length used) → (t ≡ Some type.VecU32 → (fat_pointer value).offset % 4 ≡ 0)
      → Same (by_type used w.ends w.machine.entries value t) (rust.unbox_as vm value t)
  unfolding by_type text_at numbers_at to_fat_pointer rust.unbox_as values.to_fat_pointer
  typed value (Some type.U32) e lies aligned = number (to_u32 value)
  typed value (Some type.Boolean) e lies aligned = truth _
  typed value (Some type.String) e lies aligned =
      rw memory-is (same (text_at used) (is_vec value) (λ t. text_same (fat_pointer value) (lies t)) (λ t. refused InvalidType))
  typed value (Some type.CallData) e lies aligned = rw pool-is (entry_same value)
  typed value (Some type.VecU32) e lies aligned =
      rw memory-is (same (numbers_at used) (is_vec value) (λ t. numbers_same (fat_pointer value) (lies t) (aligned refl)) (λ t. refused InvalidType))
  typed value (Some type.Null) e lies aligned = null
  typed value None e lies aligned = refused InvalidType

  -- what a host reads of a value on the stack
  pub unbox_agrees : (i : ℕ) → i < w.machine.height → Aligned (get_or w.stack i 0) → Same (unbox_value used w.ends w.machine.entries (get_or w.stack i 0)) (rust.unbox_value vm (get_or w.stack i 0))
  unfolding unbox_value rust.unbox_value
  unbox_agrees i less aligned =
      let value = get_or w.stack i 0 in
      typed value (get_value_type value) refl (λ v. rw (length-take-le w.machine.memory w.memory h.memory) (h.inside i less v))
      (λ e. let n = numbers_tag value e in aligned n.0 n.1)
