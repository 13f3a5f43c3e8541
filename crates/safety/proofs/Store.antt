-- The opcodes that make or change a vector, on values that have the kinds of their rules.
use Prim.Native.Nat.{ℕ, suc, ◌+◌, ◌/◌, ◌^◌, ◌≤◌, ◌<◌}
use mathlib.Core.Path.{◌≡◌, refl, ◌∙◌}
use mathlib.Core.Bool.{true, ◌||◌, false≢true}
use mathlib.Core.List.{List, [], ◌∷◌}
use native.Mathlib.Omega.{arith}
use lib.Dec.{ltb, leb}
use lib.ListN.{length, get_or, take, length-set}
use borrow.Author.Tests.{lt-leb}
use Rattle.errors.specs.declared.Refusal.{Refusal}
use Rattle.values.specs.Values.{to_vec_val, to_u32, raw_tag, is_vec, fat_pointer, to_fat_pointer}
use Rattle.values.specs.declared.FatPointer.{FatPointer}
use Rattle.memory.specs.Allocation.{offset_aligned, is_element_tag, vector, vector_stored, alloc}
use Rattle.memory.specs.Allocation as allocation
use Rattle.memory.specs.Change.{element_size_bytes, inside, changed, mut_vec}
use Rattle.memory.specs.Change as change
use Rattle.mechanism.specs.Store.{placed, store, sized, op_m_st, mut_in_use, mutated, mutate_at, mutate, mutate_last, mutate_two, op_m_muta}
use Rattle.mechanism.specs.declared.Registers.{Registers}
use Rattle.labels.specs.declared.Kind.{Kind}
use Rattle.labels.specs.declared.Kind.TheVariants.{Number, Calldata, Boolean, Text, Numbers}
use Rattle.labels.specs.declared.Exchange.TheVariants.{Turns, Changes}
use Rattle.labels.specs.Labels.{same_kind, Open, Label}
use Rattle.mechanism.proofs.Either.{either}
use Rattle.safety.specs.Kinds.{HasKind}
use Rattle.safety.proofs.Kinded.{Kinded, more, lengths, pushed, text_kind, numbers_kind, popped, looked, popped_two}
use Rattle.safety.proofs.Rules.{Shape, is_turns, is_changes}
use Rattle.safety.proofs.Holds.{May, Gives, is_value, is_refused, registers_at, At, Looping, starts, Good, goes_on, may_end, GoodIn}
use Rattle.std.specs.Prelude.{Ok, Err, ⊤, Result}
use Rattle.inlinevec.specs.declared.Two.{Two}
use Rattle.inlinevec.specs.declared.Loop.{Loop}

-- a vector's tag and its kind
pub data TagKind : ℕ → Kind → Type 0 where
  is_text : TagKind 4 Text
  is_numbers : TagKind 6 Numbers

-- ---- allocation

vector_result : {tag : ℕ} {kind : Kind} (used size : ℕ) → TagKind tag kind → Gives kind (vector used size tag)
unfolding vector is_element_tag to_vec_val
vector_result used size is_text = either (Gives Text) (ltb (offset_aligned used 4) (2 ^ 25)) _ _ (is_value (text_kind _ size)) (is_refused refl)
vector_result used size is_numbers = either (Gives Numbers) (ltb (offset_aligned used 6) (2 ^ 25)) _ _ (is_value (numbers_kind _ size)) (is_refused refl)

-- a value of a kind, or a refusal that admission leaves possible
data Allocates (kind : Kind) : Result (ℕ × ℕ) Refusal → Type 0 where
  allocated : {value used : ℕ} → HasKind kind value → Allocates kind (Ok (value, used))
  not_allocated : {refusal : Refusal} → May refusal → Allocates kind (Err refusal)

stored_good : {kind : Kind} {result : Result ℕ Refusal} (memory payload : List ℕ) (used size offset : ℕ) → Gives kind result → Allocates kind (vector_stored memory payload used size offset result).answer
unfolding vector_stored
stored_good {kind} memory payload used size offset (is_value has) =
    either (λ (a : allocation.AfterAllocation). Allocates kind a.answer) (leb (offset + size) (length memory)) _ _ (allocated has) (not_allocated refl)
stored_good memory payload used size offset (is_refused may) = not_allocated may

alloc_good : {tag : ℕ} {kind : Kind} (memory payload : List ℕ) (used size : ℕ) → TagKind tag kind → Allocates kind (alloc memory payload used size tag).answer
unfolding alloc
alloc_good {tag} memory payload used size tagged = stored_good memory payload used size (offset_aligned used tag) (vector_result used size tagged)

-- ---- change

data ChangesTo : Result ⊤ Refusal → Type 0 where
  is_changed : ChangesTo (Ok tt)
  not_changed : {refusal : Refusal} → May refusal → ChangesTo (Err refusal)

sized_change : (memory : List ℕ) (pointer : FatPointer) (index payload width : ℕ) → ChangesTo (changed memory pointer index payload (Ok width)).answer
unfolding changed
sized_change memory pointer index payload width =
    either (λ (a : change.AfterChange). ChangesTo a.answer) (leb (pointer.size / width) index) _ _ (not_changed refl)
    (either (λ (a : change.AfterChange). ChangesTo a.answer) (inside memory pointer) _ _ is_changed (not_changed refl))

change_good : (memory : List ℕ) (pointer : FatPointer) (index payload tag : ℕ) {kind : Kind} → TagKind tag kind → ChangesTo (mut_vec memory pointer index payload tag).answer
unfolding mut_vec element_size_bytes
change_good memory pointer index payload tag is_text = sized_change memory pointer index payload 1
change_good memory pointer index payload tag is_numbers = sized_change memory pointer index payload 4

-- a value of kind S or V is a vector of that tag
vector_of : (value : ℕ) (kind : Kind) → (same_kind kind Text || same_kind kind Numbers) ≡ true → HasKind kind value → (is_vec value ≡ true) × TagKind (raw_tag value) kind
vector_of value Number e has = absurd (false≢true e)
vector_of value Calldata e has = absurd (false≢true e)
vector_of value Boolean e has = absurd (false≢true e)
vector_of value Text e has = (has.0, rw has.1 is_text)
vector_of value Numbers e has = (has.0, rw has.1 is_numbers)

module _ (code : List ℕ) (labels : ℕ → Label) (next : ℕ) (stack memory : List ℕ) (lent : length stack ≡ 1000) where
  placed_good : {height : ℕ} {kind : Kind} {kinds : List Kind} {opens : List Open} {answer : Result (ℕ × ℕ) Refusal} (registers : Registers) (after : List ℕ) → At code labels next (kind ∷ kinds) opens → Kinded stack height kinds
      → Looping code labels registers.loops opens → Allocates kind answer → GoodIn code labels (placed stack registers next height after answer)
  unfolding placed
  placed_good {height} registers after at kinded looping (allocated {value} has) =
      goes_on (length-set stack height value ∙ lent) (starts at (pushed value (omega (arith, lengths kinded, at.few_kinds)) has kinded) looping)
  placed_good registers after at kinded looping (not_allocated may) = may_end may

  -- M_STI, its operands being there, and a title
  pub store_good : {height tag : ℕ} {kind : Kind} {kinds : List Kind} {opens : List Open} (registers : Registers) (payload : List ℕ) (size : ℕ) → TagKind tag kind → At code labels next (kind ∷ kinds) opens
      → Kinded stack height kinds → Looping code labels registers.loops opens → GoodIn code labels (store stack memory payload registers next height size tag)
  unfolding store
  store_good {height} {tag} registers payload size tagged at kinded looping =
      let few : height < 1000 = omega (arith, lengths kinded, at.few_kinds) in
      simp (lt-leb 1000 height few)
      (placed_good registers (alloc memory payload registers.memory size tag).memory at kinded looping (alloc_good memory payload registers.memory size tagged))

  -- M_ST, its operand being there
  pub m_st_good : {height tag : ℕ} {kind : Kind} {kinds left : List Kind} {opens : List Open} (place used : ℕ) (loops : Two Loop) → height ≤ 1000 → TagKind tag kind → Shape (Turns Number kind) kinds left → At code labels next left opens
      → Kinded stack height kinds → Looping code labels loops opens → GoodIn code labels (op_m_st stack memory [] (registers_at place height loops used) next tag)
  unfolding op_m_st sized
  m_st_good place used loops few tagged is_turns at (more {height = h} a rest) looping =
      rw (popped stack h few)
      (either (GoodIn code labels) (ltb 65535 (to_u32 (get_or stack h 0))) _ _ (may_end refl)
      (store_good (registers_at place (suc h) loops used) [] (to_u32 (get_or stack h 0)) tagged at rest looping))

  -- M_MUTA
  mutated_good : {height : ℕ} {kinds : List Kind} {opens : List Open} {answer : Result ⊤ Refusal} (registers : Registers) → At code labels next kinds opens → Kinded stack height kinds → Looping code labels registers.loops opens
      → ChangesTo answer → Good code labels (mutated registers next height answer) stack
  unfolding mutated
  mutated_good registers at kinded looping is_changed = goes_on lent (starts at kinded looping)
  mutated_good registers at kinded looping (not_changed may) = may_end may

  pub m_muta_good : {height : ℕ} {kinds left : List Kind} {opens : List Open} (place used : ℕ) (loops : Two Loop) → height ≤ 1000 → Shape Changes kinds left → At code labels next left opens
      → Kinded stack height kinds → Looping code labels loops opens → Good code labels (op_m_muta stack memory (registers_at place height loops used) next).result stack
  unfolding op_m_muta mutate_two mutate_last mutate mutate_at mut_in_use to_fat_pointer
  m_muta_good place used loops few (is_changes {kind = kind} vectors) at (more a (more b (more {height = h} c rest))) looping =
      let v = vector_of (get_or stack h 0) kind vectors c in
      rw (popped_two stack (suc h) few, looked stack h (omega arith), v.0)
      (mutated_good (registers_at place (suc (suc (suc h))) loops used) at (more c rest) looping
      (change_good (take used memory) (fat_pointer (get_or stack h 0)) (to_u32 (get_or stack (suc h) 0)) (to_u32 (get_or stack (suc (suc h)) 0)) (raw_tag (get_or stack h 0)) v.1))
