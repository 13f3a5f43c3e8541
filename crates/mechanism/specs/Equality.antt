-- EQ and NEQ: scalars by their words, vectors by the bytes of memory in use.
use Rattle.std.specs.Prelude.{ℕ, Bool, true, false, cond, ◌&&◌, List, eqb, Err, Result}
use Rattle.errors.specs.declared.Refusal.TheVariants.{TypeMismatch}
use Rattle.values.specs.Values.{is_vec, raw_tag, fat_pointer, value_eq, turned}
use Rattle.memory.specs.Reads.{is_m_slice_eq}
use Rattle.mechanism.specs.Registers.{OnStack, in_use}
use Rattle.mechanism.specs.Stack.{pop_two, on_two}
use Rattle.mechanism.specs.declared.Registers.{Registers}
use Rattle.errors.specs.declared.Refusal.{Refusal}

-- two vectors: different tags give 6
unfoldable pub eq_vectors : List ℕ → ℕ → ℕ → Result ℕ Refusal
eq_vectors memory left right =
    cond (eqb (raw_tag left) (raw_tag right)) (is_m_slice_eq memory (fat_pointer left) (fat_pointer right)) (Err TypeMismatch)

-- two values, over the memory in use
unfoldable pub eq_values : List ℕ → ℕ → ℕ → Result ℕ Refusal
eq_values memory left right = cond (is_vec left && is_vec right) (eq_vectors memory left right) (value_eq left right)

-- NEQ turns EQ's answer round
unfoldable pub turned_if : Bool → Result ℕ Refusal → Result ℕ Refusal
turned_if true result = result
turned_if false result = turned result

-- EQ and NEQ: 3, 3, then 5, 6, 14; the right value is on top
unfoldable pub op_eq : List ℕ → List ℕ → Registers → ℕ → Bool → OnStack
op_eq stack memory registers next is_eq =
    on_two (λ right left. turned_if is_eq (eq_values (in_use memory registers) left right)) stack registers next
    (pop_two stack registers.height)
