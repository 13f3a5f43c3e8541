-- A refused T_GET_FIELD leaves the stack and memory as they were. The other instructions on a task write neither.
use Prim.Native.Nat.{ℕ}
use mathlib.Core.List.{List}
use lib.Dec.{eqb}
use Rattle.errors.specs.declared.Refusal.{Refusal}
use Rattle.storage.specs.declared.Task.{Task}
use Rattle.mechanism.specs.declared.Registers.{Registers}
use Rattle.mechanism.specs.Fields.{get_field, get_found, op_t_get_field}
use Rattle.mechanism.proofs.Either.{either}
use Rattle.mechanism.proofs.RefusalsStack.{value_pushed}
use Rattle.mechanism.proofs.Memory as memory
use Rattle.mechanism.proofs.Memory.{beside, store_leaves}
use Rattle.std.specs.Prelude.{Ok, Err, Result}

get_found_leaves : (s m : List ℕ) (registers : Registers) (next : ℕ) (task : Task) (result : Result (ℕ × ℕ) Refusal) → memory.Leaves s m (get_found s m registers next task result)
unfolding get_found get_field
get_found_leaves s m registers next task (Ok (field, height)) =
    either (memory.Leaves s m) (eqb field 0) _ _ (store_leaves s m _ registers next height _ 4)
    (either (memory.Leaves s m) (eqb field 1) _ _ (beside s m _ (value_pushed s registers next height _)) (beside s m _ (value_pushed s registers next height _)))
get_found_leaves s m registers next task (Err refusal) = memory.kept refusal

pub get_leaves : (s m : List ℕ) (registers : Registers) (next : ℕ) (task : Task) → memory.Leaves s m (op_t_get_field s m registers next task)
unfolding op_t_get_field
get_leaves s m registers next task = get_found_leaves s m registers next task _
