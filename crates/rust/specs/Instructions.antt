-- pools/instructions.rs: the pool as the list of its entries.
use Rattle.std.specs.Prelude.{ℕ, cond, List, [], ◌∷◌, ◌++◌, ltb, length, get_or}
use Rattle.rust.specs.Errors.{Out, err, InvalidInstructionsIndex}

module _ {B : Type 0} where
  unfoldable pub intern_instructions : List (List ℕ) → List ℕ → (ℕ → List (List ℕ) → Out B) → Out B
  intern_instructions pool calldata onward = onward (length pool) (pool ++ (calldata ∷ []))

  unfoldable pub get : List (List ℕ) → ℕ → (List ℕ → Out B) → Out B
  get pool index onward = cond (ltb index (length pool)) (onward (get_or pool index [])) (err (InvalidInstructionsIndex index))
