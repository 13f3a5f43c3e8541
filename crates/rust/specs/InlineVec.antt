-- inlinevec.rs: a vector of a capacity, as a list whose head is its last element.
use Rattle.std.specs.Prelude.{ℕ, cond, List, [], ◌∷◌, ltb, length}
use Rattle.rust.specs.Errors.{Out, err, StackUnderflow, StackOverflow}

module _ {A B : Type 0} where
  unfoldable pub push : ℕ → List A → A → (List A → Out B) → Out B
  push capacity elements value onward = cond (ltb (length elements) capacity) (onward (value ∷ elements)) (err StackOverflow)

  unfoldable pub pop : List A → (A → List A → Out B) → Out B
  pop [] onward = err StackUnderflow
  pop (value ∷ elements) onward = onward value elements

  -- each use turns none into StackUnderflow
  unfoldable pub last : List A → (A → Out B) → Out B
  last [] onward = err StackUnderflow
  last (value ∷ elements) onward = onward value
