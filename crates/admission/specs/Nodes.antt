-- Stacks of kinds as nodes: a cell holds the node below it times 256 and the letter that lies on that; node 0 is the empty stack.
use Rattle.std.specs.Prelude.{ℕ, zero, suc, ◌+◌, ◌*◌, ◌/◌, ◌%◌, ◌≡◌, cond, List, [], ◌∷◌, eqb, ltb, get_or, set}

-- the letter that a node's cell says, 0 for the empty stack
unfoldable pub letter_of : ℕ → ℕ → ℕ
letter_of cell node = cond (ltb (cell / 256) node) (cell % 256) 0

-- the letter on top of a node
unfoldable pub top : List ℕ → ℕ → ℕ
top cells node = letter_of (get_or cells node 0) node

-- the node below it
unfoldable pub below : List ℕ → ℕ → ℕ
below cells node = cond (eqb (top cells node) 0) 0 (get_or cells node 0 / 256)

-- the letters from a node down, at most so many
unfoldable pub stacked_within : ℕ → List ℕ → ℕ → List ℕ
stacked_within zero cells node = []
stacked_within (suc most) cells node = cond (eqb (top cells node) 0) [] (top cells node ∷ stacked_within most cells (below cells node))

-- the letters from a node down
unfoldable pub stacked : List ℕ → ℕ → List ℕ
stacked cells node = stacked_within node cells node

-- the node below so many of the topmost letters
unfoldable pub lowered : ℕ → List ℕ → ℕ → ℕ
lowered zero cells node = node
lowered (suc taken) cells node = lowered taken cells (below cells node)

-- the same letters from each node down
pub record Kept (cells others : List ℕ) : Type 0 where
  pub stacks : (node : ℕ) → stacked others node ≡ stacked cells node

-- of two nodes' cells the lower replaces the other
unfoldable pub replaced : List ℕ → ℕ → ℕ → ℕ → ℕ → List ℕ
replaced cells left right one other = cond (ltb one other) (set cells right one) (set cells left other)

-- the cell of a letter on a node
unfoldable pub cell_of : ℕ → ℕ → ℕ
cell_of node letter = node % 16777216 * 256 + letter % 256

-- a letter put on a node, as the node `at`; nothing for 0
unfoldable pub given_node : ℕ → ℕ → ℕ → ℕ
given_node at node letter = cond (eqb letter 0) node at

unfoldable pub given_cells : List ℕ → ℕ → ℕ → ℕ → List ℕ
given_cells cells at node letter = cond (eqb letter 0) cells (set cells at (cell_of node letter))
