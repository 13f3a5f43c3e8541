-- What is noted of the places, as a list of their nodes and one of their open loops.
use Rattle.std.specs.Prelude.{ℕ, List, map}
use Rattle.admission.specs.declared.marks.Mark.{Mark}

unfoldable pub nodes_of : List Mark → List ℕ
nodes_of marks = map (λ m. m.node) marks

unfoldable pub loops_of : List Mark → List ℕ
loops_of marks = map (λ m. m.loops) marks
