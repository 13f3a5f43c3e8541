-- The nodes and the open loops of places, as they are read and noted.
use Rattle.std.proofs.Common.{◌≡◌, ℕ, zero, suc, ◌<◌, ◌≤◌, arith, List, ◌∷◌, map, length, get_or, set, refl, sym, ap, ◌∙◌, subst}
use Rattle.std.proofs.lemmas.List.{map-set, set_past, get_or-map, length-map}
use Rattle.std.proofs.Math.ListN.{replicate, get_or-eq_default}
use Rattle.admission.specs.declared.marks.Mark.{Mark}
use Rattle.admission.specs.Answer.{Zeros}
use Rattle.admission.specs.Marks.{nodes_of, loops_of}
use Rattle.admission.proofs.Ending.{zeros}

abbrev unmarked : Mark
unmarked = record { node = 0; loops = 0 }

pub node_inside : (marks : List Mark) (at : ℕ) (other : Mark) → at < length marks → (get_or marks at other).node ≡ get_or (nodes_of marks) at 0
unfolding nodes_of
node_inside marks at other inside = sym (get_or-map (λ m. m.node) marks at other 0 inside)

pub loops_inside : (marks : List Mark) (at : ℕ) (other : Mark) → at < length marks → (get_or marks at other).loops ≡ get_or (loops_of marks) at 0
unfolding loops_of
loops_inside marks at other inside = sym (get_or-map (λ m. m.loops) marks at other 0 inside)

pub node_outside : (marks : List Mark) (at : ℕ) → length marks ≤ at → 0 ≡ get_or (nodes_of marks) at 0
unfolding nodes_of
node_outside marks at past = let long : length marks ≡ length (nodes_of marks) = sym (length-map marks (λ m. m.node)) in sym (get_or-eq_default (nodes_of marks) 0 (omega (arith, long)))

pub loops_outside : (marks : List Mark) (at : ℕ) → length marks ≤ at → 0 ≡ get_or (loops_of marks) at 0
unfolding loops_of
loops_outside marks at past = let long : length marks ≡ length (loops_of marks) = sym (length-map marks (λ m. m.loops)) in sym (get_or-eq_default (loops_of marks) 0 (omega (arith, long)))

module _ (marks : List Mark) (at node loops : ℕ) where
  pub node_set : nodes_of (set marks at (record { node = node; loops = loops })) ≡ set (nodes_of marks) at node
  unfolding nodes_of
  node_set = map-set (λ m. m.node) marks at (record { node = node; loops = loops })

  pub loops_set : loops_of (set marks at (record { node = node; loops = loops })) ≡ set (loops_of marks) at loops
  unfolding loops_of
  loops_set = map-set (λ m. m.loops) marks at (record { node = node; loops = loops })

  pub node_past : length marks ≤ at → nodes_of marks ≡ set (nodes_of marks) at node
  node_past past = ap nodes_of (sym (set_past marks at (record { node = node; loops = loops }) past)) ∙ node_set

  pub loops_past : length marks ≤ at → loops_of marks ≡ set (loops_of marks) at loops
  loops_past past = ap loops_of (sym (set_past marks at (record { node = node; loops = loops }) past)) ∙ loops_set

nodes_none : (size : ℕ) → nodes_of (replicate size unmarked) ≡ replicate size 0
unfolding nodes_of
nodes_none zero = refl
nodes_none (suc size) = ap (λ list. 0 ∷ list) (nodes_none size)

loops_none : (size : ℕ) → loops_of (replicate size unmarked) ≡ replicate size 0
unfolding loops_of
loops_none zero = refl
loops_none (suc size) = ap (λ list. 0 ∷ list) (loops_none size)

pub none_marked : (size : ℕ) → Zeros size (nodes_of (replicate size unmarked)) × Zeros size (loops_of (replicate size unmarked))
none_marked size = (subst (Zeros size) (sym (nodes_none size)) (zeros size), subst (Zeros size) (sym (loops_none size)) (zeros size))
