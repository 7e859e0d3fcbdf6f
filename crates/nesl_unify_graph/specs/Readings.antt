-- The types of a graph, read as far as some number of nodes from each place.
use Rattle.std.specs.Prelude.{◌≡◌, ◌<◌, ◌≤◌, ◌*◌, ℕ, zero, suc, List, length}
use Rattle.nesl_types_shared.specs.Term.{Term, variable, nodes}
use Rattle.nesl_unify_graph.specs.declared.node.Node.{Node}
use Rattle.nesl_unify_graph.specs.declared.instances.Instances.{Instances}
use Rattle.nesl_unify_graph.specs.Graph.{node_at, node_type}

-- the type at place p, where what is more than n steps away is what `far` gives; a free place is its own variable
abbrev pub unrolled : Instances → List Node → (ℕ → Term) → ℕ → ℕ → Term
unrolled i ns far zero p = far p
unrolled i ns far (suc n) p = node_type i (unrolled i ns far n) (variable p) (node_at ns p)

-- t is the type at place p, however far one reads on
abbrev pub Reads : Instances → List Node → ℕ → Term → Type 0
Reads i ns p t = (far : ℕ → Term) (n : ℕ) → 2 * nodes t ≤ n → unrolled i ns far n p ≡ t

-- the type at each place is one of at most `most` nodes
abbrev pub AreReadWithin : Instances → List Node → ℕ → Type 0
AreReadWithin i ns most = (p : ℕ) → p < length ns → (t : Term) × (Reads i ns p t × (nodes t ≤ most))
