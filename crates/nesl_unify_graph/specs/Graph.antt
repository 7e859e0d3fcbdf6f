-- Graphs of types: what is said of the type at each place.
use Rattle.std.specs.Prelude.{◌≡◌, ℕ, List, slice_index_or}
use Rattle.nesl_types_shared.specs.Term.{Term, int, bool, char, seq_of, pair_of, named}
use Rattle.nesl_types_shared.specs.Types.{type_at}
use Rattle.nesl_unify_graph.specs.declared.node.Node.{Node}
use Rattle.nesl_unify_graph.specs.declared.node.Node.TheVariants.{Free, Same, Int, Bool, Char, Named, SeqOf, Both, Part}
use Rattle.nesl_unify_graph.specs.declared.instances.Instances.{Instances}
use Rattle.nesl_unify_graph.specs.Instances.{parts_in, instance_type}

-- what is said of a place; nothing past the end
abbrev pub node_at : List Node → ℕ → Node
node_at ns p = slice_index_or ns p Free

-- the type that a node says, where `w p` is the type at each place p; `free` where it says nothing
abbrev pub node_type : Instances → (ℕ → Term) → Term → Node → Term
node_type i w free Free = free
node_type i w free (Same q) = w q
node_type i w free Int = int
node_type i w free Bool = bool
node_type i w free Char = char
node_type i w free (Named n) = named n
node_type i w free (SeqOf q) = seq_of (w q)
node_type i w free (Both q r) = pair_of (w q) (w r)
node_type i w free (Part r p) = instance_type i w r (type_at (parts_in i r) p)

-- the types `w p` of the places p are as the graph says
abbrev pub Fits : Instances → (ℕ → Term) → List Node → Type 0
Fits i w ns = (p : ℕ) → w p ≡ node_type i w (w p) (node_at ns p)

-- no link
abbrev pub IsRoot : Node → Type 0
IsRoot Free = Unit {0}
IsRoot (Same q) = ⊥
IsRoot Int = Unit {0}
IsRoot Bool = Unit {0}
IsRoot Char = Unit {0}
IsRoot (Named m) = Unit {0}
IsRoot (SeqOf q) = Unit {0}
IsRoot (Both q r) = Unit {0}
IsRoot (Part r p) = Unit {0}

-- where a node at place p leads by a link
abbrev pub link_or : ℕ → Node → ℕ
link_or p Free = p
link_or p (Same q) = q
link_or p Int = p
link_or p Bool = p
link_or p Char = p
link_or p (Named m) = p
link_or p (SeqOf q) = p
link_or p (Both q r) = p
link_or p (Part r k) = p

abbrev pub target : List Node → ℕ → ℕ
target ns p = link_or p (node_at ns p)

-- each link leads to a place without one
abbrev pub IsFlat : List Node → Type 0
IsFlat ns = (p : ℕ) → IsRoot (node_at ns (target ns p))
