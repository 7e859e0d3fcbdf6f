-- Tables of nodes, and what follows where places are made one.
use Rattle.std.specs.Prelude.{◌≡◌, ◌<◌, ◌≤◌, ℕ, List, All, length}
use Rattle.nesl_types_shared.specs.Term.{Term, nodes}
use Rattle.nesl_unify_graph.specs.declared.node.Node.{Node}
use Rattle.nesl_unify_graph.specs.declared.node.Node.TheVariants.{Free, Same, Int, Bool, Char, Named, SeqOf, Both, Part}
use Rattle.nesl_unify_graph.specs.declared.instances.Instances.{Instances}
use Rattle.nesl_unify_graph.specs.declared.unify.Pair.{Pair}
use Rattle.nesl_unify_graph.specs.Instances.{IsPart}
use Rattle.nesl_unify_graph.specs.Graph.{node_at, Fits}

-- where a node of a table of n places may lead from place p: links lead to smaller places, and only the first `count`
-- places may be free
abbrev pub IsPlaced : Instances → ℕ → ℕ → ℕ → Node → Type 0
IsPlaced i count n p Free = p < count
IsPlaced i count n p (Same q) = q < p
IsPlaced i count n p Int = Unit {0}
IsPlaced i count n p Bool = Unit {0}
IsPlaced i count n p Char = Unit {0}
IsPlaced i count n p (Named m) = Unit {0}
IsPlaced i count n p (SeqOf q) = q < n
IsPlaced i count n p (Both q r) = (q < n) × (r < n)
IsPlaced i count n p (Part r k) = IsPart i r k

abbrev pub IsTable : Instances → ℕ → List Node → Type 0
IsTable i count ns = (p : ℕ) → p < length ns → IsPlaced i count (length ns) p (node_at ns p)

-- z gives the places below n the types that w gives, and no type more nodes than w gives at most
pub record Continues (n : ℕ) (w z : ℕ → Term) : Type 0 where
  pub agrees : (p : ℕ) → p < n → z p ≡ w p
  pub bounded : (most : ℕ) → ((p : ℕ) → nodes (w p) ≤ most) → (p : ℕ) → nodes (z p) ≤ most

-- both are places of a table of n places
abbrev pub IsPairBelow : ℕ → Pair → Type 0
IsPairBelow n p = (p.first < n) × (p.second < n)

-- the types at the places of each pair are equal
abbrev pub AreEqual : (ℕ → Term) → List Pair → Type 0
AreEqual w pairs = All (λ p. w p.first ≡ w p.second) pairs

-- new says what old says, and that the types at the places of each pair are equal; it may have more places
pub record Joins (i : Instances) (old : List Node) (pending : List Pair) (new : List Node) : Type 0 where
  pub longer : length old ≤ length new
  pub sound : (w : ℕ → Term) → Fits i w new → Fits i w old × AreEqual w pending
  pub complete :
      (w : ℕ → Term) → Fits i w old → AreEqual w pending → (z : ℕ → Term) × (Continues (length old) w z × Fits i z new)
