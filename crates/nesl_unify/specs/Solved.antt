-- Graphs that were solved.
use Rattle.std.specs.Prelude.{◌≡◌, ◌<◌, ◌≤◌, ℕ, List, length}
use Rattle.std.proofs.Props.{props}
use Rattle.std.specs.Coded.{×_prop, Unit-prop, le_prop}
use Rattle.nesl_types_shared.specs.Term.{Term, int, bool, char, variable, seq_of, pair_of, named}
use Rattle.nesl_types_shared.specs.Numbering.{IsBelow}
use Rattle.nesl_unify_graph.specs.declared.node.Node.{Node}
use Rattle.nesl_unify_graph.specs.declared.node.Node.TheVariants.{Free, Same, Int, Bool as Boolean, Char, Named}
use Rattle.nesl_unify_graph.specs.declared.node.Node.TheVariants.{SeqOf, Both, Part}
use Rattle.nesl_unify_graph.specs.declared.instances.Instances.{Instances}
use Rattle.nesl_unify_graph.specs.Graph.{Fits, IsRoot, IsFlat}
use Rattle.nesl_unify_graph.specs.Instances.{IsPart, AreBelow}
use Rattle.nesl_unify_graph.specs.Readings.{AreReadWithin}
use Rattle.nesl_unify_graph.specs.Tables.{IsPlaced, IsTable}
use Rattle.nesl_unify.specs.Facts.{IsSaid}

-- a graph whose types have at most 4,096 nodes; the first `count` places may be free
pub record IsSolved (i : Instances) (count : ℕ) (ns : List Node) : Type 0 where
  pub below : AreBelow (length ns) i
  pub table : IsTable i count ns
  pub flat : IsFlat ns
  pub read : AreReadWithin i ns 4096
  pub within : count ≤ length ns

-- types of all places fit the graph, and those of the first `count` are what s gives
abbrev pub IsMet : Instances → ℕ → List Node → (ℕ → Term) → Type 0
IsMet i count ns s = (z : ℕ → Term) × (Fits i z ns × ((v : ℕ) → v < count → z v ≡ s v))

-- each of these facts has at most one proof
pub below-prop : (n : ℕ) (t : Term) → IsProp (IsBelow n t)
below-prop n int = Unit-prop
below-prop n bool = Unit-prop
below-prop n char = Unit-prop
below-prop n (variable v) = le_prop
below-prop n (seq_of t) = below-prop n t
below-prop n (pair_of t u) = ×_prop (below-prop n t) (below-prop n u)
below-prop n (named k) = Unit-prop

pub ruleset part_props = (props, below-prop)

pub part-prop : (i : Instances) (r k : ℕ) → IsProp (IsPart i r k)
part-prop i r k = Prim.hlevel part_props

pub placed-prop : (i : Instances) (count n p : ℕ) (m : Node) → IsProp (IsPlaced i count n p m)
placed-prop i count n p Free = le_prop
placed-prop i count n p (Same q) = le_prop
placed-prop i count n p Int = Unit-prop
placed-prop i count n p Boolean = Unit-prop
placed-prop i count n p Char = Unit-prop
placed-prop i count n p (Named m) = Unit-prop
placed-prop i count n p (SeqOf q) = le_prop
placed-prop i count n p (Both q r) = ×_prop le_prop le_prop
placed-prop i count n p (Part r k) = part-prop i r k

pub root-prop : (m : Node) → IsProp (IsRoot m)
root-prop Free = Unit-prop
root-prop (Same q) = λ a b. absurd a
root-prop Int = Unit-prop
root-prop Boolean = Unit-prop
root-prop Char = Unit-prop
root-prop (Named m) = Unit-prop
root-prop (SeqOf q) = Unit-prop
root-prop (Both q r) = Unit-prop
root-prop (Part r k) = Unit-prop

pub ruleset graph_props = (props, placed-prop, root-prop)

pub said-prop : (i : Instances) (n : ℕ) (m : Node) → IsProp (IsSaid i n m)
said-prop i n Free = λ a b. absurd a
said-prop i n (Same q) = le_prop
said-prop i n Int = Unit-prop
said-prop i n Boolean = Unit-prop
said-prop i n Char = Unit-prop
said-prop i n (Named m) = Unit-prop
said-prop i n (SeqOf q) = le_prop
said-prop i n (Both q r) = ×_prop le_prop le_prop
said-prop i n (Part r k) = part-prop i r k

pub ruleset system_props = (props, said-prop)
