-- What solves equations and classes.
use Rattle.std.specs.Prelude.{◌≡◌, ℕ, List, All, nat_lt, if◌then◌else◌}
use Rattle.nesl_types.specs.declared.classes.Class.{Class}
use Rattle.nesl_types.specs.Class.{IsIn, class_at}
use Rattle.nesl_types_shared.specs.Term.{Term, int, variable}
use Rattle.nesl_types_shared.specs.Substitution.{substitute}
use Rattle.nesl_types_shared.specs.Types.{type_at}
use Rattle.nesl_types_shared.specs.Shapes.{shape_type}
use Rattle.nesl_types_shared.specs.declared.shape.Shape.{Shape}
use Rattle.nesl_unify_graph.specs.Instances.{parts_in, instance_type}
use Rattle.nesl_unify_graph.specs.declared.node.Node.{Node}
use Rattle.nesl_unify_graph.specs.declared.node.Node.TheVariants.{Free, Same, Int, Bool, Char, Named, SeqOf, Both, Part}
use Rattle.nesl_unify_graph.specs.declared.instances.Instances.{Instances}
use Rattle.nesl_unify_graph.specs.Graph.{node_at, Fits}
use Rattle.nesl_unify_graph.specs.Readings.{unrolled}
use Rattle.nesl_types_shared.specs.Numbering.{IsBelow}
use Rattle.nesl_unify.specs.declared.equation.Equation.{Equation}
use Rattle.nesl_unify.specs.declared.narrow.Member.{Member}
use Rattle.nesl_unify.specs.declared.solution.Solution.{Solution}
use Rattle.nesl_unify.specs.Members.{IsInAll}

-- each equation holds where `s v` stands for each variable v
abbrev pub SolvesAll : (ℕ → Term) → List Equation → Type 0
SolvesAll s equations = All (λ e. substitute s e.left ≡ substitute s e.right) equations

-- each variable of the equations is below n
abbrev pub AreBelow : ℕ → List Equation → Type 0
AreBelow n equations = All (λ e. IsBelow n e.left × IsBelow n e.right) equations

-- `s v` stands for each variable v, and `of v` is the class of each variable v in these types
pub record IsSolution (equations : List Equation) (members : List Member) (s : ℕ → Term) (of : ℕ → Class) : Type 0 where
  pub equal : SolvesAll s equations
  pub within : IsInAll s of members

-- the type at place p, read far enough for one of 4,096 nodes
abbrev pub type_in : Instances → List Node → ℕ → Term
type_in i ns p = unrolled i ns (λ q. int) 8192 p

-- the type of a variable: the one at its place, or the variable itself where it has none
abbrev pub type_of : Solution → ℕ → Term
type_of a v = if nat_lt v a.count then type_in a.instances a.nodes.items v else variable v

-- the class of a variable that is left
abbrev pub class_of : Solution → ℕ → Class
class_of a = class_at a.classes.items

-- `s` is `general` with a type of its class in place of each variable
pub record IsInstance (general : ℕ → Term) (classes : ℕ → Class) (s : ℕ → Term) (of : ℕ → Class) : Type 0 where
  pub put : ℕ → Term
  pub same : (v : ℕ) → s v ≡ substitute put (general v)
  pub within : (v : ℕ) → IsIn of (classes v) (put v)

-- types that fit a graph, and of which a free place is its own variable
pub record IsReading (i : Instances) (ns : List Node) (g : ℕ → Term) : Type 0 where
  pub fits : Fits i g ns
  pub free : (p : ℕ) → node_at ns p ≡ Free → g p ≡ variable p

-- the types of the parts of a node's type
abbrev pub inner_types : Instances → (ℕ → Term) → Node → ℕ → Term
inner_types i w Free q = w q
inner_types i w (Same p) q = w q
inner_types i w Int q = w q
inner_types i w Bool q = w q
inner_types i w Char q = w q
inner_types i w (Named m) q = w q
inner_types i w (SeqOf p) q = w q
inner_types i w (Both p r) q = w q
inner_types i w (Part r k) q = instance_type i w r (type_at (parts_in i r) q)

-- a type has a shape, whatever its parts are
abbrev pub HasShape : Term → Shape → Type 0
HasShape t s = (f : ℕ → Term) × (t ≡ shape_type f s)
