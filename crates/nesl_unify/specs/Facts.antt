-- What is recorded of the types of variables.
use Rattle.std.specs.Prelude.{◌≡◌, ◌<◌, ◌++◌, ◌∷◌, ℕ, List, [], All, length, slice_index}
use Rattle.nesl_types_shared.specs.Term.{Term}
use Rattle.nesl_types_shared.specs.Substitution.{substitute}
use Rattle.nesl_types_shared.specs.Types.{type_at}
use Rattle.nesl_unify_graph.specs.declared.node.Node.{Node}
use Rattle.nesl_unify_graph.specs.declared.node.Node.TheVariants.{Free, Same, Int, Bool, Char, Named, SeqOf, Both, Part}
use Rattle.nesl_unify_graph.specs.declared.instances.Source.{Source}
use Rattle.nesl_unify_graph.specs.declared.instances.Instances.{Instances}
use Rattle.nesl_unify_graph.specs.Graph.{node_type}
use Rattle.nesl_unify_graph.specs.Instances.{parts_in, instance_type, IsPart, AreBelow}
use Rattle.nesl_unify.specs.declared.fact.Fact.{Fact}
use Rattle.nesl_unify.specs.declared.flat.Flat.{Flat}
use Rattle.nesl_unify.specs.declared.flat.Flat.TheVariants as flat

-- a node says something in n variables
abbrev pub IsSaid : Instances → ℕ → Node → Type 0
IsSaid i n Free = ⊥
IsSaid i n (Same q) = q < n
IsSaid i n Int = Unit {0}
IsSaid i n Bool = Unit {0}
IsSaid i n Char = Unit {0}
IsSaid i n (Named m) = Unit {0}
IsSaid i n (SeqOf q) = q < n
IsSaid i n (Both q r) = (q < n) × (r < n)
IsSaid i n (Part r k) = IsPart i r k

-- the type of a fact's variable is as the fact says
abbrev pub Holds : Instances → (ℕ → Term) → Fact → Type 0
Holds i s f = s f.variable ≡ node_type i s (s f.variable) f.node

-- a fact in n variables
abbrev pub IsFact : Instances → ℕ → Fact → Type 0
IsFact i n f = (f.variable < n) × IsSaid i n f.node

-- facts in n variables, and instances with variables for their own
pub record AreFacts (i : Instances) (n : ℕ) (facts : List Fact) : Type 0 where
  pub below : AreBelow n i
  pub made : All (IsFact i n) facts

-- all facts are true where each variable v has the type s v
abbrev pub AreTrue : Instances → List Fact → (ℕ → Term) → Type 0
AreTrue i facts s = All (Holds i s) facts

-- the node of a type whose parts are variables
abbrev pub flat_node : Flat → Node
flat_node flat.Int = Int
flat_node flat.Bool = Bool
flat_node flat.Char = Char
flat_node (flat.Var v) = Same v
flat_node (flat.Named n) = Named n
flat_node (flat.SeqOf v) = SeqOf v
flat_node (flat.Both v w) = Both v w

-- the parts of the instances of i are the same in j
abbrev pub IsKept : Instances → Instances → Type 0
IsKept i j =
    (r k : ℕ) → IsPart i r k →
    IsPart j r k
    × ((w : ℕ → Term) → instance_type j w r (type_at (parts_in j r) k) ≡ instance_type i w r (type_at (parts_in i r) k))

-- j is i with an instance at place r, whose parts are in `source` and whose variables are those of `more`
pub record IsPutIn (i j : Instances) (source : Source) (more : List ℕ) (r : ℕ) : Type 0 where
  pub base : ℕ
  pub begins : 0 < length more → base ≡ length i.fresh.items
  pub shared : j.shared ≡ i.shared
  pub made : j.made.items ≡ i.made.items ++ record { source = source; base = base } ∷ []
  pub fresh : j.fresh.items ≡ i.fresh.items ++ more
  pub place : r ≡ length i.made.items

-- j is i with an instance more, and the node says that it is the type t with the variables of `fresh` for its own
pub record IsInstanceNode (i j : Instances) (fresh : List ℕ) (t : Term) (m : Node) : Type 0 where
  pub kept : IsKept i j
  pub below : (n : ℕ) → AreBelow n i → All (λ v. v < n) fresh → AreBelow n j
  pub said : (n : ℕ) → All (λ v. v < n) fresh → IsSaid j n m
  pub same : (s : ℕ → Term) (u : Term) → node_type j s u m ≡ substitute (λ v. s (slice_index fresh v)) t
