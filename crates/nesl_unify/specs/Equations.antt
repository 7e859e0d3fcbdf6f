-- Equations between types, and how they are taken apart.
use Rattle.std.specs.Prelude.{◌≡◌, ◌↔◌, ◌<◌, ◌+◌, ◌++◌, ◌∷◌, ℕ, List, [], All, length, slice_index, sum_by}
use Rattle.nesl_types_shared.specs.Term.{Term, variable, nodes}
use Rattle.nesl_types_shared.specs.Numbering.{IsBelow}
use Rattle.nesl_types_shared.specs.Substitution.{substitute}
use Rattle.nesl_types_shared.specs.Types.{type_at}
use Rattle.nesl_types_shared.specs.declared.shape.Shape.{Shape}
use Rattle.nesl_types_shared.specs.declared.shape.Shape.TheVariants as shape
use Rattle.nesl_types_shared.specs.Shapes.{IsShapeBelow, shape_type}
use Rattle.nesl_unify_graph.specs.declared.node.Node.{Node}
use Rattle.nesl_unify_graph.specs.declared.node.Node.TheVariants.{Same, Part}
use Rattle.nesl_unify_graph.specs.declared.instances.Source.TheVariants.{Own}
use Rattle.nesl_unify_graph.specs.declared.instances.Instances.{Instances}
use Rattle.nesl_unify_graph.specs.Instances.{parts_in, instance_type, IsPart}
use Rattle.nesl_unify.specs.declared.fact.Fact.{Fact}
use Rattle.nesl_unify.specs.declared.equation.Ends.{Ends}
use Rattle.nesl_unify.specs.declared.equation.Sides.{Sides}
use Rattle.nesl_unify.specs.declared.equation.Equation.{Equation}
use Rattle.nesl_unify.specs.Facts.{AreFacts, AreTrue}

-- no variable
abbrev pub IsInner : Shape → Type 0
IsInner shape.Int = Unit {0}
IsInner shape.Bool = Unit {0}
IsInner shape.Char = Unit {0}
IsInner (shape.Var v) = ⊥
IsInner (shape.Named m) = Unit {0}
IsInner (shape.SeqOf p) = Unit {0}
IsInner (shape.Both p q) = Unit {0}

-- the node of part k of instance r
abbrev pub part_node : ℕ → ℕ → Shape → Node
part_node r k shape.Int = Part r k
part_node r k shape.Bool = Part r k
part_node r k shape.Char = Part r k
part_node r k (shape.Var v) = Same v
part_node r k (shape.Named m) = Part r k
part_node r k (shape.SeqOf p) = Part r k
part_node r k (shape.Both p q) = Part r k

-- places of both sides
abbrev pub AreEnds : Sides → Ends → Type 0
AreEnds x e = (e.left < length x.left) × (e.right < length x.right)

-- the types at the ends are one, where each variable v means `s v`
abbrev pub IsAlike : (ℕ → Term) → Sides → Ends → Type 0
IsAlike s x e = substitute s (type_at x.left e.left) ≡ substitute s (type_at x.right e.right)

abbrev pub AreAlike : (ℕ → Term) → Sides → List Ends → Type 0
AreAlike s x es = All (IsAlike s x) es

-- the nodes of what is left
abbrev pub weight : Sides → Ends → ℕ
weight x e = nodes (type_at x.left e.left)

-- the types of these shapes are never one
abbrev pub Differ : Shape → Shape → Type 0
Differ a b = (f g s : ℕ → Term) → substitute s (shape_type f a) ≡ substitute s (shape_type g b) → ⊥

-- the types of two shapes are one just where those of the ends are that were added
pub record IsSplit (a b : Shape) (old new : List Ends) : Type 0 where
  pub rest : List Ends
  pub is : new ≡ old ++ rest
  pub same : (f g s : ℕ → Term) →
      (substitute s (shape_type f a) ≡ substitute s (shape_type g b)) ↔
      All (λ e. substitute s (f e.left) ≡ substitute s (g e.right)) rest
  pub within : (m n : ℕ) → IsShapeBelow m a → IsShapeBelow n b → All (λ e. (e.left < m) × (e.right < n)) rest
  pub fewer : (f : ℕ → Term) → sum_by (λ e. nodes (f e.left)) rest < nodes (shape_type f a)

-- instance r has these types for its parts, in n variables
abbrev pub HasParts : Instances → ℕ → ℕ → List Term → Type 0
HasParts i n r ts =
    (k : ℕ) → k < length ts →
    IsBelow n (type_at ts k)
    × (((v : ℕ) → type_at ts k ≡ variable v → ⊥) →
    IsPart i r k × ((s : ℕ → Term) → instance_type i s r (type_at (parts_in i r) k) ≡ substitute s (type_at ts k)))

-- the instances of both sides have their types
pub record AreSides (i : Instances) (n : ℕ) (x : Sides) : Type 0 where
  pub first : HasParts i n x.first x.left
  pub second : HasParts i n x.second x.right

-- what was pending became facts, and what is pending now
pub record AreTakenApart (x : Sides) (old new : List Fact) (before after : List Ends) : Type 0 where
  pub facts : (i : Instances) (n : ℕ) → AreSides i n x → AreFacts i n old → AreFacts i n new
  pub within : All (AreEnds x) after
  pub alike : (s : ℕ → Term) → AreAlike s x before → AreAlike s x after
  pub same : (i : Instances) (n : ℕ) → AreSides i n x → AreFacts i n old → (s : ℕ → Term) →
      (AreTrue i new s × AreAlike s x after) ↔ (AreTrue i old s × AreAlike s x before)

-- the ends became facts, or were split
pub record IsTakenApart (x : Sides) (old new : List Fact) (rest : List Ends) (e : Ends) (after : List Ends) :
    Type 0 where
  pub apart : AreTakenApart x old new (rest ++ e ∷ []) after
  pub fewer : sum_by (weight x) after < sum_by (weight x) rest + weight x e

-- each variable below n has its own place
pub record AreOwnPlaces (n : ℕ) (places : List ℕ) : Type 0 where
  pub long : length places ≡ n
  pub own : (v : ℕ) → v < n → slice_index places v ≡ v

abbrev pub HasOwnPlaces : ℕ → Instances → Type 0
HasOwnPlaces n i = AreOwnPlaces n i.fresh.items

-- j is i with an instance of the type at the end
pub record IsAdded (i j : Instances) (t : Term) (r : ℕ) : Type 0 where
  pub shared : j.shared ≡ i.shared
  pub made : j.made.items ≡ i.made.items ++ record { source = Own t; base = 0 } ∷ []
  pub fresh : j.fresh.items ≡ i.fresh.items
  pub place : r ≡ length i.made.items

-- both sides are the same type, where each variable v means `s v`
abbrev pub IsEqual : (ℕ → Term) → Equation → Type 0
IsEqual s e = substitute s e.left ≡ substitute s e.right

-- each variable of the equation is below n
abbrev pub AreBothBelow : ℕ → Equation → Type 0
AreBothBelow n e = IsBelow n e.left × IsBelow n e.right

-- the facts say what they said, and that both sides are one
pub record IsEquated (i j : Instances) (old new : List Fact) (e : Equation) : Type 0 where
  pub places : (n : ℕ) → HasOwnPlaces n i → HasOwnPlaces n j
  pub facts : (n : ℕ) → HasOwnPlaces n i → AreBothBelow n e → AreFacts i n old → AreFacts j n new
  pub same : (n : ℕ) → HasOwnPlaces n i → AreBothBelow n e → AreFacts i n old → (s : ℕ → Term) →
      AreTrue j new s ↔ (AreTrue i old s × IsEqual s e)
