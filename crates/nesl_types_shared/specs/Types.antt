-- Types that are each made of earlier ones.
use Rattle.std.specs.Prelude.{◌≡◌, ◌⊎◌, ◌<◌, ◌≤◌, ℕ, Bool, if◌then◌else◌, min}
use Rattle.std.specs.Prelude.{List, [], ◌∷◌, ◌++◌, length, map, fold, slice_index_or}
use Rattle.nesl_types_shared.specs.Term.{Term, int, nodes}
use Rattle.nesl_types_shared.specs.declared.shape.Shape.{Shape}
use Rattle.nesl_types_shared.specs.Shapes.{IsShapeBelow, shape_type, shape_at, largest}

-- the type at place p
abbrev pub type_at : List Term → ℕ → Term
type_at ts p = slice_index_or ts p int

-- how many nodes a type has, at most the greatest that a count holds
abbrev pub size_of : Term → ℕ
size_of t = min (nodes t) largest

-- one type more, whose parts are there
abbrev pub with_shape : List Term → Shape → List Term
with_shape ts shape = ts ++ shape_type (type_at ts) shape ∷ []

-- the types of shapes, in order
abbrev pub types : List Shape → List Term
types shapes = fold with_shape [] shapes

-- each shape is made of earlier ones
abbrev pub AreMade : List Shape → Type 0
AreMade shapes = (p : ℕ) → p < length shapes → IsShapeBelow p (shape_at shapes p)

-- no shape occurs twice
abbrev pub StandOnce : List Shape → Type 0
StandOnce shapes =
    (p q : ℕ) → p < length shapes → q < length shapes → shape_at shapes p ≡ shape_at shapes q → p ≡ q

-- a shape is at none of the places
abbrev pub IsAbsent : List Shape → Shape → Type 0
IsAbsent shapes shape = (p : ℕ) → p < length shapes → shape_at shapes p ≡ shape → ⊥

-- shapes of types: each is made of earlier ones, and none occurs twice
pub record AreTypes (shapes : List Shape) : Type 0 where
  pub made : AreMade shapes
  pub once : StandOnce shapes

-- the shapes of a bank, and the sizes of their types
pub record IsBank (shapes : List Shape) (sizes : List ℕ) : Type 0 where
  pub made : AreMade shapes
  pub once : StandOnce shapes
  pub sized : sizes ≡ map size_of (types shapes)

-- a shape is at place p of new, which is old, or old with the shape at its end where it was added
pub record IsPlaced (old new : List Shape) (shape : Shape) (p : ℕ) (added : Bool) : Type 0 where
  pub within : p < length new
  pub here : shape_at new p ≡ shape
  pub rest : new ≡ (if added then old ++ shape ∷ [] else old)
  pub once : StandOnce new

-- no two types are equal
abbrev pub AreDistinct : List Term → Type 0
AreDistinct ts = (p q : ℕ) → p < length ts → q < length ts → type_at ts p ≡ type_at ts q → p ≡ q

-- new begins with the types of old
pub record Extends (old new : List Term) : Type 0 where
  pub longer : length old ≤ length new
  pub kept : (p : ℕ) → p < length old → type_at new p ≡ type_at old p

-- the type t is at place p of new, which is old, or old with t at its end
pub record IsPut (old new : List Term) (t : Term) (p : ℕ) : Type 0 where
  pub within : p < length new
  pub here : type_at new p ≡ t
  pub rest : (new ≡ old) ⊎ (new ≡ old ++ t ∷ [])
