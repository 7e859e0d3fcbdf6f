-- The parts of a type, in one list.
use Rattle.std.specs.Prelude.{◌≡◌, ◌⊎◌, ℕ, ◌-◌, ◌<◌, ◌==◌, ◌&&◌, Bool as Bool', true, false, if◌then◌else◌}
use Rattle.std.specs.Prelude.{List, [], ◌∷◌, ◌++◌, length, Option, Some, None, slice_index_or}
use Rattle.std.specs.List.{list_any}
use Rattle.nesl_types_shared.specs.Term.{Term, int, bool, char, variable, seq_of, pair_of, named, nodes}
use Rattle.nesl_types_shared.specs.declared.shape.Shape.{Shape}
use Rattle.nesl_types_shared.specs.declared.shape.Shape.TheVariants.{Int, Bool, Char, Var, Named, SeqOf, Both}
use Rattle.nesl_types_shared.specs.declared.lists.Step.{Step}
use Rattle.nesl_types_shared.specs.declared.lists.Step.TheVariants.{Push, Part}
use Rattle.nesl_types_shared.specs.Shapes.{largest}
use Rattle.nesl_types_shared.specs.Types.{type_at, types, AreMade, StandOnce}

-- whether two types are the same
abbrev pub is_same : Term → Term → Bool'
is_same int int = true
is_same bool bool = true
is_same char char = true
is_same (variable v) (variable w) = v == w
is_same (named m) (named n) = m == n
is_same (seq_of t) (seq_of u) = is_same t u
is_same (pair_of t u) (pair_of v w) = is_same t v && is_same u w
is_same t u = false

-- a type is added where it isn't yet
abbrev pub with_type : List Term → Term → List Term
with_type ts t = if list_any (is_same t) ts then ts else ts ++ t ∷ []

-- the parts of a type are added where they aren't yet, from left to right, each after its own parts
abbrev pub with_parts : List Term → Term → List Term
with_parts ts int = with_type ts int
with_parts ts bool = with_type ts bool
with_parts ts char = with_type ts char
with_parts ts (variable v) = with_type ts (variable v)
with_parts ts (seq_of t) = with_type (with_parts ts t) (seq_of t)
with_parts ts (pair_of t u) = with_type (with_parts (with_parts ts t) u) (pair_of t u)
with_parts ts (named n) = with_type ts (named n)

-- the parts of a type, each once, and the type itself last
abbrev pub parts_of : Term → List Term
parts_of t = with_parts [] t

abbrev pub last_type : List Term → Term
last_type ts = type_at ts (length ts - 1)

-- the shapes of the parts of t, in order
pub record AreParts (shapes : List Shape) (t : Term) : Type 0 where
  pub made : AreMade shapes
  pub once : StandOnce shapes
  pub some : 0 < length shapes
  pub order : types shapes ≡ parts_of t
  pub last : last_type (types shapes) ≡ t

-- how many nodes a type has, or `None` where they are more than a count holds
abbrev pub IsCount : Option ℕ → Term → Type 0
IsCount None t = largest < nodes t
IsCount (Some n) t = n ≡ nodes t

-- the shapes of a type's parts, and how many nodes it has
pub record IsType (shapes : List Shape) (count : Option ℕ) : Type 0 where
  pub parts : AreParts shapes (last_type (types shapes))
  pub sized : IsCount count (last_type (types shapes))

-- the place to which a type was moved, where it was
abbrev pub moved_to : List (Option ℕ) → ℕ → Option ℕ
moved_to places p = slice_index_or places p None

-- the shape s at the places to which its parts were moved
abbrev pub IsMoved : List (Option ℕ) → Shape → Shape → Type 0
IsMoved places Int s = s ≡ Int
IsMoved places Bool s = s ≡ Bool
IsMoved places Char s = s ≡ Char
IsMoved places (Var v) s = s ≡ Var v
IsMoved places (Named n) s = s ≡ Named n
IsMoved places (SeqOf p) s = (a : ℕ) × ((moved_to places p ≡ Some a) × (s ≡ SeqOf a))
IsMoved places (Both p q) s =
    (a : ℕ) × ((b : ℕ) × ((moved_to places p ≡ Some a) × ((moved_to places q ≡ Some b) × (s ≡ Both a b))))

-- the first of a shape's parts that wasn't moved
abbrev pub IsFirstLeft : List (Option ℕ) → Shape → ℕ → Type 0
IsFirstLeft places Int q = ⊥
IsFirstLeft places Bool q = ⊥
IsFirstLeft places Char q = ⊥
IsFirstLeft places (Var v) q = ⊥
IsFirstLeft places (Named n) q = ⊥
IsFirstLeft places (SeqOf p) q = (q ≡ p) × (moved_to places p ≡ None)
IsFirstLeft places (Both p r) q =
    ((q ≡ p) × (moved_to places p ≡ None))
    ⊎ ((q ≡ r) × ((moved_to places r ≡ None) × ((a : ℕ) × (moved_to places p ≡ Some a))))

-- what comes next for a shape: it, where its parts were moved, or the first of them that wasn't
abbrev pub IsStep : List (Option ℕ) → Shape → Step → Type 0
IsStep places shape (Push s) = IsMoved places shape s
IsStep places shape (Part q) = IsFirstLeft places shape q
