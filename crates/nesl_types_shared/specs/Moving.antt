-- The parts of a type, as they are put into a list.
use Rattle.std.specs.Prelude.{◌≡◌, ℕ, ◌<◌, true, List, [], ◌∷◌, ◌++◌, length, Option, Some, None, slice_index_or}
use Rattle.std.specs.List.{list_any}
use Rattle.nesl_types_shared.specs.Term.{Term, int, bool, char, variable, seq_of, pair_of, named}
use Rattle.nesl_types_shared.specs.declared.shape.Shape.{Shape}
use Rattle.nesl_types_shared.specs.Types.{type_at, types, AreMade, StandOnce}
use Rattle.nesl_types_shared.specs.Lists.{is_same, with_parts, parts_of, last_type, moved_to}

-- a type is in a list
abbrev pub Has : List Term → Term → Type 0
Has ts t = list_any (is_same t) ts ≡ true

-- what a type is made of is in a list
abbrev pub HasParts : List Term → Term → Type 0
HasParts ts int = Unit {0}
HasParts ts bool = Unit {0}
HasParts ts char = Unit {0}
HasParts ts (variable v) = Unit {0}
HasParts ts (seq_of t) = Has ts t
HasParts ts (pair_of t u) = Has ts t × Has ts u
HasParts ts (named n) = Unit {0}

-- with each type its parts are in the list
abbrev pub IsClosed : List Term → Type 0
IsClosed ts = (t : Term) → Has ts t → HasParts ts t

-- the place of a stack at k
abbrev pub place_on : List ℕ → ℕ → ℕ
place_on stack k = slice_index_or stack k 0

-- the types so far, with the parts of those at places, the last one's first
abbrev pub finished : (ℕ → Term) → List Term → List ℕ → List Term
finished f ts [] = ts
finished f ts (p ∷ ps) = with_parts (finished f ts ps) (f p)

-- the shapes of the types that were moved to a list, and the places of those that wait, each a part of the one before
pub record IsMoving (from : List Term) (root : ℕ) (shapes : List Shape) (places : List (Option ℕ)) (stack : List ℕ)
    : Type 0 where
  pub made : AreMade shapes
  pub once : StandOnce shapes
  pub len : length places ≡ length from
  pub moved : (p a : ℕ) → moved_to places p ≡ Some a → (a < length shapes) × (type_at (types shapes) a ≡ type_at from p)
  pub all : (p : ℕ) → p < length from → Has (types shapes) (type_at from p) → (a : ℕ) × (moved_to places p ≡ Some a)
  pub closed : IsClosed (types shapes)
  pub below : (i : ℕ) → i < length stack → place_on stack i < length from
  pub left : (i : ℕ) → i < length stack → moved_to places (place_on stack i) ≡ None
  pub falls : (i j : ℕ) → i < j → j < length stack → place_on stack j < place_on stack i
  pub order : finished (type_at from) (types shapes) stack ≡ parts_of (type_at from root)
  pub bottom : 0 < length stack → place_on stack 0 ≡ root
  pub last : length stack ≡ 0 → (0 < length shapes) × (last_type (types shapes) ≡ type_at from root)

-- a part is put into the list, where it waits after others
abbrev pub IsListed : List Term → List Shape → List (Option ℕ) → List Shape → List (Option ℕ) → ℕ → Type 0
IsListed from before at after places place =
    (root : ℕ) (stack : List ℕ) → IsMoving from root before at (stack ++ place ∷ [])
    → IsMoving from root after places stack
