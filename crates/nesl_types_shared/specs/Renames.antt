-- Types with types in place of their variables.
use Rattle.std.specs.Prelude.{◌≡◌, ◌<◌, ◌≤◌, ℕ, List, All, length, Option, Some, slice_get, slice_index, slice_set}
use Rattle.std.specs.Option.{option_map_or}
use Rattle.nesl_types_shared.specs.Term.{Term, variable}
use Rattle.nesl_types_shared.specs.Substitution.{substitute}
use Rattle.nesl_types_shared.specs.Numbering.{IsBelow}
use Rattle.nesl_types_shared.specs.declared.shape.Shape.{Shape}
use Rattle.nesl_types_shared.specs.declared.shape.Shape.TheVariants.{Int, Bool, Char, Var, Named, SeqOf, Both}
use Rattle.nesl_types_shared.specs.Shapes.{shape_type, IsShapeBelow}
use Rattle.nesl_types_shared.specs.Types.{type_at}
use Rattle.nesl_types_shared.specs.Lists.{moved_to}

-- the type of a shape, where `s` gives the types for variables and `f` those at the places
abbrev pub renamed : (ℕ → Term) → (ℕ → Term) → Shape → Term
renamed s f Int = shape_type f Int
renamed s f Bool = shape_type f Bool
renamed s f Char = shape_type f Char
renamed s f (Var v) = s v
renamed s f (Named n) = shape_type f (Named n)
renamed s f (SeqOf p) = shape_type f (SeqOf p)
renamed s f (Both p q) = shape_type f (Both p q)

-- what is put for variable v: the type at the place that is given for it, or the variable where none is given
abbrev pub replacement : List Term → List ℕ → ℕ → Term
replacement ts of v = option_map_or (type_at ts) (slice_get of v) (variable v)

-- the types of new have no variables but those of old and of the type t
abbrev pub HaveVariablesOf : List Term → List Term → Term → Type 0
HaveVariablesOf old new t = (n : ℕ) → All (IsBelow n) old → IsBelow n t → All (IsBelow n) new

-- the places in `to` of the types of `from`, each with `s v` in place of each variable v
pub record AreRenamed (s : ℕ → Term) (from to : List Term) (places : List ℕ) : Type 0 where
  pub len : length places ≡ length from
  pub within : All (λ p. p < length to) places
  pub types : (p : ℕ) → p < length from → type_at to (slice_index places p) ≡ substitute s (type_at from p)

-- each place that is noted is below n
abbrev pub AreBelow : ℕ → List (Option ℕ) → Type 0
AreBelow n wanted = (q a : ℕ) → moved_to wanted q ≡ Some a → a < n

-- place p is noted for part q now, and no other place was noted for it before
pub record IsWanted (old new : List (Option ℕ)) (q p : ℕ) : Type 0 where
  pub now : new ≡ slice_set old q (Some p)
  pub before : (a : ℕ) → moved_to old q ≡ Some a → a ≡ p

-- of the parts before n, each that has a place noted is there what `f` gives, with `s v` in place of each variable v
abbrev pub AreInstances : (ℕ → Term) → List Term → List (Option ℕ) → ℕ → (ℕ → Term) → Type 0
AreInstances s ts wanted n f = (q a : ℕ) → q < n → moved_to wanted q ≡ Some a → type_at ts a ≡ substitute s (f q)

-- the type at place p is that of a shape, with `s v` in place of each variable v, where its parts are at the
-- places that are noted for them now; places that were noted before stay so
pub record Matches (s : ℕ → Term) (ts : List Term) (old new : List (Option ℕ)) (shape : Shape) (p : ℕ) : Type 0 where
  pub longer : length new ≡ length old
  pub kept : (q a : ℕ) → moved_to old q ≡ Some a → moved_to new q ≡ Some a
  pub others : (n q : ℕ) → IsShapeBelow n shape → n ≤ q → moved_to new q ≡ moved_to old q
  pub below : AreBelow (length ts) old → AreBelow (length ts) new
  pub here : (n : ℕ) (f : ℕ → Term) → IsShapeBelow n shape → AreInstances s ts new n f →
      type_at ts p ≡ substitute s (shape_type f shape)
