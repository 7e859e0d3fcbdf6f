-- Types whose variables get other numbers.
use Rattle.std.specs.Prelude.{ℕ, List, slice_index}
use Rattle.nesl_types_shared.specs.declared.shape.Shape.{Shape}
use Rattle.nesl_types_shared.specs.declared.shape.Shape.TheVariants.{Int, Bool, Char, Var, Named, SeqOf, Both}

-- a shape with the number `f v` in place of each variable v, and the places of its parts
abbrev pub numbered_shape : (ℕ → ℕ) → List ℕ → Shape → Shape
numbered_shape f places Int = Int
numbered_shape f places Bool = Bool
numbered_shape f places Char = Char
numbered_shape f places (Var v) = Var (f v)
numbered_shape f places (Named n) = Named n
numbered_shape f places (SeqOf p) = SeqOf (slice_index places p)
numbered_shape f places (Both p q) = Both (slice_index places p) (slice_index places q)
