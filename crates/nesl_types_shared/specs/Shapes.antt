-- Types but for their parts.
use Rattle.std.specs.Prelude.{ℕ, ◌+◌, ◌-◌, ◌^◌, ◌<◌, min, List, slice_index_or}
use Rattle.nesl_types_shared.specs.Term.{Term, int, bool, char, variable, seq_of, pair_of, named}
use Rattle.nesl_types_shared.specs.declared.shape.Shape.{Shape}
use Rattle.nesl_types_shared.specs.declared.shape.Shape.TheVariants.{Int, Bool, Char, Var, Named, SeqOf, Both}

-- the type of a shape, where `f` gives the types at the places
abbrev pub shape_type : (ℕ → Term) → Shape → Term
shape_type f Int = int
shape_type f Bool = bool
shape_type f Char = char
shape_type f (Var v) = variable v
shape_type f (Named n) = named n
shape_type f (SeqOf p) = seq_of (f p)
shape_type f (Both p q) = pair_of (f p) (f q)

-- its parts are at places below n
abbrev pub IsShapeBelow : ℕ → Shape → Type 0
IsShapeBelow n Int = Unit {0}
IsShapeBelow n Bool = Unit {0}
IsShapeBelow n Char = Unit {0}
IsShapeBelow n (Var v) = Unit {0}
IsShapeBelow n (Named m) = Unit {0}
IsShapeBelow n (SeqOf p) = p < n
IsShapeBelow n (Both p q) = (p < n) × (q < n)

-- the greatest size that a count holds
abbrev pub largest : ℕ
largest = 2 ^ 64 - 1

-- its size, where `f` gives the sizes at the places
abbrev pub shape_size : (ℕ → ℕ) → Shape → ℕ
shape_size f Int = 1
shape_size f Bool = 1
shape_size f Char = 1
shape_size f (Var v) = 1
shape_size f (Named n) = 1
shape_size f (SeqOf p) = min (f p + 1) largest
shape_size f (Both p q) = min (min (f p + f q) largest + 1) largest

abbrev pub shape_at : List Shape → ℕ → Shape
shape_at shapes p = slice_index_or shapes p Int
