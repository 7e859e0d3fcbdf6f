-- Which types a class has.
use Rattle.std.specs.Prelude.{◌≡◌, ◌⊎◌, ℕ, List, slice_get, unwrap_or}
use Rattle.nesl_types.specs.declared.classes.Class.{Class}
use Rattle.nesl_types.specs.declared.classes.Class.TheVariants.{Any, Ordinal, Number, Logical}
use Rattle.nesl_types_shared.specs.Term.{Term, int, bool, char, variable, seq_of, pair_of, named}

-- a class is the set of its members
abbrev pub IsMember : Class → Term → Type 0
IsMember Any t = Unit {0}
IsMember Ordinal t = (t ≡ int) ⊎ (t ≡ char)
IsMember Number t = t ≡ int
IsMember Logical t = (t ≡ int) ⊎ (t ≡ bool)

-- each member of the first class is one of the second
abbrev pub IsWithin : Class → Class → Type 0
IsWithin c d = (t : Term) → IsMember c t → IsMember d t

-- a type is in a class, where `of` gives each variable its own class: a variable is in each class that contains its own
abbrev pub IsIn : (ℕ → Class) → Class → Term → Type 0
IsIn of c int = IsMember c int
IsIn of c bool = IsMember c bool
IsIn of c char = IsMember c char
IsIn of c (variable v) = IsWithin (of v) c
IsIn of c (seq_of t) = IsMember c (seq_of t)
IsIn of c (pair_of t u) = IsMember c (pair_of t u)
IsIn of c (named n) = IsMember c (named n)

-- the class at place v, or `Any` past the end
abbrev pub class_at : List Class → ℕ → Class
class_at cs v = unwrap_or (slice_get cs v) Any
