-- Variables numbered from 0 in the order in which they first occur.
use Rattle.std.specs.Prelude.{ℕ, zero, suc, List, [], ◌∷◌, ◌++◌, ◌+◌, ◌<◌, fold, nat_eq, if◌then◌else◌}
use Rattle.std.specs.List.{list_any}
use Rattle.nesl_types_shared.specs.Term.{Term, int, bool, char, variable, seq_of, pair_of, named}

-- the variables of a type from left to right, each as often as it occurs
abbrev pub variables : Term → List ℕ
variables int = []
variables bool = []
variables char = []
variables (variable v) = v ∷ []
variables (seq_of t) = variables t
variables (pair_of t u) = variables t ++ variables u
variables (named n) = []

-- a number is added where it isn't yet
abbrev pub with_number : List ℕ → ℕ → List ℕ
with_number seen v = if list_any (nat_eq v) seen then seen else seen ++ v ∷ []

-- each number once, in order of first occurrence
abbrev pub first_occurrences : List ℕ → List ℕ
first_occurrences vs = fold with_number [] vs

-- the numbers below n
abbrev pub numbers_below : ℕ → List ℕ
numbers_below zero = []
numbers_below (suc n) = numbers_below n ++ n ∷ []

-- the number of a variable: how many come before it
abbrev pub number_of : List ℕ → ℕ → ℕ
number_of [] v = 0
number_of (w ∷ vs) v = if nat_eq v w then 0 else 1 + number_of vs v

-- each variable of a type is below n
abbrev pub IsBelow : ℕ → Term → Type 0
IsBelow n int = Unit {0}
IsBelow n bool = Unit {0}
IsBelow n char = Unit {0}
IsBelow n (variable v) = v < n
IsBelow n (seq_of t) = IsBelow n t
IsBelow n (pair_of t u) = IsBelow n t × IsBelow n u
IsBelow n (named tag) = Unit {0}
