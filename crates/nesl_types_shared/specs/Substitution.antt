-- Types put in place of variables.
use Rattle.std.specs.Prelude.{ℕ, Bool, false, ◌||◌, ◌==◌, if◌then◌else◌}
use Rattle.nesl_types_shared.specs.Term.{Term, int, bool, char, variable, seq_of, pair_of, named}

-- a type with `s v` in place of each variable v
abbrev pub substitute : (ℕ → Term) → Term → Term
substitute s int = int
substitute s bool = bool
substitute s char = char
substitute s (variable v) = s v
substitute s (seq_of t) = seq_of (substitute s t)
substitute s (pair_of t u) = pair_of (substitute s t) (substitute s u)
substitute s (named n) = named n

-- whether a variable occurs in a type
abbrev pub occurs : ℕ → Term → Bool
occurs x int = false
occurs x bool = false
occurs x char = false
occurs x (variable v) = v == x
occurs x (seq_of t) = occurs x t
occurs x (pair_of t u) = occurs x t || occurs x u
occurs x (named n) = false

-- one variable replaced, all others kept
abbrev pub single : ℕ → Term → ℕ → Term
single x t v = if v == x then t else variable v
