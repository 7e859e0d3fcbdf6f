-- What a type is.
use Rattle.std.specs.Prelude.{ℕ, ◌+◌}

pub data Term : Type 0 where
  int : Term
  bool : Term
  char : Term
  variable : ℕ → Term
  seq_of : Term → Term
  pair_of : Term → Term → Term
  named : ℕ → Term

-- how many nodes a type has
abbrev pub nodes : Term → ℕ
nodes int = 1
nodes bool = 1
nodes char = 1
nodes (variable v) = 1
nodes (seq_of t) = 1 + nodes t
nodes (pair_of t u) = 1 + nodes t + nodes u
nodes (named n) = 1
