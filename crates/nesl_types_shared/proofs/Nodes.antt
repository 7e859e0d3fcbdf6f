-- The number of nodes of a type.
use Rattle.std.proofs.Common.{◌<◌, arith}
use Rattle.nesl_types_shared.specs.Term.{Term, int, bool, char, variable, seq_of, pair_of, named, nodes}

pub nodes_positive : (t : Term) → 0 < nodes t
nodes_positive int = omega arith
nodes_positive bool = omega arith
nodes_positive char = omega arith
nodes_positive (variable v) = omega arith
nodes_positive (seq_of t) = omega arith
nodes_positive (pair_of t u) = omega arith
nodes_positive (named n) = omega arith
