-- Bounds on types.
use Rattle.std.specs.Prelude.{ℕ, ◌≤◌}
use Rattle.nesl_types_shared.specs.Term.{Term, nodes}

-- each type has at most 4,096 nodes
abbrev pub IsBounded : (ℕ → Term) → Type 0
IsBounded s = (v : ℕ) → nodes (s v) ≤ 4096
