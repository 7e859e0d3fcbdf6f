-- The local names of a scope, the newest first.
use Rattle.std.specs.Prelude.{ℕ, List}
use Rattle.nesl_infer_names.specs.declared.scope.Scope.{Scope}
use Rattle.nesl_infer_names.specs.Scoping.{newest_first}

abbrev pub locals : Scope → List (List ℕ)
locals s = newest_first (λ k. k.items) s.names.items
