use Rattle.std.proofs.Common.{◌≡◌, take}
use Rattle.nesl_cost_eval.specs.Scopes.{locals}
use Rattle.nesl_cost_eval.proofs.scope.copied_names.Given as goal

abbrev pub invariant-loop-local : goal.invariant-loop-local
invariant-loop-local l = locals l.copies.items ≡ locals (take l.local-index l.names)
