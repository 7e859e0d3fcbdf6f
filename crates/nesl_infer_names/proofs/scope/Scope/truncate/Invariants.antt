use Rattle.std.proofs.Common.{◌≡◌, ◌-◌, drop}
use Rattle.nesl_infer_names.specs.Scopes.{locals}
use Rattle.nesl_infer_names.proofs.scope.Scope.truncate.Given as goal

abbrev pub invariant-loop-place : goal.invariant-loop-place
invariant-loop-place l = locals l.self ≡ drop (l._place - l.len) (locals l.initial.self)
