use Rattle.std.proofs.Common.{◌≡◌, take}
use Rattle.std.specs.Prelude.{option_map}
use Rattle.nesl_values.specs.View.{tree_of}
use Rattle.nesl_builtins.specs.Named.{look_up}
use Rattle.nesl_cost_eval.specs.Scopes.{locals}
use Rattle.nesl_cost_eval.proofs.scope.local_value.Given as goal

abbrev pub invariant-loop-local : goal.invariant-loop-local
invariant-loop-local l = option_map (λ v. tree_of v.now) l.found ≡ look_up (locals (take l.local-index l.names)) l.name
