use Rattle.std.proofs.Common.{length}
use Rattle.nesl_cost_eval.proofs.scope.+bind_all.Given as goal

abbrev pub decreases-bind_all : goal.decreases-bind_all
decreases-bind_all l = length l.bindings.now
