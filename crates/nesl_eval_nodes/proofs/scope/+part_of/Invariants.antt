use Rattle.std.proofs.Common.{length}
use Rattle.nesl_eval_nodes.proofs.scope.+part_of.Given as goal

abbrev pub decreases-part_of : goal.decreases-part_of
decreases-part_of g l = length l.steps.now
