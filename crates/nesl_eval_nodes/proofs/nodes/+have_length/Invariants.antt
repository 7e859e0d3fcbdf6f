use Rattle.std.proofs.Common.{length}
use Rattle.nesl_eval_nodes.proofs.nodes.+have_length.Given as goal

abbrev pub decreases-have_length : goal.decreases-have_length
decreases-have_length g l = length l.values.now
