use Rattle.std.proofs.Common.{length}
use Rattle.nesl_infer.proofs.whole.+constrain_under.Given as goal

abbrev pub decreases-constrain_under : goal.decreases-constrain_under
decreases-constrain_under g l = length l.names.now.items
