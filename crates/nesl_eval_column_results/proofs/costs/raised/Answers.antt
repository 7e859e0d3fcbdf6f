use Rattle.nesl_eval_column_results.proofs.Costing.{sums_raised}
use Rattle.nesl_eval_column_results.proofs.costs.raised.Goals as goal

pub returns : goal.returns
returns g c = sums_raised c.args.costs.same c.args.by c.in_ok-same.same c.args.costs.more c.in_ok-same.ensures.1
