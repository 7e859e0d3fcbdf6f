use Rattle.nesl_eval_column_results.proofs.Costing.{sums_in}
use Rattle.nesl_eval_column_results.proofs.costs.sum.Goals as goal

pub returns : goal.returns
returns g c = sums_in c.args.one.same c.args.other.same c.in_ok-same.same c.args.one.more c.args.other.more c.in_ok-more.more c.in_ok-same.ensures.1 c.in_ok-more.ensures
