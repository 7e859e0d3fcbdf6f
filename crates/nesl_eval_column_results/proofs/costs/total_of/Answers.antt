use Rattle.std.proofs.Common.{arith}
use Rattle.nesl_eval_columns.proofs.Turns.{some_so}
use Rattle.nesl_eval_column_results.proofs.Costing.{paid_same, paid_listed}
use Rattle.nesl_eval_column_results.proofs.costs.total_of.Goals as goal

pub returns-in_ok-work-in-None : goal.returns-in_ok-work-in-None
returns-in_ok-work-in-None g c =
    let a = c.args.costs in
    paid_same a.same c.args.count c.in_ok-work-in-None.work a.more c.in-None.is c.requires c.in_ok-work-in-None.ensures.1

pub returns-else-len-count : goal.returns-else-len-count
returns-else-len-count g c =
    let a = c.args.costs in
    some_so _ _ (λ r h. paid_listed a.same c.args.count a.more c.in-Some.list c.deref.result.now r.work r.depth c.in-Some.is c.deref.ensures.value (omega (arith, c.if-len-count.false, c.len.ensures, c.deref.ensures.len)) h.0 h.1) c.paid_each.result c.paid_each.ensures
