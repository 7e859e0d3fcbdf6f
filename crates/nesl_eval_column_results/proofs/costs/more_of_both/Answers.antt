use Rattle.nesl_eval_column_results.proofs.Costing.{sums_some}
use Rattle.nesl_eval_column_results.proofs.costs.more_of_both.Goals as goal

pub returns-in_ok-added-in-Some-other : goal.returns-in_ok-added-in-Some-other
returns-in_ok-added-in-Some-other g c =
    rw (c.in-Some.is, c.in-Some-other.is) (sums_some c.in-Some.left c.in-Some-other.right c.in_ok-added-in-Some-other.field-0 (rw (← c.deref.ensures.value, ← c.deref-in-Some-other.ensures.value) c.in_ok-added-in-Some-other.ensures))
