use Rattle.std.proofs.Common.{◌∙◌}
use Rattle.nesl_cost_session.proofs.Totals.{table_work, table_depth}
use Rattle.nesl_cost_session.proofs.costs.tabled.Goals as goal

pub returns-clause-work : goal.returns-clause-work
returns-clause-work c = λ k h. table_work _ _ k c.in_ok-table.ensures.work (c.in_ok-charges.ensures.all k (c.marks.ensures ∙ h))

pub returns-clause-depth : goal.returns-clause-depth
returns-clause-depth c = λ k h. table_depth _ _ k c.in_ok-table.ensures.depth (c.in_ok-charges.ensures.path k (c.marks.ensures ∙ h))
