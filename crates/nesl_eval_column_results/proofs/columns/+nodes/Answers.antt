use Rattle.std.proofs.Common.{ap, sym, ◌∙◌}
use Rattle.nesl_eval_column_results.specs.Columns.{value_at}
use Rattle.nesl_eval_column_results.proofs.Valued.{leaf_size}
use Rattle.nesl_eval_column_results.proofs.columns.+nodes.Goals as goal

pub returns-in-Leaves : goal.returns-in-Leaves
returns-in-Leaves g t c = λ k v e. leaf_size c.in-Leaves.field-0 k v (ap (λ d. value_at d k) (sym c.in-Leaves.is) ∙ e)
