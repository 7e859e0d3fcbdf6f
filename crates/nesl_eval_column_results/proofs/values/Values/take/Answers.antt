use Rattle.nesl_values.specs.View.{tree_of}
use Rattle.nesl_eval_columns.specs.Columns.{leaves_of}
use Rattle.nesl_eval_columns.proofs.Turns.{some_so}
use Rattle.nesl_eval_nodes.proofs.Arms.{drop_next}
use Rattle.nesl_eval_column_results.proofs.values.Values.take.Goals as goal

pub returns-in-Leaves : goal.returns-in-Leaves
returns-in-Leaves g c = rw c.in-Leaves.is (some_so _ _ (λ v e. drop_next (leaves_of c.in-Leaves.column) c.args.turn (tree_of v) e) c.leaf_at.result c.leaf_at.ensures)
