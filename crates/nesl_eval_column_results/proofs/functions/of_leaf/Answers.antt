use Rattle.std.proofs.Common.{refl}
use Rattle.nesl_eval_columns.specs.Columns.{leaves_of}
use Rattle.nesl_eval_column_results.specs.Columns.{value_at}
use Rattle.nesl_eval_column_results.specs.declared.columns.Columns.{Leaves}
use Rattle.nesl_eval_column_results.proofs.Finding.{one_applies}
use Rattle.nesl_eval_column_results.proofs.functions.of_leaf.Goals as goal

pub returns : goal.returns
returns g c = λ s.
    one_applies s c.args.function c.args.count (value_at c.args.values) (leaves_of c.in_ok-column.column) (leaves_of c.in_ok-of_one.field-0) (Leaves c.in_ok-of_one.field-0) c.in_ok-column.ensures c.in_ok-of_one.ensures (λ k. refl)
