use Rattle.std.proofs.Common.{refl}
use Rattle.nesl_eval_columns.specs.Columns.{leaves_of}
use Rattle.nesl_eval_column_results.specs.Columns.{value_at}
use Rattle.nesl_eval_column_results.specs.declared.columns.Columns.{Leaves}
use Rattle.nesl_eval_column_results.proofs.Finding.{two_apply}
use Rattle.nesl_eval_column_results.proofs.functions.of_pair.Goals as goal

pub returns : goal.returns
returns g c = λ s.
    two_apply s c.args.function c.args.count (value_at c.args.values) (leaves_of c.in_ok-left.left) (leaves_of c.in_ok-left.right) (leaves_of c.in_ok-of_two.field-0) (Leaves c.in_ok-of_two.field-0) c.in_ok-left.ensures c.in_ok-of_two.ensures (λ k. refl)
