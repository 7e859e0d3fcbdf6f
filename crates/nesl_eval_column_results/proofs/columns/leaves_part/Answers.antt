use Rattle.std.proofs.Common.{ap}
use Rattle.std.specs.Prelude.{slice_get}
use Rattle.nesl_eval_columns.specs.Columns.{leaves_of}
use Rattle.nesl_eval_column_results.proofs.Valued.{no_step}
use Rattle.nesl_eval_column_results.proofs.columns.leaves_part.Goals as goal

pub returns : goal.returns
returns g c =
    no_step c.args.steps.now (slice_get (leaves_of c.args.column.now)) _ c.if-not-is_empty.ensures (λ k. ap (λ vs. slice_get vs k) c.in_ok-copy_into.ensures)
