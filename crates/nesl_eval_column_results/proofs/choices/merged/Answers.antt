use Rattle.nesl_eval_columns.specs.Columns.{leaves_of}
use Rattle.nesl_eval_column_results.specs.Frames.{leaf_at}
use Rattle.nesl_eval_column_results.proofs.Costing.{merges_from}
use Rattle.nesl_eval_column_results.proofs.choices.merged.Goals as goal

pub returns : goal.returns
returns g c =
    let s = c.args.sides.now in
    (merges_from s.flags.items s.ranks.items (leaves_of c.in_ok-column.column) (leaf_at c.args.yes.now) (leaf_at c.args.no.now) c.in_ok-column.ensures, c.in_ok-costs.ensures)
