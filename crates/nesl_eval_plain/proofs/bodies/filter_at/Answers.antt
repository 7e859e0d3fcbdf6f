use Rattle.std.proofs.Common.{subst}
use Rattle.std.specs.Prelude.{IfSome}
use Rattle.nesl_eval_code.specs.Run.{run}
use Rattle.nesl_eval_column_results.specs.Frames.{frames_in}
use Rattle.nesl_eval_plain.specs.Found.{Finds}
use Rattle.nesl_eval_column_results.specs.declared.scopes.Scopes.{Rows}
use Rattle.nesl_eval_plain.proofs.bodies.filter_at.Goals as goal

pub returns : goal.returns
returns g c =
    let b = c.args.block.now in
    subst (λ m. IfSome c.column.result (Finds (λ fs. run m (g.T.Tops.table b.tops.now) fs c.args.code.now) (frames_in b Rows))) c.at_root.ensures.levels c.column.ensures
