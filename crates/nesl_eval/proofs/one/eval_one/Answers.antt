use Rattle.std.proofs.Common.{sym, subst}
use Rattle.nesl_syntax_tree.specs.Views.{tree_of}
use Rattle.nesl_eval_ops.specs.View.{HasBodies}
use Rattle.nesl_eval_top_level.specs.Stored.{environment, names_in}
use Rattle.nesl_eval_top_level.specs.TopLevels.{table_in}
use Rattle.nesl_eval.proofs.Meant.{tells_meant}
use Rattle.nesl_eval.proofs.one.eval_one.Goals as goal

pub returns : goal.returns
returns c =
    let tops = c.top_level-tops in
    let code = c.in-Ok in
    tells_meant c.runs_as_meant.ensures c.evaluate.result c.args.fuel c.args.levels (table_in tops.result) (environment c.args.env.now) code.code (tree_of c.args.exp.now) (names_in c.args.env.now) tops.ensures.names (tops.ensures.stands c.args.levels) code.ensures
    (c.evaluate.ensures code.code (subst (HasBodies (table_in tops.result)) (sym c.bodies.ensures) tops.ensures.bodies) c.in-Ok-expression_ops.ensures)
