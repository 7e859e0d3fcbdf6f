use Rattle.std.proofs.Common.{sym, subst}
use Rattle.nesl_syntax_tree.specs.Views.{tree_of}
use Rattle.nesl_eval_ops.specs.View.{HasBodies}
use Rattle.nesl_eval_top_level.specs.Stored.{environment, names_in}
use Rattle.nesl_eval_top_level.specs.TopLevels.{table_in}
use Rattle.nesl_eval.proofs.Meant.{tells_meant}
use Rattle.nesl_eval.proofs.copies.eval_one_in.Goals as goal

pub returns-in-Ok-copies_for : goal.returns-in-Ok-copies_for
returns-in-Ok-copies_for g c =
    let copies = c.in-Ok-copies_for in
    let code = c.in-Ok in
    let table = table_in copies.copies.tops in
    tells_meant c.runs_as_meant.ensures c.evaluate.result c.args.fuel c.args.levels table (environment c.args.env.now) code.code (tree_of c.args.exp.now) (names_in c.args.env.now) copies.ensures.names (copies.ensures.stands c.args.levels) code.ensures
    (c.evaluate.ensures code.code (subst (HasBodies table) (sym c.bodies.ensures) copies.ensures.bodies) c.in-Ok-expression_ops.ensures)
