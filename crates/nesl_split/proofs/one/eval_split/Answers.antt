use denote.Param.Send.{sendable}
use Rattle.std.proofs.Crossing as standard
use Rattle.std.proofs.MapsCrossing as maps
use Rattle.std.proofs.Common.{sym, subst, []}
use Rattle.nesl_syntax_tree.specs.Views.{tree_of}
use Rattle.nesl_eval_code.specs.Run.{run}
use Rattle.nesl_eval_ops.specs.View.{HasBodies}
use Rattle.nesl_eval_top_level.specs.Stored.{environment, names_in}
use Rattle.nesl_eval_top_level.specs.TopLevels.{table_in}
use Rattle.nesl_eval.proofs.Meant.{tells_meant}
use Rattle.nesl_split.proofs.Crosses.{ops_sync}
use Rattle.nesl_split.proofs.Lent.{code_sync, context_sync}
use Rattle.nesl_split.proofs.one.eval_split.Goals as goal

pub evaluate_in_halves-found-requires-sync-T : goal.evaluate_in_halves-found-requires-sync-T
evaluate_in_halves-found-requires-sync-T g c = λ κs lives. search (sendable, standard.crosses, maps.crosses, code_sync, ops_sync, context_sync) depth 30 fits 100000

pub returns : goal.returns
returns g c =
    let tops = c.top_level-top_level in
    let code = c.in-Ok in
    let found = c.evaluate_in_halves-found in
    let told = c.outcome_of.ensures (run c.args.levels (table_in tops.result) [] code.code)
    (found.ensures.meets code.code (subst (HasBodies (table_in tops.result)) (sym c.bodies.ensures) tops.ensures.bodies) c.in-Ok-expression_ops.ensures) in
    tells_meant c.runs_as_meant.ensures c.outcome_of.result c.args.fuel c.args.levels (table_in tops.result) (environment c.args.env.now) code.code (tree_of c.args.exp.now) (names_in c.args.env.now) tops.ensures.names (tops.ensures.stands c.args.levels) code.ensures told
