use Rattle.std.proofs.Common.{sym, ap, ◌∙◌, ◌-◌, ◌∷◌, map, length}
use Rattle.nesl_values.specs.View.{tree_of}
use Rattle.nesl_eval_code.specs.Run.{run, run_bodies}
use Rattle.nesl_eval_code.specs.Exec.{laid}
use Rattle.nesl_eval_code.specs.BlockLaws.{sizes}
use Rattle.nesl_eval_nodes.specs.Scopes.{frames_of}
use Rattle.nesl_eval_column_results.specs.Blocks.{block_places}
use Rattle.nesl_eval_nodes.specs.Sides.{Has}
use Rattle.nesl_eval_rounds.proofs.Columned.{body_turns, some_meets}
use Rattle.nesl_eval_rounds.proofs.columns.values_in_columns.Goals as goal

pub returns-clause-meets : goal.returns-clause-meets
returns-clause-meets g c = λ same.
    let r = c.args.round.now in
    let s = c.args.setting.now in
    let h = c.args.body.height in
    let code = c.args.body.code.now in
    let w = c.turns_left-turns.result in
    let turns = c.turns_left-turns.ensures in
    let scope = c.in_ok-scope.ensures in
    let fs = frames_of w.scope.now in
    some_meets _ (Has {A = g.row.A.Denot}) c.bodies_in_columns.result c.args.meter.now c.bodies_in_columns.new.meter _ _
    (ap (λ k. run_bodies (run k (g.T.Tops.table w.tops.now)) fs (map tree_of w.values.now) code (block_places w)) c.saturating_sub-levels.ensures
    ∙ ap (λ x. run_bodies (run (s.levels - h) (g.T.Tops.table x)) fs (map tree_of w.values.now) code (block_places w)) turns.same.0
    ∙ body_turns (g.T.Tops.table s.tops.now) s.levels h fs code s.names.now w.values.now c.args.body.sizes.now r (block_places w)
    (ap (λ x. laid (frames_of x)) turns.same.1 ∙ scope.0)
    (scope.1 ∙ ap (λ l. length l ∷ sizes (frames_of c.in_ok-scope.scope)) c.deref.ensures.value ∙ ap (λ x. length r.sources.items ∷ sizes (frames_of x)) (sym turns.same.1))
    turns.same.2 turns.places same)
    c.bodies_in_columns.ensures.meets
