use Rattle.std.proofs.Common.{◌≡◌, ℕ, ◌+◌, ◌-◌, ◌*◌, map, length, refl, subst, arith}
use Rattle.std.specs.Prelude.{slice_get, sum}
use Rattle.nesl_values.specs.View.{tree_of}
use Rattle.nesl_values_builder.specs.Elements.{elements_of}
use Rattle.nesl_eval_meaning.specs.Out.{and_then}
use Rattle.nesl_eval_meaning.specs.Outcome.{body_value}
use Rattle.nesl_eval_code.specs.Frames.{Frames}
use Rattle.nesl_eval_code.specs.Run.{run, run_at}
use Rattle.nesl_eval_nodes.specs.Scopes.{frames_of}
use Rattle.nesl_eval_nodes.specs.Sides.{places_of}
use Rattle.nesl_eval_column_results.specs.declared.block.Block.{Block}
use Rattle.nesl_eval_column_results.specs.Costs.{greatest, costs_at, each_cost}
use Rattle.nesl_eval_plain.proofs.Comes.{greatest_le_sum, rows_come}
use Rattle.nesl_eval_column_results.specs.declared.scopes.Scopes.{Rows}
use Rattle.nesl_eval_column_results.specs.Frames.{frames_in, AreAt}
use Rattle.nesl_eval_column_results.specs.Values.{trees_in}
use Rattle.nesl_eval_plain.proofs.Turns.{next_block, block_bodies}
use Rattle.nesl_eval_plain.proofs.whole.values_within.Goals as goal

pub loop-turn-preserved : goal.loop-turn-preserved
loop-turn-preserved g c =
    let w = c.args.whole.now in
    let k = c.loop-turn in
    let inv = k.invariant in
    let end = c.end_of-end.result in
    let f = c.in_ok-values.field-0 in
    let vs = trees_in f.values in
    let left = c.in_ok-left.left in
    let ns = each_cost f.costs (end - k.turn) in
    let pays = c.in_ok-work.ensures in
    let q = λ (i : ℕ). run_at (run c.args.levels (g.T.Tops.table w.tops.now)) (frames_of w.scope.now) (map tree_of w.values.now) c.args.body.now i in
    let p = λ (fs : Frames). run c.args.levels (g.T.Tops.table w.tops.now) fs c.args.body.now in
    let len : length vs ≡ end - k.turn = cc in
    let part : Block g.row.A.Denot g.row.T.Denot = record w { from = k.turn; to = end } in
    let F : Block g.row.A.Denot g.row.T.Denot → Type 0 = λ b. AreAt (λ fs. run c.args.levels (g.T.Tops.table b.tops.now) fs c.args.body.now) (frames_in b Rows) (slice_get vs) (costs_at f.costs) in
    let comes = rows_come part p f.costs (end - k.turn) vs (omega (arith, c.end_of-end.ensures.0), omega (arith, c.end_of-end.ensures.1, c.requires.1)) (len) refl pays.0 (subst F c.part-block.ensures c.in_ok-values.ensures.0) in
    record {
      values = next_block (λ i. and_then (q i) body_value) (places_of w.places) w.from k.turn end c.args.fuel k.left left k.deepest c.max-deepest.result (sum ns + f.nodes * (end - k.turn)) (greatest ns) (elements_of k.builder) vs (elements_of c.extended.new.builder)
          inv.turns.0 c.end_of-end.ensures.0 (omega (arith, c.end_of-end.ensures.1, c.requires.1)) (omega (arith, inv.spent)) (omega (arith, c.in_ok-left.ensures, c.in_ok-all.ensures.1, pays.1)) (c.if-not-extended.ensures refl) (omega (arith, c.max-deepest.ensures, pays.2)) inv.values
          (block_bodies q vs ns f.nodes (places_of w.places) k.turn end c.end_of-end.ensures.0 (omega (arith, c.end_of-end.ensures.1, c.requires.1)) comes c.in_ok-values.ensures.1);
      spent = omega (arith, c.max-deepest.ensures, c.in_ok-left.ensures, pays.1, pays.2, greatest_le_sum ns, inv.spent);
      turns = (omega (arith, inv.turns.0, c.end_of-end.ensures.0), c.end_of-end.ensures.1);
    }
