use Rattle.std.proofs.Common.{◌≡◌, ℕ, ◌+◌, ◌-◌, map, length, refl, ap, ◌∙◌, subst, sym, arith, drop, List}
use Rattle.std.specs.Prelude.{slice_range, slice_get, sum}
use Rattle.nesl_values.specs.Tree.{boolean}
use Rattle.nesl_values.specs.View.{tree_of}
use Rattle.nesl_eval_meaning.specs.Out.{and_then}
use Rattle.nesl_eval_meaning.specs.Outcome.{place_if_true}
use Rattle.nesl_eval_code.specs.Frames.{Frames}
use Rattle.nesl_eval_code.specs.Run.{run, run_at}
use Rattle.nesl_eval_nodes.specs.Scopes.{frames_of}
use Rattle.nesl_eval_nodes.specs.Sides.{places_of}
use Rattle.nesl_eval_columns.specs.Columns.{leaves_of}
use Rattle.nesl_eval_column_results.specs.declared.block.Block.{Block}
use Rattle.nesl_eval_meaning.specs.Names.{Value}
use Rattle.nesl_eval_plain.specs.Comes.{Comes, chosen}
use Rattle.nesl_eval_column_results.specs.Costs.{greatest, costs_at, each_cost}
use Rattle.nesl_eval_column_results.specs.declared.scopes.Scopes.{Rows}
use Rattle.nesl_eval_column_results.specs.Frames.{frames_in, AreAt}
use Rattle.nesl_eval_plain.proofs.Comes.{greatest_le_sum, rows_come}
use Rattle.nesl_eval_plain.proofs.Turns.{next_block, block_filters, flags_len}
use Rattle.nesl_eval_plain.proofs.whole.places_within.Goals as goal

pub choose-requires-clause-len : goal.choose-requires-clause-len
choose-requires-clause-len g c =
    let k = c.loop-turn in
    let end = c.end_of-end.result in
    let f = c.in_ok-column.field-0 in
    let len : length (leaves_of f.column) ≡ end - k.turn = cc in
    flags_len c.deref.result.now (leaves_of f.column) (end - k.turn) (ap (map boolean) c.deref.ensures.value ∙ c.in_ok-flags.ensures) len

pub loop-turn-preserved : goal.loop-turn-preserved
loop-turn-preserved g c =
    let w = c.args.whole.now in
    let k = c.loop-turn in
    let end = c.end_of-end.result in
    let f = c.in_ok-column.field-0 in
    let bs = c.deref.result.now in
    let ns = each_cost f.costs (end - k.turn) in
    let pays = c.in_ok-work.ensures in
    let q = λ (i : ℕ). run_at (run c.args.levels (g.T.Tops.table w.tops.now)) (frames_of w.scope.now) (map tree_of w.values.now) c.args.filter.now i in
    let p = λ (fs : Frames). run c.args.levels (g.T.Tops.table w.tops.now) fs c.args.filter.now in
    let len : length (leaves_of f.column) ≡ end - k.turn = cc in
    let part : Block g.row.A.Denot g.row.T.Denot = record w { from = k.turn; to = end } in
    let F : Block g.row.A.Denot g.row.T.Denot → Type 0 = λ b. AreAt (λ fs. run c.args.levels (g.T.Tops.table b.tops.now) fs c.args.filter.now) (frames_in b Rows) (slice_get (leaves_of f.column)) (costs_at f.costs) in
    let G : List Value → Type 0 = λ vs. Comes q (slice_range (places_of w.places) k.turn end) vs ns in
    let comes = rows_come part p f.costs (end - k.turn) (leaves_of f.column) (omega (arith, c.end_of-end.ensures.0), omega (arith, c.end_of-end.ensures.1, c.requires.1)) len refl pays.0 (subst F c.part-block.ensures c.in_ok-column.ensures) in
    let truths = subst G (sym c.in_ok-flags.ensures ∙ ap (map boolean) (sym c.deref.ensures.value)) comes in
    let flags = flags_len bs (leaves_of f.column) (end - k.turn) (ap (map boolean) c.deref.ensures.value ∙ c.in_ok-flags.ensures) len in
    let inv = k.invariant in
    let left = c.in_ok-left.left in
    record {
      values = next_block (λ i. and_then (q i) (place_if_true i)) (places_of w.places) w.from k.turn end c.args.fuel k.left left k.most c.max-most.result (sum ns + 0) (greatest ns) k.places.items (chosen (drop k.turn (places_of w.places)) bs) c.choose.new.kept.items
          inv.turns.0 c.end_of-end.ensures.0 (omega (arith, c.end_of-end.ensures.1, c.requires.1)) (omega (arith, inv.spent)) (omega (arith, c.in_ok-left.ensures, pays.1)) (c.if-not-choose.ensures refl) (omega (arith, c.max-most.ensures, pays.2)) inv.values
          (block_filters q ns (places_of w.places) k.turn end bs c.end_of-end.ensures.0 (omega (arith, c.end_of-end.ensures.1, c.requires.1)) truths flags);
      spent = omega (arith, c.max-most.ensures, c.in_ok-left.ensures, pays.1, pays.2, greatest_le_sum ns, inv.spent);
      turns = (omega (arith, inv.turns.0, c.end_of-end.ensures.0), c.end_of-end.ensures.1);
    }
