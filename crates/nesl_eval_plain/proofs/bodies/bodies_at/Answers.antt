use Rattle.std.proofs.Common.{◌-◌, refl, sym, subst, ◌∙◌}
use Rattle.std.specs.Prelude.{slice_get}
use Rattle.nesl_eval_code.specs.Run.{run}
use Rattle.nesl_eval_column_results.specs.Columns.{value_at}
use Rattle.nesl_eval_column_results.specs.Costs.{costs_at}
use Rattle.nesl_eval_column_results.specs.Frames.{frames_in, AreAt}
use Rattle.nesl_eval_column_results.specs.Values.{trees_in}
use Rattle.nesl_eval_column_results.specs.declared.scopes.Scopes.{Rows}
use Rattle.nesl_eval_plain.proofs.Finding.{same_find}
use Rattle.nesl_eval_column_results.proofs.Places.{rows_count}
use Rattle.nesl_eval_plain.proofs.Sized.{sized_from}
use Rattle.nesl_eval_plain.proofs.bodies.bodies_at.Goals as goal

pub returns : goal.returns
returns g c =
    let b = c.args.block.now in
    let tb = g.T.Tops.table b.tops.now in
    let at = frames_in b Rows in
    let r = c.in_ok-values.field-0 in
    let vs = trees_in c.in_ok-values-2.values in
    let n = b.to - b.from in
    let xs = value_at r.values in
    let same = c.in_ok-values-2.ensures in
    let found = subst (λ m. AreAt (λ fs. run m tb fs c.args.code.now) at xs (costs_at r.costs)) c.at_root.ensures.levels c.in_ok-values.ensures in (
      same_find (λ fs. run c.args.levels tb fs c.args.code.now) at n xs (slice_get vs) (costs_at r.costs) (λ k fs e. rows_count b Rows k fs c.requires refl e) same found,
      sized_from c.in_ok-nodes.nodes n vs xs (sym c.len.ensures ∙ c.if-len-count.false) same c.in_ok-nodes.ensures,
    )
