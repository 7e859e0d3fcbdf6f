use Rattle.std.proofs.Common.{ap, ◌∙◌}
use Rattle.std.specs.Prelude.{slice_get}
use Rattle.nesl_eval_column_results.specs.Columns.{value_at}
use Rattle.nesl_eval_column_results.specs.Values.{trees_in}
use Rattle.nesl_eval_column_results.proofs.Valued.{both_up_to, pairs_both}
use Rattle.nesl_eval_column_results.proofs.values.+values_of.Goals as goal

pub returns-in_ok-pairs-in-Pair : goal.returns-in_ok-pairs-in-Pair
returns-in_ok-pairs-in-Pair g t c =
    let left = trees_in c.in_ok-left-in-Pair.left in
    let right = trees_in c.in_ok-right-in-Pair.right in
    rw (c.in-Pair.is, ← c.into_inner.ensures, ← c.into_inner-in-Pair.ensures)
    (both_up_to c.args.count (value_at c.into_inner.result) (value_at c.into_inner-in-Pair.result) (slice_get left) (slice_get right) _ c.in_ok-left-in-Pair.ensures c.in_ok-right-in-Pair.ensures (λ k. ap (λ vs. slice_get vs k) c.in_ok-pairs-in-Pair.ensures ∙ pairs_both left right k))
