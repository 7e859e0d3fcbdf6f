use Rattle.std.proofs.Common.{ap, ◌∙◌, arith}
use Rattle.std.proofs.lemmas.Bool.{leb-true}
use Rattle.nesl_values.specs.Tree.{pair}
use Rattle.nesl_values.specs.View.{tree_of}
use Rattle.nesl_eval_columns.specs.Columns.{leaves_of}
use Rattle.nesl_eval_column_results.specs.Columns.{value_at}
use Rattle.nesl_eval_column_results.proofs.Valued.{leaf_within, both_are}
use Rattle.nesl_eval_column_results.proofs.columns.+reaches.Goals as goal

pub returns-in-Same : goal.returns-in-Same
returns-in-Same g t c = λ h k l. (tree_of c.in-Same.field-0, ap (λ d. value_at d k) c.in-Same.is)

pub returns-in-Leaves : goal.returns-in-Leaves
returns-in-Leaves g t c = λ h k l.
    let w = leaf_within (leaves_of c.in-Leaves.column) c.args.count k (omega (arith, leb-true _ _ h, c.len.ensures)) l in
    (w.0, ap (λ d. value_at d k) c.in-Leaves.is ∙ w.1)

pub returns-then-reaches : goal.returns-then-reaches
returns-then-reaches g t c = λ h k l.
    let x = c.reaches.ensures c.if-reaches.true k l in
    let y = c.reaches-then-reaches.ensures h k l in
    (pair x.0 y.0, rw (c.in-Pair.is, ← c.deref.ensures, ← c.deref-then-reaches.ensures) (both_are _ _ x.0 y.0 x.1 y.1))
