use Rattle.std.proofs.Common.{◌∙◌, ◌+◌, cond, map}
use Rattle.nesl_values.specs.Parts.{as_bool}
use Rattle.nesl_seqs.proofs.Folds.{folded_stop, folded_end, folded_count}
use Rattle.nesl_seqs.proofs.fold.reductions.count_of.Goals as goal

pub returns-in_err-as_bool-clause-count : goal.returns-in_err-as_bool-clause-count
returns-in_err-as_bool-clause-count g c =
    c.from_residual.ensures ∙ folded_stop (λ n b. n + cond b 1 0) as_bool g.T.Item.tree c.loop-item.count c.args.items.now c.loop-item.item-index c.item-item.result _ c.loop-item-test.true c.item-item.is c.in_err-as_bool.ensures c.loop-item.invariant.0 ∙ folded_count as_bool (map g.T.Item.tree c.args.items.now)

pub returns-clause-count : goal.returns-clause-count
returns-clause-count g c =
    folded_end (λ n b. n + cond b 1 0) as_bool g.T.Item.tree c.loop-item.count c.args.items.now c.loop-item.item-index _ c.loop-item-test.false c.loop-item.invariant.0 ∙ folded_count as_bool (map g.T.Item.tree c.args.items.now)
