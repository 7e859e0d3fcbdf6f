use Rattle.std.proofs.Common.{◌∙◌, ◌||◌, map}
use Rattle.nesl_values.specs.Parts.{as_bool}
use Rattle.nesl_seqs.proofs.Folds.{folded_more, folded_stop, folded_end, folded_or}
use Rattle.nesl_seqs.proofs.fold.reductions.any_of.Goals as goal

pub loop-item-preserved : goal.loop-item-preserved
loop-item-preserved g c =
    folded_more ◌||◌ as_bool g.T.Item.tree c.loop-item.some c.args.items.now c.loop-item.item-index c.item-item.result c.in_ok-some.field-0 _ c.loop-item-test.true c.item-item.is c.in_ok-some.ensures c.loop-item.invariant

pub returns : goal.returns
returns g c =
    folded_end ◌||◌ as_bool g.T.Item.tree c.loop-item.some c.args.items.now c.loop-item.item-index _ c.loop-item-test.false c.loop-item.invariant ∙ folded_or as_bool (map g.T.Item.tree c.args.items.now)

pub returns-in_err-some : goal.returns-in_err-some
returns-in_err-some g c =
    c.from_residual.ensures ∙ folded_stop ◌||◌ as_bool g.T.Item.tree c.loop-item.some c.args.items.now c.loop-item.item-index c.item-item.result _ c.loop-item-test.true c.item-item.is c.in_err-some.ensures c.loop-item.invariant ∙ folded_or as_bool (map g.T.Item.tree c.args.items.now)
