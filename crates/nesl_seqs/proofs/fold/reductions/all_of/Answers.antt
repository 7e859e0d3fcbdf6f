use Rattle.std.proofs.Common.{◌∙◌, ◌&&◌, map}
use Rattle.nesl_values.specs.Parts.{as_bool}
use Rattle.nesl_seqs.proofs.Folds.{folded_more, folded_stop, folded_end, folded_and}
use Rattle.nesl_seqs.proofs.fold.reductions.all_of.Goals as goal

pub loop-item-preserved : goal.loop-item-preserved
loop-item-preserved g c =
    folded_more ◌&&◌ as_bool g.T.Item.tree c.loop-item.every c.args.items.now c.loop-item.item-index c.item-item.result c.in_ok-every.field-0 _ c.loop-item-test.true c.item-item.is c.in_ok-every.ensures c.loop-item.invariant

pub returns : goal.returns
returns g c =
    folded_end ◌&&◌ as_bool g.T.Item.tree c.loop-item.every c.args.items.now c.loop-item.item-index _ c.loop-item-test.false c.loop-item.invariant ∙ folded_and as_bool (map g.T.Item.tree c.args.items.now)

pub returns-in_err-every : goal.returns-in_err-every
returns-in_err-every g c =
    c.from_residual.ensures ∙ folded_stop ◌&&◌ as_bool g.T.Item.tree c.loop-item.every c.args.items.now c.loop-item.item-index c.item-item.result _ c.loop-item-test.true c.item-item.is c.in_err-every.ensures c.loop-item.invariant ∙ folded_and as_bool (map g.T.Item.tree c.args.items.now)
