use Rattle.std.proofs.Common.{◌∙◌, ap, map, option_map}
use Rattle.nesl_seqs_base.specs.Extremes.{key}
use Rattle.nesl_seqs.proofs.Folds.{folded_stop, folded_end}
use Rattle.nesl_seqs.proofs.Best.{turn, folded_best}
use Rattle.nesl_seqs.proofs.fold.extremes.best_of.Goals as goal

pub returns-in_err-key-clause-best : goal.returns-in_err-key-clause-best
returns-in_err-key-clause-best g c =
    c.from_residual.ensures ∙ ap (option_map (λ s. s.0)) (folded_stop (turn c.args.order) (key c.args.kind) g.T.Item.tree (c.loop-item.best, c.loop-item.place) c.args.items.now c.loop-item.item-index c.item-item.result _ c.loop-item-test.true c.item-item.is c.in_err-key.ensures.key c.loop-item.invariant.0) ∙ folded_best c.args.order (key c.args.kind) (map g.T.Item.tree c.args.items.now)

pub returns-clause-best : goal.returns-clause-best
returns-clause-best g c =
    ap (option_map (λ s. s.0)) (folded_end (turn c.args.order) (key c.args.kind) g.T.Item.tree (c.loop-item.best, c.loop-item.place) c.args.items.now c.loop-item.item-index _ c.loop-item-test.false c.loop-item.invariant.0) ∙ folded_best c.args.order (key c.args.kind) (map g.T.Item.tree c.args.items.now)
