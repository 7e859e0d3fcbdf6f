use Rattle.std.proofs.Common.{◌≡◌, ◌<◌, ◌^◌, None, IfSome, drop, map}
use Rattle.nesl_seqs_base.specs.Extremes.{key}
use Rattle.nesl_seqs.specs.Better.{IsKey}
use Rattle.nesl_seqs.proofs.Folds.{folded}
use Rattle.nesl_seqs.proofs.Best.{turn}
use Rattle.nesl_seqs.proofs.fold.extremes.best_of.Given as goal

abbrev pub invariant-loop-item : goal.invariant-loop-item
invariant-loop-item g l =
    (folded (turn l.order) (key l.kind) (l.best, l.place) (map g.T.Item.tree (drop l.item-index l.items)) ≡ folded (turn l.order) (key l.kind) (None, 0) (map g.T.Item.tree l.items))
    × (l.place ≡ l.item-index) × IfSome l.best (λ b. (b.place < 2 ^ 63) × IsKey l.kind b.key)
