use Rattle.std.proofs.Common.{◌≡◌, ◌&&◌, true, drop, map}
use Rattle.nesl_values.specs.Parts.{as_bool}
use Rattle.nesl_seqs.proofs.Folds.{folded}
use Rattle.nesl_seqs.proofs.fold.reductions.all_of.Given as goal

abbrev pub invariant-loop-item : goal.invariant-loop-item
invariant-loop-item g l =
    folded ◌&&◌ as_bool l.every (map g.T.Item.tree (drop l.item-index l.items)) ≡ folded ◌&&◌ as_bool true (map g.T.Item.tree l.items)
