use Rattle.std.proofs.Common.{◌≡◌, ◌||◌, false, drop, map}
use Rattle.nesl_values.specs.Parts.{as_bool}
use Rattle.nesl_seqs.proofs.Folds.{folded}
use Rattle.nesl_seqs.proofs.fold.reductions.any_of.Given as goal

abbrev pub invariant-loop-item : goal.invariant-loop-item
invariant-loop-item g l =
    folded ◌||◌ as_bool l.some (map g.T.Item.tree (drop l.item-index l.items)) ≡ folded ◌||◌ as_bool false (map g.T.Item.tree l.items)
