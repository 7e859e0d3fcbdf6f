use Rattle.std.proofs.Common.{◌≡◌, ◌*◌, ◌^◌, pos, ◌+ℤ◌, neg_ℤ, ◌≤ℤ◌, drop, map}
use Rattle.nesl_values.specs.Parts.{as_int}
use Rattle.nesl_seqs.proofs.Folds.{folded}
use Rattle.nesl_seqs.proofs.fold.reductions.sum_of.Given as goal

abbrev pub invariant-loop-item : goal.invariant-loop-item
invariant-loop-item g l =
    (folded ◌+ℤ◌ as_int l.total (map g.T.Item.tree (drop l.item-index l.items)) ≡ folded ◌+ℤ◌ as_int (pos 0) (map g.T.Item.tree l.items))
    × (l.total ≤ℤ pos (l.item-index * 2 ^ 63)) × (neg_ℤ (pos (l.item-index * 2 ^ 63)) ≤ℤ l.total)
