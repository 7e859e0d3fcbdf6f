use Rattle.std.proofs.Common.{◌≡◌, ◌+◌, ◌≤◌, cond, drop, map}
use Rattle.nesl_values.specs.Parts.{as_bool}
use Rattle.nesl_seqs.proofs.Folds.{folded}
use Rattle.nesl_seqs.proofs.fold.reductions.count_of.Given as goal

abbrev pub invariant-loop-item : goal.invariant-loop-item
invariant-loop-item g l =
    (folded (λ n b. n + cond b 1 0) as_bool l.count (map g.T.Item.tree (drop l.item-index l.items)) ≡ folded (λ n b. n + cond b 1 0) as_bool 0 (map g.T.Item.tree l.items))
    × (l.count ≤ l.item-index)
