use Rattle.std.proofs.Common.{◌≡◌, ◌≤◌, length, map, take}
use Rattle.nesl_seqs.specs.Elements.{number_in, wrapped_total}
use Rattle.nesl_seqs.proofs.Before.{first_told}
use Rattle.nesl_seqs.proofs.fold.scans.sums_before.Given as goal

abbrev pub invariant-loop-item : goal.invariant-loop-item
invariant-loop-item g l =
    (l.total ≡ wrapped_total (take l.item-index (map number_in (map g.T.Item.tree l.items))))
    × (l.sums.items ≡ first_told wrapped_total (map number_in (map g.T.Item.tree l.items)) l.item-index) × (l.item-index ≤ length l.items)
