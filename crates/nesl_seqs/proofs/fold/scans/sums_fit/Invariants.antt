use Rattle.std.proofs.Common.{◌≡◌, ◌*◌, ◌^◌, ◌≤◌, pos, neg_ℤ, ◌≤ℤ◌, length, map, take}
use Rattle.std.specs.List.{list_all}
use Rattle.nesl_seqs_base.specs.Outcome.{fits}
use Rattle.nesl_seqs_base.specs.Reductions.{total}
use Rattle.nesl_seqs.specs.Elements.{number_in}
use Rattle.nesl_seqs.proofs.Before.{first_told}
use Rattle.nesl_seqs.proofs.fold.scans.sums_fit.Given as goal

abbrev pub invariant-loop-item : goal.invariant-loop-item
invariant-loop-item g l =
    (l.fit ≡ list_all fits (first_told total (map number_in (map g.T.Item.tree l.items)) l.item-index))
    × (l.total ≡ total (take l.item-index (map number_in (map g.T.Item.tree l.items))))
    × (l.total ≤ℤ pos (l.item-index * 2 ^ 63)) × (neg_ℤ (pos (l.item-index * 2 ^ 63)) ≤ℤ l.total) × (l.item-index ≤ length l.items)
