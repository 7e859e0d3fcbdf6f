use Rattle.std.proofs.Common.{◌≡◌, ◌≤◌, length, map, take}
use Rattle.nesl_seqs_base.specs.Scans.{joined_truths}
use Rattle.nesl_seqs.specs.Elements.{truth_in}
use Rattle.nesl_seqs.proofs.Before.{first_told}
use Rattle.nesl_seqs.proofs.fold.scans.truths_before.Given as goal

abbrev pub invariant-loop-item : goal.invariant-loop-item
invariant-loop-item g l =
    (l.so_far ≡ joined_truths l.joint (take l.item-index (map truth_in (map g.T.Item.tree l.items))))
    × (l.joined.items ≡ first_told (joined_truths l.joint) (map truth_in (map g.T.Item.tree l.items)) l.item-index) × (l.item-index ≤ length l.items)
