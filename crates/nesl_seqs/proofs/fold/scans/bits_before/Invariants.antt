use Rattle.std.proofs.Common.{◌≡◌, ◌≤◌, length, map, take}
use Rattle.nesl_seqs_base.specs.Scans.{joined_bits}
use Rattle.nesl_seqs.specs.Elements.{number_in}
use Rattle.nesl_seqs.proofs.Before.{first_told}
use Rattle.nesl_seqs.proofs.fold.scans.bits_before.Given as goal

abbrev pub invariant-loop-item : goal.invariant-loop-item
invariant-loop-item g l =
    (l.so_far ≡ joined_bits l.joint (take l.item-index (map number_in (map g.T.Item.tree l.items))))
    × (l.bits.items ≡ first_told (joined_bits l.joint) (map number_in (map g.T.Item.tree l.items)) l.item-index) × (l.item-index ≤ length l.items)
