use Rattle.std.proofs.Common.{◌≡◌, length, take, map}
use Rattle.nesl_values.specs.View.{tree_of}
use Rattle.nesl_seqs_base.specs.Write.{overwritten, writes_of}
use Rattle.nesl_seqs_index.proofs.write.overwritten_leaves.Given as goal

abbrev pub invariant-loop-pair : goal.invariant-loop-pair
invariant-loop-pair g l =
    (map g.T.Leaf.leaf l.made.items ≡ overwritten (map g.T.Leaf.leaf l.items) (writes_of (length l.items) (map tree_of (take l.pair-index l.pairs))))
    × (length l.made.items ≡ length l.items)
