use Rattle.std.proofs.Common.{◌≡◌, length, take, map}
use Rattle.nesl_values.specs.View.{tree_of, item_trees}
use Rattle.nesl_seqs_base.specs.Write.{overwritten, writes_of}
use Rattle.nesl_seqs_index.proofs.write.overwritten_values.Given as goal

abbrev pub invariant-loop-pair : goal.invariant-loop-pair
invariant-loop-pair g l =
    (map tree_of l.made.items ≡ overwritten (item_trees l.items) (writes_of (length (item_trees l.items)) (map tree_of (take l.pair-index l.pairs))))
    × (length l.made.items ≡ length (item_trees l.items))
