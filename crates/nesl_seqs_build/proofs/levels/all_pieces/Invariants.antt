use Rattle.std.proofs.Common.{◌≡◌, ◌++◌, ◌≤◌, length, drop, map}
use Rattle.nesl_values.specs.Tree.{sequence}
use Rattle.nesl_values.specs.View.{tree_of, item_trees}
use Rattle.nesl_seqs_base.specs.Levels.{pieces}
use Rattle.nesl_seqs_build.proofs.levels.all_pieces.Given as goal

abbrev pub invariant-loop-count : goal.invariant-loop-count
invariant-loop-count g l =
    (map tree_of l.made.items ++ map sequence (pieces (drop l.start (item_trees l.items)) (drop l.count-index l.counts)) ≡ map sequence (pieces (item_trees l.items) l.counts))
    × (l.start ≤ length (item_trees l.items))
