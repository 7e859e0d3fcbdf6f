use Rattle.std.proofs.Common.{◌≡◌, take, map}
use Rattle.nesl_values.specs.View.{tree_of, item_trees}
use Rattle.nesl_seqs_index.proofs.write.copied_values.Given as goal

abbrev pub invariant-loop-place : goal.invariant-loop-place
invariant-loop-place g l = map tree_of l.made.items ≡ take l.place (item_trees l.items)
