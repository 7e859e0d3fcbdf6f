use Rattle.std.proofs.Common.{◌≡◌, map, take}
use Rattle.nesl_values.specs.View.{tree_of, item_trees}
use Rattle.nesl_seqs_base.specs.Pairs.{pairs}
use Rattle.nesl_seqs_build.proofs.pairs.pairs_of.Given as goal

abbrev pub invariant-loop-place : goal.invariant-loop-place
invariant-loop-place g l = map tree_of l.made.items ≡ take l.place (pairs (item_trees l.one) (item_trees l.other))
