use Rattle.std.proofs.Common.{◌≡◌, ◌+◌, ◌++◌, map, length, drop}
use Rattle.nesl_values.specs.View.{tree_of}
use Rattle.nesl_eval_column_results.specs.Values.{trees_in, pairs_of}
use Rattle.nesl_eval_column_results.proofs.values.pairs.Given as goal

abbrev pub invariant-loop-turn : goal.invariant-loop-turn
invariant-loop-turn g l = record {
  so : map tree_of l.pairs.items ++ pairs_of (drop l.turn (trees_in l.left)) (drop l.turn (trees_in l.right)) ≡ pairs_of (trees_in l.fn.left) (trees_in l.fn.right);
  len : length (drop l.turn (trees_in l.left)) + l.turn ≡ l.count;
}
