use Rattle.std.proofs.Common.{◌≡◌, ◌++◌, map, length, drop}
use Rattle.nesl_values.specs.View.{tree_of}
use Rattle.nesl_values_builder.specs.Elements.{elements_of}
use Rattle.nesl_eval_column_results.proofs.values.extend_with_pairs.Given as goal

abbrev pub invariant-loop-turn : goal.invariant-loop-turn
invariant-loop-turn g l = record {
  so : elements_of l.builder ++ drop l.turn (map tree_of l.pairs.items) ≡ elements_of l.fn.builder ++ map tree_of l.fn.pairs.items;
  len : length l.pairs.items ≡ l.turn-end;
}
