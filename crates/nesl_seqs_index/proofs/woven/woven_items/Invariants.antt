use Rattle.std.proofs.Common.{◌≡◌, ◌++◌, drop}
use Rattle.nesl_values.specs.View.{item_trees}
use Rattle.nesl_values_builder.specs.Elements.{elements_of}
use Rattle.nesl_seqs_base.specs.Woven.{woven}
use Rattle.nesl_seqs_index.proofs.woven.woven_items.Given as goal

abbrev pub invariant-loop-place : goal.invariant-loop-place
invariant-loop-place g l =
    elements_of l.builder ++ woven (drop l.place (item_trees l.one)) (drop l.place (item_trees l.other)) ≡ woven (item_trees l.one) (item_trees l.other)
