use Rattle.std.proofs.Common.{◌≡◌, map}
use Rattle.nesl_values.specs.View.{tree_of}
use Rattle.nesl_values_builder.specs.Elements.{elements_of}
use Rattle.nesl_eval_nodes.proofs.nodes.pushed_one_by_one.Given as goal

abbrev pub invariant-loop-value : goal.invariant-loop-value
invariant-loop-value g l = elements_of l.made ≡ map tree_of l.yielded
