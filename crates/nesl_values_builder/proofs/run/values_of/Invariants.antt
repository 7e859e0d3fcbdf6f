use Rattle.std.proofs.Common.{◌≡◌, take, map}
use Rattle.nesl_values.specs.View.{tree_of}
use Rattle.nesl_values_builder.proofs.run.values_of.Given as goal

abbrev pub invariant-loop-leaf : goal.invariant-loop-leaf
invariant-loop-leaf g l = map tree_of l.values.items ≡ map g.T.Leaf.leaf (take l.leaf-index l.leaf-items)
