use Rattle.std.proofs.Common.{arith}
use Rattle.nesl_values.specs.View.{tree_of}
use Rattle.nesl_values.proofs.Trees.{map_turn}
use Rattle.nesl_values_builder.proofs.run.values_of.Goals as goal

pub loop-leaf-preserved : goal.loop-leaf-preserved
loop-leaf-preserved g c =
    map_turn tree_of g.T.Leaf.leaf c.loop-leaf.values.items _ _ _ c.loop-leaf.leaf-index c.leaf-item.result (omega arith) c.leaf-item.is c.in_ok-push.ensures.items c.loop-leaf.invariant c.into_value.ensures
