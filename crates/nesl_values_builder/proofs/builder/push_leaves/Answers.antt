use Rattle.std.proofs.Common.{arith, vec_len}
use Rattle.nesl_values.specs.View.{tree_of}
use Rattle.nesl_values_builder.proofs.Turns.{added_turn, kept_turn}
use Rattle.nesl_values_builder.proofs.builder.push_leaves.Goals as goal

pub loop-leaf-preserved : goal.loop-leaf-preserved
loop-leaf-preserved g c =
    (added_turn tree_of g.T.Leaf.leaf c.args.values.now.items c.loop-leaf.values.items _ _ c.args.more.now c.loop-leaf.leaf-index c.leaf-item.result (omega arith) c.leaf-item.is c.in_ok-push.ensures.items c.loop-leaf.invariant.0 c.into_value.ensures, kept_turn (vec_len c.args.values.now) _ c.loop-leaf.values.items _ _ (omega (arith, c.loop-leaf.values.ok.0, c.loop-leaf.invariant.2)) c.in_ok-push.ensures.items c.loop-leaf.invariant.1, omega (arith, c.in_ok-push.ensures.len, c.loop-leaf.invariant.2))
