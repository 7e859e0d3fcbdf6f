use Rattle.std.proofs.Common.{arith, vec_len}
use Rattle.nesl_values.specs.View.{tree_of}
use Rattle.nesl_values_builder.proofs.Turns.{added_turn, kept_turn}
use Rattle.nesl_values_builder.proofs.builder.push_shares.Goals as goal

pub loop-value-preserved : goal.loop-value-preserved
loop-value-preserved g c =
    (added_turn tree_of tree_of c.args.values.now.items c.loop-value.values.items _ _ c.args.more.now c.loop-value.value-index c.value-item.result (omega arith) c.value-item.is c.in_ok-push.ensures.items c.loop-value.invariant.0 c.in_ok-share.ensures, kept_turn (vec_len c.args.values.now) _ c.loop-value.values.items _ _ (omega (arith, c.loop-value.values.ok.0, c.loop-value.invariant.2)) c.in_ok-push.ensures.items c.loop-value.invariant.1, omega (arith, c.in_ok-push.ensures.len, c.loop-value.invariant.2))
