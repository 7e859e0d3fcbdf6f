use Rattle.nesl_values.specs.View.{tree_of}
use Rattle.nesl_seqs_build.proofs.Numbers.{copy_pushed}
use Rattle.nesl_seqs_build.proofs.ranges.repeated_copies.Goals as goal

pub loop-place-preserved : goal.loop-place-preserved
loop-place-preserved g c = copy_pushed tree_of c.loop-place._place (tree_of c.args.item.now) c.loop-place.items.items _ _ c.loop-place.invariant c.in_ok-push.ensures.items c.in_ok-share.ensures
