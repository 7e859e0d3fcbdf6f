use Rattle.std.proofs.Common.{◌≡◌, ◌≤◌, [], length}
use Rattle.nesl_unify_graph.specs.Sizes.{AreSizes}
use Rattle.nesl_unify_graph.proofs.Sizes.{AreKnown}
use Rattle.nesl_unify_graph.proofs.walk.are_within.Given as goal

abbrev pub invariant-loop-start : goal.invariant-loop-start
invariant-loop-start l = record {
  inside : l.start ≤ length l.nodes;
  len : length l.sizes.items ≡ length l.nodes;
  empty : l.work.items.items ≡ [];
  sizes : AreSizes l.instances l.nodes l.most l.sizes.items;
  known : AreKnown l.nodes l.sizes.items l.start;
}

abbrev pub decreases-loop-start : goal.decreases-loop-start
decreases-loop-start l = l.start
