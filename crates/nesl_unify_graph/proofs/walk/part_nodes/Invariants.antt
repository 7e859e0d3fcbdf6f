use Rattle.std.proofs.Common.{◌≡◌, length}
use Rattle.nesl_types_shared.specs.Types.{type_at}
use Rattle.nesl_unify_graph.specs.Instances.{parts_in}
use Rattle.nesl_unify_graph.specs.Sizes.{AreLeafSizes}
use Rattle.nesl_unify_graph.proofs.walk.part_nodes.Given as goal

abbrev pub invariant-loop-place : goal.invariant-loop-place
invariant-loop-place l = record {
  long : length l.sizes.items ≡ l.place;
  sizes : AreLeafSizes l.instances l.nodes l.instance (type_at (parts_in l.instances l.instance)) l.place l.sizes.items;
}
