use Rattle.std.proofs.Common.{◌≡◌, ◌<◌, ◌^◌, take}
use Rattle.nesl_values.specs.Tree.{sizes}
use Rattle.nesl_values.specs.View.{trees_view}
use Rattle.nesl_values.proofs.count.nodes_of_all.Given as goal

abbrev pub invariant-loop-item : goal.invariant-loop-item
invariant-loop-item g l = (l.total ≡ sizes (trees_view (take l.item-index l.items))) × (l.total < 2 ^ 64)
