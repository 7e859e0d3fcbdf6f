use Rattle.std.proofs.Common.{◌≡◌, ◌+◌, ◌≤◌, length, drop, map}
use Rattle.nesl_values.specs.Tree.{sizes}
use Rattle.nesl_values.specs.View.{trees_view}
use Rattle.nesl_seqs_base.specs.Places.{elements_at, places_of}
use Rattle.nesl_seqs_index.proofs.gather.nodes_of_picked.Given as goal

abbrev pub invariant-loop-index : goal.invariant-loop-index
invariant-loop-index g l =
    (l.used + sizes (trees_view (elements_at l.values (places_of (length l.values) (map g.I.Item.tree (drop l.index-index l.indices)))))
    ≡ sizes (trees_view (elements_at l.values (places_of (length l.values) (map g.I.Item.tree l.indices))))) × (l.used ≤ l.limit)
