use Rattle.std.proofs.Common.{◌≡◌, ◌+◌, ◌≤◌, drop}
use Rattle.nesl_values.specs.Tree.{sizes}
use Rattle.nesl_values.specs.View.{trees_view}
use Rattle.nesl_seqs_base.proofs.nodes.nodes_of_all.Given as goal

abbrev pub invariant-loop-value : goal.invariant-loop-value
invariant-loop-value g l =
    (l.used + sizes (trees_view (drop l.value-index l.values)) ≡ sizes (trees_view l.values)) × (l.used ≤ l.limit)
