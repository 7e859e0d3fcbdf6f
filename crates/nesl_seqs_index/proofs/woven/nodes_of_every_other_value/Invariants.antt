use Rattle.std.proofs.Common.{◌≡◌, ◌+◌, ◌*◌, ◌≤◌, drop, map}
use Rattle.nesl_values.specs.Tree.{sizes, trees_of}
use Rattle.nesl_values.specs.View.{tree_of}
use Rattle.nesl_seqs_base.specs.Woven.{evens}
use Rattle.nesl_seqs_index.proofs.woven.nodes_of_every_other_value.Given as goal

abbrev pub invariant-loop-place : goal.invariant-loop-place
invariant-loop-place g l =
    (l.used + sizes (trees_of (evens (drop (2 * l.place) (map tree_of l.values)))) ≡ sizes (trees_of (evens (map tree_of l.values)))) × (l.used ≤ l.limit)
