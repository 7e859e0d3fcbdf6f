use Rattle.std.proofs.Common.{◌≡◌, ◌+◌, ◌*◌, ◌≤◌, length, drop, map}
use Rattle.nesl_values.specs.Tree.{sizes, trees_of}
use Rattle.nesl_values.specs.View.{tree_of, item_trees}
use Rattle.nesl_seqs_base.specs.Write.{overwritten, writes_of}
use Rattle.nesl_seqs_index.proofs.write.nodes_of_windows.Given as goal

abbrev pub invariant-loop-window : goal.invariant-loop-window
invariant-loop-window g l =
    let ts = item_trees l.items in
    let all = overwritten ts (writes_of (length ts) (map tree_of l.pairs)) in
    (l.used + sizes (trees_of (drop (l.window * 4096) all)) ≡ sizes (trees_of all)) × (l.used ≤ l.limit)
