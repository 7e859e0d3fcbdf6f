use Rattle.std.proofs.Common.{◌≡◌, ◌+◌, ◌*◌, ◌≤◌, length, take, drop, map}
use Rattle.nesl_values.specs.Tree.{sizes, trees_of}
use Rattle.nesl_values.specs.View.{tree_of, item_trees}
use Rattle.nesl_seqs_base.specs.Write.{overwritten, writes_of}
use Rattle.nesl_seqs_index.proofs.write.nodes_in.Given as goal

abbrev pub invariant-loop-offset : goal.invariant-loop-offset
invariant-loop-offset g l =
    let ts = item_trees l.items in
    let part = take 4096 (drop (l.window * 4096) (overwritten ts (writes_of (length ts) (map tree_of l.pairs)))) in
    (l.used + sizes (trees_of (drop l.offset part)) ≡ sizes (trees_of part)) × (l.used ≤ l.limit)
