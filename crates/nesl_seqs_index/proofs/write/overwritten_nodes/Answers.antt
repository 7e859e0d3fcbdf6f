use Rattle.std.proofs.Common.{◌≡◌, length, true, sym, rules}
use Rattle.std.specs.List.{list_all}
use Rattle.nesl_values.specs.View.{tree_of, item_trees}
use Rattle.nesl_seqs_base.specs.Write.{is_leaf, writes_leaf}
use Rattle.nesl_seqs_index.proofs.WrittenLeaves.{overwritten_leaves}
use Rattle.nesl_seqs_index.proofs.write.overwritten_nodes.Goals as goal

pub returns-then-all_write_leaves : goal.returns-then-all_write_leaves
returns-then-all_write_leaves g c =
    let ts = item_trees c.args.items in
    let ps = c.args.pairs.now in
    let packed : list_all is_leaf ts ≡ true = search rules in
    let written : list_all (λ p. writes_leaf (tree_of p)) ps ≡ true = search rules in
    rw (overwritten_leaves tree_of ts (length ts) ps packed written) (rw (sym c.len.ensures) c.leaves.ensures)
