use Rattle.std.proofs.Common.{◌≤◌, map, SomeIff, refl, subst}
use Rattle.nesl_values.specs.Tree.{int, boolean, character, sizes, trees_of}
use Rattle.nesl_values.specs.View.{tree_of, item_trees}
use Rattle.nesl_seqs_index.proofs.Picking.{are_leaves, picked_leaves, picked_seen}
use Rattle.nesl_seqs_index.proofs.gather.picked_nodes.Goals as goal

pub returns-in-Ints : goal.returns-in-Ints
returns-in-Ints g c = rw (picked_leaves g.I.Item.tree (item_trees c.args.items) (rw c.in-Ints.is (are_leaves int (λ _. refl) _)) c.args.indices.now c.requires) c.leaves.ensures

pub returns-in-Bools : goal.returns-in-Bools
returns-in-Bools g c = rw (picked_leaves g.I.Item.tree (item_trees c.args.items) (rw c.in-Bools.is (are_leaves boolean (λ _. refl) _)) c.args.indices.now c.requires) c.leaves-in-Bools.ensures

pub returns-in-Chars : goal.returns-in-Chars
returns-in-Chars g c = rw (picked_leaves g.I.Item.tree (item_trees c.args.items) (rw c.in-Chars.is (are_leaves character (λ _. refl) _)) c.args.indices.now c.requires) c.leaves-in-Chars.ensures

pub returns-in-Values : goal.returns-in-Values
returns-in-Values g c =
    rw c.in-Values.is (subst (λ ts. SomeIff c.nodes_of_picked.result (sizes (trees_of ts) ≤ c.args.limit) (sizes (trees_of ts))) (picked_seen tree_of c.in-Values.values.now (map g.I.Item.tree c.args.indices.now)) c.nodes_of_picked.ensures)
