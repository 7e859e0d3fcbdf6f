-- The tree that a `Value` means.
use Rattle.std.specs.Prelude.{ℕ, List, map}
use Rattle.nesl_values.specs.Tree.{ValueTree, ValueTrees, trees_of, int, boolean, character, pair, tagged, sequence}
use Rattle.nesl_values.specs.Tree.{size}
use Rattle.nesl_values.specs.declared.value.Value.{Value}
use Rattle.nesl_values.specs.declared.value.Value.TheVariants.{Int, Bool, Char, Shared}
use Rattle.nesl_values.specs.declared.node.Parts.{Parts}
use Rattle.nesl_values.specs.declared.node.Parts.TheVariants.{Pair, Tagged, Seq, Ints, Bools, Chars}
use Rattle.nesl_values.specs.declared.element.Element.{Element}
use Rattle.nesl_values.specs.declared.items.Items.{Items}

abbrev pub tree_of : {A : Type 0} → Value A → ValueTree
tree_of (Int n) = int n
tree_of (Bool b) = boolean b
tree_of (Char c) = character c
tree_of (Shared node) = node.value

abbrev pub parts_tree : {A : Type 0} → Parts A → ValueTree
parts_tree (Pair l r) = pair (tree_of l) (tree_of r)
parts_tree (Tagged n v) = tagged n (tree_of v)
parts_tree (Seq vs) = sequence (map tree_of vs.items)
parts_tree (Ints ns) = sequence (map int ns.items)
parts_tree (Bools bs) = sequence (map boolean bs.items)
parts_tree (Chars cs) = sequence (map character cs.items)

-- the number of nodes of a tree, under a name that no member of a model hides
abbrev pub nodes_of : ValueTree → ℕ
nodes_of = size

abbrev pub trees_view : {A : Type 0} → List (Value A) → ValueTrees
trees_view vs = trees_of (map tree_of vs)

abbrev pub element_tree : {A : Type 0} → Element A → ValueTree
element_tree (Element.Int n) = int n
element_tree (Element.Bool b) = boolean b
element_tree (Element.Char c) = character c
element_tree (Element.Node v) = tree_of v.now

abbrev pub item_trees : {A : Type 0} → Items A → List ValueTree
item_trees (Items.Ints ns) = map int ns.now
item_trees (Items.Bools bs) = map boolean bs.now
item_trees (Items.Chars cs) = map character cs.now
item_trees (Items.Values vs) = map tree_of vs.now
