-- Whether two trees are the same.
use Rattle.std.specs.Prelude.{Bool, true, false, ◌&&◌, ◌==◌}
use Rattle.std.specs.Ordering.{int_eq}
use Rattle.nesl_values.specs.Tree.{ValueTree, ValueTrees, int, boolean, character, pair, seq, tagged, no_trees}
use Rattle.nesl_values.specs.Tree.{tree_then}

abbrev pub bool_eq : Bool → Bool → Bool
bool_eq true b = b
bool_eq false true = false
bool_eq false false = true

abbrev mutual
  pub tree_eq : ValueTree → ValueTree → Bool
  tree_eq (int m) (int n) = int_eq m n
  tree_eq (boolean b) (boolean c) = bool_eq b c
  tree_eq (character c) (character d) = c == d
  tree_eq (pair l r) (pair m s) = tree_eq l m && tree_eq r s
  tree_eq (seq ts) (seq us) = trees_eq ts us
  tree_eq (tagged n t) (tagged m u) = (n == m) && tree_eq t u
  tree_eq t u = false

  pub trees_eq : ValueTrees → ValueTrees → Bool
  trees_eq no_trees no_trees = true
  trees_eq (tree_then t ts) (tree_then u us) = tree_eq t u && trees_eq ts us
  trees_eq ts us = false
