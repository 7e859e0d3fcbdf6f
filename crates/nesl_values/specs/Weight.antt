-- What is left to do to drop a tree. A pair weighs more while its right part is no leaf.
use Rattle.std.specs.Prelude.{ℕ, ◌+◌, min}
use Rattle.nesl_values.specs.Tree.{ValueTree, ValueTrees, int, boolean, character, pair, seq, tagged, no_trees}
use Rattle.nesl_values.specs.Tree.{tree_then}

abbrev mutual
  pub weight : ValueTree → ℕ
  weight (int n) = 0
  weight (boolean b) = 0
  weight (character c) = 0
  weight (pair l r) = 1 + weight l + weight r + min 1 (weight r)
  weight (seq ts) = 1 + weights ts
  weight (tagged n t) = 1 + weight t

  pub weights : ValueTrees → ℕ
  weights no_trees = 0
  weights (tree_then t ts) = 1 + weight t + weights ts
