-- The expression with a pattern's tokens.
use Rattle.nesl_syntax_tree.specs.Trees.{Tree, Shape, PatternTree, PatternShape, node, pattern}
use Rattle.nesl_syntax_tree.specs.Trees as trees

-- the expression with a pattern's tokens
abbrev mutual
  pub tree_of_pattern : PatternTree → Tree
  tree_of_pattern (pattern s k) = node s (shape_of_pattern k)

  pub shape_of_pattern : PatternShape → Shape
  shape_of_pattern (trees.name_pattern x) = trees.variable x
  shape_of_pattern (trees.pair_pattern a b) = trees.pair (tree_of_pattern a) (tree_of_pattern b)
  shape_of_pattern (trees.record_pattern x a) = trees.call x (tree_of_pattern a)
