-- The number of expression nodes of a body, as the sum of those of its parts.
use Rattle.std.specs.Prelude.{ℕ, ◌+◌}
use Rattle.nesl_syntax_tree.specs.Trees.{Tree, Shape, Trees, Binders, node, none, more, no_binders, binder}
use Rattle.nesl_syntax_tree.specs.Trees as trees

abbrev mutual
  pub expression_nodes : Tree → ℕ
  expression_nodes (node s k) = 1 + nodes_below k

  pub nodes_below : Shape → ℕ
  nodes_below (trees.call f a) = expression_nodes a
  nodes_below (trees.pair a b) = expression_nodes a + expression_nodes b
  nodes_below (trees.prefix_of o a) = expression_nodes a
  nodes_below (trees.infix_of o a b) = expression_nodes a + expression_nodes b
  nodes_below (trees.index a i) = expression_nodes a + expression_nodes i
  nodes_below (trees.choice a b c) = expression_nodes a + (expression_nodes b + expression_nodes c)
  nodes_below (trees.sequence es) = nodes_of_all es
  nodes_below (trees.range a b) = expression_nodes a + expression_nodes b
  nodes_below (trees.strided_range a b c) = expression_nodes a + (expression_nodes b + expression_nodes c)
  nodes_below (trees.let_in bs e) = nodes_bound bs + expression_nodes e
  nodes_below (trees.each e bs) = expression_nodes e + nodes_bound bs
  nodes_below (trees.filtered_each e bs f) = expression_nodes e + (nodes_bound bs + expression_nodes f)
  nodes_below _ = 0

  pub nodes_of_all : Trees → ℕ
  nodes_of_all none = 0
  nodes_of_all (more e es) = expression_nodes e + nodes_of_all es

  pub nodes_bound : Binders → ℕ
  nodes_bound no_binders = 0
  nodes_bound (binder p e bs) = expression_nodes e + nodes_bound bs
