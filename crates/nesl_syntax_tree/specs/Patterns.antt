-- Patterns, which the code reads as expressions.
use Rattle.std.specs.Prelude.{Bool, true, false, ◌&&◌, List, ℕ, Option, Some, None}
use Rattle.nesl_lex.specs.declared.token.Span.{Span}
use Rattle.nesl_syntax_tree.specs.Trees.{Tree, Shape, PatternTree, PatternShape, node, pattern, name_pattern}
use Rattle.nesl_syntax_tree.specs.Trees.{pair_pattern}
use Rattle.nesl_syntax_tree.specs.Trees.{record_pattern}
use Rattle.nesl_syntax_tree.specs.Trees as trees

abbrev pub shape_pair : Option PatternTree → Option PatternTree → Option PatternShape
shape_pair (Some a) (Some b) = Some (pair_pattern a b)
shape_pair _ _ = None

abbrev pub shape_record : List ℕ → Option PatternTree → Option PatternShape
shape_record x (Some a) = Some (record_pattern x a)
shape_record x None = None

abbrev pub with_span : Span → Option PatternShape → Option PatternTree
with_span s (Some k) = Some (pattern s k)
with_span s None = None

-- the pattern with an expression's tokens, if there is one
abbrev mutual
  pub pattern_in : Tree → Option PatternTree
  pattern_in (node s k) = with_span s (pattern_shape_in k)

  pub pattern_shape_in : Shape → Option PatternShape
  pattern_shape_in (trees.variable x) = Some (name_pattern x)
  pattern_shape_in (trees.pair a b) = shape_pair (pattern_in a) (pattern_in b)
  pattern_shape_in (trees.call x a) = shape_record x (pattern_in a)
  pattern_shape_in _ = None

-- whether an expression's tokens are a pattern's
abbrev mutual
  pub is_pattern : Tree → Bool
  is_pattern (node s k) = is_pattern_shape k

  pub is_pattern_shape : Shape → Bool
  is_pattern_shape (trees.variable x) = true
  is_pattern_shape (trees.pair a b) = is_pattern a && is_pattern b
  is_pattern_shape (trees.call x a) = is_pattern a
  is_pattern_shape _ = false
