-- The spans of an expression's nodes.
use Rattle.std.specs.Prelude.{◌≢◌, ℕ, List, [], ◌∷◌, ◌++◌}
use Rattle.std.specs.List.{AllPairs}
use Rattle.nesl_lex.specs.declared.token.Span.{Span}
use Rattle.nesl_lex.specs.Tokens.{Placed}
use Rattle.nesl_lex.specs.Lexemes.{HasTokens}
use Rattle.nesl_syntax_tree.specs.Trees.{Tree, Shape, Trees, Binders, FormTree, node}
use Rattle.nesl_syntax_tree.specs.Trees as trees
use Rattle.nesl_syntax_tree.specs.Lines.{IsForm}

-- a node's span, and those of the nodes below it. The body of an apply-to-each that has none is a node, too
abbrev mutual
  pub spans : Tree → List Span
  spans (node s k) = s ∷ spans_below k

  pub spans_below : Shape → List Span
  spans_below (trees.call x a) = spans a
  spans_below (trees.pair a b) = spans a ++ spans b
  spans_below (trees.prefix_of o a) = spans a
  spans_below (trees.infix_of o a b) = spans a ++ spans b
  spans_below (trees.index a b) = spans a ++ spans b
  spans_below (trees.choice a b c) = spans a ++ (spans b ++ spans c)
  spans_below (trees.sequence ts) = spans_of ts
  spans_below (trees.range a b) = spans a ++ spans b
  spans_below (trees.strided_range a b c) = spans a ++ (spans b ++ spans c)
  spans_below (trees.let_in bs e) = bound_spans bs ++ spans e
  spans_below (trees.each e bs) = spans e ++ bound_spans bs
  spans_below (trees.filtered_each e bs f) = spans e ++ (bound_spans bs ++ spans f)
  spans_below _ = []

  pub spans_of : Trees → List Span
  spans_of trees.none = []
  spans_of (trees.more t ts) = spans t ++ spans_of ts

  pub bound_spans : Binders → List Span
  bound_spans trees.no_binders = []
  bound_spans (trees.binder p e bs) = spans e ++ bound_spans bs

-- the spans of a line's expression, if it has one
abbrev pub line_spans : FormTree → List Span
line_spans (trees.function x p s e) = spans e
line_spans (trees.bind x e) = spans e
line_spans (trees.evaluate e) = spans e
line_spans (trees.show_type e) = spans e
line_spans _ = []

-- no two nodes of a line's expression have the same span
abbrev pub SpansDiffer : Type 0
SpansDiffer =
    (line : List ℕ) (ts : List Placed) (l : FormTree) → HasTokens line ts → IsForm ts l
    → AllPairs (λ s t. s ≢ t) (line_spans l)
