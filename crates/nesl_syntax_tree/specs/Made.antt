-- What is made of trees that are known.
use Rattle.std.specs.Prelude.{Option, Some, None}
use Rattle.nesl_syntax_tree.specs.Trees.{Tree, Binders, TypeTree, written, type_span}
use Rattle.nesl_syntax_tree.specs.Trees as trees
use Rattle.nesl_syntax_tree.specs.Grammar.{spanning, unwritten_body}

-- the body of an apply-to-each
abbrev pub body_or : Option Tree → Binders → Tree
body_or (Some e) bs = e
body_or None bs = unwritten_body bs

-- the pair of two types
abbrev pub type_pair : TypeTree → TypeTree → TypeTree
type_pair a b = written (spanning (type_span a) (type_span b)) (trees.pair_type a b)
