-- Laws of the grammar.
use Rattle.std.specs.Prelude.{◌≡◌, ◌↔◌, List, Some}
use Rattle.nesl_lex.specs.Tokens.{Placed}
use Rattle.nesl_syntax_tree.specs.Trees.{Tree, PatternTree, TypeTree, FormTree}
use Rattle.nesl_syntax_tree.specs.Grammar.{IsExpression, IsPattern, IsType}
use Rattle.nesl_syntax_tree.specs.Lines.{IsForm}
use Rattle.nesl_syntax.specs.Reading.{form_in}

-- tokens are at most one expression
abbrev pub OneTree : Type 0
OneTree = (ts : List Placed) (a b : Tree) → IsExpression 2 ts a → IsExpression 2 ts b → a ≡ b

-- and at most one pattern
abbrev pub OnePattern : Type 0
OnePattern = (ts : List Placed) (p q : PatternTree) → IsPattern ts p → IsPattern ts q → p ≡ q

-- and at most one type
abbrev pub OneType : Type 0
OneType = (ts : List Placed) (a b : TypeTree) → IsType ts a → IsType ts b → a ≡ b

-- tokens are the line that is computed of them, and no other
abbrev pub FormComputes : Type 0
FormComputes = (ts : List Placed) (l : FormTree) → (form_in ts ≡ Some l) ↔ IsForm ts l
