-- Laws of a line's nodes.
use Rattle.std.specs.Prelude.{ℕ, List, length}
use Rattle.nesl_lex.specs.Tokens.{Placed}
use Rattle.nesl_lex.specs.Lexemes.{HasTokens}
use Rattle.nesl_syntax_tree.specs.Trees.{FormTree}
use Rattle.nesl_syntax_tree.specs.Lines.{IsForm}
use Rattle.nesl_syntax_tree.specs.Spans.{Lined, line_items}

-- a line's nodes lie within it, one after another, and within each node its parts
abbrev pub OrderlySpans : Type 0
OrderlySpans =
    (line : List ℕ) (ts : List Placed) (l : FormTree) → HasTokens line ts → IsForm ts l
    → Lined 0 (line_items l) (length line)
