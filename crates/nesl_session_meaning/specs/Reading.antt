-- The reading of a line: its tokens, and the one tree of its tokens.
use Rattle.std.specs.Prelude.{ℕ, ◌<◌, ◌≤◌, List}
use Rattle.nesl_lex.specs.Tokens.{Placed}
use Rattle.nesl_lex.specs.Lexemes.{HasTokens, HasNoTokenAt}
use Rattle.nesl_syntax_tree.specs.Trees.{FormTree, form_height}
use Rattle.nesl_syntax_tree.specs.Lines.{IsForm}

-- how a line reads by the grammar: a byte at which no token begins, no tree, a tree that is too high, or a tree
pub data Reading : Type 0 where
  no_token : ℕ → Reading
  no_form : Reading
  too_high : Reading
  form : FormTree → Reading

-- the line has this reading; a tree may have a height of 100
pub data HasReading (line : List ℕ) : Reading → Type 0 where
  has_no_token : {at : ℕ} → HasNoTokenAt line at → HasReading line (no_token at)
  has_no_form : {ts : List Placed} → HasTokens line ts → ((l : FormTree) → IsForm ts l → ⊥) → HasReading line no_form
  has_high_form :
      {ts : List Placed} {l : FormTree} → HasTokens line ts → IsForm ts l → 100 < form_height l
      → HasReading line too_high
  has_form :
      {ts : List Placed} {l : FormTree} → HasTokens line ts → IsForm ts l → form_height l ≤ 100
      → HasReading line (form l)
