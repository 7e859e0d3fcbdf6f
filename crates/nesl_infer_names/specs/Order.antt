-- Unknown names in the order of the text.
use Rattle.std.specs.Prelude.{ℕ, ◌≤◌, List, [], ◌∷◌, length}
use Rattle.nesl_lex.specs.declared.token.Span.{Span}
use Rattle.nesl_lex.specs.Tokens.{Placed}
use Rattle.nesl_lex.specs.Lexemes.{HasTokens}
use Rattle.nesl_syntax_tree.specs.Trees.{FormTree, function, datatype, bind, evaluate, show_type}
use Rattle.nesl_syntax_tree.specs.Lines.{IsForm}
use Rattle.nesl_infer_names.specs.Names.{Names, unknown_names, unknown_of_function, unknown_types}

-- spans between these places, of which each begins where the one before it begins, or later
pub data Ascends : ℕ → List Span → ℕ → Type 0 where
  none_ascend : {i j : ℕ} → i ≤ j → Ascends i [] j
  more_ascend :
      {i j : ℕ} {s : Span} {ss : List Span} → i ≤ s.start → Ascends s.start ss j → Ascends i (s ∷ ss) j

-- what is unknown in a line
abbrev pub unknown_in_line : Names → FormTree → List Span
unknown_in_line ns (function x p s e) = unknown_of_function ns p e
unknown_in_line ns (datatype x a) = unknown_types ns.datatypes a
unknown_in_line ns (bind x e) = unknown_names ns [] e
unknown_in_line ns (evaluate e) = unknown_names ns [] e
unknown_in_line ns (show_type e) = unknown_names ns [] e
unknown_in_line ns other = []

-- it is listed in the order of the text, so the first of the list is the first in the line
abbrev pub UnknownInOrder : Type 0
UnknownInOrder =
    (line : List ℕ) (ts : List Placed) (l : FormTree) (ns : Names) → HasTokens line ts → IsForm ts l →
    Ascends 0 (unknown_in_line ns l) (length line)
