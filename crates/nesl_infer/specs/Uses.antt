-- One walk through an expression: each place where it may refer to a name, with the local names there.
use Rattle.std.specs.Prelude.{ℕ, List, [], ◌∷◌, ◌++◌, ◌||◌}
use Rattle.std.specs.Option.{is_some}
use Rattle.std.specs.List.{list_any, flat_map}
use Rattle.std.specs.Str.{bytes_eq}
use Rattle.nesl_lex.specs.declared.token.Span.{Span}
use Rattle.nesl_syntax_tree.specs.Trees.{PatternTree, Tree, Shape, Trees, Binders}
use Rattle.nesl_syntax_tree.specs.Trees.{node, none, more, no_binders, binder}
use Rattle.nesl_syntax_tree.specs.Trees as trees
use Rattle.nesl_infer_names.specs.Names.{Names, names_bound, all_names_bound}
use Rattle.nesl_infer_names.specs.Names.{span_unless_known, unknown_types, unknown_records}

-- a node where these are the local names, the newest first; or a pattern
pub data Use : Type 0 where
  at_node : (locals : List (List ℕ)) → Span → Shape → Use
  at_pattern : PatternTree → Use

-- the uses of an expression where the local names are `ls`, in the order of the text: a node before its parts, the body
-- of an apply-to-each before its binders, a pattern before its value
abbrev mutual
  pub uses : List (List ℕ) → Tree → List Use
  uses ls (node s k) = at_node ls s k ∷ uses_below ls k

  pub uses_below : List (List ℕ) → Shape → List Use
  uses_below ls (trees.call f a) = uses ls a
  uses_below ls (trees.pair a b) = uses ls a ++ uses ls b
  uses_below ls (trees.prefix_of o a) = uses ls a
  uses_below ls (trees.infix_of o a b) = uses ls a ++ uses ls b
  uses_below ls (trees.index a i) = uses ls a ++ uses ls i
  uses_below ls (trees.choice a b c) = uses ls a ++ (uses ls b ++ uses ls c)
  uses_below ls (trees.sequence es) = uses_of_all ls es
  uses_below ls (trees.range a b) = uses ls a ++ uses ls b
  uses_below ls (trees.strided_range a b c) = uses ls a ++ (uses ls b ++ uses ls c)
  uses_below ls (trees.let_in bs e) = uses_of_let ls bs ++ uses (all_names_bound bs ++ ls) e
  uses_below ls (trees.each e bs) = uses (all_names_bound bs ++ ls) e ++ uses_of_each ls bs
  uses_below ls (trees.filtered_each e bs f) =
      uses (all_names_bound bs ++ ls) e ++ (uses_of_each ls bs ++ uses (all_names_bound bs ++ ls) f)
  uses_below ls _ = []

  pub uses_of_all : List (List ℕ) → Trees → List Use
  uses_of_all ls none = []
  uses_of_all ls (more e es) = uses ls e ++ uses_of_all ls es

  -- of a `let`: each value sees the names before it
  pub uses_of_let : List (List ℕ) → Binders → List Use
  uses_of_let ls no_binders = []
  uses_of_let ls (binder p e bs) = at_pattern p ∷ (uses ls e ++ uses_of_let (names_bound p ++ ls) bs)

  -- of an apply-to-each: the sequences don't see the binders
  pub uses_of_each : List (List ℕ) → Binders → List Use
  uses_of_each ls no_binders = []
  uses_of_each ls (binder p e bs) = at_pattern p ∷ (uses ls e ++ uses_of_each ls bs)

-- of a function: its parameter before its body. Its signature refers to nothing, since a name there is a variable
-- where it is no datatype
abbrev pub uses_of_function : PatternTree → Tree → List Use
uses_of_function p e = at_pattern p ∷ uses (names_bound p) e

-- where the names of a use refer to nothing
abbrev pub unknown_there : Names → Use → List Span
unknown_there ns (at_node ls s (trees.variable x)) =
    span_unless_known (list_any (bytes_eq x) ls || is_some (ns.variables x)) s
unknown_there ns (at_node ls s (trees.call f a)) = span_unless_known (is_some (ns.functions f)) s
unknown_there ns (at_node ls s (trees.empty a)) = unknown_types ns.datatypes a
unknown_there ns (at_node ls s _) = []
unknown_there ns (at_pattern p) = unknown_records ns.datatypes p

abbrev pub unknown : Names → List Use → List Span
unknown ns us = flat_map (unknown_there ns) us
