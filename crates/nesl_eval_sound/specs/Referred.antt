-- Which names of the top level the functions of other names refer to. Local names hide variables, but never a name
-- before `(`.
use Rattle.std.specs.Prelude.{Bool, false, not, ◌&&◌}
use Rattle.std.specs.Str.{bytes_eq}
use Rattle.std.specs.List.{list_any}
use Rattle.nesl_syntax_tree.specs.Trees as trees
use Rattle.nesl_infer.specs.Uses.{Use, at_node, uses_of_function}
use Rattle.nesl_eval_meaning.specs.Names.{Name, Environment, Top, function_of}

-- whether a use refers to the name y, as a variable that no local name hides, or before `(`
abbrev pub names_it : Name → Use → Bool
names_it y (at_node ls s (trees.variable x)) = bytes_eq y x && not (list_any (bytes_eq y) ls)
names_it y (at_node ls s (trees.call f a)) = bytes_eq y f
names_it y _ = false

abbrev pub top_names : Name → Top → Bool
top_names y (function_of p e) = list_any (names_it y) (uses_of_function p e)
top_names y _ = false

-- whether a function of another name refers to the name
abbrev pub is_named_elsewhere : Name → Environment → Bool
is_named_elsewhere y env = list_any (λ b. not (bytes_eq b.0 y) && top_names y b.1) env
