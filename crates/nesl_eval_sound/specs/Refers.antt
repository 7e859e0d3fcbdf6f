-- Whether an expression refers to one name of the top level, by its parts. `Referred` says the same by its uses.
use Rattle.std.specs.Prelude.{Bool, false, not, ◌&&◌, ◌||◌}
use Rattle.std.specs.Str.{bytes_eq}
use Rattle.std.specs.List.{list_any}
use Rattle.nesl_syntax_tree.specs.Trees.{PatternTree, PatternShape, Tree, Shape, Trees, Binders}
use Rattle.nesl_syntax_tree.specs.Trees.{pattern, node, none, more, no_binders, binder}
use Rattle.nesl_syntax_tree.specs.Trees as trees
use Rattle.nesl_eval_meaning.specs.Names.{Name, Environment, Top, function_of}

-- whether a pattern binds the name y
abbrev mutual
  pub binds : Name → PatternTree → Bool
  binds y (pattern s k) = binds_in y k

  pub binds_in : Name → PatternShape → Bool
  binds_in y (trees.name_pattern x) = bytes_eq y x
  binds_in y (trees.pair_pattern p q) = binds y p || binds y q
  binds_in y (trees.record_pattern x p) = binds y p

abbrev pub some_binds : Name → Binders → Bool
some_binds y no_binders = false
some_binds y (binder p e bs) = binds y p || some_binds y bs

-- Whether an expression refers to the name y, as a variable or before `(`. If a local name hides y, a variable doesn't
-- refer to it.
abbrev mutual
  pub refers : Name → Bool → Tree → Bool
  refers y hidden (node s k) = refers_in y hidden k

  pub refers_in : Name → Bool → Shape → Bool
  refers_in y hidden (trees.variable x) = bytes_eq y x && not hidden
  refers_in y hidden (trees.call f a) = bytes_eq y f || refers y hidden a
  refers_in y hidden (trees.pair a b) = refers y hidden a || refers y hidden b
  refers_in y hidden (trees.prefix_of o a) = refers y hidden a
  refers_in y hidden (trees.infix_of o a b) = refers y hidden a || refers y hidden b
  refers_in y hidden (trees.index a i) = refers y hidden a || refers y hidden i
  refers_in y hidden (trees.choice a b c) = refers y hidden a || (refers y hidden b || refers y hidden c)
  refers_in y hidden (trees.sequence es) = any_refers y hidden es
  refers_in y hidden (trees.range a b) = refers y hidden a || refers y hidden b
  refers_in y hidden (trees.strided_range a b c) = refers y hidden a || (refers y hidden b || refers y hidden c)
  refers_in y hidden (trees.let_in bs e) = bindings_refer y hidden bs || refers y (hidden || some_binds y bs) e
  refers_in y hidden (trees.each e bs) = drawn_refers y hidden bs || refers y (hidden || some_binds y bs) e
  refers_in y hidden (trees.filtered_each e bs f) =
      drawn_refers y hidden bs || (refers y (hidden || some_binds y bs) e || refers y (hidden || some_binds y bs) f)
  refers_in y hidden _ = false

  pub any_refers : Name → Bool → Trees → Bool
  any_refers y hidden none = false
  any_refers y hidden (more e es) = refers y hidden e || any_refers y hidden es

  -- of a `let`: each value sees the names before it
  pub bindings_refer : Name → Bool → Binders → Bool
  bindings_refer y hidden no_binders = false
  bindings_refer y hidden (binder p e bs) = refers y hidden e || bindings_refer y (hidden || binds y p) bs

  -- of an apply-to-each: the sequences don't see the binders
  pub drawn_refers : Name → Bool → Binders → Bool
  drawn_refers y hidden no_binders = false
  drawn_refers y hidden (binder p e bs) = refers y hidden e || drawn_refers y hidden bs

-- whether a function with this parameter and this body refers to the name
abbrev pub body_refers : Name → PatternTree → Tree → Bool
body_refers y p e = refers y (binds y p) e

abbrev pub top_refers : Name → Top → Bool
top_refers y (function_of p e) = body_refers y p e
top_refers y _ = false

-- whether a function of another name refers to the name
abbrev pub is_referred : Name → Environment → Bool
is_referred y env = list_any (λ b. not (bytes_eq b.0 y) && top_refers y b.1) env
