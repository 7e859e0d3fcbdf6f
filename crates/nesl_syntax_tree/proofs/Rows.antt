-- Lists of parts.
use Rattle.std.proofs.Common.{◌≡◌, max, List, [], ◌∷◌, ◌++◌, refl, ap, arith}
use Rattle.nesl_syntax_tree.specs.declared.tree.Exp.{Exp}
use Rattle.nesl_syntax_tree.specs.declared.tree.Binding.{Binding}
use Rattle.nesl_syntax_tree.specs.declared.tree.Node as declared
use Rattle.nesl_syntax_tree.specs.Trees.{Tree, Trees, Binders, PatternTree, node, none, more, no_binders, binder, height, greatest_height, greatest_binder_height, pattern_height, with_last, with_last_binder}
use Rattle.nesl_syntax_tree.specs.Views.{shape_of, tree_of, trees_in, trees_of, binders_in, binders_of, pattern_tree}

pub greatest_and_then : (xs : Trees) (x : Tree) → greatest_height (with_last xs x) ≡ max (greatest_height xs) (height x)
greatest_and_then none x = omega arith
greatest_and_then (more t ts) x = omega (arith, greatest_and_then ts x)

pub trees_push : (es : List Exp) (e : Exp) → trees_in (es ++ e ∷ []) ≡ with_last (trees_in es) (tree_of e)
trees_push [] e = refl
trees_push (d ∷ es) e = ap (more (tree_of d)) (trees_push es e)

pub greatest_and_bind : (bs : Binders) (p : PatternTree) (x : Tree) → greatest_binder_height (with_last_binder bs p x) ≡ max (greatest_binder_height bs) (max (pattern_height p) (height x))
greatest_and_bind no_binders p x = omega arith
greatest_and_bind (binder q t bs) p x = omega (arith, greatest_and_bind bs p x)

pub binders_push : (bs : List Binding) (b : Binding) → binders_in (bs ++ b ∷ []) ≡ with_last_binder (binders_in bs) (pattern_tree b.pattern) (tree_of b.value)
binders_push [] b = refl
binders_push (d ∷ bs) b = ap (binder (pattern_tree d.pattern) (tree_of d.value)) (binders_push bs b)

pub row_is : {m : _} (row : declared.Row_of-Exp m) → trees_of row ≡ trees_in (declared.items-the_row-Exp m row)
row_is declared.end_of-Exp = refl
row_is (declared.more_of-Exp s a rest) = ap (more (node s (shape_of a))) (row_is rest)

pub row_of_binders_is : {m : _} (row : declared.Row_of-Binding m) → binders_of row ≡ binders_in (declared.items-the_row-Binding m row)
row_of_binders_is declared.end_of-Binding = refl
row_of_binders_is (declared.more_of-Binding p s a rest) = ap (binder (pattern_tree p) (node s (shape_of a))) (row_of_binders_is rest)
