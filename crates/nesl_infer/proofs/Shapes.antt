-- Lists of parts.
use Rattle.std.proofs.Common.{◌≡◌, ◌<◌, ◌+◌, ℕ, List, [], ◌∷◌, ◌++◌, length, take, get_or, sym, ap, ◌∙◌, rules, Vec, Global, Box}
use Rattle.std.proofs.lemmas.List.{take_more}
use Rattle.nesl_syntax_tree.proofs.Rows.{row_is, row_of_binders_is, trees_push}
use Rattle.nesl_syntax_tree.specs.declared.tree.Exp.{Exp}
use Rattle.nesl_syntax_tree.specs.declared.tree.Node as declared
use Rattle.nesl_syntax_tree.specs.declared.tree.Node.TheViews.{the_lemmas}
use Rattle.nesl_syntax_tree.specs.Trees.{Shape, with_last}
use Rattle.nesl_syntax_tree.specs.Trees as trees
use Rattle.nesl_syntax_tree.specs.Views.{shape_of, tree_of, trees_in, binders_in}
use Rattle.nesl_syntax_tree.specs.declared.tree.Binding.{Binding}

pub sequence_shape : (v : Vec Exp Global) → shape_of (declared.Sequence v) ≡ trees.sequence (trees_in v.items)
sequence_shape v = search (rules, the_lemmas, row_is)

pub take-trees : (es : List Exp) (i : ℕ) (e : Exp) → i < length es → e ≡ get_or es i e → trees_in (take (i + 1) es) ≡ with_last (trees_in (take i es)) (tree_of e)
take-trees es i e b h = ap trees_in (take_more es i e b) ∙ ap (λ (k : Exp). trees_in (take i es ++ k ∷ [])) (sym h) ∙ trees_push (take i es) e

pub let_shape : (v : Vec Binding Global) (b : Box Exp Global) → shape_of (declared.Let v b) ≡ trees.let_in (binders_in v.items) (tree_of b.value)
let_shape v b = search (rules, the_lemmas, row_of_binders_is)

pub each_shape : (b : Box Exp Global) (v : Vec Binding Global) → shape_of (declared.Each b v) ≡ trees.each (tree_of b.value) (binders_in v.items)
each_shape b v = search (rules, the_lemmas, row_of_binders_is)

pub filtered_shape : (b : Box Exp Global) (v : Vec Binding Global) (d : Box Exp Global) → shape_of (declared.FilteredEach b v d) ≡ trees.filtered_each (tree_of b.value) (binders_in v.items) (tree_of d.value)
filtered_shape b v d = search (rules, the_lemmas, row_of_binders_is)
