-- Names in scope for a part alone, and the shapes of nodes with lists of parts.
use Rattle.std.proofs.Common.{◌≡◌, ◌≤◌, ◌-◌, ℕ, List, ◌++◌, length, drop, ap, ◌∙◌, rules, arith, length-append}
use Rattle.std.proofs.Common.{Vec, Box, Global}
use Rattle.nesl_syntax_tree.specs.declared.tree.Exp.{Exp}
use Rattle.nesl_syntax_tree.specs.declared.tree.Binding.{Binding}
use Rattle.nesl_syntax_tree.specs.declared.tree.Node as declared
use Rattle.nesl_syntax_tree.specs.declared.tree.Node.TheViews.{the_lemmas}
use Rattle.nesl_syntax_tree.specs.Trees as trees
use Rattle.nesl_syntax_tree.specs.Views.{shape_of, tree_of, trees_in, binders_in}
use Rattle.nesl_syntax_tree.proofs.Rows.{row_is, row_of_binders_is}
use Rattle.nesl_infer_names.proofs.Scoping.{dropped}

pub sequence_shape : (v : Vec Exp Global) → shape_of (declared.Sequence v) ≡ trees.sequence (trees_in v.items)
sequence_shape v = search (rules, the_lemmas, row_is)

pub let_shape : (v : Vec Binding Global) (b : Box Exp Global) → shape_of (declared.Let v b) ≡ trees.let_in (binders_in v.items) (tree_of b.value)
let_shape v b = search (rules, the_lemmas, row_of_binders_is)

pub each_shape : (b : Box Exp Global) (v : Vec Binding Global) → shape_of (declared.Each b v) ≡ trees.each (tree_of b.value) (binders_in v.items)
each_shape b v = search (rules, the_lemmas, row_of_binders_is)

pub filtered_shape : (b : Box Exp Global) (v : Vec Binding Global) (f : Box Exp Global) → shape_of (declared.FilteredEach b v f) ≡ trees.filtered_each (tree_of b.value) (binders_in v.items) (tree_of f.value)
filtered_shape b v f = search (rules, the_lemmas, row_of_binders_is)

pub pair_shape : (a b : Box Exp Global) → shape_of (declared.Pair a b) ≡ trees.pair (tree_of a.value) (tree_of b.value)
pair_shape a b = search (rules, the_lemmas)

pub index_shape : (a b : Box Exp Global) → shape_of (declared.Index a b) ≡ trees.index (tree_of a.value) (tree_of b.value)
index_shape a b = search (rules, the_lemmas)

pub range_shape : (a b : Box Exp Global) → shape_of (declared.Range a b) ≡ trees.range (tree_of a.value) (tree_of b.value)
range_shape a b = search (rules, the_lemmas)

pub choice_shape : (a b c : Box Exp Global) → shape_of (declared.Choice a b c) ≡ trees.choice (tree_of a.value) (tree_of b.value) (tree_of c.value)
choice_shape a b c = search (rules, the_lemmas)

pub strided_shape : (a b c : Box Exp Global) → shape_of (declared.StridedRange a b c) ≡ trees.strided_range (tree_of a.value) (tree_of b.value) (tree_of c.value)
strided_shape a b c = search (rules, the_lemmas)

-- `ls` with more names before them, `ms`, hold at least as many
pub enough : (added ls ms : List (List ℕ)) (n : ℕ) → n ≡ length ls → ms ≡ added ++ ls → n ≤ length ms
enough added ls ms n e h =
    let long : length ms ≡ length (added ++ ls) = ap length h in
    omega (arith, length-append added ls)

-- and without them the list is as it was before
pub taken_back : (added ls ms os : List (List ℕ)) (n : ℕ) → n ≡ length ls → ms ≡ added ++ ls → os ≡ drop (length ms - n) ms → os ≡ ls
taken_back added ls ms os n e h d =
    d ∙ ap (λ (x : List (List ℕ)). drop (length x - n) x) h ∙ ap (λ (k : ℕ). drop (length (added ++ ls) - k) (added ++ ls)) e ∙ dropped added ls
