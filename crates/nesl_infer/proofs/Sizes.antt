-- The parts of an apply-to-each with a filter are less deep than it is.
use Rattle.std.proofs.Common.{◌≡◌, ◌<◌, ◌+◌, ℕ, List, max, ap, arith, rules, Vec, Global, Box}
use denote.Param.Weighed.{most}
use borrow.Author.Sizes.{sizes, same_size}
use Rattle.nesl_syntax_tree.specs.declared.tree.Exp.{Exp}
use Rattle.nesl_syntax_tree.specs.declared.tree.Binding.{Binding}
use Rattle.nesl_syntax_tree.specs.declared.tree.Node as declared
use Rattle.nesl_syntax_tree.specs.declared.tree.Node.TheViews.{the_lemmas}
use Rattle.nesl_syntax_tree.proofs.tree.Exp.TheLaws as exp
use Rattle.nesl_syntax_tree.proofs.tree.Node.TheLaws as tree_node
use Rattle.nesl_syntax_tree.proofs.tree.Binding.TheLaws as binding

abbrev pub deepest_binding : List Binding → ℕ
deepest_binding bs = most (λ (b : Binding). binding.the_size b) bs

filtered_size : (b : Box Exp Global) (v : Vec Binding Global) (d : Box Exp Global) →
    tree_node.the_size (declared.FilteredEach b v d) ≡ max (exp.the_size b.value) (max (deepest_binding v.items) (exp.the_size d.value)) + 1
filtered_size b v d = search (rules, the_lemmas)

node_falls : (e : Exp) → tree_node.the_size e.node < exp.the_size e
node_falls e = search (rules, the_lemmas, sizes, same_size exp.the_size, same_size tree_node.the_size)

pub filtered_falls : (e : Exp) (b : Box Exp Global) (v : Vec Binding Global) (d : Box Exp Global) → e.node ≡ declared.FilteredEach b v d →
    max (exp.the_size b.value) (max (deepest_binding v.items) (exp.the_size d.value)) < exp.the_size e
filtered_falls e b v d h =
    let whole : tree_node.the_size e.node ≡ tree_node.the_size (declared.FilteredEach b v d) = ap tree_node.the_size h in
    let sum = filtered_size b v d in
    let here = node_falls e in
    omega arith
