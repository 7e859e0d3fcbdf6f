-- The parts of a node are less deep than the expression that it is.
use Rattle.std.proofs.Common.{◌≡◌, ◌<◌, ◌+◌, ℕ, max, ap, arith, rules, Global, Box}
use borrow.Author.Sizes.{sizes, same_size}
use Rattle.nesl_syntax_tree.specs.declared.tree.Exp.{Exp}
use Rattle.nesl_syntax_tree.specs.declared.tree.Node as declared
use Rattle.nesl_syntax_tree.specs.declared.tree.Node.TheViews.{the_lemmas}
use Rattle.nesl_syntax_tree.proofs.tree.Exp.TheLaws as exp
use Rattle.nesl_syntax_tree.proofs.tree.Node.TheLaws as tree_node

node_falls : (e : Exp) → tree_node.the_size e.node < exp.the_size e
node_falls e = search (rules, the_lemmas, sizes, same_size exp.the_size, same_size tree_node.the_size)

falls : (e : Exp) (k : declared.Node) (n : ℕ) → e.node ≡ k → tree_node.the_size k ≡ n + 1 → n < exp.the_size e
falls e k n h s =
    let whole = ap tree_node.the_size h in
    let here = node_falls e in
    omega (arith, whole, here, s)

pair_size : (a b : Box Exp Global) → tree_node.the_size (declared.Pair a b) ≡ max (exp.the_size a.value) (exp.the_size b.value) + 1
pair_size a b = search (rules, the_lemmas)

pub pair_falls : (e : Exp) (a b : Box Exp Global) → e.node ≡ declared.Pair a b → max (exp.the_size a.value) (exp.the_size b.value) < exp.the_size e
pair_falls e a b h = falls e (declared.Pair a b) (max (exp.the_size a.value) (exp.the_size b.value)) h (pair_size a b)

index_size : (a b : Box Exp Global) → tree_node.the_size (declared.Index a b) ≡ max (exp.the_size a.value) (exp.the_size b.value) + 1
index_size a b = search (rules, the_lemmas)

pub index_falls : (e : Exp) (a b : Box Exp Global) → e.node ≡ declared.Index a b → max (exp.the_size a.value) (exp.the_size b.value) < exp.the_size e
index_falls e a b h = falls e (declared.Index a b) (max (exp.the_size a.value) (exp.the_size b.value)) h (index_size a b)

range_size : (a b : Box Exp Global) → tree_node.the_size (declared.Range a b) ≡ max (exp.the_size a.value) (exp.the_size b.value) + 1
range_size a b = search (rules, the_lemmas)

pub range_falls : (e : Exp) (a b : Box Exp Global) → e.node ≡ declared.Range a b → max (exp.the_size a.value) (exp.the_size b.value) < exp.the_size e
range_falls e a b h = falls e (declared.Range a b) (max (exp.the_size a.value) (exp.the_size b.value)) h (range_size a b)

choice_size : (a b d : Box Exp Global) → tree_node.the_size (declared.Choice a b d) ≡ max (exp.the_size a.value) (max (exp.the_size b.value) (exp.the_size d.value)) + 1
choice_size a b d = search (rules, the_lemmas)

pub choice_falls : (e : Exp) (a b d : Box Exp Global) → e.node ≡ declared.Choice a b d → max (exp.the_size a.value) (max (exp.the_size b.value) (exp.the_size d.value)) < exp.the_size e
choice_falls e a b d h = falls e (declared.Choice a b d) (max (exp.the_size a.value) (max (exp.the_size b.value) (exp.the_size d.value))) h (choice_size a b d)

strided_size : (a b d : Box Exp Global) → tree_node.the_size (declared.StridedRange a b d) ≡ max (exp.the_size a.value) (max (exp.the_size b.value) (exp.the_size d.value)) + 1
strided_size a b d = search (rules, the_lemmas)

pub strided_falls : (e : Exp) (a b d : Box Exp Global) → e.node ≡ declared.StridedRange a b d → max (exp.the_size a.value) (max (exp.the_size b.value) (exp.the_size d.value)) < exp.the_size e
strided_falls e a b d h = falls e (declared.StridedRange a b d) (max (exp.the_size a.value) (max (exp.the_size b.value) (exp.the_size d.value))) h (strided_size a b d)
