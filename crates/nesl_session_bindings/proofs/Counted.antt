-- The sum of a node's parts is the number of the nodes among its uses.
use Rattle.std.proofs.Common.{◌≡◌, ℕ, ◌+◌, List, [], ◌∷◌, ◌++◌, refl, ap, ◌∙◌, arith}
use Rattle.std.proofs.lemmas.List.Sums.{sum_by-append, sum_by-cons}
use Rattle.std.specs.Prelude.{cond, count_by}
use Rattle.nesl_syntax_tree.specs.Trees.{PatternTree, Tree, Shape, Trees, Binders}
use Rattle.nesl_syntax_tree.specs.Trees.{node, none, more, no_binders, binder}
use Rattle.nesl_syntax_tree.specs.Trees as trees
use Rattle.nesl_infer_names.specs.Names.{names_bound, all_names_bound}
use Rattle.nesl_infer.specs.Uses.{Use, at_node, at_pattern, uses, uses_below, uses_of_all, uses_of_let, uses_of_each}
use Rattle.nesl_session_bindings.specs.Meanings.{is_node, nodes_in}
use Rattle.nesl_session_bindings.specs.Nodes.{expression_nodes, nodes_below, nodes_of_all, nodes_bound}

abbrev counted : List Use → ℕ
counted us = count_by is_node us

joined : (us vs : List Use) (m n : ℕ) → counted us ≡ m → counted vs ≡ n → counted (us ++ vs) ≡ m + n
joined us vs m n p q =
    sum_by-append (λ u. cond (is_node u) 1 0) us vs ∙ ap (λ (k : ℕ). k + counted vs) p ∙ ap (λ (k : ℕ). m + k) q

under : (u : Use) (us : List Use) → counted (u ∷ us) ≡ cond (is_node u) 1 0 + counted us
under u us = sum_by-cons (λ v. cond (is_node v) 1 0) u us

passed : (p : PatternTree) (us : List Use) → counted (at_pattern p ∷ us) ≡ counted us
passed p us = let no_more : 0 + counted us ≡ counted us = omega arith in under (at_pattern p) us ∙ no_more

abbrev Same : List (List ℕ) → Tree → Type 0
Same ls e = counted (uses ls e) ≡ expression_nodes e

two : (ls : List (List ℕ)) (a b : Tree) → Same ls a → Same ls b → counted (uses ls a ++ uses ls b) ≡ expression_nodes a + expression_nodes b
two ls a b p q = joined (uses ls a) (uses ls b) (expression_nodes a) (expression_nodes b) p q

three : (ls : List (List ℕ)) (a b c : Tree) → Same ls a → Same ls b → Same ls c
    → counted (uses ls a ++ (uses ls b ++ uses ls c)) ≡ expression_nodes a + (expression_nodes b + expression_nodes c)
three ls a b c p q r =
    joined (uses ls a) (uses ls b ++ uses ls c) (expression_nodes a) (expression_nodes b + expression_nodes c) p (two ls b c q r)

mutual
  same_count : (ls : List (List ℕ)) (e : Tree) → counted (uses ls e) ≡ expression_nodes e
  same_count ls (node s k) = under (at_node ls s k) (uses_below ls k) ∙ ap (λ (n : ℕ). 1 + n) (same_below ls k)

  same_below : (ls : List (List ℕ)) (k : Shape) → counted (uses_below ls k) ≡ nodes_below k
  same_below ls (trees.number n) = refl
  same_below ls (trees.truth b) = refl
  same_below ls (trees.character c) = refl
  same_below ls (trees.text bytes) = refl
  same_below ls (trees.variable x) = refl
  same_below ls (trees.call f a) = same_count ls a
  same_below ls (trees.pair a b) = two ls a b (same_count ls a) (same_count ls b)
  same_below ls (trees.prefix_of o a) = same_count ls a
  same_below ls (trees.infix_of o a b) = two ls a b (same_count ls a) (same_count ls b)
  same_below ls (trees.index a i) = two ls a i (same_count ls a) (same_count ls i)
  same_below ls (trees.choice a b c) = three ls a b c (same_count ls a) (same_count ls b) (same_count ls c)
  same_below ls (trees.sequence es) = same_in_all ls es
  same_below ls (trees.empty t) = refl
  same_below ls (trees.range a b) = two ls a b (same_count ls a) (same_count ls b)
  same_below ls (trees.strided_range a b c) = three ls a b c (same_count ls a) (same_count ls b) (same_count ls c)
  same_below ls (trees.let_in bs e) =
      let ms = all_names_bound bs ++ ls in
      joined (uses_of_let ls bs) (uses ms e) (nodes_bound bs) (expression_nodes e) (same_in_let ls bs) (same_count ms e)
  same_below ls (trees.each e bs) =
      let ms = all_names_bound bs ++ ls in
      joined (uses ms e) (uses_of_each ls bs) (expression_nodes e) (nodes_bound bs) (same_count ms e) (same_in_each ls bs)
  same_below ls (trees.filtered_each e bs f) =
      let ms = all_names_bound bs ++ ls in
      joined (uses ms e) (uses_of_each ls bs ++ uses ms f) (expression_nodes e) (nodes_bound bs + expression_nodes f) (same_count ms e)
      (joined (uses_of_each ls bs) (uses ms f) (nodes_bound bs) (expression_nodes f) (same_in_each ls bs) (same_count ms f))
  same_below ls trees.element = refl

  same_in_all : (ls : List (List ℕ)) (es : Trees) → counted (uses_of_all ls es) ≡ nodes_of_all es
  same_in_all ls none = refl
  same_in_all ls (more e es) = joined (uses ls e) (uses_of_all ls es) (expression_nodes e) (nodes_of_all es) (same_count ls e) (same_in_all ls es)

  same_in_let : (ls : List (List ℕ)) (bs : Binders) → counted (uses_of_let ls bs) ≡ nodes_bound bs
  same_in_let ls no_binders = refl
  same_in_let ls (binder p e bs) =
      let ms = names_bound p ++ ls in
      passed p (uses ls e ++ uses_of_let ms bs)
      ∙ joined (uses ls e) (uses_of_let ms bs) (expression_nodes e) (nodes_bound bs) (same_count ls e) (same_in_let ms bs)

  same_in_each : (ls : List (List ℕ)) (bs : Binders) → counted (uses_of_each ls bs) ≡ nodes_bound bs
  same_in_each ls no_binders = refl
  same_in_each ls (binder p e bs) =
      passed p (uses ls e ++ uses_of_each ls bs)
      ∙ joined (uses ls e) (uses_of_each ls bs) (expression_nodes e) (nodes_bound bs) (same_count ls e) (same_in_each ls bs)

pub nodes_summed : (e : Tree) → nodes_in e ≡ expression_nodes e
unfolding nodes_in
nodes_summed e = same_count [] e
