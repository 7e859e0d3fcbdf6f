-- The walk of nesl_infer_names finds the unknown names of all uses.
use Rattle.std.proofs.Common.{◌≡◌, ℕ, List, [], ◌∷◌, ◌++◌, refl, ap, ◌∙◌}
use Rattle.std.proofs.lemmas.Grind.{flat_map-append}
use Rattle.std.proofs.lemmas.List.{append-nil}
use Rattle.nesl_lex.specs.declared.token.Span.{Span}
use Rattle.nesl_syntax_tree.specs.Trees.{PatternTree, Tree, Shape, Trees, Binders}
use Rattle.nesl_syntax_tree.specs.Trees.{node, none, more, no_binders, binder}
use Rattle.nesl_syntax_tree.specs.Trees as trees
use Rattle.nesl_infer_names.specs.Names.{Names, names_bound, all_names_bound, unknown_types, unknown_records, unknown_names, unknown_in}
use Rattle.nesl_infer_names.specs.Names.{all_unknown_names, unknown_in_let, unknown_in_each, unknown_of_function}
use Rattle.nesl_infer.specs.Uses.{Use, at_node, at_pattern, uses, uses_below, uses_of_all, uses_of_let, uses_of_each, uses_of_function, unknown_there, unknown}

module _ (ns : Names) where
  joined : (us vs : List Use) (ss rs : List Span) → unknown ns us ≡ ss → unknown ns vs ≡ rs → unknown ns (us ++ vs) ≡ ss ++ rs
  joined us vs ss rs p q =
      flat_map-append (unknown_there ns) us vs ∙ ap (λ (xs : List Span). xs ++ unknown ns vs) p ∙ ap (λ (xs : List Span). ss ++ xs) q

  abbrev ByUses : List (List ℕ) → Tree → Type 0
  ByUses ls e = unknown ns (uses ls e) ≡ unknown_names ns ls e

  two : (ls : List (List ℕ)) (a b : Tree) → ByUses ls a → ByUses ls b
      → unknown ns (uses ls a ++ uses ls b) ≡ unknown_names ns ls a ++ unknown_names ns ls b
  two ls a b p q = joined (uses ls a) (uses ls b) (unknown_names ns ls a) (unknown_names ns ls b) p q

  three : (ls : List (List ℕ)) (a b c : Tree) → ByUses ls a → ByUses ls b → ByUses ls c
      → unknown ns (uses ls a ++ (uses ls b ++ uses ls c)) ≡ unknown_names ns ls a ++ (unknown_names ns ls b ++ unknown_names ns ls c)
  three ls a b c p q r =
      joined (uses ls a) (uses ls b ++ uses ls c) (unknown_names ns ls a) (unknown_names ns ls b ++ unknown_names ns ls c) p (two ls b c q r)

  mutual
    pub known_by_uses : (ls : List (List ℕ)) (e : Tree) → unknown ns (uses ls e) ≡ unknown_names ns ls e
    known_by_uses ls (node s k) = below ls s k

    below : (ls : List (List ℕ)) (s : Span) (k : Shape) → unknown_there ns (at_node ls s k) ++ unknown ns (uses_below ls k) ≡ unknown_in ns ls s k
    below ls s (trees.number n) = refl
    below ls s (trees.truth b) = refl
    below ls s (trees.character c) = refl
    below ls s (trees.text bytes) = refl
    below ls s (trees.variable x) = append-nil (unknown_there ns (at_node ls s (trees.variable x)))
    below ls s (trees.call f a) =
        ap (λ (xs : List Span). unknown_there ns (at_node ls s (trees.call f a)) ++ xs) (known_by_uses ls a)
    below ls s (trees.pair a b) = two ls a b (known_by_uses ls a) (known_by_uses ls b)
    below ls s (trees.prefix_of o a) = known_by_uses ls a
    below ls s (trees.infix_of o a b) = two ls a b (known_by_uses ls a) (known_by_uses ls b)
    below ls s (trees.index a i) = two ls a i (known_by_uses ls a) (known_by_uses ls i)
    below ls s (trees.choice a b c) = three ls a b c (known_by_uses ls a) (known_by_uses ls b) (known_by_uses ls c)
    below ls s (trees.sequence es) = all_by_uses ls es
    below ls s (trees.empty a) = append-nil (unknown_types ns.datatypes a)
    below ls s (trees.range a b) = two ls a b (known_by_uses ls a) (known_by_uses ls b)
    below ls s (trees.strided_range a b c) = three ls a b c (known_by_uses ls a) (known_by_uses ls b) (known_by_uses ls c)
    below ls s (trees.let_in bs e) =
        let ms = all_names_bound bs ++ ls in
        joined (uses_of_let ls bs) (uses ms e) (unknown_in_let ns ls bs) (unknown_names ns ms e) (let_by_uses ls bs) (known_by_uses ms e)
    below ls s (trees.each e bs) =
        let ms = all_names_bound bs ++ ls in
        joined (uses ms e) (uses_of_each ls bs) (unknown_names ns ms e) (unknown_in_each ns ls bs) (known_by_uses ms e) (each_by_uses ls bs)
    below ls s (trees.filtered_each e bs f) =
        let ms = all_names_bound bs ++ ls in
        joined (uses ms e) (uses_of_each ls bs ++ uses ms f) (unknown_names ns ms e) (unknown_in_each ns ls bs ++ unknown_names ns ms f)
        (known_by_uses ms e)
        (joined (uses_of_each ls bs) (uses ms f) (unknown_in_each ns ls bs) (unknown_names ns ms f) (each_by_uses ls bs) (known_by_uses ms f))
    below ls s trees.element = refl

    all_by_uses : (ls : List (List ℕ)) (es : Trees) → unknown ns (uses_of_all ls es) ≡ all_unknown_names ns ls es
    all_by_uses ls none = refl
    all_by_uses ls (more e es) =
        joined (uses ls e) (uses_of_all ls es) (unknown_names ns ls e) (all_unknown_names ns ls es) (known_by_uses ls e) (all_by_uses ls es)

    let_by_uses : (ls : List (List ℕ)) (bs : Binders) → unknown ns (uses_of_let ls bs) ≡ unknown_in_let ns ls bs
    let_by_uses ls no_binders = refl
    let_by_uses ls (binder p e bs) =
        let ms = names_bound p ++ ls in
        ap (λ (xs : List Span). unknown_records ns.datatypes p ++ xs)
        (joined (uses ls e) (uses_of_let ms bs) (unknown_names ns ls e) (unknown_in_let ns ms bs) (known_by_uses ls e) (let_by_uses ms bs))

    each_by_uses : (ls : List (List ℕ)) (bs : Binders) → unknown ns (uses_of_each ls bs) ≡ unknown_in_each ns ls bs
    each_by_uses ls no_binders = refl
    each_by_uses ls (binder p e bs) =
        ap (λ (xs : List Span). unknown_records ns.datatypes p ++ xs)
        (joined (uses ls e) (uses_of_each ls bs) (unknown_names ns ls e) (unknown_in_each ns ls bs) (known_by_uses ls e) (each_by_uses ls bs))

  pub function_by_uses : (p : PatternTree) (e : Tree) → unknown ns (uses_of_function p e) ≡ unknown_of_function ns p e
  function_by_uses p e = ap (λ (xs : List Span). unknown_records ns.datatypes p ++ xs) (known_by_uses (names_bound p) e)
