-- One round of a walk over a list of parts, by what is left of the list.
use Rattle.std.proofs.Common.{◌≡◌, ◌<◌, ◌+◌, ℕ, List, ◌∷◌, ◌++◌, Option, length, get_or, drop, refl, sym, ap, ◌∙◌, append_assoc}
use Rattle.std.proofs.lemmas.List.{drop_more}
use Rattle.nesl_lex.specs.declared.token.Span.{Span}
use Rattle.nesl_syntax_tree.specs.declared.tree.Exp.{Exp}
use Rattle.nesl_syntax_tree.specs.declared.tree.Binding.{Binding}
use Rattle.nesl_syntax_tree.specs.Views.{tree_of, trees_in, binders_in, pattern_tree}
use Rattle.nesl_infer_names.specs.Firsts.{first, earlier}
use Rattle.nesl_infer_names.specs.Names.{Names, unknown_names, all_unknown_names, unknown_records, unknown_in_let, unknown_in_each, names_bound, all_names_bound}
use Rattle.nesl_infer_names.proofs.Firsts.{joined, moved}

-- what is left begins with the element at the place
left : {X : Type 0} (xs : List X) (i : ℕ) (x : X) → i < length xs → x ≡ get_or xs i x → drop i xs ≡ x ∷ drop (i + 1) xs
left xs i x b h = drop_more xs i x b ∙ ap (λ y. y ∷ drop (i + 1) xs) (sym h)

pub bound_step : (bs : List Binding) (i : ℕ) (b : Binding) (ms os : List (List ℕ)) → i < length bs → b ≡ get_or bs i b
    → os ≡ names_bound (pattern_tree b.pattern) ++ ms → all_names_bound (binders_in (drop (i + 1) bs)) ++ os ≡ all_names_bound (binders_in (drop i bs)) ++ ms
bound_step bs i b ms os l h e =
    ap (λ (ns : List (List ℕ)). all_names_bound (binders_in (drop (i + 1) bs)) ++ ns) e
    ∙ sym (append_assoc (all_names_bound (binders_in (drop (i + 1) bs))) (names_bound (pattern_tree b.pattern)) ms)
    ∙ ap (λ (rest : List Binding). all_names_bound (binders_in rest) ++ ms) (sym (left bs i b l h))

module _ (ns : Names) where
  pub item_step : (es : List Exp) (i : ℕ) (e : Exp) (ls ms : List (List ℕ)) (f g : Option Span) → i < length es → e ≡ get_or es i e → ms ≡ ls
      → g ≡ earlier f (first (unknown_names ns ms (tree_of e)))
      → earlier g (first (all_unknown_names ns ls (trees_in (drop (i + 1) es)))) ≡ earlier f (first (all_unknown_names ns ls (trees_in (drop i es))))
  item_step es i e ls ms f g l h s p =
      joined f g (earlier g (first (all_unknown_names ns ls (trees_in (drop (i + 1) es))))) (unknown_names ns ls (tree_of e)) (all_unknown_names ns ls (trees_in (drop (i + 1) es)))
      (moved ns ls ms e e f g s refl p) refl
      ∙ ap (λ (rest : List Exp). earlier f (first (all_unknown_names ns ls (trees_in rest)))) (sym (left es i e l h))

  pub binder_step : (bs : List Binding) (i : ℕ) (b : Binding) (ls ms : List (List ℕ)) (f g h : Option Span) → i < length bs → b ≡ get_or bs i b → ms ≡ ls
      → g ≡ earlier f (first (unknown_records ns.datatypes (pattern_tree b.pattern))) → h ≡ earlier g (first (unknown_names ns ms (tree_of b.value)))
      → earlier h (first (unknown_in_each ns ls (binders_in (drop (i + 1) bs)))) ≡ earlier f (first (unknown_in_each ns ls (binders_in (drop i bs))))
  binder_step bs i b ls ms f g h l e s p q =
      let rest = unknown_in_each ns ls (binders_in (drop (i + 1) bs)) in
      let end = earlier h (first rest) in
      joined f g end (unknown_records ns.datatypes (pattern_tree b.pattern)) (unknown_names ns ls (tree_of b.value) ++ rest) p
      (joined g h end (unknown_names ns ls (tree_of b.value)) rest (moved ns ls ms b.value b.value g h s refl q) refl)
      ∙ ap (λ (more : List Binding). earlier f (first (unknown_in_each ns ls (binders_in more)))) (sym (left bs i b l e))

  pub binding_step : (bs : List Binding) (i : ℕ) (b : Binding) (ls ms os : List (List ℕ)) (f g h : Option Span) → i < length bs → b ≡ get_or bs i b
      → g ≡ earlier f (first (unknown_records ns.datatypes (pattern_tree b.pattern))) → h ≡ earlier g (first (unknown_names ns ls (tree_of b.value)))
      → ms ≡ ls → os ≡ names_bound (pattern_tree b.pattern) ++ ms
      → earlier h (first (unknown_in_let ns os (binders_in (drop (i + 1) bs)))) ≡ earlier f (first (unknown_in_let ns ls (binders_in (drop i bs))))
  binding_step bs i b ls ms os f g h l e p q s o =
      let rest = unknown_in_let ns (names_bound (pattern_tree b.pattern) ++ ls) (binders_in (drop (i + 1) bs)) in
      let end = earlier h (first rest) in
      ap (λ (ns' : List (List ℕ)). earlier h (first (unknown_in_let ns ns' (binders_in (drop (i + 1) bs))))) (o ∙ ap (λ (x : List (List ℕ)). names_bound (pattern_tree b.pattern) ++ x) s)
      ∙ joined f g end (unknown_records ns.datatypes (pattern_tree b.pattern)) (unknown_names ns ls (tree_of b.value) ++ rest) p
      (joined g h end (unknown_names ns ls (tree_of b.value)) rest q refl)
      ∙ ap (λ (more : List Binding). earlier f (first (unknown_in_let ns ls (binders_in more)))) (sym (left bs i b l e))
