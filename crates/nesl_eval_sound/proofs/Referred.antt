-- The walk that looks for one name finds it among all uses.
use Rattle.std.proofs.Common.{◌≡◌, ℕ, Bool, true, false, List, [], ◌∷◌, ◌++◌, refl, ap, ◌∙◌}
use Rattle.std.specs.Prelude.{not, ◌&&◌, ◌||◌}
use Rattle.std.specs.Str.{bytes_eq}
use Rattle.std.specs.List.{list_any}
use Rattle.std.proofs.Math.Bool.{or_comm}
use Rattle.std.proofs.lemmas.List.Folds.{list_any-append}
use Rattle.nesl_lex.specs.declared.token.Span.{Span}
use Rattle.nesl_syntax_tree.specs.Trees.{PatternTree, PatternShape, Tree, Shape, Trees, Binders}
use Rattle.nesl_syntax_tree.specs.Trees.{pattern, node, none, more, no_binders, binder}
use Rattle.nesl_syntax_tree.specs.Trees as trees
use Rattle.nesl_infer_names.specs.Names.{names_bound, names_bound_in, all_names_bound}
use Rattle.nesl_infer.specs.Uses.{Use, at_node, uses, uses_below, uses_of_all, uses_of_let, uses_of_each, uses_of_function}
use Rattle.nesl_eval_meaning.specs.Names.{Name, Environment, Top, variable_of, function_of, datatype_of, nothing}
use Rattle.nesl_eval_sound.specs.Refers.{binds, binds_in, some_binds, refers, refers_in, any_refers, bindings_refer, drawn_refers, body_refers, top_refers, is_referred}
use Rattle.nesl_eval_sound.specs.Referred.{names_it, top_names, is_named_elsewhere}

either : (a b c d : Bool) → a ≡ c → b ≡ d → (a || b) ≡ (c || d)
either a b c d p q = ap (λ (x : Bool). x || b) p ∙ ap (λ (x : Bool). c || x) q

swapped : (b d f : Bool) → (b || (d || f)) ≡ (d || (b || f))
swapped true true f = refl
swapped true false f = refl
swapped false d f = refl

module _ (y : Name) where
  -- whether local names hide y
  abbrev hidden : List Name → Bool
  hidden ls = list_any (bytes_eq y) ls

  mutual
    hidden_by : (p : PatternTree) → hidden (names_bound p) ≡ binds y p
    hidden_by (pattern s k) = hidden_by_shape k

    hidden_by_shape : (k : PatternShape) → hidden (names_bound_in k) ≡ binds_in y k
    hidden_by_shape (trees.name_pattern x) = or_comm (bytes_eq y x) false
    hidden_by_shape (trees.pair_pattern p q) =
        list_any-append (bytes_eq y) (names_bound q) (names_bound p)
        ∙ either (hidden (names_bound q)) (hidden (names_bound p)) (binds y q) (binds y p) (hidden_by q) (hidden_by p)
        ∙ or_comm (binds y q) (binds y p)
    hidden_by_shape (trees.record_pattern x p) = hidden_by p

  hidden_by_all : (bs : Binders) → hidden (all_names_bound bs) ≡ some_binds y bs
  hidden_by_all no_binders = refl
  hidden_by_all (binder p e bs) =
      list_any-append (bytes_eq y) (all_names_bound bs) (names_bound p)
      ∙ either (hidden (all_names_bound bs)) (hidden (names_bound p)) (some_binds y bs) (binds y p) (hidden_by_all bs) (hidden_by p)
      ∙ or_comm (some_binds y bs) (binds y p)

  -- under more names
  hidden_under : (ms ls : List Name) (b : Bool) → hidden ms ≡ b → hidden (ms ++ ls) ≡ (hidden ls || b)
  hidden_under ms ls b p =
      list_any-append (bytes_eq y) ms ls ∙ ap (λ (x : Bool). x || hidden ls) p ∙ or_comm b (hidden ls)

  abbrev named : List Use → Bool
  named us = list_any (names_it y) us

  joined : (us vs : List Use) (a b : Bool) → named us ≡ a → named vs ≡ b → named (us ++ vs) ≡ (a || b)
  joined us vs a b p q = list_any-append (names_it y) us vs ∙ either (named us) (named vs) a b p q

  abbrev Same : List Name → Tree → Type 0
  Same ls e = named (uses ls e) ≡ refers y (hidden ls) e

  two : (ls : List Name) (a b : Tree) → Same ls a → Same ls b
      → named (uses ls a ++ uses ls b) ≡ (refers y (hidden ls) a || refers y (hidden ls) b)
  two ls a b p q = joined (uses ls a) (uses ls b) (refers y (hidden ls) a) (refers y (hidden ls) b) p q

  three : (ls : List Name) (a b c : Tree) → Same ls a → Same ls b → Same ls c
      → named (uses ls a ++ (uses ls b ++ uses ls c)) ≡ (refers y (hidden ls) a || (refers y (hidden ls) b || refers y (hidden ls) c))
  three ls a b c p q r =
      joined (uses ls a) (uses ls b ++ uses ls c) (refers y (hidden ls) a) (refers y (hidden ls) b || refers y (hidden ls) c) p (two ls b c q r)

  -- under the names of binders
  inner : (ls : List Name) (bs : Binders) (e : Tree) → Same (all_names_bound bs ++ ls) e
      → named (uses (all_names_bound bs ++ ls) e) ≡ refers y (hidden ls || some_binds y bs) e
  inner ls bs e p = p ∙ ap (λ (h : Bool). refers y h e) (hidden_under (all_names_bound bs) ls (some_binds y bs) (hidden_by_all bs))

  mutual
    pub same_names : (ls : List Name) (e : Tree) → named (uses ls e) ≡ refers y (hidden ls) e
    same_names ls (node s k) = below ls s k

    below : (ls : List Name) (s : Span) (k : Shape) → (names_it y (at_node ls s k) || named (uses_below ls k)) ≡ refers_in y (hidden ls) k
    below ls s (trees.number n) = refl
    below ls s (trees.truth b) = refl
    below ls s (trees.character c) = refl
    below ls s (trees.text bytes) = refl
    below ls s (trees.variable x) = or_comm (bytes_eq y x && not (hidden ls)) false
    below ls s (trees.call f a) = ap (λ (x : Bool). bytes_eq y f || x) (same_names ls a)
    below ls s (trees.pair a b) = two ls a b (same_names ls a) (same_names ls b)
    below ls s (trees.prefix_of o a) = same_names ls a
    below ls s (trees.infix_of o a b) = two ls a b (same_names ls a) (same_names ls b)
    below ls s (trees.index a i) = two ls a i (same_names ls a) (same_names ls i)
    below ls s (trees.choice a b c) = three ls a b c (same_names ls a) (same_names ls b) (same_names ls c)
    below ls s (trees.sequence es) = same_in_all ls es
    below ls s (trees.empty t) = refl
    below ls s (trees.range a b) = two ls a b (same_names ls a) (same_names ls b)
    below ls s (trees.strided_range a b c) = three ls a b c (same_names ls a) (same_names ls b) (same_names ls c)
    below ls s (trees.let_in bs e) =
        let ms = all_names_bound bs ++ ls in
        joined (uses_of_let ls bs) (uses ms e) (bindings_refer y (hidden ls) bs) (refers y (hidden ls || some_binds y bs) e)
        (same_in_let ls bs) (inner ls bs e (same_names ms e))
    below ls s (trees.each e bs) =
        let ms = all_names_bound bs ++ ls in
        let inside = refers y (hidden ls || some_binds y bs) e in
        joined (uses ms e) (uses_of_each ls bs) inside (drawn_refers y (hidden ls) bs) (inner ls bs e (same_names ms e)) (same_in_each ls bs)
        ∙ or_comm inside (drawn_refers y (hidden ls) bs)
    below ls s (trees.filtered_each e bs f) =
        let ms = all_names_bound bs ++ ls in
        let inside = refers y (hidden ls || some_binds y bs) e in
        let filter = refers y (hidden ls || some_binds y bs) f in
        joined (uses ms e) (uses_of_each ls bs ++ uses ms f) inside (drawn_refers y (hidden ls) bs || filter) (inner ls bs e (same_names ms e))
        (joined (uses_of_each ls bs) (uses ms f) (drawn_refers y (hidden ls) bs) filter (same_in_each ls bs) (inner ls bs f (same_names ms f)))
        ∙ swapped inside (drawn_refers y (hidden ls) bs) filter
    below ls s trees.element = refl

    same_in_all : (ls : List Name) (es : Trees) → named (uses_of_all ls es) ≡ any_refers y (hidden ls) es
    same_in_all ls none = refl
    same_in_all ls (more e es) =
        joined (uses ls e) (uses_of_all ls es) (refers y (hidden ls) e) (any_refers y (hidden ls) es) (same_names ls e) (same_in_all ls es)

    same_in_let : (ls : List Name) (bs : Binders) → named (uses_of_let ls bs) ≡ bindings_refer y (hidden ls) bs
    same_in_let ls no_binders = refl
    same_in_let ls (binder p e bs) =
        let ms = names_bound p ++ ls in
        joined (uses ls e) (uses_of_let ms bs) (refers y (hidden ls) e) (bindings_refer y (hidden ls || binds y p) bs) (same_names ls e)
        (same_in_let ms bs ∙ ap (λ (h : Bool). bindings_refer y h bs) (hidden_under (names_bound p) ls (binds y p) (hidden_by p)))

    same_in_each : (ls : List Name) (bs : Binders) → named (uses_of_each ls bs) ≡ drawn_refers y (hidden ls) bs
    same_in_each ls no_binders = refl
    same_in_each ls (binder p e bs) =
        joined (uses ls e) (uses_of_each ls bs) (refers y (hidden ls) e) (drawn_refers y (hidden ls) bs) (same_names ls e) (same_in_each ls bs)

  same_in_body : (p : PatternTree) (e : Tree) → named (uses_of_function p e) ≡ body_refers y p e
  same_in_body p e = same_names (names_bound p) e ∙ ap (λ (h : Bool). refers y h e) (hidden_by p)

  same_top : (t : Top) → top_names y t ≡ top_refers y t
  same_top (variable_of v) = refl
  same_top (function_of p e) = same_in_body p e
  same_top (datatype_of k) = refl
  same_top nothing = refl

  pub same_elsewhere : (env : Environment) → is_named_elsewhere y env ≡ is_referred y env
  same_elsewhere [] = refl
  same_elsewhere (b ∷ env) =
      either (not (bytes_eq b.0 y) && top_names y b.1) (is_named_elsewhere y env) (not (bytes_eq b.0 y) && top_refers y b.1) (is_referred y env)
      (ap (λ (x : Bool). not (bytes_eq b.0 y) && x) (same_top b.1)) (same_elsewhere env)
