-- Lists of codes that are made one by one, and the shapes of nodes with lists of parts.
use Rattle.std.proofs.Common.{◌≡◌, ◌<◌, ◌≤◌, ◌+◌, ℕ, sym, ◌∙◌, ap, subst, rules, arith, List, [], ◌∷◌, ◌++◌, append-nil, append_assoc, length, take, get_or}
use Rattle.std.proofs.Common.{ℤ, pos, min, w64, to_z, of_z}
use Rattle.std.specs.Int.Signed.{mag}
use Rattle.std.proofs.lemmas.Int.{to_z-of_z, ints}
use Rattle.std.proofs.Common.{Vec, Box, Global, Result, Ok, Err, IfOk}
use Rattle.std.specs.declared.alloc.AllocError.{AllocError}
use Rattle.std.proofs.lemmas.List.{take_more, take_all}
use Rattle.nesl_lex.specs.declared.token.Span.{Span}
use Rattle.nesl_syntax_tree.specs.declared.tree.Exp.{Exp}
use Rattle.nesl_syntax_tree.specs.declared.tree.Binding.{Binding}
use Rattle.nesl_syntax_tree.specs.declared.tree.Node as declared
use Rattle.nesl_syntax_tree.specs.declared.tree.Node.TheViews.{the_lemmas}
use Rattle.nesl_syntax_tree.specs.Trees.{PatternTree, Tree, Shape, Binders, node}
use Rattle.nesl_syntax_tree.specs.Trees as trees
use Rattle.nesl_syntax_tree.specs.Views.{shape_of, tree_of, trees_in, binders_in, pattern_tree}
use Rattle.nesl_syntax_tree.proofs.Rows.{row_is, row_of_binders_is}
use Rattle.nesl_builtins.specs.declared.builtin.Builtin.{Builtin}
use Rattle.nesl_eval_code.specs.declared.code.Code.{Code}
use Rattle.nesl_eval_code.specs.declared.code.Code as code
use Rattle.nesl_eval_meaning.specs.Names.{Name}
use Rattle.nesl_eval_meaning.specs.Outcome.{sources, greatest_number}
use Rattle.nesl_eval_code.specs.Means.{Means, AllMean, BindingsMean, Layer, bindings, patterns}

pub sequence_shape : (v : Vec Exp Global) → shape_of (declared.Sequence v) ≡ trees.sequence (trees_in v.items)
sequence_shape v = search (rules, the_lemmas, row_is)

pub let_shape : (v : Vec Binding Global) (b : Box Exp Global) → shape_of (declared.Let v b) ≡ trees.let_in (binders_in v.items) (tree_of b.value)
let_shape v b = search (rules, the_lemmas, row_of_binders_is)

pub each_shape : (b : Box Exp Global) (v : Vec Binding Global) → shape_of (declared.Each b v) ≡ trees.each (tree_of b.value) (binders_in v.items)
each_shape b v = search (rules, the_lemmas, row_of_binders_is)

pub filtered_shape : (b : Box Exp Global) (v : Vec Binding Global) (f : Box Exp Global) → shape_of (declared.FilteredEach b v f) ≡ trees.filtered_each (tree_of b.value) (binders_in v.items) (tree_of f.value)
filtered_shape b v f = search (rules, the_lemmas, row_of_binders_is)

module _ (names : List Name) (ls : List Layer) where
  all_more : (cs : List Code) (es : List Exp) (c : Code) (e : Exp) → AllMean names ls cs (trees_in es) → Means names ls c (tree_of e) →
      AllMean names ls (cs ++ c ∷ []) (trees_in (es ++ e ∷ []))
  all_more [] [] c e h k = (k, tt)
  all_more [] (d ∷ es) c e h k = absurd h
  all_more (b ∷ cs) [] c e h k = absurd h
  all_more (b ∷ cs) (d ∷ es) c e h k = (h.0, all_more cs es c e h.1 k)

  sources_more : (cs : List Code) (bs : List Binding) (c : Code) (b : Binding) → AllMean names ls cs (sources (binders_in bs)) →
      Means names ls c (tree_of b.value) → AllMean names ls (cs ++ c ∷ []) (sources (binders_in (bs ++ b ∷ [])))
  sources_more [] [] c b h k = (k, tt)
  sources_more [] (a ∷ bs) c b h k = absurd h
  sources_more (d ∷ cs) [] c b h k = absurd h
  sources_more (d ∷ cs) (a ∷ bs) c b h k = (h.0, sources_more cs bs c b h.1 k)

  bindings_more : (ps : List PatternTree) (cs : List Code) (bs : List Binding) (c : Code) (b : Binding) → BindingsMean names ls ps cs (binders_in bs) →
      Means names (bindings (ps ++ patterns (binders_in bs)) ∷ ls) c (tree_of b.value) → BindingsMean names ls ps (cs ++ c ∷ []) (binders_in (bs ++ b ∷ []))
  bindings_more ps [] [] c b h k =
      let F : List PatternTree → Type 0 = λ qs. Means names (bindings qs ∷ ls) c (tree_of b.value) in (subst F (append-nil ps) k, tt)
  bindings_more ps [] (a ∷ bs) c b h k = absurd h
  bindings_more ps (d ∷ cs) [] c b h k = absurd h
  bindings_more ps (d ∷ cs) (a ∷ bs) c b h k =
      let F : List PatternTree → Type 0 = λ qs. Means names (bindings qs ∷ ls) c (tree_of b.value) in (
        h.0,
        bindings_more (ps ++ pattern_tree a.pattern ∷ []) cs bs c b h.1
            (subst F (sym (append_assoc ps (pattern_tree a.pattern ∷ []) (patterns (binders_in bs)))) k),
      )

  pub item_step : (es : List Exp) (i : ℕ) (e : Exp) (cs ds : List Code) (c : Code) → i < length es → e ≡ get_or es i e →
      AllMean names ls cs (trees_in (take i es)) → Means names ls c (tree_of e) → ds ≡ cs ++ c ∷ [] → AllMean names ls ds (trees_in (take (i + 1) es))
  item_step es i e cs ds c l r h k q =
      let t : take i es ++ e ∷ [] ≡ take (i + 1) es = ap (λ y. take i es ++ y ∷ []) r ∙ sym (take_more es i e l) in
      let F : List Exp → Type 0 = λ y. AllMean names ls (cs ++ c ∷ []) (trees_in y) in
      let G : List Code → Type 0 = λ y. AllMean names ls y (trees_in (take (i + 1) es)) in
      subst G (sym q) (subst F t (all_more cs (take i es) c e h k))

  pub source_step : (bs : List Binding) (i : ℕ) (b : Binding) (cs ds : List Code) (c : Code) → i < length bs → b ≡ get_or bs i b →
      AllMean names ls cs (sources (binders_in (take i bs))) → Means names ls c (tree_of b.value) → ds ≡ cs ++ c ∷ [] →
      AllMean names ls ds (sources (binders_in (take (i + 1) bs)))
  source_step bs i b cs ds c l r h k q =
      let t : take i bs ++ b ∷ [] ≡ take (i + 1) bs = ap (λ y. take i bs ++ y ∷ []) r ∙ sym (take_more bs i b l) in
      let F : List Binding → Type 0 = λ y. AllMean names ls (cs ++ c ∷ []) (sources (binders_in y)) in
      let G : List Code → Type 0 = λ y. AllMean names ls y (sources (binders_in (take (i + 1) bs))) in
      subst G (sym q) (subst F t (sources_more cs (take i bs) c b h k))

  pub binding_step : (bs : List Binding) (i : ℕ) (b : Binding) (cs ds : List Code) (c : Code) → i < length bs → b ≡ get_or bs i b →
      BindingsMean names ls [] cs (binders_in (take i bs)) → Means names (bindings (patterns (binders_in (take i bs))) ∷ ls) c (tree_of b.value) →
      ds ≡ cs ++ c ∷ [] → BindingsMean names ls [] ds (binders_in (take (i + 1) bs))
  binding_step bs i b cs ds c l r h k q =
      let t : take i bs ++ b ∷ [] ≡ take (i + 1) bs = ap (λ y. take i bs ++ y ∷ []) r ∙ sym (take_more bs i b l) in
      let F : List Binding → Type 0 = λ y. BindingsMean names ls [] (cs ++ c ∷ []) (binders_in y) in
      let G : List Code → Type 0 = λ y. BindingsMean names ls [] y (binders_in (take (i + 1) bs)) in
      subst G (sym q) (subst F t (bindings_more [] cs (take i bs) c b h k))

  pub items_done : (es : List Exp) (i : ℕ) (cs : List Code) → length es ≤ i → AllMean names ls cs (trees_in (take i es)) → AllMean names ls cs (trees_in es)
  items_done es i cs l h = let F : List Exp → Type 0 = λ y. AllMean names ls cs (trees_in y) in subst F (take_all i es l) h

  pub sources_done : (bs : List Binding) (i : ℕ) (cs : List Code) → length bs ≤ i → AllMean names ls cs (sources (binders_in (take i bs))) →
      AllMean names ls cs (sources (binders_in bs))
  sources_done bs i cs l h = let F : List Binding → Type 0 = λ y. AllMean names ls cs (sources (binders_in y)) in subst F (take_all i bs l) h

  pub bindings_done : (bs : List Binding) (i : ℕ) (cs : List Code) → length bs ≤ i → BindingsMean names ls [] cs (binders_in (take i bs)) →
      BindingsMean names ls [] cs (binders_in bs)
  bindings_done bs i cs l h = let F : List Binding → Type 0 = λ y. BindingsMean names ls [] cs (binders_in y) in subst F (take_all i bs l) h

-- the code of a part
pub part_means : (names : List Name) (ls : List Layer) (c : Code) (x e : Exp) → Means names ls c (tree_of x) → x ≡ e → Means names ls c (tree_of e)
part_means names ls c x e h q = let G : Exp → Type 0 = λ y. Means names ls c (tree_of y) in subst G q h

-- the code of a node of this shape
pub shown : (names : List Name) (ls : List Layer) (r : Result Code AllocError) (s : Span) (k : Shape) (d : declared.Node) → shape_of d ≡ k →
    IfOk r (λ c. Means names ls c (node s k)) → IfOk r (λ c. Means names ls c (node s (shape_of d)))
shown names ls r s k d q h = let F : Shape → Type 0 = λ x. IfOk r (λ c. Means names ls c (node s x)) in subst F (sym q) h

-- the same of code in a box
pub boxed_shown : (names : List Name) (ls : List Layer) (r : Result (Box Code Global) AllocError) (s : Span) (k : Shape) (d : declared.Node) →
    shape_of d ≡ k → IfOk r (λ b. Means names ls b.value (node s k)) → IfOk r (λ b. Means names ls b.value (node s (shape_of d)))
boxed_shown names ls r s k d q h = let F : Shape → Type 0 = λ x. IfOk r (λ b. Means names ls b.value (node s x)) in subst F (sym q) h

-- the code of a built-in function of two parts, where it means a node of this shape
pub applied : (names : List Name) (ls : List Layer) (r : Result Code AllocError) (s : Span) (f : Builtin) (a b : Tree) (k : Shape) (d : declared.Node) →
    ((l m : Box Code Global) → Means names ls l.value a → Means names ls m.value b → Means names ls (code.ApplyTwo s f l m) (node s k)) → shape_of d ≡ k →
    IfOk r (λ c. (l : Box Code Global) × (m : Box Code Global) × (c ≡ code.ApplyTwo s f l m) × Means names ls l.value a × Means names ls m.value b) →
    IfOk r (λ c. Means names ls c (node s (shape_of d)))
applied names ls (Ok c) s f a b k d g q h =
    let F : Shape → Type 0 = λ x. Means names ls c (node s x) in
    let G : Code → Type 0 = λ x. Means names ls x (node s k) in
    subst F (sym q) (subst G (sym h.2) (g h.0 h.1 h.3 h.4))
applied names ls (Err e) s f a b k d g q h = h

pub of_two : (f : Tree → Tree → Shape) (a b c d : Exp) → a ≡ c → b ≡ d → f (tree_of c) (tree_of d) ≡ f (tree_of a) (tree_of b)
of_two f a b c d p q = ap (λ (x : Exp). f (tree_of x) (tree_of d)) (sym p) ∙ ap (λ (x : Exp). f (tree_of a) (tree_of x)) (sym q)

pub of_three : (f : Tree → Tree → Tree → Shape) (a b c d e g : Exp) → a ≡ d → b ≡ e → c ≡ g →
    f (tree_of d) (tree_of e) (tree_of g) ≡ f (tree_of a) (tree_of b) (tree_of c)
of_three f a b c d e g p q r = of_two (λ x y. f x y (tree_of g)) a b d e p q ∙ ap (λ (x : Exp). f (tree_of a) (tree_of b) (tree_of x)) (sym r)

pub of_list : (f : Binders → Tree → Shape) (bs ds : List Binding) (a b : Exp) → bs ≡ ds → a ≡ b →
    f (binders_in ds) (tree_of b) ≡ f (binders_in bs) (tree_of a)
of_list f bs ds a b p q = ap (λ (x : List Binding). f (binders_in x) (tree_of b)) (sym p) ∙ ap (λ (x : Exp). f (binders_in bs) (tree_of x)) (sym q)

pub inner_means : (names : List Name) (ls ms : List Layer) (c : Code) (e : Tree) → ls ≡ ms → Means names ls c e → Means names ms c e
inner_means names ls ms c e q h = let F : List Layer → Type 0 = λ y. Means names y c e in subst F q h

-- a number that is stored and read again
pub read_number : (z : ℤ) (n : ℕ) → mag z < 9223372036854775808 → z ≡ pos (min n greatest_number) → to_z w64 (of_z w64 z) ≡ pos (min n greatest_number)
read_number z n m e =
    let F : ℤ → Type 0 = λ y. to_z w64 (of_z w64 y) ≡ pos (min n greatest_number) in
    subst F (sym e) (to_z-of_z w64 (pos (min n greatest_number)) (omega (arith, ints)))
