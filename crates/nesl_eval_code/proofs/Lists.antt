-- Code shows its tree, for nodes with lists of parts.
use Rattle.std.proofs.Common.{◌≡◌, ℕ, refl, sym, ◌∙◌, ap, subst, rules, List, [], ◌∷◌, ◌++◌, append_assoc, append-nil, Option, Some, None}
use Rattle.std.proofs.Common.{Vec, Box, Global}
use Rattle.std.specs.Prelude.{slice_get, option_map, option_and_then}
use Rattle.nesl_lex.specs.declared.token.Span.{Span}
use Rattle.nesl_syntax_tree.specs.Trees.{Tree, Trees, Binders, PatternTree, node, none, more, no_binders, binder}
use Rattle.nesl_syntax_tree.specs.Trees as trees
use Rattle.nesl_values.specs.Tree as values
use Rattle.nesl_eval_code.specs.declared.code.Code.{Code, the_lemmas}
use Rattle.nesl_eval_code.specs.declared.code.Code as code
use Rattle.nesl_eval_meaning.specs.Names.{Name, Value, Locals, Scope, Environment, bound, with_names}
use Rattle.nesl_eval_code.specs.Frames.{Frames, frame, row}
use Rattle.nesl_eval_meaning.specs.Out.{Out, value, and_then, given}
use Rattle.nesl_eval_meaning.specs.Outcome.{out, all_parts, let_of, small_enough, sources, common_places, lengths, bound_at, first_at, out_at, place_if_true, body_value, kept_places, body_values, over_places}
use Rattle.nesl_eval_code.specs.Run.{Runs, Table, run, run_node, run_all, run_let, run_at, run_filters, run_bodies, run_over, as_result, code_span}
use Rattle.nesl_eval_code.specs.Means.{Agrees, Means, Layer, bindings, binders, bound_all, layered, FramesShow, IsTableOf, Begins, AllMean, BindingsMean, patterns, with_element}
use Rattle.nesl_eval_code.proofs.Agreement.{same, equal, equal_left, agrees_then, agrees_given, agrees_all, then_then, then_value, then_same}
use Rattle.nesl_eval_code.proofs.Tables.{fewer}
use Rattle.nesl_eval_code.proofs.Nodes.{node_means}
use Rattle.nesl_eval_code.proofs.Locals.{layer_names, layer_element}
use Rattle.nesl_eval_code.proofs.Bodies.{row_of}

node-Sequence : (f : Runs) (t : Table) (fs : Frames) (s : Span) (v : Vec Code Global) →
    run_node f t fs (code.Sequence s v) ≡ and_then (run_all f fs [] v.items) (λ vs. small_enough s (values.sequence vs))
node-Sequence f t fs s v = search (rules, the_lemmas)

node-Let : (f : Runs) (t : Table) (fs : Frames) (s : Span) (v : Vec Code Global) (c : Box Code Global) →
    run_node f t fs (code.Let s v c) ≡ run_let f fs [] v.items c.value
node-Let f t fs s v c = search (rules, the_lemmas)

node-Each : (f : Runs) (t : Table) (fs : Frames) (s : Span) (v : Vec Code Global) (c : Box Code Global) →
    run_node f t fs (code.Each s v c) ≡ run_over f s fs v.items (λ vs is. as_result (run_bodies f fs vs c.value is))
node-Each f t fs s v c = search (rules, the_lemmas)

node-FilteredEach : (f : Runs) (t : Table) (fs : Frames) (s : Span) (v : Vec Code Global) (c d : Box Code Global) →
    run_node f t fs (code.FilteredEach s v c d)
    ≡ run_over f s fs v.items (λ vs is. and_then (run_filters f fs vs d.value is) (λ ks. as_result (run_bodies f fs vs c.value ks)))
node-FilteredEach f t fs s v c d = search (rules, the_lemmas)

span-Sequence : (s : Span) (v : Vec Code Global) → code_span (code.Sequence s v) ≡ s
span-Sequence s v = search (rules, the_lemmas)

span-Let : (s : Span) (v : Vec Code Global) (c : Box Code Global) → code_span (code.Let s v c) ≡ s
span-Let s v c = search (rules, the_lemmas)

span-Each : (s : Span) (v : Vec Code Global) (c : Box Code Global) → code_span (code.Each s v c) ≡ s
span-Each s v c = search (rules, the_lemmas)

span-FilteredEach : (s : Span) (v : Vec Code Global) (c d : Box Code Global) → code_span (code.FilteredEach s v c d) ≡ s
span-FilteredEach s v c d = search (rules, the_lemmas)

-- parts after those that evaluated to `vs`
abbrev put_after : List Value → Out (List Value) → Out (List Value)
put_after vs o = and_then o (λ us. value (vs ++ us) 0 0)

put_one : (vs : List Value) (v : Value) (o : Out (List Value)) →
    put_after (vs ++ v ∷ []) o ≡ put_after vs (and_then o (λ us. value (v ∷ us) 0 0))
put_one vs v o =
    then_same o (λ us. value ((vs ++ v ∷ []) ++ us) 0 0) (λ us. and_then (value (v ∷ us) 0 0) (λ ws. value (vs ++ ws) 0 0))
    (λ us. ap (λ ws. value ws 0 0) (append_assoc vs (v ∷ []) us))
    ∙ sym (then_then o (λ us. value (v ∷ us) 0 0) (λ ws. value (vs ++ ws) 0 0))

module _ (names : List Name) (ls : List Layer) where
  all_mean : (cs : List Code) (es : Trees) → AllMean names ls cs es → (n : ℕ) (t : Table) (env : Environment) → Begins names t →
      IsTableOf n env t → (fs : Frames) (sc : Scope) → FramesShow ls fs sc → (vs : List Value) →
      Agrees (run_all (run n t) fs vs cs) (put_after vs (all_parts (out n env) sc es))
  all_mean [] none h n t env b at fs sc sh vs = λ k. ap (λ us. value us 0 0) (sym (append-nil vs))
  all_mean [] (more e es) h n t env b at fs sc sh vs = absurd h
  all_mean (c ∷ cs) none h n t env b at fs sc sh vs = absurd h
  all_mean (c ∷ cs) (more e es) h n t env b at fs sc sh vs =
      equal (agrees_then _ _ _ _ (h.0 n t env b at fs sc sh)
      (λ v. equal (all_mean cs es h.1 n t env b at fs sc sh (vs ++ v ∷ [])) (put_one vs v (all_parts (out n env) sc es))))
      (sym (then_then (out n env sc e) (λ v. and_then (all_parts (out n env) sc es) (λ us. value (v ∷ us) 0 0)) (λ us. value (vs ++ us) 0 0)))

  pub all_from_none : (cs : List Code) (es : Trees) → AllMean names ls cs es → (n : ℕ) (t : Table) (env : Environment) → Begins names t →
      IsTableOf n env t → (fs : Frames) (sc : Scope) → FramesShow ls fs sc →
      Agrees (run_all (run n t) fs [] cs) (all_parts (out n env) sc es)
  all_from_none cs es h n t env b at fs sc sh =
      equal (all_mean cs es h n t env b at fs sc sh []) (then_value (all_parts (out n env) sc es))

  pub means_sequence : (s : Span) (v : Vec Code Global) (es : Trees) → AllMean names ls v.items es →
      Means names ls (code.Sequence s v) (node s (trees.sequence es))
  means_sequence s v es h =
      node_means names ls _ _ (span-Sequence s v) (λ m t env b at fs sc sh.
      equal_left (node-Sequence (run m t) t fs s v)
      (agrees_then _ _ _ _ (all_from_none v.items es h m t env b (fewer m env t at) fs sc sh) (λ vs. same _)))

-- bindings
bound_more : (ps : List PatternTree) (vs : List Value) (p : PatternTree) (v : Value) (ns : Locals) (o : Option Locals) → bound_all ps vs ns ≡ o →
    (os : Locals) → option_and_then (bound p v) o ≡ Some os → bound_all (ps ++ p ∷ []) (vs ++ v ∷ []) ns ≡ Some os
bound_more [] [] p v ns o e os f = ap (option_and_then (bound_all [] [])) (ap (option_and_then (bound p v)) e ∙ f)
bound_more [] (w ∷ ws) p v ns None e os f = absurd cc
bound_more [] (w ∷ ws) p v ns (Some ms) e os f = absurd cc
bound_more (q ∷ ps) [] p v ns None e os f = absurd cc
bound_more (q ∷ ps) [] p v ns (Some ms) e os f = absurd cc
bound_more (q ∷ ps) (w ∷ ws) p v ns o e os f = first (λ ks h. bound_more ps ws p v ks o h os f) (bound q w ns) e
  where
    first : ((ks : Locals) → bound_all ps ws ks ≡ o → bound_all (ps ++ p ∷ []) (ws ++ v ∷ []) ks ≡ Some os) → (k : Option Locals) →
        option_and_then (bound_all ps ws) k ≡ o → option_and_then (bound_all (ps ++ p ∷ []) (ws ++ v ∷ [])) k ≡ Some os
    first ih None h = let q : option_and_then (bound p v) None ≡ Some os = ap (option_and_then (bound p v)) h ∙ f in absurd cc
    first ih (Some ks) h = ih ks h

layer_more : (ps : List PatternTree) (vs : List Value) (p : PatternTree) (v : Value) (outer sc : Scope) (ms : Locals) →
    layered (bindings ps) vs outer ≡ Some sc → bound p v sc.names ≡ Some ms →
    layered (bindings (ps ++ p ∷ [])) (vs ++ v ∷ []) outer ≡ Some (with_names sc ms)
layer_more ps vs p v outer sc ms l h =
    ap (option_map (with_names outer)) (bound_more ps vs p v outer.names (Some sc.names) (layer_names (bindings ps) vs outer sc l) ms h)
    ∙ ap (λ o. Some (with_element o ms)) (layer_element ps vs outer sc l)

module _ (names : List Name) (ls : List Layer) where
  let_mean : (ps : List PatternTree) (ds : List Code) (c : Code) (bs : Binders) (e : Tree) → BindingsMean names ls ps ds bs →
      Means names (bindings (ps ++ patterns bs) ∷ ls) c e →
      (n : ℕ) (t : Table) (env : Environment) → Begins names t → IsTableOf n env t → (fs : Frames) (outer : Scope) → FramesShow ls fs outer →
      (vs : List Value) (sc : Scope) → layered (bindings ps) vs outer ≡ Some sc →
      Agrees (run_let (run n t) fs vs ds c) (let_of (out n env) bs e sc)
  let_mean ps [] c no_binders e h i n t env b at fs outer sh vs sc l =
      let F : List PatternTree → Type 0 = λ qs. Means names (bindings qs ∷ ls) c e in
      subst F (append-nil ps) i n t env b at (frame vs ∷ fs) sc (vs, outer, refl, sh, l)
  let_mean ps [] c (binder p a bs) e h i n t env b at fs outer sh vs sc l = absurd h
  let_mean ps (d ∷ ds) c no_binders e h i n t env b at fs outer sh vs sc l = absurd h
  let_mean ps (d ∷ ds) c (binder p a bs) e h i n t env b at fs outer sh vs sc l =
      agrees_then _ _ _ _ (h.0 n t env b at (frame vs ∷ fs) sc (vs, outer, refl, sh, l))
      (λ v. next v (λ ms q. let_mean (ps ++ p ∷ []) ds c bs e h.1
      (let F : List PatternTree → Type 0 = λ qs. Means names (bindings qs ∷ ls) c e in subst F (sym (append_assoc ps (p ∷ []) (patterns bs))) i)
      n t env b at fs outer sh (vs ++ v ∷ []) (with_names sc ms) q)
      (bound p v sc.names) refl)
    where
      next : (v : Value) → ((ms : Locals) → layered (bindings (ps ++ p ∷ [])) (vs ++ v ∷ []) outer ≡ Some (with_names sc ms) →
          Agrees (run_let (run n t) fs (vs ++ v ∷ []) ds c) (let_of (out n env) bs e (with_names sc ms))) →
          (o : Option Locals) → bound p v sc.names ≡ o →
          Agrees (run_let (run n t) fs (vs ++ v ∷ []) ds c) (given o (λ ms. let_of (out n env) bs e (with_names sc ms)))
      next v ih None q = λ k. absurd (k refl)
      next v ih (Some ms) q = ih ms (layer_more ps vs p v outer sc ms l q)

  pub means_let : (s : Span) (v : Vec Code Global) (c : Box Code Global) (bs : Binders) (e : Tree) → BindingsMean names ls [] v.items bs →
      Means names (bindings (patterns bs) ∷ ls) c.value e → Means names ls (code.Let s v c) (node s (trees.let_in bs e))
  means_let s v c bs e h i =
      node_means names ls _ _ (span-Let s v c) (λ m t env b at fs sc sh.
      equal_left (node-Let (run m t) t fs s v c) (let_mean [] v.items c.value bs e h i m t env b (fewer m env t at) fs sc sh [] sc refl))

  -- a body or a filter at a place
  mean_at : (c : Code) (e : Tree) (bs : Binders) → Means names (binders (patterns bs) ∷ ls) c e → (n : ℕ) (t : Table) (env : Environment) →
      Begins names t → IsTableOf n env t → (fs : Frames) (sc : Scope) → FramesShow ls fs sc → (vs : List Value) (i : ℕ) →
      Agrees (run_at (run n t) fs vs c i) (out_at (out n env) bs vs sc e i)
  mean_at c e bs h n t env b at fs sc sh vs i = by (bound_at bs vs i sc.names) refl
    where
      by : (o : Option Locals) → bound_at bs vs i sc.names ≡ o →
          Agrees (run n t (row i vs ∷ fs) c) (given (option_map (with_element (first_at vs i)) o) (λ inner. out n env inner e))
      by None q = λ k. absurd (k refl)
      by (Some ms) q =
          let r = row_of bs vs i sc.names ms q in
          h n t env b at (row i vs ∷ fs) (with_element (first_at vs i) ms)
          (r.items, sc, r.framed, sh, ap (option_map (with_element (slice_get r.items 0))) r.bound ∙ ap (λ o. Some (with_element o ms)) (sym r.first))

  bodies_mean : (c : Code) (e : Tree) (bs : Binders) → Means names (binders (patterns bs) ∷ ls) c e → (n : ℕ) (t : Table) (env : Environment) →
      Begins names t → IsTableOf n env t → (fs : Frames) (sc : Scope) → FramesShow ls fs sc → (vs : List Value) (is : List ℕ) →
      Agrees (as_result (run_bodies (run n t) fs vs c is)) (body_values (out n env) bs vs sc e is)
  bodies_mean c e bs h n t env b at fs sc sh vs is =
      agrees_then _ _ _ _ (agrees_all _ _ is (λ i. agrees_then _ _ _ _ (mean_at c e bs h n t env b at fs sc sh vs i) (λ v. same (body_value v))))
      (λ us. same _)

  filters_mean : (c : Code) (e : Tree) (bs : Binders) → Means names (binders (patterns bs) ∷ ls) c e → (n : ℕ) (t : Table) (env : Environment) →
      Begins names t → IsTableOf n env t → (fs : Frames) (sc : Scope) → FramesShow ls fs sc → (vs : List Value) (is : List ℕ) →
      Agrees (run_filters (run n t) fs vs c is) (kept_places (out n env) bs vs sc e is)
  filters_mean c e bs h n t env b at fs sc sh vs is =
      agrees_all _ _ is (λ i. agrees_then _ _ _ _ (mean_at c e bs h n t env b at fs sc sh vs i) (λ v. same (place_if_true i v)))

  over_mean : (s : Span) (cs : List Code) (bs : Binders) → AllMean names ls cs (sources bs) → (n : ℕ) (t : Table) (env : Environment) →
      Begins names t → IsTableOf n env t → (fs : Frames) (sc : Scope) → FramesShow ls fs sc → (f g : List Value → List ℕ → Out Value) →
      ((vs : List Value) (is : List ℕ) → Agrees (f vs is) (g vs is)) →
      Agrees (run_over (run n t) s fs cs f) (over_places (out n env) s bs sc g)
  over_mean s cs bs h n t env b at fs sc sh f g k =
      agrees_then _ _ _ _ (all_from_none names ls cs (sources bs) h n t env b at fs sc sh)
      (λ vs. agrees_given (lengths vs) _ _ (λ ns. agrees_then _ _ _ _ (same (common_places s ns)) (λ is. k vs is)))

  pub means_each : (s : Span) (v : Vec Code Global) (c : Box Code Global) (bs : Binders) (e : Tree) → AllMean names ls v.items (sources bs) →
      Means names (binders (patterns bs) ∷ ls) c.value e → Means names ls (code.Each s v c) (node s (trees.each e bs))
  means_each s v c bs e h i =
      node_means names ls _ _ (span-Each s v c) (λ m t env b at fs sc sh.
      equal_left (node-Each (run m t) t fs s v c)
      (over_mean s v.items bs h m t env b (fewer m env t at) fs sc sh _ _
      (λ vs is. bodies_mean c.value e bs i m t env b (fewer m env t at) fs sc sh vs is)))

  pub means_filtered : (s : Span) (v : Vec Code Global) (c d : Box Code Global) (bs : Binders) (e f : Tree) → AllMean names ls v.items (sources bs) →
      Means names (binders (patterns bs) ∷ ls) c.value e → Means names (binders (patterns bs) ∷ ls) d.value f →
      Means names ls (code.FilteredEach s v c d) (node s (trees.filtered_each e bs f))
  means_filtered s v c d bs e f h i j =
      node_means names ls _ _ (span-FilteredEach s v c d) (λ m t env b at fs sc sh.
      equal_left (node-FilteredEach (run m t) t fs s v c d)
      (over_mean s v.items bs h m t env b (fewer m env t at) fs sc sh _ _
      (λ vs is. agrees_then _ _ _ _ (filters_mean d.value f bs j m t env b (fewer m env t at) fs sc sh vs is)
      (λ ks. bodies_mean c.value e bs i m t env b (fewer m env t at) fs sc sh vs ks))))
