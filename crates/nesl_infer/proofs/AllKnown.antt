-- Where an expression has a type, all its names are known.
use Rattle.std.proofs.Common.{◌≡◌, ℕ, Bool, true, false, cond, List, [], ◌∷◌, ◌++◌, refl, ap, subst, ◌∙◌}
use Rattle.std.specs.Prelude.{Option, Some, None, ◌||◌}
use Rattle.std.specs.Option.{is_some}
use Rattle.std.specs.List.{list_any}
use Rattle.std.specs.Str.{bytes_eq}
use Rattle.nesl_lex.specs.declared.token.Span.{Span}
use Rattle.nesl_types.specs.declared.bindings.Top.{Top}
use Rattle.nesl_types.specs.declared.classes.Class.{Class}
use Rattle.nesl_types_shared.specs.Term.{Term, int, bool, seq_of}
use Rattle.nesl_syntax_tree.specs.Trees.{TypeTree, TypeShape, PatternTree, PatternShape, SignatureTree, Tree, Shape, Trees, Binders, written, pattern, node, none, more, no_binders, binder}
use Rattle.nesl_syntax_tree.specs.Trees as trees
use Rattle.nesl_infer_names.specs.Names.{Names, Referent, names_in, span_unless_known, unknown_types, unknown_types_in, unknown_records, unknown_records_in, names_bound, all_names_bound}
use Rattle.nesl_infer_names.specs.Names.{unknown_names, unknown_in, all_unknown_names, unknown_in_let, unknown_in_each}
use Rattle.nesl_infer_rules.specs.World.{Assumptions, TypedNames, Callable, OwnFunction, DatatypesByName, callable_of}
use Rattle.nesl_infer_rules.specs.Typing.{Key, LocalTypes, is_name, element, name, local_type, IsVariable, IsWritten, IsWrittenShape, NameTakes}
use Rattle.nesl_infer_rules.specs.Typing.{PatternAdds, PatternShapeAdds, PatternsAdd, BindersAdd, HasType, HasShapeType, HaveType, BindingsAdd, HaveElements}
use Rattle.nesl_infer_rules.specs.Principal.{Typed, TypedFunction}
use Rattle.nesl_infer.specs.References.{with_key, names_of}
use Rattle.nesl_infer.specs.Uses.{uses, uses_of_function, unknown}
use Rattle.nesl_infer.proofs.Walked.{known_by_uses, function_by_uses}
use Rattle.nesl_infer.proofs.Referred.{names-under, parts-names, draws-names, binds-names}

none_in : (ss rs : List Span) → ss ≡ [] → rs ≡ [] → ss ++ rs ≡ []
none_in [] rs e f = f
none_in (s ∷ ss) rs e f = absurd cc

known_span : (b : Bool) (s : Span) → b ≡ true → span_unless_known b s ≡ []
known_span true s e = refl
known_span false s e = absurd cc

either_left : (b c : Bool) → b ≡ true → (b || c) ≡ true
either_left true c e = refl
either_left false c e = absurd cc

either_right : (b c : Bool) → c ≡ true → (b || c) ≡ true
either_right true c e = refl
either_right false c e = e

-- what has a local type is a local name
present_test : (c b : Bool) (u v : Term) (o : Option Term) → (o ≡ Some v → b ≡ true) → cond c (Some u) o ≡ Some v → (c || b) ≡ true
present_test true b u v o h e = refl
present_test false b u v o h e = h e

present_key : (x : List ℕ) (k : Key) (u v : Term) (o : Option Term) (ls : List (List ℕ)) → (o ≡ Some v → list_any (bytes_eq x) ls ≡ true) →
    cond (is_name x k) (Some u) o ≡ Some v → list_any (bytes_eq x) (with_key k ls) ≡ true
present_key x (name y) u v o ls h e = present_test (bytes_eq x y) (list_any (bytes_eq x) ls) u v o h e
present_key x element u v o ls h e = h e

present : (x : List ℕ) (sc : LocalTypes) (v : Term) → local_type x sc ≡ Some v → list_any (bytes_eq x) (names_of sc) ≡ true
present x [] v e = absurd cc
present x (b ∷ sc) v e = present_key x b.0 b.1 v (local_type x sc) (names_of sc) (present x sc v) e

mutual
  types_known : (ds : DatatypesByName) (a : TypeTree) (u : Term) → IsWritten ds a u → unknown_types ds a ≡ []
  types_known ds (written s k) u h = types_in_known ds k u h

  types_in_known : (ds : DatatypesByName) (k : TypeShape) (u : Term) → IsWrittenShape ds k u → unknown_types_in ds k ≡ []
  types_in_known ds trees.int u h = refl
  types_in_known ds trees.bool u h = refl
  types_in_known ds trees.char u h = refl
  types_in_known ds (trees.named x s) u h = known_span (is_some (ds x)) s (ap is_some h.1)
  types_in_known ds (trees.sequence_type a) u h = types_known ds a h.0 h.1
  types_in_known ds (trees.pair_type a b) u h = none_in (unknown_types ds a) (unknown_types ds b) (types_known ds a h.0 h.2) (types_known ds b h.1 h.3)

called : (own : OwnFunction) (r : Option Referent) (m : Callable) → callable_of own r ≡ Some m → is_some r ≡ true
called own None m e = absurd cc
called own (Some r) m e = refl

module _ (ns : Names) (own : OwnFunction) (of : ℕ → Class) (limit : Option ℕ) where
  abbrev N : TypedNames
  N = record { variables = ns.variables; functions = λ x. callable_of own (ns.functions x); datatypes = ns.datatypes }

  abbrev W : Assumptions
  W = record { names = N; of = of; limit = limit }

  mutual
    records_known : (p : PatternTree) (t : Term) (ks : LocalTypes) → PatternAdds W p t ks → unknown_records ns.datatypes p ≡ []
    records_known (pattern s q) t ks h = records_in_known s q t ks h.1

    records_in_known : (s : Span) (q : PatternShape) (t : Term) (ks : LocalTypes) → PatternShapeAdds W q t ks → unknown_records_in ns.datatypes s q ≡ []
    records_in_known s (trees.name_pattern x) t ks h = refl
    records_in_known s (trees.pair_pattern p q) t ks h =
        none_in (unknown_records ns.datatypes p) (unknown_records ns.datatypes q) (records_known p h.0 h.2 h.5) (records_known q h.1 h.3 h.6)
    records_in_known s (trees.record_pattern x p) t ks h =
        none_in (span_unless_known (is_some (ns.datatypes x)) s) (unknown_records ns.datatypes p) (known_span (is_some (ns.datatypes x)) s (ap is_some h.1.1)) (records_known p h.0 ks h.2)

  variable_known : (x : List ℕ) (s : Span) (b : Bool) (o : Option Term) (t : Term) → ((u : Term) → o ≡ Some u → b ≡ true) → IsVariable W x o t →
      span_unless_known (b || is_some (ns.variables x)) s ≡ []
  variable_known x s b (Some u) t g h = known_span (b || is_some (ns.variables x)) s (either_left b (is_some (ns.variables x)) (g u refl))
  variable_known x s b None t g h = known_span (b || is_some (ns.variables x)) s (either_right b (is_some (ns.variables x)) (ap is_some h))

  function_known : (f : List ℕ) (s : Span) (t u : Term) → NameTakes N of f t u → span_unless_known (is_some (ns.functions f)) s ≡ []
  function_known f s t u h = known_span (is_some (ns.functions f)) s (called own (ns.functions f) h.0 h.1)

  drawn_parts : (bs : Binders) (is : List Term) (ks : LocalTypes) → BindersAdd W bs is ks → (ms : LocalTypes) × PatternsAdd W bs is ms
  drawn_parts bs [] ks h = absurd h
  drawn_parts bs (i ∷ is) ks h = (h.0, h.1)

  mutual
    pub typed_known : (e : Tree) (ls : List (List ℕ)) (sc : LocalTypes) (t : Term) → names_of sc ≡ ls → HasType W sc e t → unknown_names ns ls e ≡ []
    typed_known (node s k) ls sc t q h = shape_known s k ls sc t q h.1

    shape_known : (s : Span) (k : Shape) (ls : List (List ℕ)) (sc : LocalTypes) (t : Term) → names_of sc ≡ ls → HasShapeType W sc k t → unknown_in ns ls s k ≡ []
    shape_known s (trees.number n) ls sc t q h = refl
    shape_known s (trees.truth b) ls sc t q h = refl
    shape_known s (trees.character c) ls sc t q h = refl
    shape_known s (trees.text bytes) ls sc t q h = refl
    shape_known s (trees.variable x) ls sc t q h =
        variable_known x s (list_any (bytes_eq x) ls) (local_type x sc) t (λ u e. subst (λ (l : List (List ℕ)). list_any (bytes_eq x) l ≡ true) q (present x sc u e)) h
    shape_known s (trees.call f a) ls sc t q h =
        none_in (span_unless_known (is_some (ns.functions f)) s) (unknown_names ns ls a) (function_known f s h.0 t h.2) (typed_known a ls sc h.0 q h.1)
    shape_known s (trees.pair a b) ls sc t q h = none_in (unknown_names ns ls a) (unknown_names ns ls b) (typed_known a ls sc h.0 q h.2) (typed_known b ls sc h.1 q h.3)
    shape_known s (trees.prefix_of o a) ls sc t q h = typed_known a ls sc h.0 q h.1
    shape_known s (trees.infix_of o a b) ls sc t q h = none_in (unknown_names ns ls a) (unknown_names ns ls b) (typed_known a ls sc h.0 q h.2) (typed_known b ls sc h.1 q h.3)
    shape_known s (trees.index a b) ls sc t q h = none_in (unknown_names ns ls a) (unknown_names ns ls b) (typed_known a ls sc (seq_of t) q h.0) (typed_known b ls sc int q h.1)
    shape_known s (trees.choice a b c) ls sc t q h =
        none_in (unknown_names ns ls a) (unknown_names ns ls b ++ unknown_names ns ls c) (typed_known a ls sc bool q h.0) (none_in (unknown_names ns ls b) (unknown_names ns ls c) (typed_known b ls sc t q h.1) (typed_known c ls sc t q h.2))
    shape_known s (trees.sequence es) ls sc t q h = all_known es ls sc h.0 q h.1
    shape_known s (trees.empty a) ls sc t q h = types_known ns.datatypes a h.0 h.1
    shape_known s (trees.range a b) ls sc t q h = none_in (unknown_names ns ls a) (unknown_names ns ls b) (typed_known a ls sc int q h.0) (typed_known b ls sc int q h.1)
    shape_known s (trees.strided_range a b c) ls sc t q h =
        none_in (unknown_names ns ls a) (unknown_names ns ls b ++ unknown_names ns ls c) (typed_known a ls sc int q h.0) (none_in (unknown_names ns ls b) (unknown_names ns ls c) (typed_known b ls sc int q h.1) (typed_known c ls sc int q h.2))
    shape_known s (trees.let_in bs e) ls sc t q h =
        none_in (unknown_in_let ns ls bs) (unknown_names ns (all_names_bound bs ++ ls) e) (let_known bs ls sc h.0 q h.1)
        (typed_known e (all_names_bound bs ++ ls) (h.0 ++ sc) t (names-under h.0 sc (all_names_bound bs) ls (binds-names N N of limit bs sc h.0 h.1) q) h.2)
    shape_known s (trees.each e bs) ls sc t q h =
        let ms = drawn_parts bs h.0 h.1 h.4 in
        none_in (unknown_names ns (all_names_bound bs ++ ls) e) (unknown_in_each ns ls bs)
        (typed_known e (all_names_bound bs ++ ls) (h.1 ++ sc) h.2 (names-under h.1 sc (all_names_bound bs) ls (draws-names N N of limit bs h.0 h.1 h.4) q) h.5)
        (each_known bs ls sc h.0 ms.0 q h.3 ms.1)
    shape_known s (trees.filtered_each e bs f) ls sc t q h =
        let ms = drawn_parts bs h.0 h.1 h.4 in
        let r = names-under h.1 sc (all_names_bound bs) ls (draws-names N N of limit bs h.0 h.1 h.4) q in
        none_in (unknown_names ns (all_names_bound bs ++ ls) e) (unknown_in_each ns ls bs ++ unknown_names ns (all_names_bound bs ++ ls) f)
        (typed_known e (all_names_bound bs ++ ls) (h.1 ++ sc) h.2 r h.5)
        (none_in (unknown_in_each ns ls bs) (unknown_names ns (all_names_bound bs ++ ls) f) (each_known bs ls sc h.0 ms.0 q h.3 ms.1) (typed_known f (all_names_bound bs ++ ls) (h.1 ++ sc) bool r h.6))
    shape_known s trees.element ls sc t q h = refl

    all_known : (es : Trees) (ls : List (List ℕ)) (sc : LocalTypes) (t : Term) → names_of sc ≡ ls → HaveType W sc es t → all_unknown_names ns ls es ≡ []
    all_known none ls sc t q h = refl
    all_known (more e es) ls sc t q h = none_in (unknown_names ns ls e) (all_unknown_names ns ls es) (typed_known e ls sc t q h.0) (all_known es ls sc t q h.1)

    let_known : (bs : Binders) (ls : List (List ℕ)) (sc ks : LocalTypes) → names_of sc ≡ ls → BindingsAdd W sc bs ks → unknown_in_let ns ls bs ≡ []
    let_known no_binders ls sc ks q h = refl
    let_known (binder p e bs) ls sc ks q h =
        none_in (unknown_records ns.datatypes p) (unknown_names ns ls e ++ unknown_in_let ns (names_bound p ++ ls) bs) (records_known p h.0 h.1 h.4)
        (none_in (unknown_names ns ls e) (unknown_in_let ns (names_bound p ++ ls) bs) (typed_known e ls sc h.0 q h.3)
        (let_known bs (names_bound p ++ ls) (h.1 ++ sc) h.2 (names-under h.1 sc (names_bound p) ls (parts-names N N of limit p h.0 h.1 h.4) q) h.5))

    each_known : (bs : Binders) (ls : List (List ℕ)) (sc : LocalTypes) (is : List Term) (ks : LocalTypes) → names_of sc ≡ ls → HaveElements W sc bs is → PatternsAdd W bs is ks → unknown_in_each ns ls bs ≡ []
    each_known no_binders ls sc is ks q h p = refl
    each_known (binder b e bs) ls sc [] ks q h p = absurd h
    each_known (binder b e bs) ls sc (i ∷ is) ks q h p =
        none_in (unknown_records ns.datatypes b) (unknown_names ns ls e ++ unknown_in_each ns ls bs) (records_known b i p.0 p.2)
        (none_in (unknown_names ns ls e) (unknown_in_each ns ls bs) (typed_known e ls sc (seq_of i) q h.0) (each_known bs ls sc is p.1 q h.1 p.3))

-- an expression of the top level
pub known_in_typed : {P : Type 0} (context : List (List ℕ × Top × P)) (e : Tree) (of : ℕ → Class) (t : Term) → Typed context e of t → unknown (names_in context None) (uses [] e) ≡ []
known_in_typed context e of t h = known_by_uses (names_in context None) [] e ∙ typed_known (names_in context None) None of (Some 4096) e [] [] t refl h

-- a function
pub known_in_function : {P : Type 0} (context : List (List ℕ × Top × P)) (x : List ℕ) (p : PatternTree) (g : Option SignatureTree) (e : Tree) (of : ℕ → Class) (t u : Term) →
    TypedFunction context x p g e of t u → unknown (names_in context (Some x)) (uses_of_function p e) ≡ []
known_in_function context x p g e of t u h =
    let ns = names_in context (Some x) in
    let own : OwnFunction = Some (x, t, u) in
    let N : TypedNames = record { variables = ns.variables; functions = λ y. callable_of own (ns.functions y); datatypes = ns.datatypes } in
    function_by_uses ns p e ∙ none_in (unknown_records ns.datatypes p) (unknown_names ns (names_bound p) e) (records_known ns own of (Some 4096) p t h.parts h.taken)
    (typed_known ns own of (Some 4096) e (names_bound p) h.parts u (parts-names N N of (Some 4096) p t h.parts h.taken) h.given)
