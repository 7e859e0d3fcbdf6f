-- Typings depend on what an expression refers to.
use Rattle.std.proofs.Common.{◌≡◌, ℕ, Bool, true, false, cond, List, [], ◌∷◌, ◌++◌, refl, sym, ap, ◌∙◌, subst, append-nil}
use Rattle.std.specs.Prelude.{Option, Some, None, ◌||◌}
use Rattle.std.specs.List.{list_any}
use Rattle.std.specs.Str.{bytes_eq}
use Rattle.nesl_lex.specs.declared.token.Span.{Span}
use Rattle.nesl_types.specs.declared.classes.Class.{Class}
use Rattle.nesl_types_shared.specs.Term.{Term, int, bool, seq_of}
use Rattle.nesl_syntax_tree.specs.Trees.{TypeTree, TypeShape, PatternTree, PatternShape, Tree, Shape, Trees, Binders, written, pattern, node, none, more, no_binders, binder}
use Rattle.nesl_syntax_tree.specs.Trees as trees
use Rattle.nesl_infer_names.specs.Names.{names_bound, all_names_bound}
use Rattle.nesl_infer_rules.specs.World.{Assumptions, TypedNames, DatatypesByName}
use Rattle.nesl_infer_rules.specs.Typing.{Key, LocalTypes, is_name, element, name, local_type, IsVariable, IsWritten, IsWrittenShape, PatternAdds, PatternShapeAdds, PatternsAdd, BindersAdd, HasType, HasShapeType, HaveType, BindingsAdd, HaveElements}
use Rattle.nesl_infer.specs.References.{SameTypes, SameTypesIn, SameRecords, SameRecordsIn, Same, SameIn, AllSame, SameBound, SameDrawn, with_key, names_of}

with_key-append : (k : Key) (ls ms : List (List ℕ)) → with_key k (ls ++ ms) ≡ with_key k ls ++ ms
with_key-append (name x) ls ms = refl
with_key-append element ls ms = refl

names-append : (ns ms : LocalTypes) → names_of (ns ++ ms) ≡ names_of ns ++ names_of ms
names-append [] ms = refl
names-append (b ∷ ns) ms = ap (with_key b.0) (names-append ns ms) ∙ with_key-append b.0 (names_of ns) (names_of ms)

pub names-under : (ns sc : LocalTypes) (ls ms : List (List ℕ)) → names_of ns ≡ ls → names_of sc ≡ ms → names_of (ns ++ sc) ≡ ls ++ ms
names-under ns sc ls ms e d = names-append ns sc ∙ ap (λ (l : List (List ℕ)). l ++ names_of sc) e ∙ ap (λ (l : List (List ℕ)). ls ++ l) d

-- what has no local type is no local name
absent_test : (c b : Bool) (u : Term) (o : Option Term) → (o ≡ None → b ≡ false) → cond c (Some u) o ≡ None → (c || b) ≡ false
absent_test true b u o h e = absurd cc
absent_test false b u o h e = h e

absent_key : (x : List ℕ) (k : Key) (u : Term) (o : Option Term) (ls : List (List ℕ)) → (o ≡ None → list_any (bytes_eq x) ls ≡ false) →
    cond (is_name x k) (Some u) o ≡ None → list_any (bytes_eq x) (with_key k ls) ≡ false
absent_key x (name y) u o ls h e = absent_test (bytes_eq x y) (list_any (bytes_eq x) ls) u o h e
absent_key x element u o ls h e = h e

absent : (x : List ℕ) (sc : LocalTypes) → local_type x sc ≡ None → list_any (bytes_eq x) (names_of sc) ≡ false
absent x [] e = refl
absent x (b ∷ sc) e = absent_key x b.0 b.1 (local_type x sc) (names_of sc) (absent x sc) e

mutual
  written-same : (ds es : DatatypesByName) (a : TypeTree) (u : Term) → SameTypes ds es a → IsWritten ds a u → IsWritten es a u
  written-same ds es (written s k) u g h = written_in-same ds es k u g h

  written_in-same : (ds es : DatatypesByName) (k : TypeShape) (u : Term) → SameTypesIn ds es k → IsWrittenShape ds k u → IsWrittenShape es k u
  written_in-same ds es trees.int u g h = h
  written_in-same ds es trees.bool u g h = h
  written_in-same ds es trees.char u g h = h
  written_in-same ds es (trees.named x s) u g h = (h.0, sym g ∙ h.1, h.2)
  written_in-same ds es (trees.sequence_type a) u g h = (h.0, written-same ds es a h.0 g h.1, h.2)
  written_in-same ds es (trees.pair_type a b) u g h = (h.0, h.1, written-same ds es a h.0 g.0 h.2, written-same ds es b h.1 g.1 h.3, h.4)

module _ (N M : TypedNames) (of : ℕ → Class) (limit : Option ℕ) where
  abbrev W : Assumptions
  W = record { names = N; of = of; limit = limit }

  abbrev V : Assumptions
  V = record { names = M; of = of; limit = limit }

  mutual
    parts-same : (p : PatternTree) (t : Term) (ns : LocalTypes) → SameRecords N.datatypes M.datatypes p → PatternAdds W p t ns → PatternAdds V p t ns
    parts-same (pattern s q) t ns g h = (h.0, parts_in-same q t ns g h.1)

    parts_in-same : (q : PatternShape) (t : Term) (ns : LocalTypes) → SameRecordsIn N.datatypes M.datatypes q → PatternShapeAdds W q t ns → PatternShapeAdds V q t ns
    parts_in-same (trees.name_pattern x) t ns g h = h
    parts_in-same (trees.pair_pattern p q) t ns g h = (h.0, h.1, h.2, h.3, h.4, parts-same p h.0 h.2 g.0 h.5, parts-same q h.1 h.3 g.1 h.6, h.7)
    parts_in-same (trees.record_pattern x p) t ns g h =
        let d = h.1 in
        (h.0, (d.0, sym g.0 ∙ d.1, d.2, d.3), parts-same p h.0 ns g.1 h.2)

  mutual
    pub parts-names : (p : PatternTree) (t : Term) (ns : LocalTypes) → PatternAdds W p t ns → names_of ns ≡ names_bound p
    parts-names (pattern s q) t ns h = parts_in-names s q t ns h.1

    parts_in-names : (s : Span) (q : PatternShape) (t : Term) (ns : LocalTypes) → PatternShapeAdds W q t ns → names_of ns ≡ names_bound (pattern s q)
    parts_in-names s (trees.name_pattern x) t ns h = ap names_of h
    parts_in-names s (trees.pair_pattern p q) t ns h = ap names_of h.7 ∙ names-under h.3 h.2 (names_bound q) (names_bound p) (parts-names q h.1 h.3 h.6) (parts-names p h.0 h.2 h.5)
    parts_in-names s (trees.record_pattern x p) t ns h = parts-names p h.0 ns h.2

  all_parts-same : (bs : Binders) (ls : List (List ℕ)) (is : List Term) (ns : LocalTypes) → SameDrawn N M ls bs → PatternsAdd W bs is ns → PatternsAdd V bs is ns
  all_parts-same no_binders ls [] ns g h = h
  all_parts-same no_binders ls (i ∷ is) ns g h = absurd h
  all_parts-same (binder p e bs) ls [] ns g h = absurd h
  all_parts-same (binder p e bs) ls (i ∷ is) ns g h = (h.0, h.1, parts-same p i h.0 g.0 h.2, all_parts-same bs ls is h.1 g.2 h.3, h.4)

  all_parts-names : (bs : Binders) (is : List Term) (ns : LocalTypes) → PatternsAdd W bs is ns → names_of ns ≡ all_names_bound bs
  all_parts-names no_binders [] ns h = ap names_of h
  all_parts-names no_binders (i ∷ is) ns h = absurd h
  all_parts-names (binder p e bs) [] ns h = absurd h
  all_parts-names (binder p e bs) (i ∷ is) ns h = ap names_of h.4 ∙ names-under h.1 h.0 (all_names_bound bs) (names_bound p) (all_parts-names bs is h.1 h.3) (parts-names p i h.0 h.2)

  draws-same : (bs : Binders) (ls : List (List ℕ)) (is : List Term) (ns : LocalTypes) → SameDrawn N M ls bs → BindersAdd W bs is ns → BindersAdd V bs is ns
  draws-same bs ls [] ns g h = absurd h
  draws-same bs ls (i ∷ is) ns g h = (h.0, all_parts-same bs ls (i ∷ is) h.0 g h.1, h.2)

  pub draws-names : (bs : Binders) (is : List Term) (ns : LocalTypes) → BindersAdd W bs is ns → names_of ns ≡ all_names_bound bs
  draws-names bs [] ns h = absurd h
  draws-names bs (i ∷ is) ns h = ap names_of h.2 ∙ names-append h.0 ((element, i) ∷ []) ∙ append-nil (names_of h.0) ∙ all_parts-names bs (i ∷ is) h.0 h.1

  pub binds-names : (bs : Binders) (sc ns : LocalTypes) → BindingsAdd W sc bs ns → names_of ns ≡ all_names_bound bs
  binds-names no_binders sc ns h = ap names_of h
  binds-names (binder p e bs) sc ns h = ap names_of h.6 ∙ names-under h.2 h.1 (all_names_bound bs) (names_bound p) (binds-names bs (h.1 ++ sc) h.2 h.5) (parts-names p h.0 h.1 h.4)

  variable-same : (x : List ℕ) (o : Option Term) (t : Term) → (o ≡ None → N.variables x ≡ M.variables x) → IsVariable W x o t → IsVariable V x o t
  variable-same x (Some u) t g h = h
  variable-same x None t g h = sym (g refl) ∙ h

  mutual
    pub typed-same : (e : Tree) (ls : List (List ℕ)) (sc : LocalTypes) (t : Term) → names_of sc ≡ ls → Same N M ls e → HasType W sc e t → HasType V sc e t
    typed-same (node s k) ls sc t q g h = (h.0, shape-same k ls sc t q g h.1)

    shape-same : (k : Shape) (ls : List (List ℕ)) (sc : LocalTypes) (t : Term) → names_of sc ≡ ls → SameIn N M ls k → HasShapeType W sc k t → HasShapeType V sc k t
    shape-same (trees.number n) ls sc t q g h = h
    shape-same (trees.truth b) ls sc t q g h = h
    shape-same (trees.character c) ls sc t q g h = h
    shape-same (trees.text bytes) ls sc t q g h = h
    shape-same (trees.variable x) ls sc t q g h = variable-same x (local_type x sc) t (λ e. g (subst (λ (l : List (List ℕ)). list_any (bytes_eq x) l ≡ false) q (absent x sc e))) h
    shape-same (trees.call f a) ls sc t q g h = (h.0, typed-same a ls sc h.0 q g.1 h.1, (h.2.0, sym g.0 ∙ h.2.1, h.2.2))
    shape-same (trees.pair a b) ls sc t q g h = (h.0, h.1, typed-same a ls sc h.0 q g.0 h.2, typed-same b ls sc h.1 q g.1 h.3, h.4)
    shape-same (trees.prefix_of o a) ls sc t q g h = (h.0, typed-same a ls sc h.0 q g h.1, h.2)
    shape-same (trees.infix_of o a b) ls sc t q g h = (h.0, h.1, typed-same a ls sc h.0 q g.0 h.2, typed-same b ls sc h.1 q g.1 h.3, h.4)
    shape-same (trees.index a b) ls sc t q g h = (typed-same a ls sc (seq_of t) q g.0 h.0, typed-same b ls sc int q g.1 h.1)
    shape-same (trees.choice a b c) ls sc t q g h = (typed-same a ls sc bool q g.0 h.0, typed-same b ls sc t q g.1 h.1, typed-same c ls sc t q g.2 h.2)
    shape-same (trees.sequence es) ls sc t q g h = (h.0, have-same es ls sc h.0 q g h.1, h.2)
    shape-same (trees.empty a) ls sc t q g h = (h.0, written-same N.datatypes M.datatypes a h.0 g h.1, h.2)
    shape-same (trees.range a b) ls sc t q g h = (typed-same a ls sc int q g.0 h.0, typed-same b ls sc int q g.1 h.1, h.2)
    shape-same (trees.strided_range a b c) ls sc t q g h = (typed-same a ls sc int q g.0 h.0, typed-same b ls sc int q g.1 h.1, typed-same c ls sc int q g.2 h.2, h.3)
    shape-same (trees.let_in bs e) ls sc t q g h =
        (h.0, binds-same bs ls sc h.0 q g.0 h.1, typed-same e (all_names_bound bs ++ ls) (h.0 ++ sc) t (names-under h.0 sc (all_names_bound bs) ls (binds-names bs sc h.0 h.1) q) g.1 h.2)
    shape-same (trees.each e bs) ls sc t q g h = (
      h.0,
      h.1,
      h.2,
      elements-same bs ls sc h.0 q g.1 h.3,
      draws-same bs ls h.0 h.1 g.1 h.4,
      typed-same e (all_names_bound bs ++ ls) (h.1 ++ sc) h.2 (names-under h.1 sc (all_names_bound bs) ls (draws-names bs h.0 h.1 h.4) q) g.0 h.5,
      h.6,
    )
    shape-same (trees.filtered_each e bs f) ls sc t q g h = (
      h.0,
      h.1,
      h.2,
      elements-same bs ls sc h.0 q g.1 h.3,
      draws-same bs ls h.0 h.1 g.1 h.4,
      typed-same e (all_names_bound bs ++ ls) (h.1 ++ sc) h.2 (names-under h.1 sc (all_names_bound bs) ls (draws-names bs h.0 h.1 h.4) q) g.0 h.5,
      typed-same f (all_names_bound bs ++ ls) (h.1 ++ sc) bool (names-under h.1 sc (all_names_bound bs) ls (draws-names bs h.0 h.1 h.4) q) g.2 h.6,
      h.7,
    )
    shape-same trees.element ls sc t q g h = h

    have-same : (es : Trees) (ls : List (List ℕ)) (sc : LocalTypes) (t : Term) → names_of sc ≡ ls → AllSame N M ls es → HaveType W sc es t → HaveType V sc es t
    have-same none ls sc t q g h = tt
    have-same (more e es) ls sc t q g h = (typed-same e ls sc t q g.0 h.0, have-same es ls sc t q g.1 h.1)

    binds-same : (bs : Binders) (ls : List (List ℕ)) (sc ns : LocalTypes) → names_of sc ≡ ls → SameBound N M ls bs → BindingsAdd W sc bs ns → BindingsAdd V sc bs ns
    binds-same no_binders ls sc ns q g h = h
    binds-same (binder p e bs) ls sc ns q g h = (
      h.0,
      h.1,
      h.2,
      typed-same e ls sc h.0 q g.1 h.3,
      parts-same p h.0 h.1 g.0 h.4,
      binds-same bs (names_bound p ++ ls) (h.1 ++ sc) h.2 (names-under h.1 sc (names_bound p) ls (parts-names p h.0 h.1 h.4) q) g.2 h.5,
      h.6,
    )

    elements-same : (bs : Binders) (ls : List (List ℕ)) (sc : LocalTypes) (is : List Term) → names_of sc ≡ ls → SameDrawn N M ls bs → HaveElements W sc bs is → HaveElements V sc bs is
    elements-same no_binders ls sc [] q g h = tt
    elements-same no_binders ls sc (i ∷ is) q g h = absurd h
    elements-same (binder p e bs) ls sc [] q g h = absurd h
    elements-same (binder p e bs) ls sc (i ∷ is) q g h = (typed-same e ls sc (seq_of i) q g.1 h.0, elements-same bs ls sc is q g.2 h.1)
