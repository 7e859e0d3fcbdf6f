-- A typing with other types in place of its variables.
use Rattle.std.proofs.Common.{◌≡◌, ℕ, Bool, true, false, cond, List, [], ◌∷◌, ◌++◌, map, refl, sym, ap, ◌∙◌, subst}
use Rattle.std.specs.Prelude.{Option, Some, None, option_map}
use Rattle.nesl_types.specs.declared.classes.Class.{Class}
use Rattle.nesl_types_shared.specs.Term.{Term, int, bool, seq_of, pair_of}
use Rattle.nesl_types_shared.specs.Substitution.{substitute}
use Rattle.nesl_types.specs.Class.{IsIn, class_at}
use Rattle.nesl_types_shared.proofs.Substitutions.{substitute-substitute}
use Rattle.nesl_types.proofs.Members.{IsIn-substitute}
use Rattle.nesl_syntax_tree.specs.Trees.{TypeTree, TypeShape, PatternTree, PatternShape, Tree, Shape, Trees, Binders, written, pattern, node, none, more, no_binders, binder}
use Rattle.nesl_syntax_tree.specs.Trees as trees
use Rattle.nesl_builtins.specs.FunctionTypes.{FunctionType}
use Rattle.nesl_infer_rules.specs.World.{TypedNames, Callable, DatatypesByName, general, single}
use Rattle.nesl_infer_rules.specs.Typing.{Key, LocalTypes, newest_type, is_name, is_element, element, local_type, IsInstanceOf, CallableTakes, IsVariable, IsWritten, IsWrittenShape, PatternAdds, PatternShapeAdds, PatternsAdd, BindersAdd, HasType, HasShapeType, HaveType, BindingsAdd, HaveElements}
use Rattle.nesl_infer_rules.specs.Principal.{unbounded}
use Rattle.nesl_infer.specs.Laws.{scope_with, meaning_with, IsWith}

scope_with-append : (put : ℕ → Term) (ns ms : LocalTypes) → scope_with put (ns ++ ms) ≡ scope_with put ns ++ scope_with put ms
scope_with-append put [] ms = refl
scope_with-append put (b ∷ ns) ms = ap (λ (k : LocalTypes). (b.0, substitute put b.1) ∷ k) (scope_with-append put ns ms)

newest-with : (put : ℕ → Term) (test : Key → Bool) (sc : LocalTypes) → newest_type test (scope_with put sc) ≡ option_map (substitute put) (newest_type test sc)
newest-with put test [] = refl
newest-with put test (b ∷ sc) = by_test (test b.0) (newest-with put test sc)
  where
    by_test : (c : Bool) → newest_type test (scope_with put sc) ≡ option_map (substitute put) (newest_type test sc) →
        cond c (Some (substitute put b.1)) (newest_type test (scope_with put sc)) ≡ option_map (substitute put) (cond c (Some b.1) (newest_type test sc))
    by_test true e = refl
    by_test false e = e

instance-with : (of k : ℕ → Class) (put : ℕ → Term) → ((v : ℕ) → IsIn k (of v) (put v)) → (f : FunctionType) (t u : Term) → IsInstanceOf f of t u → IsInstanceOf f k (substitute put t) (substitute put u)
instance-with of k put within f t u h = record {
  put = λ v. substitute put (h.put v);
  within = λ v. IsIn-substitute of k put (class_at f.classes v) (h.put v) (h.within v) within;
  argument = ap (substitute put) h.argument ∙ substitute-substitute put h.put f.argument;
  result = ap (substitute put) h.result ∙ substitute-substitute put h.put f.result;
}

takes-with : (of k : ℕ → Class) (put : ℕ → Term) → ((v : ℕ) → IsIn k (of v) (put v)) → (m : Callable) (t u : Term) → CallableTakes of m t u → CallableTakes k (meaning_with put m) (substitute put t) (substitute put u)
takes-with of k put within (general f) t u h = instance-with of k put within f t u h
takes-with of k put within (single a b) t u h = (ap (substitute put) h.0, ap (substitute put) h.1)

mutual
  written-with : (put : ℕ → Term) (ds es : DatatypesByName) → ((x : List ℕ) (d : ℕ × Term) → ds x ≡ Some d → es x ≡ Some d) → (a : TypeTree) (u : Term) → IsWritten ds a u → IsWritten es a u × (substitute put u ≡ u)
  written-with put ds es f (written s k) u h = written_shape-with put ds es f k u h

  written_shape-with : (put : ℕ → Term) (ds es : DatatypesByName) → ((x : List ℕ) (d : ℕ × Term) → ds x ≡ Some d → es x ≡ Some d) → (k : TypeShape) (u : Term) → IsWrittenShape ds k u → IsWrittenShape es k u × (substitute put u ≡ u)
  written_shape-with put ds es f trees.int u h = (h, ap (substitute put) h ∙ sym h)
  written_shape-with put ds es f trees.bool u h = (h, ap (substitute put) h ∙ sym h)
  written_shape-with put ds es f trees.char u h = (h, ap (substitute put) h ∙ sym h)
  written_shape-with put ds es f (trees.named x s) u h = ((h.0, f x h.0 h.1, h.2), ap (substitute put) h.2 ∙ sym h.2)
  written_shape-with put ds es f (trees.sequence_type a) u h =
      let k = written-with put ds es f a h.0 h.1 in
      ((h.0, k.0, h.2), ap (substitute put) h.2 ∙ ap seq_of k.1 ∙ sym h.2)
  written_shape-with put ds es f (trees.pair_type a b) u h =
      let k = written-with put ds es f a h.0 h.2 in
      let l = written-with put ds es f b h.1 h.3 in
      ((h.0, h.1, k.0, l.0, h.4), ap (substitute put) h.4 ∙ ap (λ (t : Term). pair_of t (substitute put h.1)) k.1 ∙ ap (λ (t : Term). pair_of h.0 t) l.1 ∙ sym h.4)

module _ (of k : ℕ → Class) (put : ℕ → Term) (within : (v : ℕ) → IsIn k (of v) (put v)) (N M : TypedNames) (w : IsWith put N M) where
  mutual
    parts-with : (p : PatternTree) (t : Term) (ns : LocalTypes) → PatternAdds (unbounded N of) p t ns → PatternAdds (unbounded M k) p (substitute put t) (scope_with put ns)
    parts-with (pattern s q) t ns h = (tt, shape_parts-with q t ns h.1)

    shape_parts-with : (q : PatternShape) (t : Term) (ns : LocalTypes) → PatternShapeAdds (unbounded N of) q t ns → PatternShapeAdds (unbounded M k) q (substitute put t) (scope_with put ns)
    shape_parts-with (trees.name_pattern x) t ns h = ap (scope_with put) h
    shape_parts-with (trees.pair_pattern p q) t ns h = (
      substitute put h.0,
      substitute put h.1,
      scope_with put h.2,
      scope_with put h.3,
      ap (substitute put) h.4,
      parts-with p h.0 h.2 h.5,
      parts-with q h.1 h.3 h.6,
      ap (scope_with put) h.7 ∙ scope_with-append put h.3 h.2,
    )
    shape_parts-with (trees.record_pattern x p) t ns h =
        let d = h.1 in
        (substitute put h.0, (d.0, w.datatypes x d.0 d.1, ap (substitute put) d.2, ap (substitute put) d.3 ∙ w.closed x d.0 d.1), parts-with p h.0 ns h.2)

  all_parts-with : (bs : Binders) (is : List Term) (ns : LocalTypes) → PatternsAdd (unbounded N of) bs is ns → PatternsAdd (unbounded M k) bs (map (substitute put) is) (scope_with put ns)
  all_parts-with no_binders [] ns h = ap (scope_with put) h
  all_parts-with no_binders (i ∷ is) ns h = absurd h
  all_parts-with (binder p e bs) [] ns h = absurd h
  all_parts-with (binder p e bs) (i ∷ is) ns h =
      (scope_with put h.0, scope_with put h.1, parts-with p i h.0 h.2, all_parts-with bs is h.1 h.3, ap (scope_with put) h.4 ∙ scope_with-append put h.1 h.0)

  draws-with : (bs : Binders) (is : List Term) (ns : LocalTypes) → BindersAdd (unbounded N of) bs is ns → BindersAdd (unbounded M k) bs (map (substitute put) is) (scope_with put ns)
  draws-with bs [] ns h = absurd h
  draws-with bs (i ∷ is) ns h = (scope_with put h.0, all_parts-with bs (i ∷ is) h.0 h.1, ap (scope_with put) h.2 ∙ scope_with-append put h.0 ((element, i) ∷ []))

  variable-with : (x : List ℕ) (o : Option Term) (t : Term) → IsVariable (unbounded N of) x o t → IsVariable (unbounded M k) x (option_map (substitute put) o) (substitute put t)
  variable-with x (Some u) t h = ap (substitute put) h
  variable-with x None t h = w.variables x t h

  under-with : (ns sc : LocalTypes) (e : Tree) (t : Term) → HasType (unbounded M k) (scope_with put (ns ++ sc)) e t → HasType (unbounded M k) (scope_with put ns ++ scope_with put sc) e t
  under-with ns sc e t h = subst (λ (x : LocalTypes). HasType (unbounded M k) x e t) (scope_with-append put ns sc) h

  mutual
    pub typed-with : (e : Tree) (sc : LocalTypes) (t : Term) → HasType (unbounded N of) sc e t → HasType (unbounded M k) (scope_with put sc) e (substitute put t)
    typed-with (node s q) sc t h = (tt, shape-with q sc t h.1)

    shape-with : (q : Shape) (sc : LocalTypes) (t : Term) → HasShapeType (unbounded N of) sc q t → HasShapeType (unbounded M k) (scope_with put sc) q (substitute put t)
    shape-with (trees.number n) sc t h = ap (substitute put) h
    shape-with (trees.truth b) sc t h = ap (substitute put) h
    shape-with (trees.character c) sc t h = ap (substitute put) h
    shape-with (trees.text bytes) sc t h = ap (substitute put) h
    shape-with (trees.variable x) sc t h = subst (λ (o : Option Term). IsVariable (unbounded M k) x o (substitute put t)) (sym (newest-with put (is_name x) sc)) (variable-with x (local_type x sc) t h)
    shape-with (trees.call f a) sc t h = (
      substitute put h.0,
      typed-with a sc h.0 h.1,
      (meaning_with put h.2.0, w.functions f h.2.0 h.2.1, takes-with of k put within h.2.0 h.0 t h.2.2),
    )
    shape-with (trees.pair a b) sc t h = (substitute put h.0, substitute put h.1, typed-with a sc h.0 h.2, typed-with b sc h.1 h.3, ap (substitute put) h.4)
    shape-with (trees.prefix_of o a) sc t h = (substitute put h.0, typed-with a sc h.0 h.1, instance-with of k put within _ h.0 t h.2)
    shape-with (trees.infix_of o a b) sc t h = (substitute put h.0, substitute put h.1, typed-with a sc h.0 h.2, typed-with b sc h.1 h.3, instance-with of k put within _ (pair_of h.0 h.1) t h.4)
    shape-with (trees.index a b) sc t h = (typed-with a sc (seq_of t) h.0, typed-with b sc int h.1)
    shape-with (trees.choice a b c) sc t h = (typed-with a sc bool h.0, typed-with b sc t h.1, typed-with c sc t h.2)
    shape-with (trees.sequence es) sc t h = (substitute put h.0, have-with es sc h.0 h.1, ap (substitute put) h.2)
    shape-with (trees.empty a) sc t h =
        let j = written-with put N.datatypes M.datatypes w.datatypes a h.0 h.1 in
        (h.0, j.0, ap (substitute put) h.2 ∙ ap seq_of j.1)
    shape-with (trees.range a b) sc t h = (typed-with a sc int h.0, typed-with b sc int h.1, ap (substitute put) h.2)
    shape-with (trees.strided_range a b c) sc t h = (typed-with a sc int h.0, typed-with b sc int h.1, typed-with c sc int h.2, ap (substitute put) h.3)
    shape-with (trees.let_in bs e) sc t h = (scope_with put h.0, binds-with bs sc h.0 h.1, under-with h.0 sc e (substitute put t) (typed-with e (h.0 ++ sc) t h.2))
    shape-with (trees.each e bs) sc t h = (
      map (substitute put) h.0,
      scope_with put h.1,
      substitute put h.2,
      elements-with bs sc h.0 h.3,
      draws-with bs h.0 h.1 h.4,
      under-with h.1 sc e (substitute put h.2) (typed-with e (h.1 ++ sc) h.2 h.5),
      ap (substitute put) h.6,
    )
    shape-with (trees.filtered_each e bs f) sc t h = (
      map (substitute put) h.0,
      scope_with put h.1,
      substitute put h.2,
      elements-with bs sc h.0 h.3,
      draws-with bs h.0 h.1 h.4,
      under-with h.1 sc e (substitute put h.2) (typed-with e (h.1 ++ sc) h.2 h.5),
      under-with h.1 sc f bool (typed-with f (h.1 ++ sc) bool h.6),
      ap (substitute put) h.7,
    )
    shape-with trees.element sc t h = newest-with put is_element sc ∙ ap (option_map (substitute put)) h

    have-with : (es : Trees) (sc : LocalTypes) (t : Term) → HaveType (unbounded N of) sc es t → HaveType (unbounded M k) (scope_with put sc) es (substitute put t)
    have-with none sc t h = tt
    have-with (more e es) sc t h = (typed-with e sc t h.0, have-with es sc t h.1)

    binds-with : (bs : Binders) (sc ns : LocalTypes) → BindingsAdd (unbounded N of) sc bs ns → BindingsAdd (unbounded M k) (scope_with put sc) bs (scope_with put ns)
    binds-with no_binders sc ns h = ap (scope_with put) h
    binds-with (binder p e bs) sc ns h = (
      substitute put h.0,
      scope_with put h.1,
      scope_with put h.2,
      typed-with e sc h.0 h.3,
      parts-with p h.0 h.1 h.4,
      subst (λ (x : LocalTypes). BindingsAdd (unbounded M k) x bs (scope_with put h.2)) (scope_with-append put h.1 sc) (binds-with bs (h.1 ++ sc) h.2 h.5),
      ap (scope_with put) h.6 ∙ scope_with-append put h.2 h.1,
    )

    elements-with : (bs : Binders) (sc : LocalTypes) (is : List Term) → HaveElements (unbounded N of) sc bs is → HaveElements (unbounded M k) (scope_with put sc) bs (map (substitute put) is)
    elements-with no_binders sc [] h = tt
    elements-with no_binders sc (i ∷ is) h = absurd h
    elements-with (binder p e bs) sc [] h = absurd h
    elements-with (binder p e bs) sc (i ∷ is) h = (typed-with e sc (seq_of i) h.0, elements-with bs sc is h.1)
