-- Typing is closed under types put for variables, and depends on no name that isn't referred to.
use Rattle.std.proofs.Common.{◌≡◌, ℕ, Bool, true, false, not, ◌&&◌, ◌||◌, cond, List, [], ◌∷◌, ◌++◌, map, Option, Some, None, option_map, refl, ap, subst, sym, ◌∙◌, append_assoc}
use Rattle.std.specs.Str.{bytes_eq}
use Rattle.std.proofs.lemmas.Slice.Eq.{bytes_eq-Decides}
use Rattle.nesl_types.specs.declared.classes.Class.{Class}
use Rattle.nesl_types_shared.specs.Term.{Term, int, bool, seq_of, pair_of}
use Rattle.nesl_types.specs.Class.{IsIn, class_at}
use Rattle.nesl_types_shared.specs.Substitution.{substitute}
use Rattle.nesl_types.proofs.Members.{IsIn-substitute}
use Rattle.nesl_types_shared.proofs.Substitutions.{substitute-substitute}
use Rattle.nesl_syntax_tree.specs.Trees.{TypeTree, TypeShape, written, PatternTree, PatternShape, pattern, Tree, Shape, Trees, Binders, node, none, more, no_binders, binder}
use Rattle.nesl_syntax_tree.specs.Trees as trees
use Rattle.nesl_builtins.specs.FunctionTypes.{FunctionType, builtin_type}
use Rattle.nesl_builtins.specs.Named.{prefix_builtin, infix_builtin}
use Rattle.nesl_infer_rules.specs.World.{Assumptions, Callable, IsAllowed}
use Rattle.nesl_infer_rules.specs.Typing.{Key, name, element, is_name, is_element, newest_type, LocalTypes, local_type, HasType, HasShapeType, HaveType, BindingsAdd, HaveElements, PatternsAdd, BindersAdd, PatternAdds, PatternShapeAdds, IsVariable, IsInstanceOf, CallableTakes, IsWritten, IsWrittenShape}
use Rattle.nesl_infer.specs.Laws.{scope_with}
use Rattle.nesl_eval_sound.specs.Refers.{binds, binds_in, some_binds, refers, refers_in, any_refers, bindings_refer, drawn_refers}

pub instance_maps : (of k : ℕ → Class) (s : ℕ → Term) → ((v : ℕ) → IsIn k (of v) (s v)) → (f : FunctionType) (t u : Term) → IsInstanceOf f of t u → IsInstanceOf f k (substitute s t) (substitute s u)
instance_maps of k s m f t u h = record {
  put = λ v. substitute s (h.put v);
  within = λ v. IsIn-substitute of k s (class_at f.classes v) (h.put v) (h.within v) m;
  argument = ap (substitute s) h.argument ∙ substitute-substitute s h.put f.argument;
  result = ap (substitute s) h.result ∙ substitute-substitute s h.put f.result;
}

-- what a name means in one world it means in the other, at the types put for variables
pub record MapsAt (s : ℕ → Term) (w w' : Assumptions) (y : List ℕ) : Type 0 where
  pub variables : (t : Term) → w.names.variables y ≡ Some t → w'.names.variables y ≡ Some (substitute s t)
  pub functions : (m : Callable) (t u : Term) → w.names.functions y ≡ Some m → CallableTakes w.of m t u → (m' : Callable) × (w'.names.functions y ≡ Some m') × CallableTakes w'.of m' (substitute s t) (substitute s u)

pub record Maps (s : ℕ → Term) (w w' : Assumptions) : Type 0 where
  pub classes : (v : ℕ) → IsIn w'.of (w.of v) (s v)
  pub datatypes : (y : List ℕ) (d : ℕ × Term) → w.names.datatypes y ≡ Some d → (w'.names.datatypes y ≡ Some d) × (substitute s d.1 ≡ d.1)
  pub allowed : (t : Term) → IsAllowed w.limit t → IsAllowed w'.limit (substitute s t)

newest-with : (s : ℕ → Term) (test : Key → Bool) (ts : LocalTypes) → newest_type test (scope_with s ts) ≡ option_map (substitute s) (newest_type test ts)
newest-with s test [] = refl
newest-with s test (b ∷ ts) = either (test b.0) (newest-with s test ts)
  where
    either : (c : Bool) → newest_type test (scope_with s ts) ≡ option_map (substitute s) (newest_type test ts) →
        cond c (Some (substitute s b.1)) (newest_type test (scope_with s ts)) ≡ option_map (substitute s) (cond c (Some b.1) (newest_type test ts))
    either true e = refl
    either false e = e

pub with-append : (s : ℕ → Term) (ts us : LocalTypes) → scope_with s (ts ++ us) ≡ scope_with s ts ++ scope_with s us
with-append s [] us = refl
with-append s (b ∷ ts) us = ap (λ (l : LocalTypes). (b.0, substitute s b.1) ∷ l) (with-append s ts us)

-- these names are local
abbrev pub Hides : (List ℕ → Bool) → LocalTypes → Type 0
Hides hid ts = (x : List ℕ) → local_type x ts ≡ None → hid x ≡ false

or_left : (a b : Bool) → a ≡ true → (a || b) ≡ true
or_left true b e = refl
or_left false b e = cc

or_right : (a b : Bool) → b ≡ true → (a || b) ≡ true
or_right true b e = refl
or_right false b e = e

and_not : (a b : Bool) → a ≡ true → b ≡ false → (a && not b) ≡ true
and_not true true e d = cc
and_not true false e d = refl
and_not false b e d = cc

both_false : (a b : Bool) → a ≡ false → b ≡ false → (a || b) ≡ false
both_false true b e d = e
both_false false b e d = d

or_shift : (a b c : Bool) → ((a || b) || c) ≡ false → (a || (b || c)) ≡ false
or_shift true b c e = e
or_shift false b c e = e

hides_name : (x : List ℕ) (t : Term) (hid : List ℕ → Bool) (ts : LocalTypes) → Hides hid ts → Hides (λ y. hid y || bytes_eq y x) ((name x, t) ∷ ts)
hides_name x t hid ts h y e = either (bytes_eq y x) e
  where
    either : (c : Bool) → cond c (Some t) (local_type y ts) ≡ None → (hid y || c) ≡ false
    either true e = cc
    either false e = both_false (hid y) false (h y e) refl

mutual
  pub hides_parts : (w : Assumptions) (p : PatternTree) (t : Term) (ns : LocalTypes) → PatternAdds w p t ns → (hid : List ℕ → Bool) (ts : LocalTypes) → Hides hid ts → Hides (λ y. hid y || binds y p) (ns ++ ts)
  hides_parts w (pattern s k) t ns h = hides_shape w k t ns h.1

  hides_shape : (w : Assumptions) (k : PatternShape) (t : Term) (ns : LocalTypes) → PatternShapeAdds w k t ns → (hid : List ℕ → Bool) (ts : LocalTypes) → Hides hid ts → Hides (λ y. hid y || binds_in y k) (ns ++ ts)
  hides_shape w (trees.name_pattern x) t ns h hid ts g = subst (λ ns. Hides (λ y. hid y || bytes_eq y x) (ns ++ ts)) (sym h) (hides_name x t hid ts g)
  hides_shape w (trees.pair_pattern p q) t ns (u, v, ms, os, e, hp, hq, es) hid ts g =
      subst (λ ns. Hides (λ y. hid y || (binds y p || binds y q)) (ns ++ ts)) (sym es)
      (subst (Hides (λ y. hid y || (binds y p || binds y q))) (sym (append_assoc os ms ts))
      (λ y n. or_shift (hid y) (binds y p) (binds y q) (hides_parts w q v os hq (λ y. hid y || binds y p) (ms ++ ts) (hides_parts w p u ms hp hid ts g) y n)))
  hides_shape w (trees.record_pattern x p) t ns (u, d, hp) hid ts g = hides_parts w p u ns hp hid ts g

pub hides_all : (w : Assumptions) (bs : Binders) (is : List Term) (ns : LocalTypes) → PatternsAdd w bs is ns → (hid : List ℕ → Bool) (ts : LocalTypes) → Hides hid ts → Hides (λ y. hid y || some_binds y bs) (ns ++ ts)
hides_all w no_binders [] ns h hid ts g = subst (λ ns. Hides (λ y. hid y || false) (ns ++ ts)) (sym h) (λ y n. both_false (hid y) false (g y n) refl)
hides_all w no_binders (i ∷ is) ns h hid ts g = absurd h
hides_all w (binder p e bs) [] ns h hid ts g = absurd h
hides_all w (binder p e bs) (i ∷ is) ns (ms, os, hp, hs, es) hid ts g =
    subst (λ ns. Hides (λ y. hid y || (binds y p || some_binds y bs)) (ns ++ ts)) (sym es)
    (subst (Hides (λ y. hid y || (binds y p || some_binds y bs))) (sym (append_assoc os ms ts))
    (λ y n. or_shift (hid y) (binds y p) (some_binds y bs) (hides_all w bs is os hs (λ y. hid y || binds y p) (ms ++ ts) (hides_parts w p i ms hp hid ts g) y n)))

pub hides_bound : (w : Assumptions) (bs : Binders) (sc ns : LocalTypes) → BindingsAdd w sc bs ns → (hid : List ℕ → Bool) (ts : LocalTypes) → Hides hid ts → Hides (λ y. hid y || some_binds y bs) (ns ++ ts)
hides_bound w no_binders sc ns h hid ts g = subst (λ ns. Hides (λ y. hid y || false) (ns ++ ts)) (sym h) (λ y n. both_false (hid y) false (g y n) refl)
hides_bound w (binder p e bs) sc ns (u, ms, os, he, hp, hs, es) hid ts g =
    subst (λ ns. Hides (λ y. hid y || (binds y p || some_binds y bs)) (ns ++ ts)) (sym es)
    (subst (Hides (λ y. hid y || (binds y p || some_binds y bs))) (sym (append_assoc os ms ts))
    (λ y n. or_shift (hid y) (binds y p) (some_binds y bs) (hides_bound w bs (ms ++ sc) os hs (λ y. hid y || binds y p) (ms ++ ts) (hides_parts w p u ms hp hid ts g) y n)))

pub hides_drawn : (w : Assumptions) (bs : Binders) (is : List Term) (ns : LocalTypes) → BindersAdd w bs is ns → (hid : List ℕ → Bool) (ts : LocalTypes) → Hides hid ts → Hides (λ y. hid y || some_binds y bs) (ns ++ ts)
hides_drawn w bs [] ns h hid ts g = absurd h
hides_drawn w bs (i ∷ is) ns (ms, hp, es) hid ts g =
    subst (Hides (λ y. hid y || some_binds y bs)) (sym (ap (λ ns. ns ++ ts) es ∙ append_assoc ms ((element, i) ∷ []) ts))
    (hides_all w bs (i ∷ is) ms hp hid ((element, i) ∷ ts) (λ x e. g x e))

module _ (s : ℕ → Term) (w w' : Assumptions) (maps : Maps s w w') where
  abbrev S : Term → Term
  S t = substitute s t

  abbrev Q : LocalTypes → LocalTypes
  Q ts = scope_with s ts

  mutual
    pub parts_map : (p : PatternTree) (t : Term) (ns : LocalTypes) → PatternAdds w p t ns → PatternAdds w' p (S t) (Q ns)
    parts_map (pattern z k) t ns h = (maps.allowed t h.0, shape_parts_map k t ns h.1)

    pub shape_parts_map : (k : PatternShape) (t : Term) (ns : LocalTypes) → PatternShapeAdds w k t ns → PatternShapeAdds w' k (S t) (Q ns)
    shape_parts_map (trees.name_pattern x) t ns h = ap (scope_with s) h
    shape_parts_map (trees.pair_pattern p q) t ns (u, v, ms, os, e, hp, hq, es) =
        (S u, S v, Q ms, Q os, ap (substitute s) e, parts_map p u ms hp, parts_map q v os hq, ap (scope_with s) es ∙ with-append s os ms)
    shape_parts_map (trees.record_pattern x p) t ns (u, (d, e, et, eu), hp) =
        (S u, (d, (maps.datatypes x d e).0, ap (substitute s) et, ap (substitute s) eu ∙ (maps.datatypes x d e).1), parts_map p u ns hp)

  pub all_parts_map : (bs : Binders) (is : List Term) (ns : LocalTypes) → PatternsAdd w bs is ns → PatternsAdd w' bs (map (substitute s) is) (Q ns)
  all_parts_map no_binders [] ns h = ap (scope_with s) h
  all_parts_map no_binders (i ∷ is) ns h = absurd h
  all_parts_map (binder p e bs) [] ns h = absurd h
  all_parts_map (binder p e bs) (i ∷ is) ns (ms, os, hp, hs, es) = (Q ms, Q os, parts_map p i ms hp, all_parts_map bs is os hs, ap (scope_with s) es ∙ with-append s os ms)

  draws_map : (bs : Binders) (is : List Term) (ns : LocalTypes) → BindersAdd w bs is ns → BindersAdd w' bs (map (substitute s) is) (Q ns)
  draws_map bs [] ns h = absurd h
  draws_map bs (i ∷ is) ns (ms, hp, es) = (Q ms, all_parts_map bs (i ∷ is) ms hp, ap (scope_with s) es ∙ with-append s ms ((element, i) ∷ []))

  mutual
    pub written_map : (a : TypeTree) (t : Term) → IsWritten w.names.datatypes a t → IsWritten w'.names.datatypes a (S t)
    written_map (written z k) t h = written_shape_map k t h

    pub written_shape_map : (k : TypeShape) (t : Term) → IsWrittenShape w.names.datatypes k t → IsWrittenShape w'.names.datatypes k (S t)
    written_shape_map trees.int t h = ap (substitute s) h
    written_shape_map trees.bool t h = ap (substitute s) h
    written_shape_map trees.char t h = ap (substitute s) h
    written_shape_map (trees.named x z) t (d, e, q) = (d, (maps.datatypes x d e).0, ap (substitute s) q)
    written_shape_map (trees.sequence_type a) t (u, h, q) = (S u, written_map a u h, ap (substitute s) q)
    written_shape_map (trees.pair_type a b) t (u, v, h, k, q) = (S u, S v, written_map a u h, written_map b v k, ap (substitute s) q)

  -- each name that is referred to means the same
  abbrev pub Meant : (List ℕ → Bool) → Type 0
  Meant r = (y : List ℕ) → r y ≡ true → MapsAt s w w' y

  abbrev left : (a b : List ℕ → Bool) → Meant (λ y. a y || b y) → Meant a
  left a b m y e = m y (or_left (a y) (b y) e)

  abbrev right : (a b : List ℕ → Bool) → Meant (λ y. a y || b y) → Meant b
  right a b m y e = m y (or_right (a y) (b y) e)

  instance_map : (f : FunctionType) (t u : Term) → IsInstanceOf f w.of t u → IsInstanceOf f w'.of (S t) (S u)
  instance_map = instance_maps w.of w'.of s maps.classes

  variable_map : (x : List ℕ) (hid : List ℕ → Bool) (ts : LocalTypes) (t : Term) (o : Option Term) → local_type x ts ≡ o → Hides hid ts → Meant (λ y. bytes_eq y x && not (hid y))
      → IsVariable w x o t → IsVariable w' x (option_map (substitute s) o) (S t)
  variable_map x hid ts t (Some u) e g m h = ap (substitute s) h
  variable_map x hid ts t None e g m h =
      (m x (and_not (bytes_eq x x) (hid x) ((bytes_eq-Decides x x).1 refl) (g x e))).variables t h

  mutual
    pub typed_map : (e : Tree) (hid : List ℕ → Bool) (ts : LocalTypes) (t : Term) → Hides hid ts → Meant (λ y. refers y (hid y) e) → HasType w ts e t → HasType w' (Q ts) e (S t)
    typed_map (node z k) hid ts t g m h = (maps.allowed t h.0, shape_map k hid ts t g m h.1)

    pub shape_map : (k : Shape) (hid : List ℕ → Bool) (ts : LocalTypes) (t : Term) → Hides hid ts → Meant (λ y. refers_in y (hid y) k) → HasShapeType w ts k t → HasShapeType w' (Q ts) k (S t)
    shape_map (trees.number n) hid ts t g m h = ap (substitute s) h
    shape_map (trees.truth b) hid ts t g m h = ap (substitute s) h
    shape_map (trees.character c) hid ts t g m h = ap (substitute s) h
    shape_map (trees.text cs) hid ts t g m h = ap (substitute s) h
    shape_map (trees.variable x) hid ts t g m h = subst (λ o. IsVariable w' x o (S t)) (sym (newest-with s (is_name x) ts)) (variable_map x hid ts t (local_type x ts) refl g m h)
    shape_map (trees.call x a) hid ts t g m (u, ha, (c, hc, k)) =
        let at = m x (or_left (bytes_eq x x) (refers x (hid x) a) ((bytes_eq-Decides x x).1 refl)) in
        let r = at.functions c u t hc k in
        (S u, typed_map a hid ts u g (λ y e. m y (or_right (bytes_eq y x) (refers y (hid y) a) e)) ha, r)
    shape_map (trees.pair a b) hid ts t g m (u, v, ha, hb, e) =
        (S u, S v, typed_map a hid ts u g (λ y e. m y (or_left (refers y (hid y) a) (refers y (hid y) b) e)) ha, typed_map b hid ts v g (λ y e. m y (or_right (refers y (hid y) a) (refers y (hid y) b) e)) hb, ap (substitute s) e)
    shape_map (trees.prefix_of o a) hid ts t g m (u, ha, i) = (S u, typed_map a hid ts u g m ha, instance_map (builtin_type (prefix_builtin o)) u t i)
    shape_map (trees.infix_of o a b) hid ts t g m (u, v, ha, hb, i) = (
      S u,
      S v,
      typed_map a hid ts u g (λ y e. m y (or_left (refers y (hid y) a) (refers y (hid y) b) e)) ha,
      typed_map b hid ts v g (λ y e. m y (or_right (refers y (hid y) a) (refers y (hid y) b) e)) hb,
      instance_map (builtin_type (infix_builtin o)) (pair_of u v) t i,
    )
    shape_map (trees.index a b) hid ts t g m h =
        (typed_map a hid ts (seq_of t) g (λ y e. m y (or_left (refers y (hid y) a) (refers y (hid y) b) e)) h.0, typed_map b hid ts int g (λ y e. m y (or_right (refers y (hid y) a) (refers y (hid y) b) e)) h.1)
    shape_map (trees.choice a b c) hid ts t g m h = (
      typed_map a hid ts bool g (λ y e. m y (or_left (refers y (hid y) a) (refers y (hid y) b || refers y (hid y) c) e)) h.0,
      typed_map b hid ts t g (λ y e. m y (or_right (refers y (hid y) a) (refers y (hid y) b || refers y (hid y) c) (or_left (refers y (hid y) b) (refers y (hid y) c) e))) h.1,
      typed_map c hid ts t g (λ y e. m y (or_right (refers y (hid y) a) (refers y (hid y) b || refers y (hid y) c) (or_right (refers y (hid y) b) (refers y (hid y) c) e))) h.2,
    )
    shape_map (trees.sequence es) hid ts t g m (u, h, e) = (S u, all_map es hid ts u g m h, ap (substitute s) e)
    shape_map (trees.empty a) hid ts t g m (u, h, e) = (S u, written_map a u h, ap (substitute s) e)
    shape_map (trees.range a b) hid ts t g m h =
        (typed_map a hid ts int g (λ y e. m y (or_left (refers y (hid y) a) (refers y (hid y) b) e)) h.0, typed_map b hid ts int g (λ y e. m y (or_right (refers y (hid y) a) (refers y (hid y) b) e)) h.1, ap (substitute s) h.2)
    shape_map (trees.strided_range a b c) hid ts t g m h = (
      typed_map a hid ts int g (λ y e. m y (or_left (refers y (hid y) a) (refers y (hid y) b || refers y (hid y) c) e)) h.0,
      typed_map b hid ts int g (λ y e. m y (or_right (refers y (hid y) a) (refers y (hid y) b || refers y (hid y) c) (or_left (refers y (hid y) b) (refers y (hid y) c) e))) h.1,
      typed_map c hid ts int g (λ y e. m y (or_right (refers y (hid y) a) (refers y (hid y) b || refers y (hid y) c) (or_right (refers y (hid y) b) (refers y (hid y) c) e))) h.2,
      ap (substitute s) h.3,
    )
    shape_map (trees.let_in bs e) hid ts t g m (ns, hb, he) = (
      Q ns,
      bindings_map bs hid ts ns g (λ y e'. m y (or_left (bindings_refer y (hid y) bs) (refers y (hid y || some_binds y bs) e) e')) hb,
      subst (λ l. HasType w' l e (S t)) (with-append s ns ts) (typed_map e (λ y. hid y || some_binds y bs) (ns ++ ts) t (hides_bound w bs ts ns hb hid ts g)
          (λ y e'. m y (or_right (bindings_refer y (hid y) bs) (refers y (hid y || some_binds y bs) e) e')) he),
    )
    shape_map (trees.each e bs) hid ts t g m (is, ns, u, hs, hp, he, q) =
        let inside = hides_drawn w bs is ns hp hid ts g in (
          map (substitute s) is,
          Q ns,
          S u,
          elements_map bs hid ts is g (λ y e'. m y (or_left (drawn_refers y (hid y) bs) (refers y (hid y || some_binds y bs) e) e')) hs,
          draws_map bs is ns hp,
          subst (λ l. HasType w' l e (S u)) (with-append s ns ts) (typed_map e (λ y. hid y || some_binds y bs) (ns ++ ts) u inside (λ y e'. m y (or_right (drawn_refers y (hid y) bs) (refers y (hid y || some_binds y bs) e) e')) he),
          ap (substitute s) q,
        )
    shape_map (trees.filtered_each e bs c) hid ts t g m (is, ns, u, hs, hp, he, hc, q) =
        let inside = hides_drawn w bs is ns hp hid ts g in (
          map (substitute s) is,
          Q ns,
          S u,
          elements_map bs hid ts is g (λ y e'. m y (or_left (drawn_refers y (hid y) bs) (refers y (hid y || some_binds y bs) e || refers y (hid y || some_binds y bs) c) e')) hs,
          draws_map bs is ns hp,
          subst (λ l. HasType w' l e (S u)) (with-append s ns ts) (typed_map e (λ y. hid y || some_binds y bs) (ns ++ ts) u inside
              (λ y e'. m y (or_right (drawn_refers y (hid y) bs) (refers y (hid y || some_binds y bs) e || refers y (hid y || some_binds y bs) c) (or_left (refers y (hid y || some_binds y bs) e) (refers y (hid y || some_binds y bs) c) e'))) he),
          subst (λ l. HasType w' l c bool) (with-append s ns ts) (typed_map c (λ y. hid y || some_binds y bs) (ns ++ ts) bool inside
              (λ y e'. m y (or_right (drawn_refers y (hid y) bs) (refers y (hid y || some_binds y bs) e || refers y (hid y || some_binds y bs) c) (or_right (refers y (hid y || some_binds y bs) e) (refers y (hid y || some_binds y bs) c) e'))) hc),
          ap (substitute s) q,
        )
    shape_map trees.element hid ts t g m h = newest-with s is_element ts ∙ ap (option_map (substitute s)) h

    pub all_map : (es : Trees) (hid : List ℕ → Bool) (ts : LocalTypes) (t : Term) → Hides hid ts → Meant (λ y. any_refers y (hid y) es) → HaveType w ts es t → HaveType w' (Q ts) es (S t)
    all_map none hid ts t g m h = tt
    all_map (more e es) hid ts t g m h =
        (typed_map e hid ts t g (λ y e'. m y (or_left (refers y (hid y) e) (any_refers y (hid y) es) e')) h.0, all_map es hid ts t g (λ y e'. m y (or_right (refers y (hid y) e) (any_refers y (hid y) es) e')) h.1)

    pub bindings_map : (bs : Binders) (hid : List ℕ → Bool) (ts ns : LocalTypes) → Hides hid ts → Meant (λ y. bindings_refer y (hid y) bs) → BindingsAdd w ts bs ns → BindingsAdd w' (Q ts) bs (Q ns)
    bindings_map no_binders hid ts ns g m h = ap (scope_with s) h
    bindings_map (binder p e bs) hid ts ns g m (u, ms, os, he, hp, hs, es) = (
      S u,
      Q ms,
      Q os,
      typed_map e hid ts u g (λ y e'. m y (or_left (refers y (hid y) e) (bindings_refer y (hid y || binds y p) bs) e')) he,
      parts_map p u ms hp,
      subst (λ l. BindingsAdd w' l bs (Q os)) (with-append s ms ts)
          (bindings_map bs (λ y. hid y || binds y p) (ms ++ ts) os (hides_parts w p u ms hp hid ts g) (λ y e'. m y (or_right (refers y (hid y) e) (bindings_refer y (hid y || binds y p) bs) e')) hs),
      ap (scope_with s) es ∙ with-append s os ms,
    )

    pub elements_map : (bs : Binders) (hid : List ℕ → Bool) (ts : LocalTypes) (is : List Term) → Hides hid ts → Meant (λ y. drawn_refers y (hid y) bs) → HaveElements w ts bs is → HaveElements w' (Q ts) bs (map (substitute s) is)
    elements_map no_binders hid ts [] g m h = tt
    elements_map no_binders hid ts (i ∷ is) g m h = absurd h
    elements_map (binder p e bs) hid ts [] g m h = absurd h
    elements_map (binder p e bs) hid ts (i ∷ is) g m h =
        (typed_map e hid ts (seq_of i) g (λ y e'. m y (or_left (refers y (hid y) e) (drawn_refers y (hid y) bs) e')) h.0, elements_map bs hid ts is g (λ y e'. m y (or_right (refers y (hid y) e) (drawn_refers y (hid y) bs) e')) h.1)
