-- A variable of the top level may be typed like a local name.
use Rattle.std.proofs.Common.{◌≡◌, ◌<◌, ◌≤◌, ℕ, Bool, true, false, cond, List, [], ◌∷◌, ◌++◌, refl, sym, ap, ◌∙◌, subst}
use Rattle.std.specs.Prelude.{Option, Some, None}
use Rattle.std.specs.Str.{bytes_eq}
use Rattle.std.proofs.lemmas.Slice.Eq.{bytes_eq-Decides}
use Rattle.nesl_types_shared.specs.Term.{Term, int, bool, seq_of, nodes}
use Rattle.nesl_syntax_tree.specs.Trees.{Tree, Shape, Trees, Binders, node, none, more, no_binders, binder}
use Rattle.nesl_syntax_tree.specs.Trees as trees
use Rattle.nesl_infer_rules.specs.declared.state.State.{State}
use Rattle.nesl_infer_rules.specs.World.{Assumptions, TypedNames}
use Rattle.nesl_infer_rules.specs.Typing.{LocalTypes, is_name, is_element, name, local_type, newest_type, IsVariable, HasType, HasShapeType, HaveType, BindingsAdd, HaveElements}
use Rattle.nesl_infer_rules.specs.Principal.{bounded}
use Rattle.nesl_infer_rules.specs.Steps.{count, Adds}
use Rattle.nesl_infer_rules.proofs.Arms.{AnyTerm, Types}
use Rattle.nesl_infer_rules.proofs.Lets.{under-moves}
use Rattle.nesl_infer_rules.proofs.Places.{IsFixed}
use Rattle.nesl_infer_rules.proofs.Steps.{gives_and, adds_as}

-- what a name means under `sc` it means under `os`, and the element is the same
pub record Covers (w : Assumptions) (sc os : LocalTypes) : Type 0 where
  pub names : (x : List ℕ) (t : Term) → IsVariable w x (local_type x sc) t → IsVariable w x (local_type x os) t
  pub item : newest_type is_element sc ≡ newest_type is_element os

one_more : (w : Assumptions) (x : List ℕ) (t u : Term) (o p : Option Term) (c : Bool) → (IsVariable w x o t → IsVariable w x p t) →
    IsVariable w x (cond c (Some u) o) t → IsVariable w x (cond c (Some u) p) t
one_more w x t u o p true h k = k
one_more w x t u o p false h k = h k

covers_under : (w : Assumptions) (ns sc os : LocalTypes) → Covers w sc os → Covers w (ns ++ sc) (ns ++ os)
covers_under w [] sc os h = h
covers_under w (b ∷ ns) sc os h =
    let k = covers_under w ns sc os h in
    record {
      names = λ x t. one_more w x t b.1 (local_type x (ns ++ sc)) (local_type x (ns ++ os)) (is_name x b.0) (k.names x t);
      item = ap (λ (o : Option Term). cond (is_element b.0) (Some b.1) o) k.item;
    }

module _ (w : Assumptions) where
  mutual
    typed_covered : (e : Tree) (sc os : LocalTypes) (t : Term) → Covers w sc os → HasType w sc e t → HasType w os e t
    typed_covered (node s k) sc os t q h = (h.0, shape_covered k sc os t q h.1)

    shape_covered : (k : Shape) (sc os : LocalTypes) (t : Term) → Covers w sc os → HasShapeType w sc k t → HasShapeType w os k t
    shape_covered (trees.number n) sc os t q h = h
    shape_covered (trees.truth b) sc os t q h = h
    shape_covered (trees.character c) sc os t q h = h
    shape_covered (trees.text bytes) sc os t q h = h
    shape_covered (trees.variable x) sc os t q h = q.names x t h
    shape_covered (trees.call f a) sc os t q h = (h.0, typed_covered a sc os h.0 q h.1, h.2)
    shape_covered (trees.pair a b) sc os t q h = (h.0, h.1, typed_covered a sc os h.0 q h.2, typed_covered b sc os h.1 q h.3, h.4)
    shape_covered (trees.prefix_of o a) sc os t q h = (h.0, typed_covered a sc os h.0 q h.1, h.2)
    shape_covered (trees.infix_of o a b) sc os t q h = (h.0, h.1, typed_covered a sc os h.0 q h.2, typed_covered b sc os h.1 q h.3, h.4)
    shape_covered (trees.index a b) sc os t q h = (typed_covered a sc os (seq_of t) q h.0, typed_covered b sc os int q h.1)
    shape_covered (trees.choice a b c) sc os t q h = (typed_covered a sc os bool q h.0, typed_covered b sc os t q h.1, typed_covered c sc os t q h.2)
    shape_covered (trees.sequence es) sc os t q h = (h.0, all_covered es sc os h.0 q h.1, h.2)
    shape_covered (trees.empty a) sc os t q h = h
    shape_covered (trees.range a b) sc os t q h = (typed_covered a sc os int q h.0, typed_covered b sc os int q h.1, h.2)
    shape_covered (trees.strided_range a b c) sc os t q h =
        (typed_covered a sc os int q h.0, typed_covered b sc os int q h.1, typed_covered c sc os int q h.2, h.3)
    shape_covered (trees.let_in bs e) sc os t q h =
        (h.0, bindings_covered bs sc os h.0 q h.1, typed_covered e (h.0 ++ sc) (h.0 ++ os) t (covers_under w h.0 sc os q) h.2)
    shape_covered (trees.each e bs) sc os t q h =
        (h.0, h.1, h.2, elements_covered bs sc os h.0 q h.3, h.4, typed_covered e (h.1 ++ sc) (h.1 ++ os) h.2 (covers_under w h.1 sc os q) h.5, h.6)
    shape_covered (trees.filtered_each e bs f) sc os t q h =
        let under = covers_under w h.1 sc os q in
        (h.0, h.1, h.2, elements_covered bs sc os h.0 q h.3, h.4, typed_covered e (h.1 ++ sc) (h.1 ++ os) h.2 under h.5, typed_covered f (h.1 ++ sc) (h.1 ++ os) bool under h.6, h.7)
    shape_covered trees.element sc os t q h = sym q.item ∙ h

    all_covered : (es : Trees) (sc os : LocalTypes) (t : Term) → Covers w sc os → HaveType w sc es t → HaveType w os es t
    all_covered none sc os t q h = tt
    all_covered (more e es) sc os t q h = (typed_covered e sc os t q h.0, all_covered es sc os t q h.1)

    bindings_covered : (bs : Binders) (sc os ns : LocalTypes) → Covers w sc os → BindingsAdd w sc bs ns → BindingsAdd w os bs ns
    bindings_covered no_binders sc os ns q h = h
    bindings_covered (binder p e bs) sc os ns q h =
        (h.0, h.1, h.2, typed_covered e sc os h.0 q h.3, h.4, bindings_covered bs (h.1 ++ sc) (h.1 ++ os) h.2 (covers_under w h.1 sc os q) h.5, h.6)

    elements_covered : (bs : Binders) (sc os : LocalTypes) (is : List Term) → Covers w sc os → HaveElements w sc bs is → HaveElements w os bs is
    elements_covered no_binders sc os [] q h = tt
    elements_covered no_binders sc os (i ∷ is) q h = absurd h
    elements_covered (binder p e bs) sc os [] q h = absurd h
    elements_covered (binder p e bs) sc os (i ∷ is) q h = (typed_covered e sc os (seq_of i) q h.0, elements_covered bs sc os is q h.1)

-- the newest local name is a variable of the top level, with its type
module _ (w : Assumptions) (x : List ℕ) (t : Term) (sc : LocalTypes) (is : w.names.variables x ≡ Some t) (absent : local_type x sc ≡ None) where
  some_same : (u v : Term) → Some u ≡ Some v → v ≡ u
  some_same u v e = cc

  -- what the name means without the local one
  at_name : (y : List ℕ) (u : Term) → y ≡ x → IsVariable w y (local_type y sc) u → u ≡ t
  at_name y u e h =
      some_same t u (sym is ∙ subst (λ (o : Option Term). IsVariable w x o u) absent (subst (λ (z : List ℕ). IsVariable w z (local_type z sc) u) e h))

  from_name : (y : List ℕ) (u : Term) → y ≡ x → u ≡ t → IsVariable w y (local_type y sc) u
  from_name y u e h =
      subst (λ (z : List ℕ). IsVariable w z (local_type z sc) u) (sym e) (subst (λ (o : Option Term). IsVariable w x o u) (sym absent) (is ∙ ap Some (sym h)))

  hidden_by : (y : List ℕ) (u : Term) (c : Bool) → (c ≡ true → y ≡ x) → IsVariable w y (local_type y sc) u → IsVariable w y (cond c (Some t) (local_type y sc)) u
  hidden_by y u true d h = at_name y u (d refl) h
  hidden_by y u false d h = h

  shown_by : (y : List ℕ) (u : Term) (c : Bool) → (c ≡ true → y ≡ x) → IsVariable w y (cond c (Some t) (local_type y sc)) u → IsVariable w y (local_type y sc) u
  shown_by y u true d h = from_name y u (d refl) h
  shown_by y u false d h = h

  same_name : (y : List ℕ) → bytes_eq y x ≡ true → y ≡ x
  same_name y e = (bytes_eq-Decides y x).0 e

  pub covered : Covers w sc ((name x, t) ∷ sc)
  covered = record { names = λ y u. hidden_by y u (bytes_eq y x) (same_name y); item = refl }

  pub uncovered : Covers w ((name x, t) ∷ sc) sc
  uncovered = record { names = λ y u. shown_by y u (bytes_eq y x) (same_name y); item = refl }

-- one variable that is typed once
pub arm_repeated : {A B C D : State} (N : (ℕ → Term) → TypedNames) (S : (ℕ → Term) → LocalTypes) → IsFixed (count A) N S → (x : List ℕ) (e : Tree) (u v : ℕ) → v < count A →
    ((s : ℕ → Term) → (t : Term) × (nodes t ≤ 4096) × ((N s).variables x ≡ Some t)) → ((s : ℕ → Term) → local_type x (S s) ≡ None) →
    AnyTerm A B u → Adds B C (λ s of. (N s).variables x ≡ Some (s u)) →
    Adds C D (λ s of. HasType (bounded (N s) of) ((name x, s u) ∷ S s) e (s v)) → Types A D N S e v
arm_repeated {A = A} N S f x e u v inside usable absent p1 p2 p3 =
    let q2 = gives_and (λ s of t. nodes t ≤ 4096) (λ t s of. (N s).variables x ≡ Some t) p1 p2
    (λ t s z of a h. subst (λ (ns : TypedNames). ns.variables x ≡ Some t) (f.names s z a) h) in
    let q3 = gives_and _ (λ t s of. HasType (bounded (N s) of) ((name x, t) ∷ S s) e (s v)) q2 p3
    (λ t s z of a h. subst (λ (k : Term). HasType (bounded (N z) of) ((name x, t) ∷ S z) e k) (a v inside) (under-moves (count A) N S f ((name x, t) ∷ []) e s z of (s v) a h)) in
    adds_as _ (λ s of. HasType (bounded (N s) of) (S s) e (s v)) q3
    (λ s of b h. typed_covered (bounded (N s) of) e ((name x, s u) ∷ S s) (S s) (s v) (uncovered (bounded (N s) of) x (s u) (S s) h.0.1 (absent s)) h.1)
    (λ s of h.
    let k = usable s in
    (k.0, ((k.1, k.2), typed_covered (bounded (N s) of) e (S s) ((name x, k.0) ∷ S s) (s v) (covered (bounded (N s) of) x k.0 (S s) k.2 (absent s)) h)))

-- the same under a scope that is written otherwise
pub under_same : {A B : State} (N : (ℕ → Term) → TypedNames) (R S : (ℕ → Term) → LocalTypes) (e : Tree) (v : ℕ) → ((s : ℕ → Term) → R s ≡ S s) → Types A B N R e v → Types A B N S e v
under_same N R S e v same p =
    adds_as (λ s of x. HasType (bounded (N s) of) (R s) e (s v)) (λ s of. HasType (bounded (N s) of) (S s) e (s v)) p
    (λ s of b h. subst (λ (sc : LocalTypes). HasType (bounded (N s) of) sc e (s v)) (same s) h)
    (λ s of h. (tt, subst (λ (sc : LocalTypes). HasType (bounded (N s) of) sc e (s v)) (sym (same s)) h))
