-- What each kind of node adds, from what its parts add.
use Rattle.std.proofs.Common.{◌≡◌, ◌<◌, ◌≤◌, ℕ, List, ◌++◌, map, refl, sym, ap, ◌∙◌, subst, arith}
use Rattle.std.specs.Prelude.{Result, OnOk, Option, Some}
use Rattle.std.proofs.lemmas.Result.{on_ok_weaker}
use Rattle.nesl_types.specs.declared.classes.Class.{Class}
use Rattle.nesl_types_shared.specs.Term.{Term, int, bool, seq_of, pair_of, nodes}
use Rattle.nesl_syntax_tree.specs.Trees.{Tree, Shape, Binders}
use Rattle.nesl_syntax_tree.specs.Trees as trees
use Rattle.nesl_syntax_tree.specs.Views.{tree_of, shape_of}
use Rattle.nesl_syntax_tree.specs.declared.tree.Exp.{Exp}
use Rattle.nesl_syntax_tree.specs.declared.tree.Node as declared
use Rattle.nesl_syntax_tree.specs.declared.tree.Operator.{Operator}
use Rattle.nesl_syntax_tree.specs.declared.tree.Prefix.{Prefix}
use Rattle.nesl_builtins.specs.FunctionTypes.{builtin_type}
use Rattle.nesl_builtins.specs.Named.{infix_builtin, prefix_builtin}
use Rattle.nesl_infer_rules.specs.declared.state.State.{State}
use Rattle.nesl_infer_rules.specs.declared.state.Local.{Local}
use Rattle.nesl_infer_rules.specs.World.{TypedNames}
use Rattle.nesl_infer_rules.specs.Typing.{LocalTypes, HasType, HasShapeType, HaveElements, BindersAdd, BindingsAdd, IsInstanceOf, IsVariable, NameTakes, local_type}
use Rattle.nesl_infer_rules.specs.Principal.{bounded}
use Rattle.nesl_infer.specs.Items.{HaveItemType}
use Rattle.nesl_infer_rules.specs.Steps.{count, Gives, Adds, AddsNames, scope_at}
use Rattle.nesl_infer_rules.proofs.Places.{IsFixed, typed-moves, small}
use Rattle.nesl_infer_rules.proofs.Steps.{gives_then, gives_and, gives_as, adds_as}
use Rattle.nesl_infer_rules.proofs.Arms.{AnyTerm, Exactly, Types, arm_shape}
use Rattle.nesl_infer_rules.proofs.Applied.{Applies}
use Rattle.nesl_infer_rules.proofs.Patterns.{scope-append}
use Rattle.nesl_infer_rules.proofs.Lets.{BindsOf, under, under-moves}
use Rattle.nesl_infer_rules.proofs.Eaches.{ElementsOf, DrawsOf}

-- a step that gives a variable for a type of the expression
abbrev pub PartOf : State → State → ((ℕ → Term) → TypedNames) → ((ℕ → Term) → LocalTypes) → Tree → ℕ → Type 0
PartOf A B N S e v = Gives A B (λ s. s v) (λ s of t. HasType (bounded (N s) of) (S s) e t)

-- a step that adds that the expression has this type
abbrev pub IsAt : State → State → ((ℕ → Term) → TypedNames) → ((ℕ → Term) → LocalTypes) → Tree → Term → Type 0
IsAt A B N S e t = Adds A B (λ s of. HasType (bounded (N s) of) (S s) e t)

-- a step that gives a variable for the integers, of which the ends of a range are
abbrev pub BoundsOf : State → State → ((ℕ → Term) → TypedNames) → ((ℕ → Term) → LocalTypes) → Tree → Tree → ℕ → Type 0
BoundsOf A B N S a b n = Gives A B (λ s. s n) (λ s of t. (t ≡ int) × HasType (bounded (N s) of) (S s) a t × HasType (bounded (N s) of) (S s) b t)

-- a step that adds that what is in the node has the type of the variable
abbrev pub Shapes : State → State → ((ℕ → Term) → TypedNames) → ((ℕ → Term) → LocalTypes) → Shape → ℕ → Type 0
Shapes A B N S k v = Adds A B (λ s of. HasShapeType (bounded (N s) of) (S s) k (s v))

-- a node's type, where its shape is known
pub typed : (A B : State) {T E : Type 0} (N : (ℕ → Term) → TypedNames) (S : (ℕ → Term) → LocalTypes) (e : Exp) (k : declared.Node) (h : Shape) (v : ℕ) (r : Result T E) → e.node ≡ k → shape_of k ≡ h →
    OnOk r (Shapes A B N S h v) → OnOk r (Types A B N S (tree_of e) v)
typed A B N S e k h v r p q o =
    let whole : shape_of e.node ≡ h = ap shape_of p ∙ q in
    on_ok_weaker r (arm_shape N S e.span (shape_of e.node) v) (subst (λ (x : Shape). OnOk r (Shapes A B N S x v)) (sym whole) o)

-- the same steps, for equal local names and equal expressions
pub part_as : {A B : State} (N : (ℕ → Term) → TypedNames) (ls ms : List Local) (e d : Exp) (v : ℕ) → ms ≡ ls → d ≡ e →
    PartOf A B N (λ s. scope_at s ms) (tree_of d) v → PartOf A B N (λ s. scope_at s ls) (tree_of e) v
part_as {A = A} {B = B} N ls ms e d v p q h =
    subst (λ (x : List Local). PartOf A B N (λ s. scope_at s x) (tree_of e) v) p (subst (λ (x : Exp). PartOf A B N (λ s. scope_at s ms) (tree_of x) v) q h)

pub exactly_as : {A B : State} (N : (ℕ → Term) → TypedNames) (ls ms : List Local) (e d : Exp) (t : Term) → ms ≡ ls → d ≡ e →
    IsAt A B N (λ s. scope_at s ms) (tree_of d) t → IsAt A B N (λ s. scope_at s ls) (tree_of e) t
exactly_as {A = A} {B = B} N ls ms e d t p q h =
    subst (λ (x : List Local). IsAt A B N (λ s. scope_at s x) (tree_of e) t) p (subst (λ (x : Exp). IsAt A B N (λ s. scope_at s ms) (tree_of x) t) q h)

pub bounds_as : {A B : State} (N : (ℕ → Term) → TypedNames) (S : (ℕ → Term) → LocalTypes) (a b c d : Exp) (v : ℕ) → c ≡ a → d ≡ b → BoundsOf A B N S (tree_of c) (tree_of d) v → BoundsOf A B N S (tree_of a) (tree_of b) v
bounds_as {A = A} {B = B} N S a b c d v p q h =
    subst (λ (x : Exp). BoundsOf A B N S (tree_of x) (tree_of b) v) p (subst (λ (x : Exp). BoundsOf A B N S (tree_of c) (tree_of x) v) q h)

-- a local name's own variable is one for its type
pub part_local : {A : State} (N : (ℕ → Term) → TypedNames) (S : (ℕ → Term) → LocalTypes) (e : Exp) (x : List ℕ) (v : ℕ) → shape_of e.node ≡ trees.variable x →
    ((s : ℕ → Term) → local_type x (S s) ≡ Some (s v)) → v < count A → PartOf A A N S (tree_of e) v
part_local N S e x v is found inside = record {
  more = omega arith;
  fixed = λ s z a. a v inside;
  sound = λ s of b o.
      let w = bounded (N s) of in
      (o, (b v, subst (λ (k : Shape). HasShapeType w (S s) k (s v)) (sym is) (subst (λ (t : Option Term). IsVariable w x t (s v)) (sym (found s)) refl)));
  complete = λ s of b o y c.
      let w = bounded (N s) of in
      let same : y ≡ s v = subst (λ (t : Option Term). IsVariable w x t y) (found s) (subst (λ (k : Shape). HasShapeType w (S s) k y) is c.1) in
      (s, λ _ _. refl, o, b, sym same);
}

module _ {A : State} (N : (ℕ → Term) → TypedNames) (S : (ℕ → Term) → LocalTypes) (f : IsFixed (count A) N S) where
  pub arm_part : {B C : State} (e : Tree) (v : ℕ) → AnyTerm A B v → Types B C N S e v → PartOf A C N S e v
  arm_part e v p h =
      let q = gives_and (λ s of u. nodes u ≤ 4096) (λ x s of. HasType (bounded (N s) of) (S s) e x) p h (λ x s z of a k. typed-moves (count A) N S f e s z of x a k) in
      gives_as (λ s. s v) _ (λ s of t. HasType (bounded (N s) of) (S s) e t) q q.fixed (λ s of b k. k.1) (λ s of y k. (y, (small (bounded (N s) of) (S s) e y 4096 k, k), λ z a d. d))

  pub arm_exactly : {B C : State} (e : Tree) (t : Term) (v : ℕ) → Exactly A B v t → Types B C N S e v → IsAt A C N S e t
  arm_exactly e t v p h =
      let q = gives_and (λ s of u. u ≡ t) (λ x s of. HasType (bounded (N s) of) (S s) e x) p h (λ x s z of a k. typed-moves (count A) N S f e s z of x a k) in
      adds_as _ (λ s of. HasType (bounded (N s) of) (S s) e t) q (λ s of b k. subst (λ (x : Term). HasType (bounded (N s) of) (S s) e x) k.0 k.1) (λ s of k. (t, (refl, k)))

  pub arm_bounds : {B1 B2 C : State} (a b : Tree) (n : ℕ) → Exactly A B1 n int → Types B1 B2 N S a n → Types B2 C N S b n → BoundsOf A C N S a b n
  arm_bounds a b n p1 p2 p3 =
      let q2 = gives_and (λ s of u. u ≡ int) (λ x s of. HasType (bounded (N s) of) (S s) a x) p1 p2 (λ x s z of g k. typed-moves (count A) N S f a s z of x g k) in
      let q3 = gives_and _ (λ x s of. HasType (bounded (N s) of) (S s) b x) q2 p3 (λ x s z of g k. typed-moves (count A) N S f b s z of x g k) in
      gives_as (λ s. s n) _ (λ s of t. (t ≡ int) × HasType (bounded (N s) of) (S s) a t × HasType (bounded (N s) of) (S s) b t) q3 q3.fixed
      (λ s of d k. (k.0.0, k.0.1, k.1)) (λ s of y k. (y, ((k.0, k.1), k.2), λ z g d. d))

  -- two parts, one after the other
  two_parts : {B C : State} (a b : Tree) (l r : ℕ) → PartOf A B N S a l → PartOf B C N S b r →
      Gives {X = Term × Term} A C (λ s. (s l, s r)) (λ s of x. HasType (bounded (N s) of) (S s) a x.0 × HasType (bounded (N s) of) (S s) b x.1)
  two_parts a b l r p1 p2 =
      gives_then (λ s of u. HasType (bounded (N s) of) (S s) a u) (λ x s of u. HasType (bounded (N s) of) (S s) b u) p1 p2
      (λ x s z of y g h. typed-moves (count A) N S f b s z of y g h)

  module _ (v : ℕ) (inside : v < count A) where
    pub arm_pair : {B1 B2 C : State} (a b : Tree) (l r : ℕ) → PartOf A B1 N S a l → PartOf B1 B2 N S b r →
        Adds B2 C (λ s of. s v ≡ pair_of (s l) (s r)) → Shapes A C N S (trees.pair a b) v
    arm_pair a b l r p1 p2 p3 =
        let q = gives_and _ (λ x s of. s v ≡ pair_of x.0 x.1) (two_parts a b l r p1 p2) p3 (λ x s z of g h. sym (g v inside) ∙ h) in
        adds_as _ (λ s of. HasShapeType (bounded (N s) of) (S s) (trees.pair a b) (s v)) q
        (λ s of d h. (s l, s r, h.0.0, h.0.1, h.1))
        (λ s of h. ((h.0, h.1), ((h.2, h.3), h.4)))

    pub arm_infix : {B1 B2 C : State} (o : Operator) (a b : Tree) (l r : ℕ) → PartOf A B1 N S a l → PartOf B1 B2 N S b r →
        Adds B2 C (λ s of. IsInstanceOf (builtin_type (infix_builtin o)) of (pair_of (s l) (s r)) (s v)) → Shapes A C N S (trees.infix_of o a b) v
    arm_infix o a b l r p1 p2 p3 =
        let q = gives_and _ (λ x s of. IsInstanceOf (builtin_type (infix_builtin o)) of (pair_of x.0 x.1) (s v)) (two_parts a b l r p1 p2) p3
        (λ x s z of g h. subst (λ (t : Term). IsInstanceOf (builtin_type (infix_builtin o)) of (pair_of x.0 x.1) t) (g v inside) h) in
        adds_as _ (λ s of. HasShapeType (bounded (N s) of) (S s) (trees.infix_of o a b) (s v)) q
        (λ s of d h. (s l, s r, h.0.0, h.0.1, h.1))
        (λ s of h. ((h.0, h.1), ((h.2, h.3), h.4)))

    pub arm_prefix : {B C : State} (o : Prefix) (e : Tree) (u : ℕ) → PartOf A B N S e u →
        Adds B C (λ s of. IsInstanceOf (builtin_type (prefix_builtin o)) of (s u) (s v)) → Shapes A C N S (trees.prefix_of o e) v
    arm_prefix o e u p1 p2 =
        let q = gives_and (λ s of t. HasType (bounded (N s) of) (S s) e t) (λ x s of. IsInstanceOf (builtin_type (prefix_builtin o)) of x (s v)) p1 p2
        (λ x s z of g h. subst (λ (t : Term). IsInstanceOf (builtin_type (prefix_builtin o)) of x t) (g v inside) h) in
        adds_as _ (λ s of. HasShapeType (bounded (N s) of) (S s) (trees.prefix_of o e) (s v)) q
        (λ s of d h. (s u, h.0, h.1))
        (λ s of h. (h.0, (h.1, h.2)))

    pub arm_call : {B C : State} (x : List ℕ) (e : Tree) (u : ℕ) → PartOf A B N S e u → Applies B C N x u v → Shapes A C N S (trees.call x e) v
    arm_call x e u p1 p2 =
        let q = gives_and (λ s of t. HasType (bounded (N s) of) (S s) e t) (λ k s of. NameTakes (N s) of x k (s v)) p1 p2
        (λ k s z of g h. subst (λ (t : Term). NameTakes (N z) of x k t) (g v inside) (subst (λ (ns : TypedNames). NameTakes ns of x k (s v)) (f.names s z g) h)) in
        adds_as _ (λ s of. HasShapeType (bounded (N s) of) (S s) (trees.call x e) (s v)) q
        (λ s of d h. (s u, h.0, h.1))
        (λ s of h. (h.0, (h.1, h.2)))

    pub arm_index : {B1 B2 C : State} (a b : Tree) (j : ℕ) → PartOf A B1 N S a j → IsAt B1 B2 N S b int →
        Adds B2 C (λ s of. s j ≡ seq_of (s v)) → Shapes A C N S (trees.index a b) v
    arm_index a b j p1 p2 p3 =
        let q2 = gives_and (λ s of t. HasType (bounded (N s) of) (S s) a t) (λ x s of. HasType (bounded (N s) of) (S s) b int) p1 p2
        (λ x s z of g h. typed-moves (count A) N S f b s z of int g h) in
        let q3 = gives_and _ (λ x s of. x ≡ seq_of (s v)) q2 p3 (λ x s z of g h. h ∙ ap seq_of (g v inside)) in
        adds_as _ (λ s of. HasShapeType (bounded (N s) of) (S s) (trees.index a b) (s v)) q3
        (λ s of d h. (subst (λ (t : Term). HasType (bounded (N s) of) (S s) a t) h.1 h.0.0, h.0.1))
        (λ s of h. (seq_of (s v), ((h.0, h.1), refl)))

    -- a part at the node's own type
    and_whole : {X : Type 0} {B C : State} {r : (ℕ → Term) → X} (P : (ℕ → Term) → (ℕ → Class) → X → Type 0) (e : Tree) →
        Gives A B r P → Types B C N S e v → Gives A C r (λ s of x. P s of x × HasType (bounded (N s) of) (S s) e (s v))
    and_whole P e p h = gives_and P (λ x s of. HasType (bounded (N s) of) (S s) e (s v)) p h
        (λ x s z of g k. subst (λ (t : Term). HasType (bounded (N z) of) (S z) e t) (g v inside) (typed-moves (count A) N S f e s z of (s v) g k))

    pub arm_choice : {B1 B2 C : State} (a b c : Tree) → IsAt A B1 N S a bool → Types B1 B2 N S b v → Types B2 C N S c v → Shapes A C N S (trees.choice a b c) v
    arm_choice a b c p1 p2 p3 =
        let q2 = and_whole (λ s of x. HasType (bounded (N s) of) (S s) a bool) b p1 p2 in
        let q3 = and_whole _ c q2 p3 in
        adds_as _ (λ s of. HasShapeType (bounded (N s) of) (S s) (trees.choice a b c) (s v)) q3
        (λ s of d h. (h.0.0, h.0.1, h.1))
        (λ s of h. (tt, ((h.0, h.1), h.2)))

    pub arm_range : {B C : State} (a b : Tree) (n : ℕ) → BoundsOf A B N S a b n → Adds B C (λ s of. s v ≡ seq_of (s n)) → Shapes A C N S (trees.range a b) v
    arm_range a b n p1 p2 =
        let q = gives_and (λ s of t. (t ≡ int) × HasType (bounded (N s) of) (S s) a t × HasType (bounded (N s) of) (S s) b t) (λ x s of. s v ≡ seq_of x) p1 p2
        (λ x s z of g h. sym (g v inside) ∙ h) in
        adds_as _ (λ s of. HasShapeType (bounded (N s) of) (S s) (trees.range a b) (s v)) q
        (λ s of d h.
        let at_int : (e : Tree) → HasType (bounded (N s) of) (S s) e (s n) → HasType (bounded (N s) of) (S s) e int = λ e k. subst (λ (t : Term). HasType (bounded (N s) of) (S s) e t) h.0.0 k in
        (at_int a h.0.1, at_int b h.0.2, h.1 ∙ ap seq_of h.0.0))
        (λ s of h. (int, ((refl, h.0, h.1), h.2)))

    pub arm_strided_range : {B1 B2 C : State} (a b c : Tree) (n : ℕ) → BoundsOf A B1 N S a b n → Types B1 B2 N S c n →
        Adds B2 C (λ s of. s v ≡ seq_of (s n)) → Shapes A C N S (trees.strided_range a b c) v
    arm_strided_range a b c n p1 p2 p3 =
        let q2 = gives_and (λ s of t. (t ≡ int) × HasType (bounded (N s) of) (S s) a t × HasType (bounded (N s) of) (S s) b t) (λ x s of. HasType (bounded (N s) of) (S s) c x) p1 p2
        (λ x s z of g h. typed-moves (count A) N S f c s z of x g h) in
        let q3 = gives_and _ (λ x s of. s v ≡ seq_of x) q2 p3 (λ x s z of g h. sym (g v inside) ∙ h) in
        adds_as _ (λ s of. HasShapeType (bounded (N s) of) (S s) (trees.strided_range a b c) (s v)) q3
        (λ s of d h.
        let at_int : (e : Tree) → HasType (bounded (N s) of) (S s) e (s n) → HasType (bounded (N s) of) (S s) e int = λ e k. subst (λ (t : Term). HasType (bounded (N s) of) (S s) e t) h.0.0.0 k in
        (at_int a h.0.0.1, at_int b h.0.0.2, at_int c h.0.1, h.1 ∙ ap seq_of h.0.0.0))
        (λ s of h. (int, (((refl, h.0, h.1), h.2), h.3)))

-- a step that gives a variable for a type of the items of an apply-to-each with a filter
abbrev pub ItemsOf : State → State → ((ℕ → Term) → TypedNames) → ((ℕ → Term) → LocalTypes) → Tree → Binders → Tree → ℕ → Type 0
ItemsOf A B N S e bs d i = Gives A B (λ s. s i) (λ s of u. HaveItemType (bounded (N s) of) (S s) e bs d u)

-- the names of the binders of an apply-to-each
abbrev pub BindersOf : State → State → List Local → List Local → ((ℕ → Term) → TypedNames) → Binders → Type 0
BindersOf A B ls ms N bs =
    AddsNames A B ls ms (λ s of ns. (is : List Term) × HaveElements (bounded (N s) of) (scope_at s ls) bs is × BindersAdd (bounded (N s) of) bs is ns)

-- a part under names that were added
part_under : {B C : State} (N : (ℕ → Term) → TypedNames) (ls ms added : List Local) (e : Tree) (i : ℕ) → ms ≡ ls ++ added → PartOf B C N (λ s. scope_at s ms) e i →
    Gives B C (λ s. s i) (λ s of t. HasType (bounded (N s) of) (scope_at s added ++ scope_at s ls) e t)
part_under N ls ms added e i q p =
    let same : (s : ℕ → Term) → scope_at s ms ≡ scope_at s added ++ scope_at s ls = λ s. ap (scope_at s) q ∙ scope-append s ls added in
    gives_as (λ s. s i) _ (λ s of t. HasType (bounded (N s) of) (scope_at s added ++ scope_at s ls) e t) p p.fixed
    (λ s of b h. subst (λ (sc : LocalTypes). HasType (bounded (N s) of) sc e (s i)) (same s) h)
    (λ s of t h. (t, subst (λ (sc : LocalTypes). HasType (bounded (N s) of) sc e t) (sym (same s)) h, λ z a d. d))

exactly_under : {B C : State} (N : (ℕ → Term) → TypedNames) (ls ms added : List Local) (e : Tree) (t : Term) → ms ≡ ls ++ added → IsAt B C N (λ s. scope_at s ms) e t →
    Adds B C (λ s of. HasType (bounded (N s) of) (scope_at s added ++ scope_at s ls) e t)
exactly_under N ls ms added e t q p =
    let same : (s : ℕ → Term) → scope_at s ms ≡ scope_at s added ++ scope_at s ls = λ s. ap (scope_at s) q ∙ scope-append s ls added in
    adds_as _ (λ s of. HasType (bounded (N s) of) (scope_at s added ++ scope_at s ls) e t) p
    (λ s of b h. subst (λ (sc : LocalTypes). HasType (bounded (N s) of) sc e t) (same s) h)
    (λ s of h. (tt, subst (λ (sc : LocalTypes). HasType (bounded (N s) of) sc e t) (sym (same s)) h))

module _ {A : State} (N : (ℕ → Term) → TypedNames) (ls ms : List Local) (f : IsFixed (count A) N (λ s. scope_at s ls)) where
  pub arm_binders : {B C : State} (bs : Binders) (vs : List ℕ) → ElementsOf A B N (λ s. scope_at s ls) bs vs → DrawsOf B C ls ms N bs vs → BindersOf A C ls ms N bs
  arm_binders bs vs p1 p2 = record {
    added = p2.added;
    after_is = p2.after_is;
    below = p2.below;
    gives =
        let q = gives_then (λ s of is. HaveElements (bounded (N s) of) (scope_at s ls) bs is) (λ is s of ns. BindersAdd (bounded (N s) of) bs is ns) p1 p2.gives
        (λ x s z of y g h. subst (λ (ns : TypedNames). BindersAdd (bounded ns of) bs x y) (f.names s z g) h) in
        gives_as (λ s. scope_at s p2.added) _ (λ s of ns. (is : List Term) × HaveElements (bounded (N s) of) (scope_at s ls) bs is × BindersAdd (bounded (N s) of) bs is ns) q
        p2.gives.fixed
        (λ s of b h. (map s vs, h.0, h.1))
        (λ s of ns h. ((h.0, ns), (h.1, h.2), λ z a e. ap (λ x. x.1) e));
  }

  pub arm_filtered_items : {B C D : State} (e : Tree) (bs : Binders) (d : Tree) (i : ℕ) → BindersOf A B ls ms N bs → PartOf B C N (λ s. scope_at s ms) e i →
      IsAt C D N (λ s. scope_at s ms) d bool → ItemsOf A D N (λ s. scope_at s ls) e bs d i
  arm_filtered_items e bs d i p1 p2 p3 =
      let q2 = gives_then (λ s of ns. (is : List Term) × HaveElements (bounded (N s) of) (scope_at s ls) bs is × BindersAdd (bounded (N s) of) bs is ns)
      (λ ns s of t. HasType (bounded (N s) of) (ns ++ scope_at s ls) e t) p1.gives (part_under N ls ms p1.added e i p1.after_is p2)
      (λ x s z of y g k. under-moves (count A) N (λ s. scope_at s ls) f x e s z of y g k) in
      let q3 = gives_and _ (λ x s of. HasType (bounded (N s) of) (x.0 ++ scope_at s ls) d bool) q2 (exactly_under N ls ms p1.added d bool p1.after_is p3)
      (λ x s z of g k. under-moves (count A) N (λ s. scope_at s ls) f x.0 d s z of bool g k) in
      gives_as (λ s. s i) _ (λ s of u. HaveItemType (bounded (N s) of) (scope_at s ls) e bs d u) q3 (λ s z a. ap (λ x. x.1) (q3.fixed s z a))
      (λ s of b h. (h.0.0.0, scope_at s p1.added, h.0.0.1, h.0.0.2, h.0.1, h.1))
      (λ s of u k. ((k.1, u), (((k.0, k.2, k.3), k.4), k.5), λ z a q. ap (λ x. x.1) q))

  module _ (v : ℕ) (inside : v < count A) where
    pub arm_let : {B C : State} (bs : Binders) (e : Tree) → BindsOf A B ls ms N bs → Types B C N (λ s. scope_at s ms) e v → Shapes A C N (λ s. scope_at s ls) (trees.let_in bs e) v
    arm_let bs e p h =
        let q = gives_then (λ s of ns. BindingsAdd (bounded (N s) of) (scope_at s ls) bs ns) (λ ns s of y. HasType (bounded (N s) of) (ns ++ scope_at s ls) e (s v)) p.gives (under N ls ms p.added e v p.after_is h)
        (λ x s z of y g k. subst (λ (t : Term). HasType (bounded (N z) of) (x ++ scope_at z ls) e t) (g v inside) (under-moves (count A) N (λ s. scope_at s ls) f x e s z of (s v) g k)) in
        adds_as _ (λ s of. HasShapeType (bounded (N s) of) (scope_at s ls) (trees.let_in bs e) (s v)) q
        (λ s of b k. (scope_at s p.added, k.0, k.1))
        (λ s of k. ((k.0, tt), (k.1, k.2)))

    pub arm_each : {B C D : State} (e : Tree) (bs : Binders) (i : ℕ) → BindersOf A B ls ms N bs → PartOf B C N (λ s. scope_at s ms) e i →
        Adds C D (λ s of. s v ≡ seq_of (s i)) → Shapes A D N (λ s. scope_at s ls) (trees.each e bs) v
    arm_each e bs i p1 p2 p3 =
        let q2 = gives_then (λ s of ns. (is : List Term) × HaveElements (bounded (N s) of) (scope_at s ls) bs is × BindersAdd (bounded (N s) of) bs is ns)
        (λ ns s of t. HasType (bounded (N s) of) (ns ++ scope_at s ls) e t) p1.gives (part_under N ls ms p1.added e i p1.after_is p2)
        (λ x s z of y g k. under-moves (count A) N (λ s. scope_at s ls) f x e s z of y g k) in
        let q3 = gives_and _ (λ x s of. s v ≡ seq_of x.1) q2 p3 (λ x s z of g h. sym (g v inside) ∙ h) in
        adds_as _ (λ s of. HasShapeType (bounded (N s) of) (scope_at s ls) (trees.each e bs) (s v)) q3
        (λ s of b h. (h.0.0.0, scope_at s p1.added, s i, h.0.0.1, h.0.0.2, h.0.1, h.1))
        (λ s of k. ((k.1, k.2), (((k.0, k.3, k.4), k.5), k.6)))

-- an apply-to-each with a filter, from its items
pub arm_filtered_each : {A B C : State} (N : (ℕ → Term) → TypedNames) (S : (ℕ → Term) → LocalTypes) (v : ℕ) → v < count A → (e : Tree) (bs : Binders) (d : Tree) (i : ℕ) →
    ItemsOf A B N S e bs d i → Adds B C (λ s of. s v ≡ seq_of (s i)) → Shapes A C N S (trees.filtered_each e bs d) v
arm_filtered_each N S v inside e bs d i p1 p2 =
    let q = gives_and (λ s of u. HaveItemType (bounded (N s) of) (S s) e bs d u) (λ x s of. s v ≡ seq_of x) p1 p2 (λ x s z of g h. sym (g v inside) ∙ h) in
    adds_as _ (λ s of. HasShapeType (bounded (N s) of) (S s) (trees.filtered_each e bs d) (s v)) q
    (λ s of b h. (h.0.0, h.0.1, s i, h.0.2, h.0.3, h.0.4, h.0.5, h.1))
    (λ s of k. (k.2, ((k.0, k.1, k.3, k.4, k.5, k.6), k.7)))
