-- What each kind of node adds.
use Rattle.std.proofs.Common.{◌≡◌, ◌<◌, ◌≤◌, ℕ, List, [], ◌∷◌, ◌++◌, ◌+◌, refl, sym, ap, ◌∙◌, subst, arith}
use Rattle.nesl_lex.specs.declared.token.Span.{Span}
use Rattle.nesl_types.specs.declared.classes.Class.{Class}
use Rattle.nesl_types_shared.specs.Term.{Term, int, bool, char, seq_of, pair_of, nodes}
use Rattle.nesl_syntax_tree.specs.Trees.{Tree, Shape, Trees, node, none, more, with_last}
use Rattle.nesl_syntax_tree.specs.Trees as trees
use Rattle.nesl_syntax_tree.specs.declared.tree.Operator.{Operator}
use Rattle.nesl_syntax_tree.specs.declared.tree.Prefix.{Prefix}
use Rattle.nesl_syntax_tree.specs.declared.tree.Operator.TheVariants as ops
use Rattle.nesl_builtins.specs.FunctionTypes.{a, builtin_type}
use Rattle.nesl_builtins.specs.Named.{infix_builtin, prefix_builtin}
use Rattle.nesl_syntax_tree.specs.declared.tree.Exp.{Exp}
use Rattle.nesl_syntax_tree.specs.Views.{tree_of, trees_in}
use Rattle.nesl_infer_rules.specs.declared.state.State.{State}
use Rattle.nesl_infer_rules.specs.declared.state.Local.{Local}
use Rattle.nesl_infer_rules.specs.World.{Assumptions, TypedNames}
use Rattle.nesl_infer_rules.specs.Typing.{LocalTypes, HasType, HasShapeType, HaveType, IsInstanceOf}
use Rattle.nesl_infer_rules.specs.Principal.{bounded}
use Rattle.nesl_infer_rules.specs.Steps.{count, Gives, Adds, scope_at}
use Rattle.nesl_infer_rules.proofs.Places.{IsFixed, typed-moves, all-moves, small}
use Rattle.nesl_infer_rules.proofs.Steps.{gives_then, gives_and, adds_as}

-- a step that adds that the expression has the type of a variable
abbrev pub Types : State → State → ((ℕ → Term) → TypedNames) → ((ℕ → Term) → LocalTypes) → Tree → ℕ → Type 0
Types A B N S e v = Adds A B (λ s of. HasType (bounded (N s) of) (S s) e (s v))

abbrev pub AnyTerm : State → State → ℕ → Type 0
AnyTerm A B v = Gives A B (λ s. s v) (λ s of u. nodes u ≤ 4096)

-- nodes without parts
pub arm_leaf : {A B : State} (N : (ℕ → Term) → TypedNames) (S : (ℕ → Term) → LocalTypes) (sp : Span) (k : Shape) (t : Term) (v : ℕ) →
    ((w : Assumptions) (sc : LocalTypes) (u : Term) → u ≡ t → HasShapeType w sc k u) → ((w : Assumptions) (sc : LocalTypes) (u : Term) → HasShapeType w sc k u → u ≡ t) →
    Adds A B (λ s of. s v ≡ t) → Types A B N S (node sp k) v
arm_leaf N S sp k t v f g p =
    adds_as (λ s of x. s v ≡ t) (λ s of. HasType (bounded (N s) of) (S s) (node sp k) (s v)) p
    (λ s of b h. (b v, f (bounded (N s) of) (S s) (s v) h)) (λ s of h. (tt, g (bounded (N s) of) (S s) (s v) h.1))

-- a step that says of the type what the node says
pub arm_shape : {A B : State} (N : (ℕ → Term) → TypedNames) (S : (ℕ → Term) → LocalTypes) (sp : Span) (k : Shape) (v : ℕ) →
    Adds A B (λ s of. HasShapeType (bounded (N s) of) (S s) k (s v)) → Types A B N S (node sp k) v
arm_shape N S sp k v p =
    adds_as (λ s of x. HasShapeType (bounded (N s) of) (S s) k (s v)) (λ s of. HasType (bounded (N s) of) (S s) (node sp k) (s v)) p
    (λ s of b h. (b v, h)) (λ s of h. (tt, h.1))

abbrev pub Exactly : State → State → ℕ → Term → Type 0
Exactly A B v t = Gives A B (λ s. s v) (λ s of u. u ≡ t)

module _ {A B1 B2 B3 B4 C : State} (N : (ℕ → Term) → TypedNames) (S : (ℕ → Term) → LocalTypes) (f : IsFixed (count A) N S) (sp : Span) (v : ℕ) (inside : v < count A) where
  pub arm_pair : (a b : Tree) (l r : ℕ) → AnyTerm A B1 l → AnyTerm B1 B2 r → Types B2 B3 N S a l → Types B3 B4 N S b r →
      Adds B4 C (λ s of. s v ≡ pair_of (s l) (s r)) → Types A C N S (node sp (trees.pair a b)) v
  arm_pair a b l r p1 p2 p3 p4 p5 =
      let q2 = gives_then (λ s of u. nodes u ≤ 4096) (λ x s of u. nodes u ≤ 4096) p1 p2 (λ x s z of y g h. h) in
      let q3 = gives_then (λ s of k. (nodes k.0 ≤ 4096) × (nodes k.1 ≤ 4096)) (λ x s of y. HasType (bounded (N s) of) (S s) a x.0) q2 p3 (λ x s z of y g h. typed-moves (count A) N S f a s z of x.0 g h) in
      let q4 = gives_then _ (λ x s of y. HasType (bounded (N s) of) (S s) b x.0.1) q3 p4 (λ x s z of y g h. typed-moves (count A) N S f b s z of x.0.1 g h) in
      let q5 = gives_then _ (λ x s of y. s v ≡ pair_of x.0.0.0 x.0.0.1) q4 p5 (λ x s z of y g h. sym (g v inside) ∙ h) in
      adds_as _ (λ s of. HasType (bounded (N s) of) (S s) (node sp (trees.pair a b)) (s v)) q5
      (λ s of b h. (b v, (s l, s r, h.0.0.1, h.0.1, h.1)))
      (λ s of h. (
        (((((h.1.0, h.1.1), tt), tt), tt)),
        ((((small (bounded (N s) of) (S s) a h.1.0 4096 h.1.2, small (bounded (N s) of) (S s) b h.1.1 4096 h.1.3), h.1.2), h.1.3), h.1.4),
      ))

module _ {A B1 B2 C : State} (N : (ℕ → Term) → TypedNames) (S : (ℕ → Term) → LocalTypes) (f : IsFixed (count A) N S) (sp : Span) (v : ℕ) (inside : v < count A) where
  -- the elements' type is small where there is an element, and where there is none since the sequence's type is
  pub arm_sequence : (es : Trees) (i : ℕ) → AnyTerm A B1 i → Adds B1 B2 (λ s of. HaveType (bounded (N s) of) (S s) es (s i)) →
      Adds B2 C (λ s of. s v ≡ seq_of (s i)) → Types A C N S (node sp (trees.sequence es)) v
  arm_sequence es i p1 p2 p3 =
      let q2 = gives_then (λ s of u. nodes u ≤ 4096) (λ x s of y. HaveType (bounded (N s) of) (S s) es x) p1 p2 (λ x s z of y g h. all-moves (count A) N S f es s z of x g h) in
      let q3 = gives_then _ (λ x s of y. s v ≡ seq_of x.0) q2 p3 (λ x s z of y g h. sym (g v inside) ∙ h) in
      adds_as _ (λ s of. HasType (bounded (N s) of) (S s) (node sp (trees.sequence es)) (s v)) q3
      (λ s of b h. (b v, (s i, h.0.1, h.1)))
      (λ s of h. let e : nodes (s v) ≡ 1 + nodes h.1.0 = ap nodes h.1.2 in let k = h.0 in (((h.1.0, tt), tt), ((omega arith, h.1.1), h.1.2)))

module _ {A : State} (N : (ℕ → Term) → TypedNames) (S : (ℕ → Term) → LocalTypes) (f : IsFixed (count A) N S) (v : ℕ) (inside : v < count A) where
  -- a part at a type that is read, and at the node's own
  and_part : {X : Type 0} {B C : State} {r : (ℕ → Term) → X} (P : (ℕ → Term) → (ℕ → Class) → X → Type 0) (e : Tree) (g : X → Term) →
      Gives A B r P → Adds B C (λ s of. HasType (bounded (N s) of) (S s) e (g (r s))) → Gives A C r (λ s of x. P s of x × HasType (bounded (N s) of) (S s) e (g x))
  and_part P e g p h = gives_and P (λ x s of. HasType (bounded (N s) of) (S s) e (g x)) p h (λ x s z of a k. typed-moves (count A) N S f e s z of (g x) a k)

  and_whole : {X : Type 0} {B C : State} {r : (ℕ → Term) → X} (P : (ℕ → Term) → (ℕ → Class) → X → Type 0) (e : Tree) →
      Gives A B r P → Adds B C (λ s of. HasType (bounded (N s) of) (S s) e (s v)) → Gives A C r (λ s of x. P s of x × HasType (bounded (N s) of) (S s) e (s v))
  and_whole P e p h = gives_and P (λ x s of. HasType (bounded (N s) of) (S s) e (s v)) p h
      (λ x s z of a k. subst (λ (t : Term). HasType (bounded (N z) of) (S z) e t) (a v inside) (typed-moves (count A) N S f e s z of (s v) a k))

  -- what the whole is
  and_is : {X : Type 0} {B C : State} {r : (ℕ → Term) → X} (P : (ℕ → Term) → (ℕ → Class) → X → Type 0) (g : X → Term) →
      Gives A B r P → Adds B C (λ s of. s v ≡ g (r s)) → Gives A C r (λ s of x. P s of x × (s v ≡ g x))
  and_is P g p h = gives_and P (λ x s of. s v ≡ g x) p h (λ x s z of a k. sym (a v inside) ∙ k)

  two_parts : {B1 B2 B3 B4 : State} (P Q : Term → Type 0) (a b : Tree) (l r : ℕ) → Gives A B1 (λ s. s l) (λ s of u. P u) → Gives B1 B2 (λ s. s r) (λ s of u. Q u) → Types B2 B3 N S a l → Types B3 B4 N S b r →
      Gives {X = Term × Term} A B4 (λ s. (s l, s r)) (λ s of x. ((P x.0 × Q x.1) × HasType (bounded (N s) of) (S s) a x.0) × HasType (bounded (N s) of) (S s) b x.1)
  two_parts P Q a b l r p1 p2 p3 p4 =
      let q2 = gives_then (λ s of u. P u) (λ x s of u. Q u) p1 p2 (λ x s z of y g h. h) in
      let q3 = and_part _ a (λ x. x.0) q2 p3 in
      and_part _ b (λ x. x.1) q3 p4

  pub arm_infix : {B1 B2 B3 B4 C : State} (sp : Span) (o : Operator) (a b : Tree) (l r : ℕ) → AnyTerm A B1 l → AnyTerm B1 B2 r → Types B2 B3 N S a l → Types B3 B4 N S b r →
      Adds B4 C (λ s of. IsInstanceOf (builtin_type (infix_builtin o)) of (pair_of (s l) (s r)) (s v)) → Types A C N S (node sp (trees.infix_of o a b)) v
  arm_infix sp o a b l r p1 p2 p3 p4 p5 =
      let q = gives_and _ (λ x s of. IsInstanceOf (builtin_type (infix_builtin o)) of (pair_of x.0 x.1) (s v)) (two_parts (λ u. nodes u ≤ 4096) (λ u. nodes u ≤ 4096) a b l r p1 p2 p3 p4) p5
      (λ x s z of g h. subst (λ (t : Term). IsInstanceOf (builtin_type (infix_builtin o)) of (pair_of x.0 x.1) t) (g v inside) h) in
      adds_as _ (λ s of. HasType (bounded (N s) of) (S s) (node sp (trees.infix_of o a b)) (s v)) q
      (λ s of b h. (b v, (s l, s r, h.0.0.1, h.0.1, h.1)))
      (λ s of h. (
        (h.1.0, h.1.1),
        ((((small (bounded (N s) of) (S s) a h.1.0 4096 h.1.2, small (bounded (N s) of) (S s) b h.1.1 4096 h.1.3), h.1.2), h.1.3), h.1.4),
      ))

  pub arm_prefix : {B1 B2 C : State} (sp : Span) (o : Prefix) (e : Tree) (u : ℕ) → AnyTerm A B1 u → Types B1 B2 N S e u →
      Adds B2 C (λ s of. IsInstanceOf (builtin_type (prefix_builtin o)) of (s u) (s v)) → Types A C N S (node sp (trees.prefix_of o e)) v
  arm_prefix sp o e u p1 p2 p3 =
      let q = gives_and _ (λ x s of. IsInstanceOf (builtin_type (prefix_builtin o)) of x (s v)) (and_part (λ s of t. nodes t ≤ 4096) e (λ x. x) p1 p2) p3
      (λ x s z of g h. subst (λ (t : Term). IsInstanceOf (builtin_type (prefix_builtin o)) of x t) (g v inside) h) in
      adds_as _ (λ s of. HasType (bounded (N s) of) (S s) (node sp (trees.prefix_of o e)) (s v)) q
      (λ s of b h. (b v, (s u, h.0.1, h.1)))
      (λ s of h. (h.1.0, ((small (bounded (N s) of) (S s) e h.1.0 4096 h.1.1, h.1.1), h.1.2)))

  pub arm_index : {B1 B2 B3 B4 C : State} (sp : Span) (a b : Tree) (j n : ℕ) → AnyTerm A B1 j → Exactly B1 B2 n int → Types B2 B3 N S a j → Types B3 B4 N S b n →
      Adds B4 C (λ s of. s j ≡ seq_of (s v)) → Types A C N S (node sp (trees.index a b)) v
  arm_index sp a b j n p1 p2 p3 p4 p5 =
      let q = gives_and _ (λ x s of. x.0 ≡ seq_of (s v)) (two_parts (λ u. nodes u ≤ 4096) (λ u. u ≡ int) a b j n p1 p2 p3 p4) p5 (λ x s z of g h. h ∙ ap seq_of (g v inside)) in
      adds_as _ (λ s of. HasType (bounded (N s) of) (S s) (node sp (trees.index a b)) (s v)) q
      (λ s of d h. (
        d v,
        (subst (λ (t : Term). HasType (bounded (N s) of) (S s) a t) h.1 h.0.0.1, subst (λ (t : Term). HasType (bounded (N s) of) (S s) b t) h.0.0.0.1 h.0.1),
      ))
      (λ s of h. ((seq_of (s v), int), ((((small (bounded (N s) of) (S s) a (seq_of (s v)) 4096 h.1.0, refl), h.1.0), h.1.1), refl)))

  pub arm_text : {B C : State} (sp : Span) (bytes : List ℕ) (i : ℕ) → Exactly A B i char → Adds B C (λ s of. s v ≡ seq_of (s i)) → Types A C N S (node sp (trees.text bytes)) v
  arm_text sp bytes i p1 p2 =
      let q = and_is (λ s of u. u ≡ char) seq_of p1 p2 in
      adds_as _ (λ s of. HasType (bounded (N s) of) (S s) (node sp (trees.text bytes)) (s v)) q
      (λ s of b h. (b v, h.1 ∙ ap seq_of h.0)) (λ s of h. (char, (refl, h.1)))

  pub arm_range : {B1 B2 B3 C : State} (sp : Span) (a b : Tree) (n : ℕ) → Exactly A B1 n int → Types B1 B2 N S a n → Types B2 B3 N S b n →
      Adds B3 C (λ s of. s v ≡ seq_of (s n)) → Types A C N S (node sp (trees.range a b)) v
  arm_range sp a b n p1 p2 p3 p4 =
      let q2 = and_part (λ s of u. u ≡ int) a (λ x. x) p1 p2 in
      let q3 = and_part _ b (λ x. x) q2 p3 in
      let q4 = and_is _ seq_of q3 p4 in
      adds_as _ (λ s of. HasType (bounded (N s) of) (S s) (node sp (trees.range a b)) (s v)) q4
      (λ s of d h.
      let at_int : (e : Tree) → HasType (bounded (N s) of) (S s) e (s n) → HasType (bounded (N s) of) (S s) e int = λ e k. subst (λ (t : Term). HasType (bounded (N s) of) (S s) e t) h.0.0.0 k in
      (d v, (at_int a h.0.0.1, at_int b h.0.1, h.1 ∙ ap seq_of h.0.0.0)))
      (λ s of h. (int, (((refl, h.1.0), h.1.1), h.1.2)))

  pub arm_strided_range : {B1 B2 B3 B4 C : State} (sp : Span) (a b c : Tree) (n : ℕ) → Exactly A B1 n int → Types B1 B2 N S a n → Types B2 B3 N S b n → Types B3 B4 N S c n →
      Adds B4 C (λ s of. s v ≡ seq_of (s n)) → Types A C N S (node sp (trees.strided_range a b c)) v
  arm_strided_range sp a b c n p1 p2 p3 p4 p5 =
      let q2 = and_part (λ s of u. u ≡ int) a (λ x. x) p1 p2 in
      let q3 = and_part _ b (λ x. x) q2 p3 in
      let q4 = and_part _ c (λ x. x) q3 p4 in
      let q5 = and_is _ seq_of q4 p5 in
      adds_as _ (λ s of. HasType (bounded (N s) of) (S s) (node sp (trees.strided_range a b c)) (s v)) q5
      (λ s of d h.
      let at_int : (e : Tree) → HasType (bounded (N s) of) (S s) e (s n) → HasType (bounded (N s) of) (S s) e int = λ e k. subst (λ (t : Term). HasType (bounded (N s) of) (S s) e t) h.0.0.0.0 k in
      (d v, (at_int a h.0.0.0.1, at_int b h.0.0.1, at_int c h.0.1, h.1 ∙ ap seq_of h.0.0.0.0)))
      (λ s of h. (int, ((((refl, h.1.0), h.1.1), h.1.2), h.1.3)))

  pub arm_choice : {B1 B2 B3 C : State} (sp : Span) (a b c : Tree) (i : ℕ) → Exactly A B1 i bool → Types B1 B2 N S a i → Types B2 B3 N S b v → Types B3 C N S c v →
      Types A C N S (node sp (trees.choice a b c)) v
  arm_choice sp a b c i p1 p2 p3 p4 =
      let q2 = and_part (λ s of u. u ≡ bool) a (λ x. x) p1 p2 in
      let q3 = and_whole _ b q2 p3 in
      let q4 = and_whole _ c q3 p4 in
      adds_as _ (λ s of. HasType (bounded (N s) of) (S s) (node sp (trees.choice a b c)) (s v)) q4
      (λ s of d h. (d v, (subst (λ (t : Term). HasType (bounded (N s) of) (S s) a t) h.0.0.0 h.0.0.1, h.0.1, h.1)))
      (λ s of h. (bool, (((refl, h.1.0), h.1.1), h.1.2)))

-- the same step, for equal local names and an equal expression
pub retyped : {A B : State} (N : (ℕ → Term) → TypedNames) (ls ms : List Local) (e d : Exp) (v : ℕ) → ms ≡ ls → d ≡ e →
    Types A B N (λ s. scope_at s ms) (tree_of d) v → Types A B N (λ s. scope_at s ls) (tree_of e) v
retyped {A = A} {B = B} N ls ms e d v p q h =
    subst (λ (x : List Local). Types A B N (λ s. scope_at s x) (tree_of e) v) p (subst (λ (x : Exp). Types A B N (λ s. scope_at s ms) (tree_of x) v) q h)

pub all-and_then : (w : Assumptions) (sc : LocalTypes) (t : Term) (es : Trees) (e : Tree) → HaveType w sc es t → HasType w sc e t → HaveType w sc (with_last es e) t
all-and_then w sc t none e h k = (k, tt)
all-and_then w sc t (more d es) e h k = (h.0, all-and_then w sc t es e h.1 k)

pub and_then-all : (w : Assumptions) (sc : LocalTypes) (t : Term) (es : Trees) (e : Tree) → HaveType w sc (with_last es e) t → HaveType w sc es t × HasType w sc e t
and_then-all w sc t none e h = (tt, h.0)
and_then-all w sc t (more d es) e h = let k = and_then-all w sc t es e h.1 in ((h.0, k.0), k.1)

pub trees_in-push : (es : List Exp) (e : Exp) → trees_in (es ++ e ∷ []) ≡ with_last (trees_in es) (tree_of e)
trees_in-push [] e = refl
trees_in-push (d ∷ es) e = ap (more (tree_of d)) (trees_in-push es e)

abbrev pub AllType : State → State → ((ℕ → Term) → TypedNames) → ((ℕ → Term) → LocalTypes) → Trees → ℕ → Type 0
AllType A B N S es v = Adds A B (λ s of. HaveType (bounded (N s) of) (S s) es (s v))

-- one expression more
pub arm_more : {A B C : State} (N : (ℕ → Term) → TypedNames) (S : (ℕ → Term) → LocalTypes) (f : IsFixed (count A) N S) (v : ℕ) (inside : v < count A) (es : Trees) (e : Tree) →
    AllType A B N S es v → Types B C N S e v → AllType A C N S (with_last es e) v
arm_more {A = A} N S f v inside es e p h =
    let q = gives_then (λ s of x. HaveType (bounded (N s) of) (S s) es (s v)) (λ x s of y. HasType (bounded (N s) of) (S s) e (s v)) p h
    (λ x s z of y g k. subst (λ (t : Term). HasType (bounded (N z) of) (S z) e t) (g v inside) (typed-moves (count A) N S f e s z of (s v) g k)) in
    adds_as _ (λ s of. HaveType (bounded (N s) of) (S s) (with_last es e) (s v)) q
    (λ s of b k. all-and_then (bounded (N s) of) (S s) (s v) es e k.0 k.1)
    (λ s of k. ((tt, tt), and_then-all (bounded (N s) of) (S s) (s v) es e k))

pub nothing_yet : {A : State} (N : (ℕ → Term) → TypedNames) (S : (ℕ → Term) → LocalTypes) (v : ℕ) → AllType A A N S none v
nothing_yet N S v = record {
  more = omega arith;
  fixed = λ s z a. refl;
  sound = λ s of b h. (h, tt);
  complete = λ s of b h x c. (s, λ _ _. refl, h, b, refl);
}

-- an operator between two expressions takes a pair
pub infix_pair : (o : Operator) → (t : Term) × (u : Term) × ((builtin_type (infix_builtin o)).argument ≡ pair_of t u)
infix_pair ops.Or = (a, a, refl)
infix_pair ops.Nor = (a, a, refl)
infix_pair ops.Xor = (a, a, refl)
infix_pair ops.And = (a, a, refl)
infix_pair ops.Nand = (a, a, refl)
infix_pair ops.Equal = (a, a, refl)
infix_pair ops.NotEqual = (a, a, refl)
infix_pair ops.Less = (a, a, refl)
infix_pair ops.Greater = (a, a, refl)
infix_pair ops.LessOrEqual = (a, a, refl)
infix_pair ops.GreaterOrEqual = (a, a, refl)
infix_pair ops.Plus = (a, a, refl)
infix_pair ops.Minus = (a, a, refl)
infix_pair ops.Append = (seq_of a, seq_of a, refl)
infix_pair ops.Write = (seq_of a, seq_of (pair_of int a), refl)
infix_pair ops.Times = (a, a, refl)
infix_pair ops.Divide = (a, a, refl)
infix_pair ops.Read = (seq_of a, seq_of int, refl)
