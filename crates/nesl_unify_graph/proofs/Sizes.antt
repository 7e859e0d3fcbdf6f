-- How many nodes the types of a graph have.
use Rattle.std.proofs.Common.{◌≡◌, inl, inr, ℕ, zero, suc, ◌+◌, ◌*◌, ◌<◌, ◌≤◌, List, [], ◌∷◌, ◌++◌, length, get_or, set, replicate, slice_index, refl, sym, ap, subst, ◌∙◌, arith}
use Rattle.std.proofs.lemmas.Bool.{cases_lt, cases_eq}
use Rattle.std.proofs.lemmas.List.{get_or-set_same, get_or-set_other, length-replicate, get_or-replicate, get_or_past, get_or_append_left, get_or_push}
use Rattle.nesl_types_shared.specs.Term.{Term, int, bool, char, variable, seq_of, pair_of, named, nodes}
use Rattle.nesl_types_shared.specs.Numbering.{IsBelow}
use Rattle.nesl_types_shared.specs.Substitution.{substitute}
use Rattle.nesl_types_shared.specs.Types.{type_at}
use Rattle.nesl_types_shared.specs.declared.shape.Shape.{Shape}
use Rattle.nesl_types_shared.specs.Shapes.{shape_type}
use Rattle.nesl_types_shared.proofs.Nodes.{nodes_positive}
use Rattle.nesl_unify_graph.specs.declared.node.Node.{Node}
use Rattle.nesl_unify_graph.specs.declared.node.Node.TheVariants as node
use Rattle.nesl_unify_graph.specs.declared.instances.Instances.{Instances}
use Rattle.nesl_unify_graph.specs.declared.form.Item.{Item}
use Rattle.nesl_unify_graph.specs.declared.form.Item.TheVariants.{At}
use Rattle.nesl_unify_graph.specs.declared.walk.Look.{Look}
use Rattle.nesl_unify_graph.specs.declared.walk.Look.TheVariants.{Known, Open}
use Rattle.nesl_unify_graph.specs.Instances.{parts_in, place_in, instance_type, IsPart}
use Rattle.nesl_unify_graph.specs.Graph.{node_at, node_type, link_or, target}
use Rattle.nesl_unify_graph.specs.Readings.{unrolled, Reads, AreReadWithin}
use Rattle.nesl_unify_graph.specs.Forms.{item_type, near}
use Rattle.nesl_unify_graph.specs.Sizes.{IsLeaf, IsRootRead, IsRootSize, IsSizeWithin, AreSizes, HasLeaves, IsLeafSize, AreLeafSizes, IsMadeSize, IsRootLook, IsLook}
use Rattle.nesl_unify_graph.proofs.Forms.{link_step, form_at, form_of_same}

-- a type without a link is read a step later where a link leads to it
read_linked : (i : Instances) (ns : List Node) (p : ℕ) (t : Term) (d : Node) → node_at ns p ≡ d → IsRootRead i ns (link_or p d) t → Reads i ns p t
read_linked i ns p t d e r far zero l = absurd (omega (arith, nodes_positive t))
read_linked i ns p t node.Free e r far (suc n) l = r far (suc n) (omega arith)
read_linked i ns p t (node.Same q) e r far (suc n) l = ap (node_type i (unrolled i ns far n) (variable p)) e ∙ r far n l
read_linked i ns p t node.Int e r far (suc n) l = r far (suc n) (omega arith)
read_linked i ns p t node.Bool e r far (suc n) l = r far (suc n) (omega arith)
read_linked i ns p t node.Char e r far (suc n) l = r far (suc n) (omega arith)
read_linked i ns p t (node.Named m) e r far (suc n) l = r far (suc n) (omega arith)
read_linked i ns p t (node.SeqOf q) e r far (suc n) l = r far (suc n) (omega arith)
read_linked i ns p t (node.Both q s) e r far (suc n) l = r far (suc n) (omega arith)
read_linked i ns p t (node.Part s k) e r far (suc n) l = r far (suc n) (omega arith)

pub read_target : (i : Instances) (ns : List Node) (p : ℕ) (t : Term) → IsRootRead i ns (target ns p) t → Reads i ns p t
read_target i ns p t r = read_linked i ns p t (node_at ns p) refl r

-- types that are made of types at places
read_sequence : (i : Instances) (ns : List Node) (p q : ℕ) (t : Term) → node_at ns p ≡ node.SeqOf q → IsRootRead i ns (target ns q) t → IsRootRead i ns p (seq_of t)
read_sequence i ns p q t e r far zero l = absurd (omega (arith, nodes_positive t))
read_sequence i ns p q t e r far (suc n) l =
    ap (node_type i (unrolled i ns far n) (variable p)) e ∙ ap seq_of (read_target i ns q t r far n (omega arith))

read_pair : (i : Instances) (ns : List Node) (p q s : ℕ) (t u : Term) → node_at ns p ≡ node.Both q s → IsRootRead i ns (target ns q) t → IsRootRead i ns (target ns s) u → IsRootRead i ns p (pair_of t u)
read_pair i ns p q s t u e r k far zero l = absurd (omega (arith, nodes_positive t))
read_pair i ns p q s t u e r k far (suc n) l =
    let a = read_target i ns q t r far n (omega arith) in
    let b = read_target i ns s u k far n (omega arith) in
    ap (node_type i (unrolled i ns far n) (variable p)) e ∙ ap (λ (x : Term). pair_of x (unrolled i ns far n s)) a ∙ ap (pair_of t) b

pub made_size : (i : Instances) (ns : List Node) (most : ℕ) (sizes : List ℕ) (p k : ℕ) (d : Node) → node_at ns p ≡ d → AreSizes i ns most sizes → IsMadeSize ns sizes d k → IsRootSize i ns p k
made_size i ns most sizes p k node.Free e a h = absurd h
made_size i ns most sizes p k (node.Same q) e a h = absurd h
made_size i ns most sizes p k node.Int e a h = absurd h
made_size i ns most sizes p k node.Bool e a h = absurd h
made_size i ns most sizes p k node.Char e a h = absurd h
made_size i ns most sizes p k (node.Named m) e a h = absurd h
made_size i ns most sizes p k (node.SeqOf q) e a h =
    let x = (a (target ns q) h.0).0 in
    (seq_of x.0, (read_sequence i ns p q x.0 e x.1.0, omega (arith, x.1.1, h.1)))
made_size i ns most sizes p k (node.Both q s) e a h =
    let x = (a (target ns q) h.0).0 in
    let y = (a (target ns s) h.1.0).0 in
    (pair_of x.0 y.0, (read_pair i ns p q s x.0 y.0 e x.1.0 y.1.0, omega (arith, x.1.1, y.1.1, h.1.1)))
made_size i ns most sizes p k (node.Part r m) e a h = absurd h

-- the type of an item is that at a place
pub look_through : (i : Instances) (ns : List Node) (x : Item) (p : ℕ) (look : Look) → ((w : ℕ → Term) → item_type i w x ≡ w p) →
    IsRootLook i ns (target ns p) look → IsLook i ns x look
look_through i ns x p (Known k) e h = (h.0, ((λ far n l. e (unrolled i ns far n) ∙ read_target i ns p h.0 h.1.0 far n l), h.1.1))
look_through i ns x p (Open f) e h = (form_of_same i ns x (At p) f e (form_at i ns p f h.0), h.1)

-- a type with those of the variables of an instance, which have one node each
abbrev pub freed : Instances → List Node → ℕ → Term → Term
freed i ns r t = substitute (λ v. near i ns 1 (target ns (place_in i r v))) t

free_place : (i : Instances) (ns : List Node) (far : ℕ → Term) (n p : ℕ) → IsLeaf i ns (target ns p) → 2 ≤ n → unrolled i ns far n p ≡ near i ns 1 (target ns p)
free_place i ns far zero p h l = absurd (omega arith)
free_place i ns far (suc zero) p h l = absurd (omega arith)
free_place i ns far (suc (suc n)) p h l = let s = link_step i ns far n p (node_at ns p) refl in s.1.1 ∙ h.same (unrolled i ns far s.0)

free_read : (i : Instances) (ns : List Node) (r : ℕ) (far : ℕ → Term) (n : ℕ) (t : Term) → HasLeaves i ns r t → 2 * nodes t ≤ n →
    instance_type i (unrolled i ns far n) r t ≡ freed i ns r t
free_read i ns r far n int h l = refl
free_read i ns r far n bool h l = refl
free_read i ns r far n char h l = refl
free_read i ns r far n (variable v) h l = free_place i ns far n (place_in i r v) h (omega arith)
free_read i ns r far n (seq_of t) h l = ap seq_of (free_read i ns r far n t h (omega arith))
free_read i ns r far n (pair_of t u) h l =
    let a = free_read i ns r far n t h.0 (omega arith) in
    let b = free_read i ns r far n u h.1 (omega arith) in
    cc
free_read i ns r far n (named m) h l = refl

-- the parts of a type are read sooner
whole_read : (i : Instances) (ns : List Node) (r : ℕ) (far : ℕ → Term) (n : ℕ) (t : Term) → ((v : ℕ) → t ≡ variable v → ⊥) → HasLeaves i ns r t → 2 * nodes t ≤ n + 2 →
    instance_type i (unrolled i ns far n) r t ≡ freed i ns r t
whole_read i ns r far n int w h l = refl
whole_read i ns r far n bool w h l = refl
whole_read i ns r far n char w h l = refl
whole_read i ns r far n (variable v) w h l = absurd (w v refl)
whole_read i ns r far n (seq_of t) w h l = ap seq_of (free_read i ns r far n t h (omega arith))
whole_read i ns r far n (pair_of t u) w h l =
    let a = free_read i ns r far n t h.0 (omega arith) in
    let b = free_read i ns r far n u h.1 (omega arith) in
    cc
whole_read i ns r far n (named m) w h l = refl

freed_nodes : (i : Instances) (ns : List Node) (r : ℕ) (t : Term) → HasLeaves i ns r t → nodes (freed i ns r t) ≡ nodes t
freed_nodes i ns r int h = refl
freed_nodes i ns r bool h = refl
freed_nodes i ns r char h = refl
freed_nodes i ns r (variable v) h = h.one
freed_nodes i ns r (seq_of t) h = let a = freed_nodes i ns r t h in omega arith
freed_nodes i ns r (pair_of t u) h = let a = freed_nodes i ns r t h.0 in let b = freed_nodes i ns r u h.1 in omega arith
freed_nodes i ns r (named m) h = refl

root_whole : (i : Instances) (ns : List Node) (p r : ℕ) (t u : Term) (d : Node) → node_at ns p ≡ d →
    ((w : ℕ → Term) → node_type i w (variable p) d ≡ instance_type i w r t) → ((v : ℕ) → t ≡ variable v → ⊥) → HasLeaves i ns r t → IsRootRead i ns p (freed i ns r t)
root_whole i ns p r t u d e g w h far zero l = absurd (omega (arith, nodes_positive (freed i ns r t)))
root_whole i ns p r t u d e g w h far (suc n) l =
    let s = freed_nodes i ns r t h in
    ap (node_type i (unrolled i ns far n) (variable p)) e ∙ g (unrolled i ns far n) ∙ whole_read i ns r far n t w h (omega arith)

-- a place of a whole type, where those of its variables have one node each
pub whole_size : (i : Instances) (ns : List Node) (p r k size : ℕ) → node_at ns p ≡ node.Part r k → IsPart i r k → HasLeaves i ns r (type_at (parts_in i r) k) →
    size ≡ nodes (type_at (parts_in i r) k) → IsRootSize i ns p size
whole_size i ns p r k size e h f s =
    let t = type_at (parts_in i r) k in
    (freed i ns r t, (root_whole i ns p r t t (node.Part r k) e (λ w. refl) h.whole f, freed_nodes i ns r t f ∙ sym s))

-- a type without variables
closed_leaves : (i : Instances) (ns : List Node) (r : ℕ) (t : Term) → IsBelow 0 t → HasLeaves i ns r t
closed_leaves i ns r int b = tt
closed_leaves i ns r bool b = tt
closed_leaves i ns r char b = tt
closed_leaves i ns r (variable v) b = absurd (omega (arith, b))
closed_leaves i ns r (seq_of t) b = closed_leaves i ns r t b
closed_leaves i ns r (pair_of t u) b = (closed_leaves i ns r t b.0, closed_leaves i ns r u b.1)
closed_leaves i ns r (named m) b = tt

pub closed_size : (i : Instances) (ns : List Node) (r n k : ℕ) (t : Term) → n ≡ 0 → IsBelow n t → (0 < k → k ≡ nodes t) → IsLeafSize i ns r t k
closed_size i ns r n k t z b h l = (closed_leaves i ns r t (subst (λ (m : ℕ). IsBelow m t) z b), h l)

-- sizes of the parts of an instance's type, one after the other
pub leaf_size_at : (i : Instances) (ns : List Node) (r n k : ℕ) (ts us : List Term) (s : Shape) (lent sizes : List ℕ) → us ≡ ts → lent ≡ sizes → length sizes ≡ n → type_at us n ≡ shape_type (type_at us) s →
    ((f : ℕ → Term) → AreLeafSizes i ns r f (length lent) lent → IsLeafSize i ns r (shape_type f s) k) → AreLeafSizes i ns r (type_at ts) n sizes → IsLeafSize i ns r (type_at ts n) k
leaf_size_at i ns r n k ts us s lent sizes same value long shape h a =
    let here : type_at ts n ≡ shape_type (type_at ts) s = subst (λ (xs : List Term). type_at xs n ≡ shape_type (type_at xs) s) same shape in
    let given = subst (λ (xs : List ℕ). (f : ℕ → Term) → AreLeafSizes i ns r f (length xs) xs → IsLeafSize i ns r (shape_type f s) k) value h in
    let all : AreLeafSizes i ns r (type_at ts) (length sizes) sizes = subst (λ (m : ℕ). AreLeafSizes i ns r (type_at ts) m sizes) (sym long) a in
    subst (λ (t : Term). IsLeafSize i ns r t k) (sym here) (given (type_at ts) all)

pub leaf_sizes_more : (i : Instances) (ns : List Node) (r n k : ℕ) (f : ℕ → Term) (sizes more : List ℕ) → length sizes ≡ n → more ≡ sizes ++ k ∷ [] → IsLeafSize i ns r (f n) k → AreLeafSizes i ns r f n sizes →
    AreLeafSizes i ns r f (n + 1) more
leaf_sizes_more i ns r n k f sizes more long is h a p l = elim (cases_lt p n) [
  | inl m ↦
      let e : slice_index more p ≡ slice_index sizes p = ap (λ (xs : List ℕ). slice_index xs p) is ∙ get_or_append_left sizes (k ∷ []) 0 p (omega (arith, long)) in
      subst (IsLeafSize i ns r (f p)) (sym e) (a p m)
  | inr m ↦
      let same : n ≡ p = omega arith in
      let e : slice_index more p ≡ k = ap (λ (xs : List ℕ). slice_index xs p) is ∙ get_or_push sizes k 0 p (long ∙ same) in
      subst (IsLeafSize i ns r (f p)) (sym e) (subst (λ (q : ℕ). IsLeafSize i ns r (f q) k) same h)
]

-- a size is noted
pub sizes_on : (i : Instances) (ns : List Node) (most : ℕ) (sizes : List ℕ) (p k : ℕ) → p < length sizes → IsSizeWithin i ns most p k →
    AreSizes i ns most sizes → AreSizes i ns most (set sizes p k)
sizes_on i ns most sizes p k l h a q s = elim (cases_eq q p) [
  | inl e ↦
      let here : get_or (set sizes p k) q 0 ≡ k = ap (λ j. get_or (set sizes p k) j 0) e ∙ get_or-set_same sizes p k 0 l in
      subst (IsSizeWithin i ns most q) (sym here) (subst (λ j. IsSizeWithin i ns most j k) (sym e) h)
  | inr d ↦
      let other : get_or (set sizes p k) q 0 ≡ get_or sizes q 0 = get_or-set_other sizes p q k 0 d in
      subst (IsSizeWithin i ns most q) (sym other) (a q (subst (λ j. 0 < j) other s))
]

pub size_positive : (i : Instances) (ns : List Node) (most p k : ℕ) → IsSizeWithin i ns most p k → 0 < k
size_positive i ns most p k h = let e = h.0.1.1 in let l = nodes_positive h.0.0 in omega arith

-- none is known at first
pub sizes_first : (i : Instances) (ns : List Node) (most n : ℕ) → AreSizes i ns most (replicate n 0)
sizes_first i ns most n p s =
    let none : ℕ = 0 in
    let some : none < get_or (replicate n none) p none = s in absurd (elim (cases_lt p n) [
      | inl l ↦ let e = get_or-replicate n p none none l in omega (arith, e, some)
      | inr g ↦ let e = get_or_past (replicate n none) p none (omega (arith, length-replicate n none)) in omega (arith, e, some)
    ])

-- the size at the place to which each place from `start` on is linked is known
abbrev pub AreKnown : List Node → List ℕ → ℕ → Type 0
AreKnown ns sizes start = (p : ℕ) → start ≤ p → p < length ns → 0 < get_or sizes (target ns p) 0

pub known_more : (ns : List Node) (sizes : List ℕ) (k start : ℕ) → k + 1 ≡ start → 0 < get_or sizes (target ns k) 0 → AreKnown ns sizes start → AreKnown ns sizes k
known_more ns sizes k start e h a p l b = elim (cases_eq p k) [
  | inl q ↦ subst (λ j. 0 < get_or sizes (target ns j) 0) (sym q) h
  | inr d ↦ a p (omega arith) b
]

pub known_set : (ns : List Node) (sizes : List ℕ) (r k start : ℕ) → r < length sizes → 0 < k → AreKnown ns sizes start → AreKnown ns (set sizes r k) start
known_set ns sizes r k start l s a p m b = elim (cases_eq (target ns p) r) [
  | inl e ↦
      let here : get_or (set sizes r k) (target ns p) 0 ≡ k = ap (λ j. get_or (set sizes r k) j 0) e ∙ get_or-set_same sizes r k 0 l in
      subst (λ j. 0 < j) (sym here) s
  | inr d ↦
      let other : get_or (set sizes r k) (target ns p) 0 ≡ get_or sizes (target ns p) 0 = get_or-set_other sizes r (target ns p) k 0 d in
      subst (λ j. 0 < j) (sym other) (a p m b)
]

pub all_read : (i : Instances) (ns : List Node) (most : ℕ) (sizes : List ℕ) → AreSizes i ns most sizes → AreKnown ns sizes 0 → AreReadWithin i ns most
all_read i ns most sizes a k p l =
    let h = a (target ns p) (k p (omega arith) l) in
    let t = h.0.0 in
    let e = h.0.1.1 in
    let m = h.1 in
    (t, (read_target i ns p t h.0.1.0, omega arith))
