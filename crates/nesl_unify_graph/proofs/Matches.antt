-- Two instances of one whole type.
use Rattle.std.proofs.Common.{◌≡◌, ◌↔◌, ℕ, ◌+◌, ◌-◌, ◌*◌, ◌<◌, ◌≤◌, ◌++◌, inl, inr, List, [], ◌∷◌, All, length, get_or, sum_by, sym, ap, ◌∙◌, subst, arith, length-append, append-nil, append_assoc}
use Rattle.std.proofs.lemmas.Bool.{cases_lt}
use Rattle.std.proofs.lemmas.List.Elements.{All-nil, All-push}
use Rattle.nesl_types_shared.specs.Term.{Term, variable, nodes}
use Rattle.nesl_types_shared.specs.Numbering.{IsBelow}
use Rattle.nesl_types_shared.specs.Substitution.{substitute}
use Rattle.nesl_types_shared.specs.Types.{type_at}
use Rattle.nesl_types_shared.specs.Lists.{parts_of}
use Rattle.nesl_types_shared.specs.declared.shape.Shape.{Shape}
use Rattle.nesl_types_shared.specs.declared.shape.Shape.TheVariants.{Var}
use Rattle.nesl_types_shared.specs.Shapes.{IsShapeBelow, shape_type}
use Rattle.nesl_unify_graph.specs.declared.node.Node.{Node}
use Rattle.nesl_unify_graph.specs.declared.node.Node.TheVariants.{Part}
use Rattle.nesl_unify_graph.specs.declared.instances.Instances.{Instances}
use Rattle.nesl_unify_graph.specs.declared.unify.Pair.{Pair}
use Rattle.nesl_unify_graph.specs.declared.twins.Twins.{Twins}
use Rattle.nesl_unify_graph.specs.Instances.{parts_in, base_in, place_in, instance_type, IsPart, AreBelow}
use Rattle.nesl_unify_graph.specs.Graph.{node_at, node_type, IsRoot}
use Rattle.nesl_unify_graph.specs.Tables.{IsPlaced, IsTable, IsPairBelow, AreEqual}
use Rattle.nesl_unify_graph.specs.Steps.{IsGraph, AgreeWhere, AreTwins, HaveWhole, IsMatched, Moves, joined, merged, part_type, weight}
use Rattle.nesl_unify_graph.proofs.Parts.{part_below, part_one, parts_long, shape_one}
use Rattle.nesl_unify_graph.proofs.Steps.{Equals, All_left, All_right, equal_first}
use Rattle.nesl_unify_graph.proofs.Expansions.{place_below, substitute_below}
use Rattle.nesl_unify_graph.proofs.Joins.{join_moves, join_table, pending_below, join_fewer, read_node}

-- the types of the variables of both instances
abbrev left : Instances → Twins → (ℕ → Term) → ℕ → Term
left i x w v = w (place_in i x.first v)

abbrev right : Instances → Twins → (ℕ → Term) → ℕ → Term
right i x w v = w (place_in i x.second v)

-- the pairs of the variables among the first n parts
pub record AreMatched (i : Instances) (x : Twins) (ts : List Term) (t : Term) (old new : List Pair) (n : ℕ) : Type 0 where
  pub pairs : List Pair
  pub is : new ≡ old ++ pairs
  pub forth : (w : ℕ → Term) → substitute (left i x w) t ≡ substitute (right i x w) t → AreEqual w pairs
  pub back : (w : ℕ → Term) → AreEqual w pairs → (p : ℕ) → p < n → substitute (left i x w) (type_at ts p) ≡ substitute (right i x w) (type_at ts p)
  pub below : (m : ℕ) → AreBelow m i → All (IsPairBelow m) pairs
  pub few : length pairs ≤ n

pub matched_none : (i : Instances) (x : Twins) (ts : List Term) (t : Term) (old : List Pair) → AreMatched i x ts t old old 0
matched_none i x ts t old = record {
  pairs = [];
  is = sym (append-nil old);
  forth = λ w h. All-nil (Equals w);
  back = λ w h p l. absurd (omega arith);
  below = λ m b. All-nil (IsPairBelow m);
  few = omega arith;
}

matched_part : (i : Instances) (x : Twins) (ts : List Term) (n : ℕ) (s : Shape) (w : ℕ → Term) → type_at ts n ≡ shape_type (type_at ts) s → IsShapeBelow n s → ((v : ℕ) → s ≡ Var v → left i x w v ≡ right i x w v) →
    ((p : ℕ) → p < n → substitute (left i x w) (type_at ts p) ≡ substitute (right i x w) (type_at ts p)) → (p : ℕ) → p < n + 1 → substitute (left i x w) (type_at ts p) ≡ substitute (right i x w) (type_at ts p)
matched_part i x ts n s w e b v h p l = elim (cases_lt p n) [
  | inl k ↦ h p k
  | inr k ↦
      let same : n ≡ p = omega arith in
      let one = shape_one (left i x w) (right i x w) (type_at ts) n s b h v in
      subst (λ (q : ℕ). substitute (left i x w) (type_at ts q) ≡ substitute (right i x w) (type_at ts q)) same (ap (substitute (left i x w)) e ∙ one ∙ sym (ap (substitute (right i x w)) e))
]

-- a part that is no variable
pub matched_other : (i : Instances) (x : Twins) (ts : List Term) (t : Term) (old new : List Pair) (n : ℕ) (s : Shape) → type_at ts n ≡ shape_type (type_at ts) s → IsShapeBelow n s → ((v : ℕ) → s ≡ Var v → ⊥) →
    AreMatched i x ts t old new n → AreMatched i x ts t old new (n + 1)
matched_other i x ts t old new n s e b none h = record {
  pairs = h.pairs;
  is = h.is;
  forth = h.forth;
  back = λ w q. matched_part i x ts n s w e b (λ v d. absurd (none v d)) (h.back w q);
  below = h.below;
  few = omega (arith, h.few);
}

-- a variable
pub matched_variable : (i : Instances) (x : Twins) (ts : List Term) (t : Term) (old mid new : List Pair) (n v : ℕ) (s : Shape) (pair : Pair) → HaveWhole i x t → ts ≡ parts_of t → n < length ts →
    type_at ts n ≡ shape_type (type_at ts) s → IsShapeBelow n s → s ≡ Var v → pair.first ≡ place_in i x.first v → pair.second ≡ place_in i x.second v → new ≡ mid ++ pair ∷ [] →
    AreMatched i x ts t old mid n → AreMatched i x ts t old new (n + 1)
matched_variable i x ts t old mid new n v s pair whole parts inside e b is first second more h =
    let here : type_at ts n ≡ variable v = e ∙ ap (shape_type (type_at ts)) is in
    let one : (w : ℕ → Term) → (w pair.first ≡ w pair.second) ↔ (left i x w v ≡ right i x w v) =
    λ w. (λ q. sym (ap w first) ∙ q ∙ ap w second, λ q. ap w first ∙ q ∙ sym (ap w second)) in
    record {
      pairs = h.pairs ++ pair ∷ [];
      is = more ∙ ap (λ (l : List Pair). l ++ pair ∷ []) h.is ∙ append_assoc old h.pairs (pair ∷ []);
      forth = λ w q.
          let at = part_one (left i x w) (right i x w) n ts t parts inside q in
          All-push (Equals w) h.pairs pair (h.forth w q) ((one w).1 (sym (ap (substitute (left i x w)) here) ∙ at ∙ ap (substitute (right i x w)) here));
      back = λ w q.
          let last : left i x w v ≡ right i x w v = (one w).0 (equal_first w pair [] (All_right (Equals w) h.pairs (pair ∷ []) q)) in
          let each : (u : ℕ) → s ≡ Var u → left i x w u ≡ right i x w u = λ u d. let k : v ≡ u = cc in subst (λ (j : ℕ). left i x w j ≡ right i x w j) k last in
          matched_part i x ts n s w e b each (h.back w (All_left (Equals w) h.pairs (pair ∷ []) q));
      below = λ m a.
          let low : v < length i.fresh.items - base_in i x.first = subst (IsBelow (length i.fresh.items - base_in i x.first)) here (part_below (length i.fresh.items - base_in i x.first) n ts t parts inside whole.first) in
          let high : v < length i.fresh.items - base_in i x.second = subst (IsBelow (length i.fresh.items - base_in i x.second)) here (part_below (length i.fresh.items - base_in i x.second) n ts t parts inside whole.second) in
          let p = place_below i m x.first v a low in
          let q = place_below i m x.second v a high in
          let l : pair.first < m = omega (arith, first, p) in
          let k : pair.second < m = omega (arith, second, q) in
          All-push (IsPairBelow m) h.pairs pair (h.below m a) (l, k);
      few = omega (arith, h.few, length-append h.pairs (pair ∷ []));
    }

pub matched_all : (i : Instances) (x : Twins) (ts : List Term) (t : Term) (old new : List Pair) (n : ℕ) → HaveWhole i x t → ts ≡ parts_of t → n ≡ length ts → AreMatched i x ts t old new n → IsMatched i x t old new
matched_all i x ts t old new n whole parts all h =
    let k = whole.place in
    let l : k < n = omega (arith, whole.within, all, ap length parts) in
    let here : type_at ts k ≡ t = ap (λ (us : List Term). type_at us k) parts ∙ whole.here in
    record {
      pairs = h.pairs;
      is = h.is;
      one = λ w. (h.forth w, λ q. sym (ap (substitute (left i x w)) here) ∙ h.back w q k l ∙ ap (substitute (right i x w)) here);
      below = h.below;
      few = omega (arith, h.few, all, parts_long ts t parts);
    }

-- instances of a type without variables are one
pub matched_closed : (i : Instances) (x : Twins) (t : Term) (old new : List Pair) → new ≡ old → length i.fresh.items - base_in i x.first ≡ 0 → HaveWhole i x t → IsMatched i x t old new
matched_closed i x t old new e z whole =
    let closed : IsBelow 0 t = subst (λ (n : ℕ). IsBelow n t) z whole.first in
    record {
      pairs = [];
      is = e ∙ sym (append-nil old);
      one = λ w. (λ h. All-nil (Equals w), λ q. substitute_below 0 (left i x w) (right i x w) t closed (λ v l. absurd (omega (arith, l))));
      below = λ m b. All-nil (IsPairBelow m);
      few = omega arith;
    }

-- a variable of a whole type has a place in each instance
pub variable_place : (i : Instances) (r n v : ℕ) (ts : List Term) (t : Term) (s : Shape) → ts ≡ parts_of t → n < length ts → type_at ts n ≡ shape_type (type_at ts) s → s ≡ Var v →
    IsBelow (length i.fresh.items - base_in i r) t → base_in i r + v < length i.fresh.items
variable_place i r n v ts t s parts inside e is below =
    let here : type_at ts n ≡ variable v = e ∙ ap (shape_type (type_at ts)) is in
    let low : v < length i.fresh.items - base_in i r = subst (IsBelow (length i.fresh.items - base_in i r)) here (part_below (length i.fresh.items - base_in i r) n ts t parts inside below) in
    omega arith

-- nodes of a graph that are twins
pub twins_whole : (i : Instances) (a b : Node) (x : Twins) → ((r k : ℕ) → a ≡ Part r k → IsPart i r k) → ((r k : ℕ) → b ≡ Part r k → IsPart i r k) → (h : AreTwins i a b x) → HaveWhole i x h.whole
twins_whole i a b x p q h =
    let l = p x.first h.part h.first in
    let r = q x.second h.part h.second in
    let at : type_at (parts_in i x.first) h.part ≡ h.whole = ap (λ (ts : List Term). type_at ts h.part) h.parts ∙ h.here in
    let to : type_at (parts_in i x.second) h.part ≡ h.whole = ap (λ (ts : List Term). type_at ts h.part) h.same ∙ h.here in
    record {
      parts = h.parts;
      same = h.same;
      first = subst (IsBelow (length i.fresh.items - base_in i x.first)) at l.below;
      second = subst (IsBelow (length i.fresh.items - base_in i x.second)) to r.below;
      place = h.part;
      within = subst (λ (ts : List Term). h.part < length ts) h.parts l.within;
      here = h.here;
    }

twin_type : (i : Instances) (w : ℕ → Term) (u t : Term) (r k : ℕ) (n : Node) (ts : List Term) → n ≡ Part r k → parts_in i r ≡ ts → type_at ts k ≡ t → node_type i w u n ≡ instance_type i w r t
twin_type i w u t r k n ts is parts here = ap (node_type i w u) is ∙ ap (λ (us : List Term). instance_type i w r (type_at us k)) parts ∙ ap (instance_type i w r) here

twin_merged : (a b : Node) (r k : ℕ) → a ≡ Part r k → merged a b ≡ a
twin_merged a b r k e = ap (λ (n : Node). merged n b) e ∙ sym e

pub twins_agree : (i : Instances) (a b : Node) (x : Twins) (old new : List Pair) (h : AreTwins i a b x) (m : IsMatched i x h.whole old new) → AgreeWhere i a b m.pairs
twins_agree i a b x old new h m w t =
    let l = twin_type i w t h.whole x.first h.part a (parts_of h.whole) h.first h.parts h.here in
    let r = twin_type i w t h.whole x.second h.part b (parts_of h.whole) h.second h.same h.here in
    let e : node_type i w t (merged a b) ≡ node_type i w t a = ap (node_type i w t) (twin_merged a b x.first h.part h.first) in (
      λ q. (q.0 ∙ sym e, (m.one w).0 (sym l ∙ sym q.0 ∙ q.1 ∙ r)),
      λ q. let f = q.0 ∙ e in (f, f ∙ l ∙ (m.one w).1 q.1 ∙ sym r),
    )

pub twins_fewer : (i : Instances) (a b : Node) (x : Twins) (old new : List Pair) (h : AreTwins i a b x) (m : IsMatched i x h.whole old new) → weight i (merged a b) + length m.pairs ≤ weight i a + weight i b
twins_fewer i a b x old new h m =
    let e : weight i (merged a b) ≡ weight i a = ap (weight i) (twin_merged a b x.first h.part h.first) in
    let d : weight i b ≡ 4 * nodes (part_type i x.second h.part) + 1 = ap (weight i) h.second in
    let t : nodes (part_type i x.second h.part) ≡ nodes h.whole = ap (λ (ts : List Term). nodes (type_at ts h.part)) h.same ∙ ap nodes h.here in
    omega (arith, e, d, t, m.few)

-- twins that are read of a table
pub twins_at : (i : Instances) (ns : List Node) (p q : ℕ) (a b : Node) (x : Twins) → p < length ns → q < length ns → a ≡ get_or ns p a → b ≡ get_or ns q b → AreTwins i a b x → AreTwins i (node_at ns p) (node_at ns q) x
twins_at i ns p q a b x l k e d h =
    subst (λ (n : Node). AreTwins i n (node_at ns q) x) (read_node ns p a l e) (subst (λ (n : Node). AreTwins i a n x) (read_node ns q b k d) h)

-- what holds where twins were joined: `new` is the table, and `more` the pairs that are left then
module _ (i : Instances) (ns new : List Node) (pair : Pair) (x : Twins) (pending more : List Pair) (at : new ≡ joined ns pair.first pair.second) (graph : IsGraph i ns) (order : pair.first < pair.second) (inside : pair.second < length ns)
    (twins : AreTwins i (node_at ns pair.first) (node_at ns pair.second) x) where
  pub met_whole : HaveWhole i x twins.whole
  met_whole =
      let n = length ns in
      twins_whole i (node_at ns pair.first) (node_at ns pair.second) x
      (λ r k e. subst (IsPlaced i n n pair.first) e (graph.table pair.first (omega arith)))
      (λ r k e. subst (IsPlaced i n n pair.second) e (graph.table pair.second inside)) twins

  module _ (m : IsMatched i x twins.whole pending more) where
    pub met_moves : Moves i ns (pending ++ pair ∷ []) new more
    met_moves = join_moves i ns new pair m.pairs pending more at m.is order inside (twins_agree i (node_at ns pair.first) (node_at ns pair.second) x pending more twins m)

    pub met_table : IsRoot (node_at ns pair.second) → (count : ℕ) → IsTable i count ns → IsTable i count new
    met_table root = join_table i ns new pair m.pairs pending more at m.is order inside root

    pub met_pending : All (IsPairBelow (length ns)) pending → All (IsPairBelow (length new)) more
    met_pending h = pending_below i ns new pair m.pairs pending more at m.is order inside (m.below (length ns) graph.below) h

    pub met_fewer : sum_by (weight i) new + length more ≤ sum_by (weight i) ns + length pending
    met_fewer = join_fewer i ns new pair m.pairs pending more at m.is order inside (twins_fewer i (node_at ns pair.first) (node_at ns pair.second) x pending more twins m)
