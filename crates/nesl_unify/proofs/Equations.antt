-- Equations that are taken apart.
use Rattle.std.proofs.Common.{◌≡◌, ◌↔◌, ℕ, ◌+◌, ◌-◌, ◌<◌, ◌++◌, inl, inr, List, [], ◌∷◌, All, Some, length, get_or, sum_by, refl, sym, ap, ◌∙◌, subst, arith, append-nil, append_assoc}
use Rattle.std.specs.Prelude.{slice_get, slice_index, Result, Ok, Err, OnOk}
use Rattle.std.proofs.lemmas.Bool.{cases_lt}
use Rattle.std.proofs.lemmas.List.{get_or_default, get_or_append_left, length_push, get_or_push}
use Rattle.std.proofs.lemmas.List.Sums.{sum_by-append}
use Rattle.std.proofs.lemmas.List.Elements.{All-nil, All-cons, All-append, All-push}
use Rattle.std.proofs.lemmas.Option.{slice_get-get_or}
use Rattle.nesl_types_shared.specs.Term.{Term, variable, seq_of, nodes}
use Rattle.nesl_types_shared.specs.Numbering.{IsBelow}
use Rattle.nesl_types_shared.specs.Substitution.{substitute}
use Rattle.nesl_types_shared.specs.Types.{type_at, Extends}
use Rattle.nesl_types_shared.specs.Lists.{last_type, parts_of}
use Rattle.nesl_types_shared.specs.declared.shape.Shape.{Shape}
use Rattle.nesl_types_shared.specs.declared.shape.Shape.TheVariants as shape
use Rattle.nesl_types_shared.specs.Shapes.{IsShapeBelow, shape_type}
use Rattle.nesl_types_shared.proofs.Nodes.{nodes_positive}
use Rattle.nesl_unify_graph.specs.declared.node.Node.{Node}
use Rattle.nesl_unify_graph.specs.declared.node.Node.TheVariants.{Same, Part}
use Rattle.nesl_unify_graph.specs.declared.instances.Source.TheVariants.{Own}
use Rattle.nesl_unify_graph.specs.declared.instances.Instance.{Instance}
use Rattle.nesl_unify_graph.specs.declared.instances.Instances.{Instances}
use Rattle.nesl_unify_graph.specs.Graph.{node_type}
use Rattle.nesl_unify_graph.specs.Instances.{parts_in, base_in, place_in, instance_type, AreBelow}
use Rattle.nesl_unify_graph.proofs.Steps.{All_left, All_right}
use Rattle.nesl_unify.specs.declared.fact.Fact.{Fact}
use Rattle.nesl_unify.specs.declared.equation.Ends.{Ends}
use Rattle.nesl_unify.specs.declared.equation.Sides.{Sides}
use Rattle.nesl_unify.specs.declared.equation.Equation.{Equation}
use Rattle.nesl_unify.specs.Facts.{IsSaid, IsFact, AreFacts, IsKept}
use Rattle.nesl_unify.specs.Equations.{IsInner, part_node, AreEnds, IsAlike, AreAlike, Differ, IsSplit, IsTakenApart, AreTakenApart, AreSides, HasParts, IsAdded, AreOwnPlaces, HasOwnPlaces, AreBothBelow, IsEqual, IsEquated, weight}
use Rattle.nesl_unify.proofs.Below.{part_below}
use Rattle.nesl_unify.proofs.Facts.{below_more, substitute_below, kept_none, facts_push, true_push, true_kept, facts_kept}
use Rattle.nesl_unify.proofs.Instances.{parts_in_is, base_in_is, kept_put, no_instance, last_part}

-- shapes that are no variables
pub split_leaf : (a : Shape) (old new : List Ends) → new ≡ old → ((f g s : ℕ → Term) → substitute s (shape_type f a) ≡ substitute s (shape_type g a)) → ((f : ℕ → Term) → 0 < nodes (shape_type f a)) →
    IsSplit a a old new
split_leaf a old new e h p = record {
  rest = [];
  is = e ∙ sym (append-nil old);
  same = λ f g s. (λ _. All-nil (λ (x : Ends). substitute s (f x.left) ≡ substitute s (g x.right)), λ _. h f g s);
  within = λ m n _ _. All-nil (λ (x : Ends). (x.left < m) × (x.right < n));
  fewer = λ f. p f;
}

pub split_seq : (e : Ends) (old new : List Ends) → new ≡ old ++ e ∷ [] → IsSplit (shape.SeqOf e.left) (shape.SeqOf e.right) old new
split_seq e old new is = record {
  rest = e ∷ [];
  is = is;
  same = λ f g s.
      let P : Ends → Type 0 = λ (x : Ends). substitute s (f x.left) ≡ substitute s (g x.right) in (
        λ h. let d : substitute s (f e.left) ≡ substitute s (g e.right) = cc in All-cons P e [] d (All-nil P),
        λ h. ap seq_of (h 0 e (omega arith)),
      );
  within = λ m n l r. let P : Ends → Type 0 = λ (x : Ends). (x.left < m) × (x.right < n) in All-cons P e [] (l, r) (All-nil P);
  fewer = λ f. omega arith;
}

pub split_both : (e d : Ends) (old mid new : List Ends) → mid ≡ old ++ e ∷ [] → new ≡ mid ++ d ∷ [] → IsSplit (shape.Both e.left d.left) (shape.Both e.right d.right) old new
split_both e d old mid new a b = record {
  rest = e ∷ d ∷ [];
  is = rw b (rw a (simp append_assoc));
  same = λ f g s.
      let P : Ends → Type 0 = λ (x : Ends). substitute s (f x.left) ≡ substitute s (g x.right) in (
        λ h.
            let x : substitute s (f e.left) ≡ substitute s (g e.right) = cc in
            let y : substitute s (f d.left) ≡ substitute s (g d.right) = cc in
            All-cons P e (d ∷ []) x (All-cons P d [] y (All-nil P)),
        λ h. let x : P e = h 0 e (omega arith) in let y : P d = h 1 d (omega arith) in cc,
      );
  within = λ m n l r.
      let P : Ends → Type 0 = λ (x : Ends). (x.left < m) × (x.right < n) in
      All-cons P e (d ∷ []) (l.0, r.0) (All-cons P d [] (l.1, r.1) (All-nil P));
  fewer = λ f. omega arith;
}

pub split_is : (a b c d : Shape) (old new : List Ends) → a ≡ b → c ≡ d → IsSplit b d old new → IsSplit a c old new
split_is a b c d old new e f h = subst (λ (x : Shape). IsSplit x c old new) (sym e) (subst (λ (x : Shape). IsSplit b x old new) (sym f) h)

-- the node of a part
inner_whole : (f : ℕ → Term) (b : Shape) → IsInner b → (v : ℕ) → shape_type f b ≡ variable v → ⊥
inner_whole f shape.Int i v e = absurd cc
inner_whole f shape.Bool i v e = absurd cc
inner_whole f shape.Char i v e = absurd cc
inner_whole f (shape.Var w) i v e = i
inner_whole f (shape.Named m) i v e = absurd cc
inner_whole f (shape.SeqOf p) i v e = absurd cc
inner_whole f (shape.Both p q) i v e = absurd cc

inner_node : (r k : ℕ) (b : Shape) → IsInner b → part_node r k b ≡ Part r k
inner_node r k shape.Int i = refl
inner_node r k shape.Bool i = refl
inner_node r k shape.Char i = refl
inner_node r k (shape.Var w) i = absurd i
inner_node r k (shape.Named m) i = refl
inner_node r k (shape.SeqOf p) i = refl
inner_node r k (shape.Both p q) i = refl

abbrev IsNode : Instances → ℕ → Term → Node → Type 0
IsNode i n t m = IsSaid i n m × ((s : ℕ → Term) (u : Term) → node_type i s u m ≡ substitute s t)

part_inner : (i : Instances) (n r k : ℕ) (ts : List Term) (b : Shape) → HasParts i n r ts → k < length ts → type_at ts k ≡ shape_type (type_at ts) b → IsInner b → IsNode i n (type_at ts k) (part_node r k b)
part_inner i n r k ts b h l e inner =
    let p = (h k l).1 (λ v d. inner_whole (type_at ts) b inner v (sym e ∙ d)) in
    subst (IsNode i n (type_at ts k)) (sym (inner_node r k b inner)) (p.0, λ s u. p.1 s)

part_variable : (i : Instances) (n r k v : ℕ) (ts : List Term) → HasParts i n r ts → k < length ts → type_at ts k ≡ variable v → IsNode i n (type_at ts k) (Same v)
part_variable i n r k v ts h l e = (subst (IsBelow n) e (h k l).0, λ s u. sym (ap (substitute s) e))

part_is : (i : Instances) (n r k : ℕ) (ts : List Term) (b : Shape) → HasParts i n r ts → k < length ts → type_at ts k ≡ shape_type (type_at ts) b → IsNode i n (type_at ts k) (part_node r k b)
part_is i n r k ts shape.Int h l e = part_inner i n r k ts shape.Int h l e tt
part_is i n r k ts shape.Bool h l e = part_inner i n r k ts shape.Bool h l e tt
part_is i n r k ts shape.Char h l e = part_inner i n r k ts shape.Char h l e tt
part_is i n r k ts (shape.Var v) h l e = part_variable i n r k v ts h l e
part_is i n r k ts (shape.Named m) h l e = part_inner i n r k ts (shape.Named m) h l e tt
part_is i n r k ts (shape.SeqOf p) h l e = part_inner i n r k ts (shape.SeqOf p) h l e tt
part_is i n r k ts (shape.Both p q) h l e = part_inner i n r k ts (shape.Both p q) h l e tt

-- what is pending, with ends more
abbrev one_more : List Ends → Ends → List Ends
one_more es e = es ++ e ∷ []

alike_first : (s : ℕ → Term) (x : Sides) (es : List Ends) (e : Ends) → AreAlike s x (one_more es e) → AreAlike s x es
alike_first s x es e h = All_left (IsAlike s x) es (e ∷ []) h

pub alike_last : (s : ℕ → Term) (x : Sides) (es : List Ends) (e : Ends) → AreAlike s x (one_more es e) → IsAlike s x e
alike_last s x es e h = All_right (IsAlike s x) es (e ∷ []) h 0 e (omega arith)

-- ends one of which is a variable, whose type a new fact says
module _ (x : Sides) (old new : List Fact) (es : List Ends) (e : Ends) (v : ℕ) (m : Node) (ends : AreEnds x e) (within : All (AreEnds x) es) (is : new ≡ old ++ record { variable = v; node = m } ∷ []) where
  told_apart : ((i : Instances) (n : ℕ) → AreSides i n x → (v < n) × (IsSaid i n m × ((s : ℕ → Term) → (IsAlike s x e) ↔ (s v ≡ node_type i s (s v) m)))) → IsTakenApart x old new es e es
  told_apart h =
      let f : Fact = record { variable = v; node = m } in
      record {
        apart = record {
          facts = λ i n a k. let y = h i n a in facts_push i i n old new f k (kept_none i) k.below (y.0, y.1.0) is;
          within = within;
          alike = λ s a. alike_first s x es e a;
          same = λ i n a k s.
              let y = h i n a in
              let p = true_push i i n old new f s (node_type i s (s v) m) k (kept_none i) is refl in (
                λ t. let q = p.0 t.0 in (q.0, All-push (IsAlike s x) es e t.1 ((y.1.1 s).1 q.1)),
                λ t. (p.1 (t.0, (y.1.1 s).0 (alike_last s x es e t.1)), alike_first s x es e t.1),
              );
        };
        fewer = let p = nodes_positive (type_at x.left e.left) in omega (arith, p);
      }

pub apart_left : (x : Sides) (old new : List Fact) (es : List Ends) (e : Ends) (v : ℕ) (a b : Shape) (m : Node) → AreEnds x e → All (AreEnds x) es → type_at x.left e.left ≡ shape_type (type_at x.left) a → a ≡ shape.Var v →
    type_at x.right e.right ≡ shape_type (type_at x.right) b → m ≡ part_node x.second e.right b → new ≡ old ++ record { variable = v; node = m } ∷ [] → IsTakenApart x old new es e es
apart_left x old new es e v a b m ends within l w r d is =
    let left : type_at x.left e.left ≡ variable v = l ∙ ap (shape_type (type_at x.left)) w in
    told_apart x old new es e v m ends within is (λ i n h.
    let p = subst (IsNode i n (type_at x.right e.right)) (sym d) (part_is i n x.second e.right x.right b h.second ends.1 r) in (
      subst (IsBelow n) left (h.first e.left ends.0).0,
      (
        p.0,
        λ s.
            let y : substitute s (type_at x.left e.left) ≡ s v = ap (substitute s) left in
            let z = p.1 s (s v) in
            (λ q. sym y ∙ q ∙ sym z, λ q. y ∙ q ∙ z),
      ),
    ))

pub apart_right : (x : Sides) (old new : List Fact) (es : List Ends) (e : Ends) (v : ℕ) (a b : Shape) (m : Node) → AreEnds x e → All (AreEnds x) es → type_at x.right e.right ≡ shape_type (type_at x.right) b → b ≡ shape.Var v →
    type_at x.left e.left ≡ shape_type (type_at x.left) a → m ≡ part_node x.first e.left a → new ≡ old ++ record { variable = v; node = m } ∷ [] → IsTakenApart x old new es e es
apart_right x old new es e v a b m ends within r w l d is =
    let right : type_at x.right e.right ≡ variable v = r ∙ ap (shape_type (type_at x.right)) w in
    told_apart x old new es e v m ends within is (λ i n h.
    let p = subst (IsNode i n (type_at x.left e.left)) (sym d) (part_is i n x.first e.left x.left a h.first ends.0 l) in (
      subst (IsBelow n) right (h.second e.right ends.1).0,
      (
        p.0,
        λ s.
            let y : substitute s (type_at x.right e.right) ≡ s v = ap (substitute s) right in
            let z = p.1 s (s v) in
            (λ q. sym y ∙ sym q ∙ sym z, λ q. sym (y ∙ q ∙ z)),
      ),
    ))

-- ends of which none is a variable
pub apart_split : (x : Sides) (facts : List Fact) (es after : List Ends) (e : Ends) (a b : Shape) → AreEnds x e → All (AreEnds x) es → type_at x.left e.left ≡ shape_type (type_at x.left) a → IsShapeBelow e.left a →
    type_at x.right e.right ≡ shape_type (type_at x.right) b → IsShapeBelow e.right b → IsSplit a b es after → IsTakenApart x facts facts es e after
apart_split x facts es after e a b ends within l la r rb p =
    let ts = type_at x.left in
    let us = type_at x.right in
    let here : (s : ℕ → Term) → (IsAlike s x e) ↔ AreAlike s x p.rest =
    λ s. let q = p.same ts us s in (λ h. q.0 (sym (ap (substitute s) l) ∙ h ∙ ap (substitute s) r), λ h. ap (substitute s) l ∙ q.1 h ∙ sym (ap (substitute s) r)) in
    let low = p.within e.left e.right la rb in
    let rest : All (AreEnds x) p.rest = λ k d j. let y = low k d j in (omega (arith, y.0, ends.0), omega (arith, y.1, ends.1)) in
    let forth : (s : ℕ → Term) → AreAlike s x (one_more es e) → AreAlike s x after =
    λ s h. subst (AreAlike s x) (sym p.is) (All-append (IsAlike s x) es p.rest (alike_first s x es e h) ((here s).0 (alike_last s x es e h))) in
    let back : (s : ℕ → Term) → AreAlike s x after → AreAlike s x (one_more es e) =
    λ s h.
    let g = subst (AreAlike s x) p.is h in
    All-push (IsAlike s x) es e (All_left (IsAlike s x) es p.rest g) ((here s).1 (All_right (IsAlike s x) es p.rest g)) in
    record {
      apart = record {
        facts = λ i n h k. k;
        within = subst (All (AreEnds x)) (sym p.is) (All-append (AreEnds x) es p.rest within rest);
        alike = forth;
        same = λ i n h k s. (λ t. (t.0, back s t.1), λ t. (t.0, forth s t.1));
      };
      fewer =
          let sum : sum_by (weight x) after ≡ sum_by (weight x) es + sum_by (weight x) p.rest = ap (sum_by (weight x)) p.is ∙ sum_by-append (weight x) es p.rest in
          let few = p.fewer ts in
          omega (arith, sum, few, ap nodes l);
    }

pub apart_split_ok : {E : Type 0} (x : Sides) (facts : List Fact) (es after : List Ends) (e : Ends) (a b : Shape) (r : Result (Unit {0}) E) → AreEnds x e → All (AreEnds x) es → type_at x.left e.left ≡ shape_type (type_at x.left) a → IsShapeBelow e.left a →
    type_at x.right e.right ≡ shape_type (type_at x.right) b → IsShapeBelow e.right b → OnOk r (IsSplit a b es after) → OnOk r (IsTakenApart x facts facts es e after)
apart_split_ok x facts es after e a b (Ok u) ends within l la r rb p = apart_split x facts es after e a b ends within l la r rb p
apart_split_ok x facts es after e a b (Err u) ends within l la r rb p = tt

pub apart_never : (x : Sides) (e : Ends) (a b : Shape) → type_at x.left e.left ≡ shape_type (type_at x.left) a → type_at x.right e.right ≡ shape_type (type_at x.right) b → Differ a b → (s : ℕ → Term) → IsAlike s x e → ⊥
apart_never x e a b l r d s h = d (type_at x.left) (type_at x.right) s (sym (ap (substitute s) l) ∙ h ∙ ap (substitute s) r)

-- step after step
pub apart_none : (x : Sides) (facts : List Fact) (es : List Ends) → All (AreEnds x) es → AreTakenApart x facts facts es es
apart_none x facts es w = record { facts = λ i n h k. k; within = w; alike = λ s h. h; same = λ i n h k s. (λ t. t, λ t. t) }

pub apart_more : (x : Sides) (old mid new : List Fact) (es fs gs : List Ends) → AreTakenApart x old mid es fs → AreTakenApart x mid new fs gs → AreTakenApart x old new es gs
apart_more x old mid new es fs gs a b = record {
  facts = λ i n h k. b.facts i n h (a.facts i n h k);
  within = b.within;
  alike = λ s h. b.alike s (a.alike s h);
  same = λ i n h k s.
      let p = a.same i n h k s in
      let q = b.same i n h (a.facts i n h k) s in
      (λ t. p.0 (q.0 t), λ t. q.1 (p.1 t));
}

-- an instance whose variables have their own places
pub added_kept : (i j : Instances) (t : Term) (r : ℕ) → IsAdded i j t r → IsKept i j
added_kept i j t r x =
    kept_put i j (record { source = Own t; base = 0 } ∷ []) [] (subst (Extends i.shared) (sym x.shared) (record { longer = omega arith; kept = λ p l. refl })) x.made (x.fresh ∙ sym (append-nil i.fresh.items))

pub added_places : (n : ℕ) (i j : Instances) (t : Term) (r : ℕ) → IsAdded i j t r → HasOwnPlaces n i → HasOwnPlaces n j
added_places n i j t r x h = record { long = ap length x.fresh ∙ h.long; own = λ v l. ap (λ (q : List ℕ). slice_index q v) x.fresh ∙ h.own v l }

pub added_parts : (n : ℕ) (i j : Instances) (t : Term) (r : ℕ) (ts : List Term) → IsAdded i j t r → HasOwnPlaces n i → IsBelow n t → ts ≡ parts_of t → HasParts j n r ts
added_parts n i j t r ts x h b e k l =
    let y : Instance = record { source = Own t; base = 0 } in
    let long : length j.made.items ≡ length i.made.items + 1 = ap length x.made ∙ length_push i.made.items y in
    let made : r < length j.made.items = omega (arith, x.place, long) in
    let at : slice_get j.made.items r ≡ Some y =
    slice_get-get_or j.made.items r no_instance made ∙ ap Some (ap (λ (q : List Instance). get_or q r no_instance) x.made ∙ get_or_push i.made.items y no_instance r (sym x.place)) in
    let pj : parts_in j r ≡ ts = parts_in_is j r y at ∙ sym e in
    let bj : base_in j r ≡ 0 = base_in_is j r y at in
    let low : IsBelow n (type_at ts k) = part_below n k ts t e l b in
    let here : type_at (parts_in j r) k ≡ type_at ts k = ap (λ (q : List Term). type_at q k) pj in
    let f : length j.fresh.items ≡ n = ap length x.fresh ∙ h.long in
    let g = added_places n i j t r x h in (
      low,
      λ whole. (
        record {
          made = made;
          within = subst (λ (q : List Term). k < length q) (sym pj) l;
          below = subst (IsBelow (length j.fresh.items - base_in j r)) (sym here) (below_more n (length j.fresh.items - base_in j r) (type_at ts k) (omega (arith, f, bj)) low);
          whole = λ v d. whole v (sym here ∙ d);
        },
        λ s.
            ap (instance_type j s r) here
            ∙ substitute_below n (λ v. s (place_in j r v)) s (type_at ts k) low (λ v a.
            let z : base_in j r + v ≡ v = omega (arith, bj) in
            ap s (ap (slice_index j.fresh.items) z ∙ g.own v a)),
      ),
    )

parts_kept : (n : ℕ) (i j : Instances) (r : ℕ) (ts : List Term) → IsKept i j → HasParts i n r ts → HasParts j n r ts
parts_kept n i j r ts k h p l =
    let y = h p l in (y.0, λ whole. let z = y.1 whole in let q = k r p z.0 in (q.0, λ s. q.1 s ∙ z.1 s))

kept_more : (i j k : Instances) → IsKept i j → IsKept j k → IsKept i k
kept_more i j k a b r p h = let x = a r p h in let y = b r p x.0 in (y.0, λ w. y.1 w ∙ x.1 w)

-- an equation whose types were taken apart
module _ (i j k : Instances) (old new : List Fact) (e : Equation) (x : Sides) (one : Ends) (l : IsAdded i j e.left x.first) (r : IsAdded j k e.right x.second) (left : x.left ≡ parts_of e.left) (right : x.right ≡ parts_of e.right)
    (at_left : type_at x.left one.left ≡ e.left) (at_right : type_at x.right one.right ≡ e.right) where
  alike_is : (s : ℕ → Term) → IsEqual s e ↔ AreAlike s x (one ∷ [])
  alike_is s = (
    λ h. All-cons (IsAlike s x) one [] (ap (substitute s) at_left ∙ h ∙ sym (ap (substitute s) at_right)) (All-nil (IsAlike s x)),
    λ h. sym (ap (substitute s) at_left) ∙ h 0 one (omega arith) ∙ ap (substitute s) at_right,
  )

  pub equated_sides : (n : ℕ) → HasOwnPlaces n i → AreBothBelow n e → AreSides k n x
  equated_sides n h b = record {
    first = parts_kept n j k x.first x.left (added_kept j k e.right x.second r) (added_parts n i j e.left x.first x.left l h b.0 left);
    second = added_parts n j k e.right x.second x.right r (added_places n i j e.left x.first l h) b.1 right;
  }

  pub equated_facts : (n : ℕ) → AreFacts i n old → AreFacts k n old
  equated_facts n h =
      facts_kept i k n old h (kept_more i j k (added_kept i j e.left x.first l) (added_kept j k e.right x.second r)) (subst (All (λ q. q < n)) (sym (r.fresh ∙ l.fresh)) h.below)

  pub equated : AreTakenApart x old new (one ∷ []) [] → IsEquated i k old new e
  equated a = record {
    places = λ n h. added_places n j k e.right x.second r (added_places n i j e.left x.first l h);
    facts = λ n h b f. a.facts k n (equated_sides n h b) (equated_facts n f);
    same = λ n h b f s.
        let p = a.same k n (equated_sides n h b) (equated_facts n f) s in
        let q = true_kept i k n old s f (kept_more i j k (added_kept i j e.left x.first l) (added_kept j k e.right x.second r)) in (
          λ t. let y = p.0 (t, All-nil (IsAlike s x)) in (q.0 y.0, (alike_is s).1 y.1),
          λ t. (p.1 (q.1 t.0, (alike_is s).0 t.1)).0,
        );
  }

pub equated_ok : {E : Type 0} (i j k : Instances) (old new : List Fact) (e : Equation) (x : Sides) (one : Ends) (pending : List Ends) (r : Result (Unit {0}) E) → IsAdded i j e.left x.first → IsAdded j k e.right x.second →
    0 < length x.left → last_type x.left ≡ e.left → x.left ≡ parts_of e.left → one.left ≡ length x.left - 1 →
    0 < length x.right → last_type x.right ≡ e.right → x.right ≡ parts_of e.right → one.right ≡ length x.right - 1 → pending ≡ one ∷ [] →
    OnOk r (AreTakenApart x old new pending []) → OnOk r (IsEquated i k old new e)
equated_ok i j k old new e x one pending (Ok u) l r ls lt lp la rs rt rp ra d h =
    let a = last_part x.left x.left e.left one.left ls lt refl la in
    let b = last_part x.right x.right e.right one.right rs rt refl ra in
    equated i j k old new e x one l r lp rp a.1 b.1 (subst (λ (q : List Ends). AreTakenApart x old new q []) d h)
equated_ok i j k old new e x one pending (Err u) l r ls lt lp la rs rt rp ra d h = tt

pub equated_never : (e : Equation) (x : Sides) (one : Ends) (pending : List Ends) → 0 < length x.left → last_type x.left ≡ e.left → one.left ≡ length x.left - 1 →
    0 < length x.right → last_type x.right ≡ e.right → one.right ≡ length x.right - 1 → pending ≡ one ∷ [] → ((s : ℕ → Term) → AreAlike s x pending → ⊥) → (s : ℕ → Term) → IsEqual s e → ⊥
equated_never e x one pending ls lt la rs rt ra d never s h =
    let a = last_part x.left x.left e.left one.left ls lt refl la in
    let b = last_part x.right x.right e.right one.right rs rt refl ra in
    let alike = All-cons (IsAlike s x) one [] (ap (substitute s) a.1 ∙ h ∙ sym (ap (substitute s) b.1)) (All-nil (IsAlike s x)) in
    never s (subst (AreAlike s x) (sym d) alike)

-- of equations that are looked at one by one
own_below : (n : ℕ) (i : Instances) → HasOwnPlaces n i → AreBelow n i
own_below n i h k d l =
    let inside : k < n = omega (arith, h.long) in
    let e : get_or i.fresh.items k d ≡ k = sym (get_or_default i.fresh.items k 0 d l) ∙ h.own k inside in
    omega (arith, e)

pub own_facts : (n : ℕ) (i : Instances) (fs : List Fact) → HasOwnPlaces n i → fs ≡ [] → AreFacts i n fs
own_facts n i fs h e = record { below = own_below n i h; made = subst (All (IsFact i n)) (sym e) (All-nil (IsFact i n)) }

pub equation_at : (P : Equation → Type 0) (es : List Equation) (k : ℕ) (e : Equation) → All P es → k < length es → e ≡ get_or es k e → P e
equation_at P es k e h l is = subst P (sym is) (h k e l)

-- the first n equations hold
abbrev pub SolvesFirst : (ℕ → Term) → ℕ → List Equation → Type 0
SolvesFirst s n es = (k : ℕ) (d : Equation) → k < n → IsEqual s (get_or es k d)

pub solves_more : (s : ℕ → Term) (n : ℕ) (es : List Equation) (e : Equation) → n < length es → e ≡ get_or es n e → (SolvesFirst s n es × IsEqual s e) ↔ SolvesFirst s (n + 1) es
solves_more s n es e l is = (
  λ h k d j. elim (cases_lt k n) [
    | inl m ↦ h.0 k d m
    | inr m ↦
        let same : k ≡ n = omega arith in
        let at : e ≡ get_or es k d = is ∙ get_or_default es n e d l ∙ ap (λ q. get_or es q d) (sym same) in
        subst (IsEqual s) at h.1
  ],
  λ h. ((λ k d j. h k d (omega arith)), subst (IsEqual s) (sym is) (h n e (omega arith))),
)

-- one place more
pub own_more : (n : ℕ) (old new : List ℕ) → AreOwnPlaces n old → new ≡ old ++ n ∷ [] → AreOwnPlaces (n + 1) new
own_more n old new h is = record {
  long = omega (arith, ap length is, length_push old n, h.long);
  own = λ v l. elim (cases_lt v n) [
    | inl m ↦ ap (λ (q : List ℕ). slice_index q v) is ∙ get_or_append_left old (n ∷ []) 0 v (omega (arith, h.long)) ∙ h.own v m
    | inr m ↦ let same : n ≡ v = omega arith in ap (λ (q : List ℕ). slice_index q v) is ∙ get_or_push old n 0 v (h.long ∙ same) ∙ same
  ];
}
