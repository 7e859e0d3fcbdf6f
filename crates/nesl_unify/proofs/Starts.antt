-- The tables of facts.
use Rattle.std.proofs.Common.{◌≡◌, ℕ, ◌+◌, ◌-◌, ◌<◌, ◌≤◌, ◌++◌, cond, inl, inr, List, [], ◌∷◌, All, length, get_or, replicate, refl, sym, ap, ◌∙◌, subst, arith}
use Rattle.std.proofs.Math.Dec.{ltb}
use Rattle.std.proofs.lemmas.Bool.{cases_lt, lt-ltb, le-ltb}
use Rattle.std.proofs.lemmas.List.{get_or_append_left, get_or_push, get_or_past, get_or_default, get_or-replicate, length-replicate, length_push}
use Rattle.nesl_types_shared.specs.Term.{Term, nodes}
use Rattle.nesl_unify_graph.specs.declared.node.Node.{Node}
use Rattle.nesl_unify_graph.specs.declared.node.Node.TheVariants.{Free, Same, Int, Bool as Boolean, Char, Named, SeqOf, Both, Part}
use Rattle.nesl_unify_graph.specs.declared.instances.Instances.{Instances}
use Rattle.nesl_unify_graph.specs.declared.unify.Pair.{Pair}
use Rattle.nesl_unify_graph.specs.Graph.{node_at, node_type, Fits}
use Rattle.nesl_unify_graph.specs.Tables.{IsPlaced, IsTable, IsPairBelow, AreEqual}
use Rattle.nesl_unify.specs.declared.fact.Fact.{Fact}
use Rattle.nesl_unify.specs.Facts.{IsSaid, AreFacts, AreTrue}
use Rattle.nesl_unify.specs.Starts.{IsStart}
use Rattle.nesl_unify.proofs.Facts.{said_same, said_any}

abbrev pub no_fact : Fact
no_fact = record { variable = 0; node = Free }

abbrev pub no_pair : Pair
no_pair = record { first = 0; second = 0 }

pub start_first : (count : ℕ) (facts : List Fact) (ns : List Node) (ps : List Pair) → ns ≡ replicate count Free → ps ≡ [] → IsStart count 0 facts ns ps
start_first count facts ns ps e d = record {
  long = let x = ap length e ∙ length-replicate count Free in omega arith;
  paired = ap length d;
  free = λ p l. ap (λ (l : List Node). node_at l p) e ∙ get_or-replicate count p Free Free l;
  said = λ k x l. absurd (omega arith);
  ends = λ k x y l. absurd (omega arith);
}

pub start_more : (count k : ℕ) (facts : List Fact) (f : Fact) (p : Pair) (ns new : List Node) (ps more : List Pair) → IsStart count k facts ns ps → k < length facts → f ≡ get_or facts k f →
    p ≡ record { first = f.variable; second = length ns } → new ≡ ns ++ f.node ∷ [] → more ≡ ps ++ p ∷ [] → IsStart count (k + 1) facts new more
start_more count k facts f p ns new ps more x inside is pair en ep =
    let n : length new ≡ length ns + 1 = ap length en ∙ length_push ns f.node in
    let m : length more ≡ length ps + 1 = ap length ep ∙ length_push ps p in
    let at : (e : Fact) → get_or facts k e ≡ f = λ e. get_or_default facts k e f inside ∙ sym is in
    record {
      long = omega (arith, x.long);
      paired = omega (arith, x.paired);
      free = λ q l. ap (λ (t : List Node). node_at t q) en ∙ get_or_append_left ns (f.node ∷ []) Free q (omega (arith, x.long)) ∙ x.free q l;
      said = λ j e l. elim (cases_lt j k) [
        | inl h ↦ ap (λ (t : List Node). node_at t (count + j)) en ∙ get_or_append_left ns (f.node ∷ []) Free (count + j) (omega (arith, x.long)) ∙ x.said j e h
        | inr g ↦
            let s : k ≡ j = omega arith in
            let a : length ns ≡ count + j = omega (arith, x.long) in
            let b : f.node ≡ (get_or facts j e).node = ap (λ (q : Fact). q.node) (sym (at e)) ∙ ap (λ (q : ℕ). (get_or facts q e).node) s in
            ap (λ (t : List Node). node_at t (count + j)) en ∙ get_or_push ns f.node Free (count + j) a ∙ b
      ];
      ends = λ j d e l. elim (cases_lt j k) [
        | inl h ↦ ap (λ (t : List Pair). get_or t j d) ep ∙ get_or_append_left ps (p ∷ []) d j (omega (arith, x.paired)) ∙ x.ends j d e h
        | inr g ↦
            let s : k ≡ j = omega arith in
            let a : length ps ≡ j = omega (arith, x.paired) in
            let c : length ns ≡ count + j = omega (arith, x.long) in
            let b : f.variable ≡ (get_or facts j e).variable = ap (λ (q : Fact). q.variable) (sym (at e)) ∙ ap (λ (q : ℕ). (get_or facts q e).variable) s in
            let u : ◌≡◌ {A = Pair} (record { first = f.variable; second = length ns }) (record { first = (get_or facts j e).variable; second = count + j }) = cc in
            ap (λ (t : List Pair). get_or t j d) ep ∙ get_or_push ps p d j a ∙ pair ∙ u
      ];
    }

placed_said : (i : Instances) (count n p : ℕ) (m : Node) → count ≤ p → count ≤ n → IsSaid i count m → IsPlaced i count n p m
placed_said i count n p Free a b k = absurd k
placed_said i count n p (Same q) a b k = omega arith
placed_said i count n p Int a b k = tt
placed_said i count n p Boolean a b k = tt
placed_said i count n p Char a b k = tt
placed_said i count n p (Named m) a b k = tt
placed_said i count n p (SeqOf q) a b k = omega arith
placed_said i count n p (Both q r) a b k = let x = k.0 in let y = k.1 in (omega arith, omega arith)
placed_said i count n p (Part r j) a b k = k

-- types of variables, continued to the places of facts
spread : (ℕ → Term) → ℕ → List Fact → ℕ → Term
spread s count facts p = cond (ltb p count) (s p) (s (get_or facts (p - count) no_fact).variable)

spread_below : (s : ℕ → Term) (count : ℕ) (facts : List Fact) (p : ℕ) → p < count → spread s count facts p ≡ s p
unfolding spread
spread_below s count facts p l = rw (lt-ltb p count l)

spread_from : (s : ℕ → Term) (count : ℕ) (facts : List Fact) (p : ℕ) → count ≤ p → spread s count facts p ≡ s (get_or facts (p - count) no_fact).variable
unfolding spread
spread_from s count facts p l = rw (le-ltb p count l)

-- types of variables that are continued to the places of facts, as the table says
pub record IsSpread (i : Instances) (s : ℕ → Term) (count : ℕ) (ns : List Node) (ps : List Pair) : Type 0 where
  pub types : ℕ → Term
  pub fits : Fits i types ns
  pub equal : AreEqual types ps
  pub agrees : (v : ℕ) → v < count → types v ≡ s v
  pub bounded : (most : ℕ) → ((p : ℕ) → nodes (s p) ≤ most) → (p : ℕ) → nodes (types p) ≤ most

module _ (i : Instances) (count : ℕ) (facts : List Fact) (ns : List Node) (ps : List Pair) (made : AreFacts i count facts) (x : IsStart count (length facts) facts ns ps) where
  pub start_table : IsTable i count ns
  start_table p l = elim (cases_lt p count) [
    | inl h ↦ subst (IsPlaced i count (length ns) p) (sym (x.free p h)) h
    | inr g ↦
        let k : ℕ = p - count in
        let inside : k < length facts = omega (arith, x.long) in
        let e : count + k ≡ p = omega arith in
        let at : (get_or facts k no_fact).node ≡ node_at ns p = sym (x.said k no_fact inside) ∙ ap (node_at ns) e in
        let long : count ≤ length ns = omega (arith, x.long) in
        subst (IsPlaced i count (length ns) p) at (placed_said i count (length ns) p (get_or facts k no_fact).node g long (made.made k no_fact inside).1)
  ]

  pub start_pairs : All (IsPairBelow (length ns)) ps
  start_pairs k d l =
      let inside : k < length facts = omega (arith, x.paired) in
      let v = (made.made k no_fact inside).0 in
      let a : (get_or facts k no_fact).variable < length ns = omega (arith, x.long) in
      let b : count + k < length ns = omega (arith, x.long) in
      let goal : IsPairBelow (length ns) (record { first = (get_or facts k no_fact).variable; second = count + k }) = (a, b) in
      subst (IsPairBelow (length ns)) (sym (x.ends k d no_fact inside)) goal

  -- what fits the table makes the facts true
  pub start_sound : (w : ℕ → Term) → Fits i w ns → AreEqual w ps → AreTrue i facts w
  start_sound w f a k d l =
      let e = get_or facts k d in
      let inside : k < length ps = omega (arith, x.paired) in
      let one : w e.variable ≡ w (count + k) = subst (λ (q : Pair). w q.first ≡ w q.second) (x.ends k no_pair d l) (a k no_pair inside) in
      let here : w (count + k) ≡ node_type i w (w (count + k)) e.node = subst (λ (m : Node). w (count + k) ≡ node_type i w (w (count + k)) m) (x.said k d l) (f (count + k)) in
      one ∙ here ∙ said_any i count w (w (count + k)) (w e.variable) e.node (made.made k d l).1

  module _ (s : ℕ → Term) (true : AreTrue i facts s) where
    spread_fits : Fits i (spread s count facts) ns
    spread_fits p =
        let z = spread s count facts in
        elim (cases_lt p count) [
          | inl h ↦ subst (λ (m : Node). z p ≡ node_type i z (z p) m) (sym (x.free p h)) refl
          | inr g ↦ elim (cases_lt p (length ns)) [
            | inl l ↦
                let k : ℕ = p - count in
                let f = get_or facts k no_fact in
                let inside : k < length facts = omega (arith, x.long) in
                let e : count + k ≡ p = omega arith in
                let at : f.node ≡ node_at ns p = sym (x.said k no_fact inside) ∙ ap (node_at ns) e in
                let y = (made.made k no_fact inside).1 in
                let here : z p ≡ node_type i z (z p) f.node =
                spread_from s count facts p g ∙ true k no_fact inside ∙ sym (said_same i count s z (s f.variable) f.node made.below y (λ q b. spread_below s count facts q b)) ∙ said_any i count z (s f.variable) (z p) f.node y in
                subst (λ (m : Node). z p ≡ node_type i z (z p) m) at here
            | inr b ↦ subst (λ (m : Node). z p ≡ node_type i z (z p) m) (sym (get_or_past ns p Free b)) refl
          ]
        ]

    spread_equal : AreEqual (spread s count facts) ps
    spread_equal k d l =
        let z = spread s count facts in
        let inside : k < length facts = omega (arith, x.paired) in
        let f = get_or facts k no_fact in
        let v = (made.made k no_fact inside).0 in
        let e : count + k - count ≡ k = omega arith in
        let goal : z f.variable ≡ z (count + k) = spread_below s count facts f.variable v ∙ sym (spread_from s count facts (count + k) (omega arith) ∙ ap (λ (q : ℕ). s (get_or facts q no_fact).variable) e) in
        subst (λ (q : Pair). z q.first ≡ z q.second) (sym (x.ends k d no_fact inside)) goal

    -- and what makes the facts true is continued to what fits it
    pub start_complete : IsSpread i s count ns ps
    start_complete = record {
      types = spread s count facts;
      fits = spread_fits;
      equal = spread_equal;
      agrees = λ v l. spread_below s count facts v l;
      bounded = λ most small p. elim (cases_lt p count) [
        | inl h ↦ omega (arith, ap nodes (spread_below s count facts p h), small p)
        | inr g ↦ omega (arith, ap nodes (spread_from s count facts p g), small (get_or facts (p - count) no_fact).variable)
      ];
    }
