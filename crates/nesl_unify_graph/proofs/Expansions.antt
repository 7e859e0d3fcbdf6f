-- Parts of instances that are expanded in a table.
use Rattle.std.proofs.Common.{◌≡◌, ℕ, ◌+◌, ◌-◌, ◌*◌, ◌<◌, ◌≤◌, cond, inl, inr, List, [], length, get_or, set, sum_by, refl, sym, ap, ◌∙◌, subst, arith}
use Rattle.std.proofs.Math.Dec.{ltb}
use Rattle.std.proofs.lemmas.Bool.{cases_eq, cases_lt, lt-ltb, le-ltb}
use Rattle.std.proofs.lemmas.List.{get_or-set_other, get_or_past, length-set}
use Rattle.std.proofs.lemmas.List.Sums.{sum_by-set}
use Rattle.std.proofs.lemmas.List.Elements.{All-nil}
use Rattle.nesl_types_shared.specs.Term.{Term, int, bool, char, variable, seq_of, pair_of, named, nodes}
use Rattle.nesl_types_shared.specs.Numbering.{IsBelow}
use Rattle.nesl_types_shared.specs.Substitution.{substitute}
use Rattle.nesl_unify_graph.specs.declared.node.Node.{Node}
use Rattle.nesl_unify_graph.specs.declared.node.Node.TheVariants.{Free, Same, Int, Bool as Boolean, Char, Named, SeqOf, Both, Part}
use Rattle.nesl_unify_graph.specs.declared.instances.Instances.{Instances}
use Rattle.nesl_unify_graph.specs.declared.unify.Pair.{Pair}
use Rattle.nesl_unify_graph.specs.Instances.{base_in, place_in, instance_type, IsPart, AreBelow}
use Rattle.nesl_unify_graph.specs.Graph.{node_at, node_type, Fits}
use Rattle.nesl_unify_graph.specs.Tables.{IsPlaced, IsTable}
use Rattle.nesl_unify_graph.specs.Steps.{IsGraph, IsPut, IsSpread, FitsFrom, Moves, AreContinued, part_type, weight, expandable}
use Rattle.nesl_unify_graph.proofs.Tables.{Describes, each_set, here_set, other_set}

-- types of the variables of a type are all that it sees
pub substitute_below : (n : ℕ) (f g : ℕ → Term) (t : Term) → IsBelow n t → ((v : ℕ) → v < n → f v ≡ g v) → substitute f t ≡ substitute g t
substitute_below n f g int b h = refl
substitute_below n f g bool b h = refl
substitute_below n f g char b h = refl
substitute_below n f g (variable v) b h = h v b
substitute_below n f g (seq_of t) b h = ap seq_of (substitute_below n f g t b h)
substitute_below n f g (pair_of t u) b h = let x = substitute_below n f g t b.0 h in let y = substitute_below n f g u b.1 h in cc
substitute_below n f g (named m) b h = refl

pub place_below : (i : Instances) (n r v : ℕ) → AreBelow n i → v < length i.fresh.items - base_in i r → place_in i r v < n
place_below i n r v a l = a (base_in i r + v) 0 (omega arith)

instance_same : (i : Instances) (n r : ℕ) (w z : ℕ → Term) (t : Term) → AreBelow n i → IsBelow (length i.fresh.items - base_in i r) t → ((q : ℕ) → q < n → z q ≡ w q) →
    instance_type i z r t ≡ instance_type i w r t
instance_same i n r w z t a b h =
    substitute_below (length i.fresh.items - base_in i r) (λ v. z (place_in i r v)) (λ v. w (place_in i r v)) t b (λ v l. h (place_in i r v) (place_below i n r v a l))

-- types of the places of a table are all that its nodes see
pub node_same : (i : Instances) (count n p : ℕ) (w z : ℕ → Term) (t : Term) (m : Node) → AreBelow n i → p < n → IsPlaced i count n p m → ((q : ℕ) → q < n → z q ≡ w q) →
    node_type i z t m ≡ node_type i w t m
node_same i count n p w z t Free a l k h = refl
node_same i count n p w z t (Same q) a l k h = h q (omega arith)
node_same i count n p w z t Int a l k h = refl
node_same i count n p w z t Boolean a l k h = refl
node_same i count n p w z t Char a l k h = refl
node_same i count n p w z t (Named m) a l k h = refl
node_same i count n p w z t (SeqOf q) a l k h = ap seq_of (h q k)
node_same i count n p w z t (Both q r) a l k h = let x = h q k.0 in let y = h r k.1 in cc
node_same i count n p w z t (Part r j) a l k h = instance_same i n r w z (part_type i r j) a k.below h

placed_longer : (i : Instances) (count n m p : ℕ) (k : Node) → n ≤ m → IsPlaced i count n p k → IsPlaced i count m p k
placed_longer i count n m p Free l h = h
placed_longer i count n m p (Same q) l h = h
placed_longer i count n m p Int l h = h
placed_longer i count n m p Boolean l h = h
placed_longer i count n m p Char l h = h
placed_longer i count n m p (Named j) l h = h
placed_longer i count n m p (SeqOf q) l h = omega arith
placed_longer i count n m p (Both q r) l h = let x : q < m = omega (arith, h.0) in let y : r < m = omega (arith, h.1) in (x, y)
placed_longer i count n m p (Part r j) l h = h

-- sequences
pub spread_seq : (i : Instances) (old new : List Node) (r k j place : ℕ) → AreBelow (length old) i → part_type i r k ≡ seq_of (part_type i r j) → IsPut i old new r j place →
    IsSpread i old new r k (SeqOf place)
spread_seq i old new r k j place a e put = record {
  longer = put.longer;
  kept = put.kept;
  added = λ p l u. record {
    part = j;
    node = (put.added p l u).0;
    is = (put.added p l u).1;
    small = λ s. let d : nodes (substitute s (part_type i r k)) ≡ 1 + nodes (substitute s (part_type i r j)) = ap (λ (t : Term). nodes (substitute s t)) e in omega (arith, d);
  };
  here = λ w t f. ap seq_of (put.here w f) ∙ sym (ap (substitute (λ v. w (place_in i r v))) e);
  placed = λ count p. put.within a;
  fewer = let d : nodes (part_type i r k) ≡ 1 + nodes (part_type i r j) = ap nodes e in omega (arith, d, put.fewer);
}

-- what is put later, seen from before
put_from : (i : Instances) (w : ℕ → Term) (old mid new : List Node) (r j k p q : ℕ) → IsPut i old mid r j p → IsPut i mid new r k q → FitsFrom i w (length old) new →
    FitsFrom i w (length old) mid × FitsFrom i w (length mid) new
put_from i w old mid new r j k p q a b f = (
  λ u l. elim (cases_lt u (length mid)) [
    | inl h ↦ subst (λ (m : Node). w u ≡ node_type i w (w u) m) (b.kept u h) (f u l)
    | inr g ↦ let e : node_at mid u ≡ Free = get_or_past mid u Free g in subst (λ (m : Node). w u ≡ node_type i w (w u) m) (sym e) refl
  ],
  λ u l. f u (omega (arith, a.longer)),
)

-- pairs
pub spread_both : (i : Instances) (old mid new : List Node) (r k j h p q : ℕ) → AreBelow (length old) i → AreBelow (length mid) i → part_type i r k ≡ pair_of (part_type i r j) (part_type i r h) →
    IsPut i old mid r j p → IsPut i mid new r h q → IsSpread i old new r k (Both p q)
spread_both i old mid new r k j h p q below above e a b =
    let size : (s : ℕ → Term) → nodes (substitute s (part_type i r k)) ≡ 1 + nodes (substitute s (part_type i r j)) + nodes (substitute s (part_type i r h)) =
    λ s. ap (λ (t : Term). nodes (substitute s t)) e in
    record {
      longer = omega (arith, a.longer, b.longer);
      kept = λ u l. b.kept u (omega (arith, a.longer)) ∙ a.kept u l;
      added = λ u l m. elim (cases_lt u (length mid)) [
        | inl x ↦ record {
          part = j;
          node = b.kept u x ∙ (a.added u l x).0;
          is = (a.added u l x).1;
          small = λ s. omega (arith, size s);
        }
        | inr y ↦ record {
          part = h;
          node = (b.added u y m).0;
          is = (b.added u y m).1;
          small = λ s. omega (arith, size s);
        }
      ];
      here = λ w t f.
          let g = put_from i w old mid new r j h p q a b f in
          let x = a.here w g.0 in
          let y = b.here w g.1 in
          let d : instance_type i w r (part_type i r k) ≡ pair_of (instance_type i w r (part_type i r j)) (instance_type i w r (part_type i r h)) = ap (substitute (λ v. w (place_in i r v))) e in
          cc;
      placed = λ count u. let x : p < length new = omega (arith, a.within below, b.longer) in (x, b.within above);
      fewer = let d : nodes (part_type i r k) ≡ 1 + nodes (part_type i r j) + nodes (part_type i r h) = ap nodes e in omega (arith, d, a.fewer, b.fewer);
    }

-- the part at a place of a table
pub part_at : (i : Instances) (ns : List Node) (p r k : ℕ) → IsGraph i ns → p < length ns → node_at ns p ≡ Part r k → IsPart i r k
part_at i ns p r k g l e = subst (IsPlaced i (length ns) (length ns) p) e (g.table p l)

pub expandable_none : (n : Node) → ((r k : ℕ) → n ≡ Part r k → ⊥) → expandable n ≡ 0
expandable_none Free h = refl
expandable_none (Same q) h = refl
expandable_none Int h = refl
expandable_none Boolean h = refl
expandable_none Char h = refl
expandable_none (Named m) h = refl
expandable_none (SeqOf q) h = refl
expandable_none (Both q r) h = refl
expandable_none (Part r k) h = absurd (h r k refl)

-- the types of a table's places, continued to those after the first n
continued : Instances → (ℕ → Term) → List Node → ℕ → ℕ → Term
continued i w ns n p = cond (ltb p n) (w p) (node_type i w (w p) (node_at ns p))

continued_below : (i : Instances) (w : ℕ → Term) (ns : List Node) (n p : ℕ) → p < n → continued i w ns n p ≡ w p
unfolding continued
continued_below i w ns n p l = rw (lt-ltb p n l)

continued_from : (i : Instances) (w : ℕ → Term) (ns : List Node) (n p : ℕ) → n ≤ p → continued i w ns n p ≡ node_type i w (w p) (node_at ns p)
unfolding continued
continued_from i w ns n p l = rw (le-ltb p n l)

-- what node n of place `at` of old is expanded to, where mid has the new places
module _ (i : Instances) (old mid : List Node) (r k at : ℕ) (n : Node) (graph : IsGraph i old) (inside : at < length old) (part : IsPart i r k) (here : node_at old at ≡ Part r k)
    (spread : IsSpread i old mid r k n) where
  inside_mid : at < length mid
  inside_mid = omega (arith, spread.longer)

  expanded_length : length (set mid at n) ≡ length mid
  expanded_length = length-set mid at n

  fits_from : (w : ℕ → Term) → Fits i w (set mid at n) → FitsFrom i w (length old) mid
  fits_from w f p l = other_set (Describes i w (w p)) mid at n p (omega arith) (f p)

  expanded_sound : (w : ℕ → Term) → Fits i w (set mid at n) → Fits i w old
  expanded_sound w f p =
      elim (cases_lt p (length old)) [
        | inl l ↦ elim (cases_eq p at) [
          | inl e ↦
              let d : w at ≡ node_type i w (w at) n = here_set (Describes i w (w at)) mid at n inside_mid (f at) in
              let g : w at ≡ node_type i w (w at) (node_at old at) = d ∙ spread.here w (w at) (fits_from w f) ∙ sym (ap (node_type i w (w at)) here) in
              subst (λ (q : ℕ). w q ≡ node_type i w (w q) (node_at old q)) (sym e) g
          | inr d ↦ subst (λ (m : Node). w p ≡ node_type i w (w p) m) (spread.kept p l) (other_set (Describes i w (w p)) mid at n p d (f p))
        ]
        | inr g ↦ let e : node_at old p ≡ Free = get_or_past old p Free g in subst (λ (m : Node). w p ≡ node_type i w (w p) m) (sym e) refl
      ]

  module _ (w : ℕ → Term) (f : Fits i w old) where
    agrees : (p : ℕ) → p < length old → continued i w mid (length old) p ≡ w p
    agrees p l = continued_below i w mid (length old) p l

    part_same : (j : ℕ) → IsPart i r j → instance_type i (continued i w mid (length old)) r (part_type i r j) ≡ instance_type i w r (part_type i r j)
    part_same j is = instance_same i (length old) r w (continued i w mid (length old)) (part_type i r j) graph.below is.below agrees

    later : FitsFrom i (continued i w mid (length old)) (length old) mid
    later p l =
        elim (cases_lt p (length mid)) [
          | inl u ↦
              let piece = spread.added p l u in
              let z = continued i w mid (length old) in
              let e : node_type i w (w p) (node_at mid p) ≡ instance_type i w r (part_type i r piece.part) = ap (node_type i w (w p)) piece.node in
              let d : node_type i z (z p) (node_at mid p) ≡ instance_type i z r (part_type i r piece.part) = ap (node_type i z (z p)) piece.node in
              continued_from i w mid (length old) p l ∙ e ∙ sym (part_same piece.part piece.is) ∙ sym d
          | inr g ↦
              let z = continued i w mid (length old) in
              let e : node_at mid p ≡ Free = get_or_past mid p Free g in subst (λ (m : Node). z p ≡ node_type i z (z p) m) (sym e) refl
        ]

    expanded_fits : Fits i (continued i w mid (length old)) (set mid at n)
    expanded_fits =
        let z = continued i w mid (length old) in
        let whole : w at ≡ instance_type i w r (part_type i r k) = f at ∙ ap (node_type i w (w at)) here in
        each_set (λ p m. z p ≡ node_type i z (z p) m) mid at n inside_mid
        (agrees at inside ∙ whole ∙ sym (part_same k part) ∙ sym (spread.here z (z at) later))
        (λ p d. elim (cases_lt p (length old)) [
          | inl l ↦
              let t : node_type i z (w p) (node_at old p) ≡ node_type i w (w p) (node_at old p) = node_same i (length old) (length old) p w z (w p) (node_at old p) graph.below l (graph.table p l) agrees in
              let g : w p ≡ node_type i z (w p) (node_at old p) = f p ∙ sym t in
              let e : z p ≡ w p = agrees p l in
              let u : z p ≡ node_type i z (z p) (node_at old p) = subst (λ (x : Term). x ≡ node_type i z x (node_at old p)) (sym e) g in
              subst (λ (m : Node). z p ≡ node_type i z (z p) m) (sym (spread.kept p l)) u
          | inr g ↦ later p g
        ])

    expanded_small : (most : ℕ) → ((p : ℕ) → nodes (w p) ≤ most) → (p : ℕ) → nodes (continued i w mid (length old) p) ≤ most
    expanded_small most small p =
        elim (cases_lt p (length old)) [
          | inl l ↦ omega (arith, ap nodes (agrees p l), small p)
          | inr g ↦ elim (cases_lt p (length mid)) [
            | inl u ↦
                let piece = spread.added p g u in
                let whole : w at ≡ instance_type i w r (part_type i r k) = f at ∙ ap (node_type i w (w at)) here in
                let e : continued i w mid (length old) p ≡ instance_type i w r (part_type i r piece.part) = continued_from i w mid (length old) p g ∙ ap (node_type i w (w p)) piece.node in
                let s : nodes (instance_type i w r (part_type i r piece.part)) ≤ nodes (instance_type i w r (part_type i r k)) = piece.small (λ v. w (place_in i r v)) in
                let x : nodes (continued i w mid (length old) p) ≡ nodes (instance_type i w r (part_type i r piece.part)) = ap nodes e in
                let y : nodes (w at) ≡ nodes (instance_type i w r (part_type i r k)) = ap nodes whole in
                omega (arith, s, x, y, small at)
            | inr b ↦
                let e : node_at mid p ≡ Free = get_or_past mid p Free b in
                let x : continued i w mid (length old) p ≡ w p = continued_from i w mid (length old) p g ∙ ap (node_type i w (w p)) e in
                omega (arith, ap nodes x, small p)
          ]
        ]

    expanded_complete : AreContinued i (length old) w (set mid at n) []
    expanded_complete = record {
      types = continued i w mid (length old);
      continues = record { agrees = agrees; bounded = expanded_small };
      fits = expanded_fits;
      equal = All-nil (λ (p : Pair). continued i w mid (length old) p.first ≡ continued i w mid (length old) p.second);
    }

  pub expanded_moves : Moves i old [] (set mid at n) []
  expanded_moves = record {
    longer = omega (arith, expanded_length, spread.longer);
    sound = λ w f _. (expanded_sound w f, All-nil (λ (p : Pair). w p.first ≡ w p.second));
    complete = λ w f _. expanded_complete w f;
  }

  pub expanded_table : (count : ℕ) → IsTable i count old → IsTable i count (set mid at n)
  expanded_table count t =
      let each = each_set (λ p m. p < length mid → IsPlaced i count (length mid) p m) mid at n inside_mid (λ _. spread.placed count at)
      (λ p d u. elim (cases_lt p (length old)) [
        | inl l ↦ subst (IsPlaced i count (length mid) p) (sym (spread.kept p l)) (placed_longer i count (length old) (length mid) p (node_at old p) spread.longer (t p l))
        | inr g ↦ let piece = spread.added p g u in subst (IsPlaced i count (length mid) p) (sym piece.node) piece.is
      ]) in
      λ p u. subst (λ (m : ℕ). IsPlaced i count m p (node_at (set mid at n) p)) (sym expanded_length) (each p (omega (arith, expanded_length)))

  pub expanded_kept : (p : ℕ) → p < length old → (p ≡ at → ⊥) → node_at (set mid at n) p ≡ node_at old p
  expanded_kept p l d = get_or-set_other mid at p n Free d ∙ spread.kept p l

  pub expanded_fewer : sum_by (weight i) (set mid at n) + expandable (node_at old at) ≤ sum_by (weight i) old
  expanded_fewer =
      let s = sum_by-set (weight i) mid at n Free inside_mid in
      let e : weight i (get_or mid at Free) ≡ 4 * nodes (part_type i r k) + 1 = ap (weight i) (spread.kept at inside ∙ here) in
      let x : expandable (node_at old at) ≡ 1 = ap expandable here in
      omega (arith, s, e, x, spread.fewer)
