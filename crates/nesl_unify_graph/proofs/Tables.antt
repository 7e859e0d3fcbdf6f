-- Links of a table.
use Rattle.std.proofs.Common.{◌≡◌, ◌≢◌, ℕ, ◌+◌, ◌<◌, ◌≤◌, ◌↔◌, inl, inr, List, length, set, sum_by, refl, sym, ap, ◌∙◌, subst, arith}
use Rattle.std.proofs.lemmas.Bool.{cases_eq, cases_lt}
use Rattle.std.proofs.lemmas.List.{get_or-set_same, get_or-set_other, get_or_past, length-set}
use Rattle.std.proofs.lemmas.List.Sums.{sum_by-set}
use Rattle.nesl_types_shared.specs.Term.{Term}
use Rattle.nesl_unify_graph.specs.declared.node.Node.{Node}
use Rattle.nesl_unify_graph.specs.declared.node.Node.TheVariants.{Free, Same, Int, Bool, Char, Named, SeqOf, Both, Part}
use Rattle.nesl_unify_graph.specs.declared.instances.Instances.{Instances}
use Rattle.nesl_unify_graph.specs.Graph.{node_at, node_type, Fits, IsRoot, link_or, target}
use Rattle.nesl_unify_graph.specs.Tables.{IsPlaced, IsTable}
use Rattle.nesl_unify_graph.specs.Steps.{LeadDown, shortened, weight}

-- a node says what the type t is
abbrev pub Describes : Instances → (ℕ → Term) → Term → Node → Type 0
Describes i w t n = t ≡ node_type i w t n

-- a fact of each place after a write
pub each_set : (P : ℕ → Node → Type 0) (ns : List Node) (p : ℕ) (n : Node) → p < length ns → P p n → ((q : ℕ) → q ≢ p → P q (node_at ns q)) → (q : ℕ) → P q (node_at (set ns p n) q)
each_set P ns p n inside here others q =
    elim (cases_eq q p) [
      | inl e ↦ subst (λ (k : ℕ). P k (node_at (set ns p n) k)) (sym e) (subst (P p) (sym (get_or-set_same ns p n Free inside)) here)
      | inr d ↦ subst (P q) (sym (get_or-set_other ns p q n Free d)) (others q d)
    ]

pub here_set : (P : Node → Type 0) (ns : List Node) (p : ℕ) (n : Node) → p < length ns → P (node_at (set ns p n) p) → P n
here_set P ns p n inside h = subst P (get_or-set_same ns p n Free inside) h

pub other_set : (P : Node → Type 0) (ns : List Node) (p : ℕ) (n : Node) (q : ℕ) → q ≢ p → P (node_at (set ns p n) q) → P (node_at ns q)
other_set P ns p n q d h = subst P (get_or-set_other ns p q n Free d) h

pub describes-link : (i : Instances) (w : ℕ → Term) (p : ℕ) (n : Node) → Describes i w (w p) n → w p ≡ w (link_or p n)
describes-link i w p Free h = refl
describes-link i w p (Same q) h = h
describes-link i w p Int h = refl
describes-link i w p Bool h = refl
describes-link i w p Char h = refl
describes-link i w p (Named m) h = refl
describes-link i w p (SeqOf q) h = refl
describes-link i w p (Both q r) h = refl
describes-link i w p (Part r k) h = refl

pub fits-target : (i : Instances) (w : ℕ → Term) (ns : List Node) (p : ℕ) → Fits i w ns → w p ≡ w (target ns p)
fits-target i w ns p f = describes-link i w p (node_at ns p) (f p)

link_le : (p : ℕ) (m : Node) → ((q : ℕ) → m ≡ Same q → q < p) → link_or p m ≤ p
link_le p Free h = omega arith
link_le p (Same q) h = omega (arith, h q refl)
link_le p Int h = omega arith
link_le p Bool h = omega arith
link_le p Char h = omega arith
link_le p (Named m) h = omega arith
link_le p (SeqOf q) h = omega arith
link_le p (Both q r) h = omega arith
link_le p (Part r k) h = omega arith

pub target_le : (ns : List Node) (p : ℕ) → LeadDown ns → target ns p ≤ p
target_le ns p l = link_le p (node_at ns p) (l p)

-- what a link is made shorter by stays the same for types, places and weights
describes_shortened : (i : Instances) (w : ℕ → Term) (ns : List Node) (p : ℕ) (n : Node) → Fits i w ns → Describes i w (w p) n → Describes i w (w p) (shortened ns n)
describes_shortened i w ns p Free f h = h
describes_shortened i w ns p (Same q) f h = h ∙ fits-target i w ns q f
describes_shortened i w ns p Int f h = h
describes_shortened i w ns p Bool f h = h
describes_shortened i w ns p Char f h = h
describes_shortened i w ns p (Named m) f h = h
describes_shortened i w ns p (SeqOf q) f h = h
describes_shortened i w ns p (Both q r) f h = h
describes_shortened i w ns p (Part r k) f h = h

describes_before : (i : Instances) (w : ℕ → Term) (ns : List Node) (p : ℕ) (n : Node) → ((q : ℕ) → n ≡ Same q → q < p) → Describes i w (w p) (shortened ns n) →
    ((u : ℕ) → u < p → w u ≡ w (target ns u)) → Describes i w (w p) n
describes_before i w ns p Free l h k = h
describes_before i w ns p (Same q) l h k = h ∙ sym (k q (l q refl))
describes_before i w ns p Int l h k = h
describes_before i w ns p Bool l h k = h
describes_before i w ns p Char l h k = h
describes_before i w ns p (Named m) l h k = h
describes_before i w ns p (SeqOf q) l h k = h
describes_before i w ns p (Both q r) l h k = h
describes_before i w ns p (Part r j) l h k = h

placed_shortened : (i : Instances) (ns : List Node) (count n p : ℕ) (m : Node) → LeadDown ns → IsPlaced i count n p m → IsPlaced i count n p (shortened ns m)
placed_shortened i ns count n p Free l h = h
placed_shortened i ns count n p (Same q) l h = omega (arith, target_le ns q l)
placed_shortened i ns count n p Int l h = h
placed_shortened i ns count n p Bool l h = h
placed_shortened i ns count n p Char l h = h
placed_shortened i ns count n p (Named m) l h = h
placed_shortened i ns count n p (SeqOf q) l h = h
placed_shortened i ns count n p (Both q r) l h = h
placed_shortened i ns count n p (Part r k) l h = h

down_shortened : (ns : List Node) (p : ℕ) (m : Node) → LeadDown ns → ((q : ℕ) → m ≡ Same q → q < p) → (q : ℕ) → shortened ns m ≡ Same q → q < p
down_shortened ns p Free l h q e = absurd cc
down_shortened ns p (Same u) l h q e = let d : target ns u ≡ q = cc in omega (arith, d, target_le ns u l, h u refl)
down_shortened ns p Int l h q e = absurd cc
down_shortened ns p Bool l h q e = absurd cc
down_shortened ns p Char l h q e = absurd cc
down_shortened ns p (Named m) l h q e = absurd cc
down_shortened ns p (SeqOf u) l h q e = absurd cc
down_shortened ns p (Both u r) l h q e = absurd cc
down_shortened ns p (Part r k) l h q e = absurd cc

pub root_shortened : (ns : List Node) (n : Node) → IsRoot n → shortened ns n ≡ n
root_shortened ns Free h = refl
root_shortened ns (Same q) h = absurd h
root_shortened ns Int h = refl
root_shortened ns Bool h = refl
root_shortened ns Char h = refl
root_shortened ns (Named m) h = refl
root_shortened ns (SeqOf q) h = refl
root_shortened ns (Both q r) h = refl
root_shortened ns (Part r k) h = refl

weight_shortened : (i : Instances) (ns : List Node) (n : Node) → weight i (shortened ns n) ≡ weight i n
weight_shortened i ns Free = refl
weight_shortened i ns (Same q) = refl
weight_shortened i ns Int = refl
weight_shortened i ns Bool = refl
weight_shortened i ns Char = refl
weight_shortened i ns (Named m) = refl
weight_shortened i ns (SeqOf q) = refl
weight_shortened i ns (Both q r) = refl
weight_shortened i ns (Part r k) = refl

-- new has other links than old, and says the same
pub record Relinks (old new : List Node) : Type 0 where
  pub len : length new ≡ length old
  pub same : (i : Instances) → (w : ℕ → Term) → Fits i w new ↔ Fits i w old
  pub table : (i : Instances) → (count : ℕ) → IsTable i count old → IsTable i count new
  pub kept : (p : ℕ) → IsRoot (node_at old p) → node_at new p ≡ node_at old p
  pub weight : (i : Instances) → sum_by (weight i) new ≡ sum_by (weight i) old

table_shortened : (i : Instances) (ns : List Node) (p count : ℕ) → p < length ns → LeadDown ns → IsTable i count ns → IsTable i count (set ns p (shortened ns (node_at ns p)))
table_shortened i ns p count inside l t =
    let n = shortened ns (node_at ns p) in
    let e : length (set ns p n) ≡ length ns = length-set ns p n in
    let each = each_set (λ q m. q < length ns → IsPlaced i count (length ns) q m) ns p n inside (λ u. placed_shortened i ns count (length ns) p (node_at ns p) l (t p inside)) (λ q _. t q) in
    λ q u. subst (λ (k : ℕ). IsPlaced i count k q (node_at (set ns p n) q)) (sym e) (each q (omega arith))

fits_before : (i : Instances) (w : ℕ → Term) (ns : List Node) (p : ℕ) → p < length ns → LeadDown ns → Fits i w (set ns p (shortened ns (node_at ns p))) → Fits i w ns
fits_before i w ns p inside l f =
    let n = shortened ns (node_at ns p) in
    let other : (q : ℕ) → q ≢ p → Describes i w (w q) (node_at ns q) = λ q d. other_set (Describes i w (w q)) ns p n q d (f q) in
    let here : Describes i w (w p) (node_at ns p) =
    describes_before i w ns p (node_at ns p) (l p) (here_set (Describes i w (w p)) ns p n inside (f p)) (λ u k. describes-link i w u (node_at ns u) (other u (omega arith))) in
    λ q. elim (cases_eq q p) [
      | inl e ↦ subst (λ (k : ℕ). Describes i w (w k) (node_at ns k)) (sym e) here
      | inr d ↦ other q d
    ]

-- a link is made shorter
pub relinks_shortened : (ns : List Node) (p : ℕ) → p < length ns → LeadDown ns → Relinks ns (set ns p (shortened ns (node_at ns p)))
relinks_shortened ns p inside l =
    let n = shortened ns (node_at ns p) in
    record {
      len = length-set ns p n;
      same = λ i w. (
        λ f. fits_before i w ns p inside l f,
        λ f. each_set (λ q m. Describes i w (w q) m) ns p n inside (describes_shortened i w ns p (node_at ns p) f (f p)) (λ q _. f q),
      );
      table = λ i count. table_shortened i ns p count inside l;
      kept = λ q r. elim (cases_eq q p) [
        | inl e ↦
            let root : IsRoot (node_at ns p) = subst (λ (k : ℕ). IsRoot (node_at ns k)) e r in
            ap (node_at (set ns p n)) e ∙ get_or-set_same ns p n Free inside ∙ root_shortened ns (node_at ns p) root ∙ sym (ap (node_at ns) e)
        | inr d ↦ get_or-set_other ns p q n Free d
      ];
      weight = λ i. let h : weight i n ≡ weight i (node_at ns p) = weight_shortened i ns (node_at ns p) in omega (arith, sum_by-set (weight i) ns p n Free inside, h);
    }

down_more : (ns : List Node) (p : ℕ) → p < length ns → LeadDown ns → LeadDown (set ns p (shortened ns (node_at ns p)))
down_more ns p inside l =
    each_set (λ q m. (u : ℕ) → m ≡ Same u → u < q) ns p (shortened ns (node_at ns p)) inside (down_shortened ns p (node_at ns p) l (l p)) (λ q _. l q)

pub relinks_more : (old mid new : List Node) → Relinks old mid → Relinks mid new → Relinks old new
relinks_more old mid new a b = record {
  len = b.len ∙ a.len;
  same = λ i w. (λ f. (a.same i w).0 ((b.same i w).0 f), λ f. (b.same i w).1 ((a.same i w).1 f));
  table = λ i count t. b.table i count (a.table i count t);
  kept = λ p r. b.kept p (subst IsRoot (sym (a.kept p r)) r) ∙ a.kept p r;
  weight = λ i. b.weight i ∙ a.weight i;
}

-- the place itself
flat_here : (ns new : List Node) (i : ℕ) (n : Node) → n ≡ node_at ns i → node_at new i ≡ shortened ns n → LeadDown ns →
    ((p : ℕ) → p < i → node_at new p ≡ node_at ns p) → ((p : ℕ) → p < i → IsRoot (node_at ns (target ns p))) → IsRoot (node_at new (link_or i (shortened ns n)))
flat_here ns new i Free e at l same flat = subst IsRoot (sym at) tt
flat_here ns new i (Same q) e at l same flat =
    let b : q < i = l i q (sym e) in
    let u : target ns q < i = omega (arith, target_le ns q l) in
    subst IsRoot (sym (same (target ns q) u)) (flat q b)
flat_here ns new i Int e at l same flat = subst IsRoot (sym at) tt
flat_here ns new i Bool e at l same flat = subst IsRoot (sym at) tt
flat_here ns new i Char e at l same flat = subst IsRoot (sym at) tt
flat_here ns new i (Named m) e at l same flat = subst IsRoot (sym at) tt
flat_here ns new i (SeqOf q) e at l same flat = subst IsRoot (sym at) tt
flat_here ns new i (Both q r) e at l same flat = subst IsRoot (sym at) tt
flat_here ns new i (Part r k) e at l same flat = subst IsRoot (sym at) tt

pub flat_more : (ns : List Node) (i : ℕ) → LeadDown ns → i < length ns → ((p : ℕ) → p < i → IsRoot (node_at ns (target ns p))) →
    (p : ℕ) → p < i + 1 → IsRoot (node_at (set ns i (shortened ns (node_at ns i))) (target (set ns i (shortened ns (node_at ns i))) p))
flat_more ns i down inside flat p below =
    let n = shortened ns (node_at ns i) in
    let new = set ns i n in
    let same : (q : ℕ) → q < i → node_at new q ≡ node_at ns q = λ q l. get_or-set_other ns i q n Free (omega arith) in
    let here : node_at new i ≡ n = get_or-set_same ns i n Free inside in
    elim (cases_lt p i) [
      | inl l ↦
          let u : target ns p < i = omega (arith, target_le ns p down) in
          let s : target new p ≡ target ns p = ap (link_or p) (same p l) in
          subst IsRoot (sym (ap (node_at new) s ∙ same (target ns p) u)) (flat p l)
      | inr g ↦
          let e : p ≡ i = omega arith in
          let h = flat_here ns new i (node_at ns i) refl here down same flat in
          let s : target new p ≡ link_or i n = ap (λ (k : ℕ). link_or k (node_at new k)) e ∙ ap (link_or i) here in
          subst (λ (k : ℕ). IsRoot (node_at new k)) (sym s) h
    ]

-- a shorter link more
pub relinks_step : (old ns new : List Node) (p : ℕ) → Relinks old ns → LeadDown ns → p < length ns → new ≡ set ns p (shortened ns (node_at ns p)) → Relinks ns new × (Relinks old new × LeadDown new)
relinks_step old ns new p r l inside e =
    let s : Relinks ns new = subst (Relinks ns) (sym e) (relinks_shortened ns p inside l) in
    (s, (relinks_more old ns new r s, subst LeadDown (sym e) (down_more ns p inside l)))

-- links of a table lead to smaller places
down_placed : (i : Instances) (count n p q : ℕ) (m : Node) → m ≡ Same q → IsPlaced i count n p m → q < p
down_placed i count n p q m e h = subst (IsPlaced i count n p) e h

pub table_down : (i : Instances) (count : ℕ) (ns : List Node) → IsTable i count ns → LeadDown ns
table_down i count ns t p q e =
    elim (cases_lt p (length ns)) [
      | inl l ↦ down_placed i count (length ns) p q (node_at ns p) e (t p l)
      | inr g ↦ let d : node_at ns p ≡ Free = get_or_past ns p Free g in absurd cc
    ]
