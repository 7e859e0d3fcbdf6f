-- Two places that are made one.
use Rattle.std.proofs.Common.{◌≡◌, ◌≢◌, ℕ, ◌+◌, ◌<◌, ◌≤◌, ◌++◌, inl, inr, List, [], ◌∷◌, length, get_or, set, sum_by, All, refl, sym, ap, ◌∙◌, subst, arith, length-append}
use Rattle.std.proofs.lemmas.Bool.{cases_eq}
use Rattle.std.proofs.lemmas.List.{get_or-set_other, get_or_read, length-set, length_push}
use Rattle.std.proofs.lemmas.List.Sums.{sum_by-set}
use Rattle.std.proofs.lemmas.List.Elements.{All-nil, All-cons, All-append, All-push}
use Rattle.nesl_types_shared.specs.Term.{Term, seq_of}
use Rattle.nesl_types_shared.proofs.Nodes.{nodes_positive}
use Rattle.nesl_unify_graph.specs.declared.node.Node.{Node}
use Rattle.nesl_unify_graph.specs.declared.node.Node.TheVariants.{Free, Same, Int, Bool, Char, Named, SeqOf, Both, Part}
use Rattle.nesl_unify_graph.specs.declared.instances.Instances.{Instances}
use Rattle.nesl_unify_graph.specs.declared.unify.Pair.{Pair}
use Rattle.nesl_unify_graph.specs.declared.unify.Rest.{Rest}
use Rattle.nesl_unify_graph.specs.declared.unify.Rest.TheVariants.{Nothing, One, Two}
use Rattle.nesl_unify_graph.specs.declared.unify.Meeting.{Meeting}
use Rattle.nesl_unify_graph.specs.Graph.{node_at, node_type, Fits, IsRoot}
use Rattle.nesl_unify_graph.specs.Tables.{IsPlaced, IsTable, IsPairBelow, AreEqual}
use Rattle.nesl_unify_graph.specs.Steps.{IsGraph, IsMeeting, AgreeWhere, Agree, LieBelow, Differ, Moves, merged, pairs_of, part_type, weight, expandable}
use Rattle.nesl_unify_graph.proofs.Tables.{Describes, each_set, here_set, other_set}
use Rattle.nesl_unify_graph.proofs.Steps.{Equals, All_left, All_right, equal_first, equal_second, popped_equal, continues_none, moves_more, moves_with, pairs_longer}

-- two nodes one of which says nothing, or that are equal
agree_free : (i : Instances) (n : Node) → Agree i Free n Nothing
agree_free i n w t = (λ h. (h.1, All-nil (Equals w)), λ h. (refl, h.0))

merged_free : (n : Node) → merged n Free ≡ n
merged_free Free = refl
merged_free (Same q) = refl
merged_free Int = refl
merged_free Bool = refl
merged_free Char = refl
merged_free (Named m) = refl
merged_free (SeqOf q) = refl
merged_free (Both q r) = refl
merged_free (Part r k) = refl

merged_same : (n : Node) → merged n n ≡ n
merged_same Free = refl
merged_same (Same q) = refl
merged_same Int = refl
merged_same Bool = refl
merged_same Char = refl
merged_same (Named m) = refl
merged_same (SeqOf q) = refl
merged_same (Both q r) = refl
merged_same (Part r k) = refl

agree_with_free : (i : Instances) (n : Node) → Agree i n Free Nothing
agree_with_free i n w t = rw (merged_free n) (λ h. (h.0, All-nil (Equals w)), λ h. (h.0, refl))

pub agree_same : (i : Instances) (a b : Node) → a ≡ b → Agree i a b Nothing
agree_same i a b e = rw (← e) (λ w t. rw (merged_same a) (λ h. (h.0, All-nil (Equals w)), λ h. (h.0, h.0)))

pub agree_first_free : (i : Instances) (a b : Node) → a ≡ Free → Agree i a b Nothing
agree_first_free i a b e = rw e (agree_free i b)

pub agree_second_free : (i : Instances) (a b : Node) → b ≡ Free → Agree i a b Nothing
agree_second_free i a b e = rw e (agree_with_free i a)

pub below_nothing : (i : Instances) (a b : Node) → LieBelow i a b Nothing
below_nothing i a b n low high h k = All-nil (IsPairBelow n)

-- sequences and pairs
agree_seq_of : (i : Instances) (p : Pair) → Agree i (SeqOf p.first) (SeqOf p.second) (One p)
agree_seq_of i p w t = (
  λ h. (h.0, let e : w p.first ≡ w p.second = cc (h.0, h.1) in All-cons (Equals w) p [] e (All-nil (Equals w))),
  λ h. (h.0, h.0 ∙ ap seq_of (equal_first w p [] h.1)),
)

agree_both_of : (i : Instances) (p q : Pair) → Agree i (Both p.first q.first) (Both p.second q.second) (Two p q)
agree_both_of i p q w t = (
  λ h. (
    h.0,
    let e : w p.first ≡ w p.second = cc (h.0, h.1) in
        let d : w q.first ≡ w q.second = cc (h.0, h.1) in
        All-cons (Equals w) p (q ∷ []) e (All-cons (Equals w) q [] d (All-nil (Equals w))),
  ),
  λ h. (
    h.0,
    let e = equal_first w p (q ∷ []) h.1 in
        let d = equal_second w p q [] h.1 in
        cc (h.0, e, d),
  ),
)

one_below : (n : ℕ) (p : Pair) → IsPairBelow n p → All (IsPairBelow n) (p ∷ [])
one_below n p h = All-cons (IsPairBelow n) p [] h (All-nil (IsPairBelow n))

pub agree_seq : (i : Instances) (a b : Node) (q r : ℕ) → a ≡ SeqOf q → b ≡ SeqOf r → Agree i a b (One (record { first = q; second = r }))
agree_seq i a b q r e d = rw (e, d) (agree_seq_of i (record { first = q; second = r }))

pub below_seq : (i : Instances) (a b : Node) (q r : ℕ) → a ≡ SeqOf q → b ≡ SeqOf r → LieBelow i a b (One (record { first = q; second = r }))
below_seq i a b q r e d = rw (e, d) (λ n low high h k. one_below n (record { first = q; second = r }) (h, k))

pub agree_both : (i : Instances) (a b : Node) (q r j k : ℕ) → a ≡ Both q r → b ≡ Both j k → Agree i a b (Two (record { first = q; second = j }) (record { first = r; second = k }))
agree_both i a b q r j k e d = rw (e, d) (agree_both_of i (record { first = q; second = j }) (record { first = r; second = k }))

pub below_both : (i : Instances) (a b : Node) (q r j k : ℕ) → a ≡ Both q r → b ≡ Both j k → LieBelow i a b (Two (record { first = q; second = j }) (record { first = r; second = k }))
below_both i a b q r j k e d =
    rw (e, d) (λ n low high h l. All-cons (IsPairBelow n) (record { first = q; second = j }) (record { first = r; second = k } ∷ []) (h.0, l.0) (one_below n (record { first = r; second = k }) (h.1, l.1)))

-- nodes of different kinds

pub differ_int : (i : Instances) → (a b : Node) → a ≡ Int → IsRoot b → (b ≡ Free → ⊥) → (b ≡ Int → ⊥) → ((r k : ℕ) → b ≡ Part r k → ⊥) → Differ i a b
differ_int i a Free e r f n p w t h k = absurd (f refl)
differ_int i a (Same u) e r f n p w t h k = absurd r
differ_int i a Int e r f n p w t h k = absurd (n refl)
differ_int i a (Part j u) e r f n p w t h k = absurd (p j u refl)
differ_int i a b e r f n p w t h k = let g = h ∙ ap (node_type i w t) e in absurd cc

pub differ_bool : (i : Instances) → (a b : Node) → a ≡ Bool → IsRoot b → (b ≡ Free → ⊥) → (b ≡ Bool → ⊥) → ((r k : ℕ) → b ≡ Part r k → ⊥) → Differ i a b
differ_bool i a Free e r f n p w t h k = absurd (f refl)
differ_bool i a (Same u) e r f n p w t h k = absurd r
differ_bool i a Bool e r f n p w t h k = absurd (n refl)
differ_bool i a (Part j u) e r f n p w t h k = absurd (p j u refl)
differ_bool i a b e r f n p w t h k = let g = h ∙ ap (node_type i w t) e in absurd cc

pub differ_char : (i : Instances) → (a b : Node) → a ≡ Char → IsRoot b → (b ≡ Free → ⊥) → (b ≡ Char → ⊥) → ((r k : ℕ) → b ≡ Part r k → ⊥) → Differ i a b
differ_char i a Free e r f n p w t h k = absurd (f refl)
differ_char i a (Same u) e r f n p w t h k = absurd r
differ_char i a Char e r f n p w t h k = absurd (n refl)
differ_char i a (Part j u) e r f n p w t h k = absurd (p j u refl)
differ_char i a b e r f n p w t h k = let g = h ∙ ap (node_type i w t) e in absurd cc

pub differ_named : (i : Instances) → (m : ℕ) → (a b : Node) → a ≡ Named m → IsRoot b → (b ≡ Free → ⊥) → ((x : ℕ) → b ≡ Named x → ⊥) → ((r k : ℕ) → b ≡ Part r k → ⊥) → Differ i a b
differ_named i m a Free e r f n p w t h k = absurd (f refl)
differ_named i m a (Same u) e r f n p w t h k = absurd r
differ_named i m a (Named x) e r f n p w t h k = absurd (n x refl)
differ_named i m a (Part j u) e r f n p w t h k = absurd (p j u refl)
differ_named i m a b e r f n p w t h k = let g = h ∙ ap (node_type i w t) e in absurd cc

pub differ_seq : (i : Instances) → (m : ℕ) → (a b : Node) → a ≡ SeqOf m → IsRoot b → (b ≡ Free → ⊥) → ((x : ℕ) → b ≡ SeqOf x → ⊥) → ((r k : ℕ) → b ≡ Part r k → ⊥) → Differ i a b
differ_seq i m a Free e r f n p w t h k = absurd (f refl)
differ_seq i m a (Same u) e r f n p w t h k = absurd r
differ_seq i m a (SeqOf x) e r f n p w t h k = absurd (n x refl)
differ_seq i m a (Part j u) e r f n p w t h k = absurd (p j u refl)
differ_seq i m a b e r f n p w t h k = let g = h ∙ ap (node_type i w t) e in absurd cc

pub differ_both : (i : Instances) → (m : ℕ) (l : ℕ) → (a b : Node) → a ≡ Both m l → IsRoot b → (b ≡ Free → ⊥) → ((x y : ℕ) → b ≡ Both x y → ⊥) → ((r k : ℕ) → b ≡ Part r k → ⊥) → Differ i a b
differ_both i m l a Free e r f n p w t h k = absurd (f refl)
differ_both i m l a (Same u) e r f n p w t h k = absurd r
differ_both i m l a (Both x y) e r f n p w t h k = absurd (n x y refl)
differ_both i m l a (Part j u) e r f n p w t h k = absurd (p j u refl)
differ_both i m l a b e r f n p w t h k = let g = h ∙ ap (node_type i w t) e in absurd cc

-- what is read of a table
pub read_node : (ns : List Node) (p : ℕ) (x : Node) → p < length ns → x ≡ get_or ns p x → x ≡ node_at ns p
read_node ns p x l e = get_or_read ns p x l e Free

pub meeting_at : (ns : List Node) (p q : ℕ) (x y : Node) (m : Meeting) → p < length ns → q < length ns → x ≡ get_or ns p x → y ≡ get_or ns q y → IsMeeting x y m →
    IsMeeting (node_at ns p) (node_at ns q) m
meeting_at ns p q x y m j k e d h = subst (λ (n : Node). IsMeeting n (node_at ns q) m) (read_node ns p x j e) (subst (λ (n : Node). IsMeeting x n m) (read_node ns q y k d) h)

-- a table with the place `high` linked to `low`, where n is
abbrev linked : List Node → ℕ → ℕ → Node → List Node
linked ns low high n = set (set ns low n) high (Same low)

length_linked : (ns : List Node) (low high : ℕ) (n : Node) → length (linked ns low high n) ≡ length ns
length_linked ns low high n = length-set (set ns low n) high (Same low) ∙ length-set ns low n

-- a fact of each place after a join
each_linked : (P : ℕ → Node → Type 0) (ns : List Node) (low high : ℕ) (n : Node) → low < high → high < length ns → P low n → P high (Same low) → ((q : ℕ) → P q (node_at ns q)) →
    (q : ℕ) → P q (node_at (linked ns low high n) q)
each_linked P ns low high n order inside lower higher others =
    each_set P (set ns low n) high (Same low) (omega (arith, length-set ns low n)) higher (λ q d. each_set P ns low n (omega arith) lower (λ p e. others p) q)

linked_low : (P : Node → Type 0) (ns : List Node) (low high : ℕ) (n : Node) → low < high → high < length ns → P (node_at (linked ns low high n) low) → P n
linked_low P ns low high n order inside h = here_set P ns low n (omega arith) (other_set P (set ns low n) high (Same low) low (omega arith) h)

linked_high : (P : Node → Type 0) (ns : List Node) (low high : ℕ) (n : Node) → low < high → high < length ns → P (node_at (linked ns low high n) high) → P (Same low)
linked_high P ns low high n order inside h = here_set P (set ns low n) high (Same low) (omega (arith, length-set ns low n)) h

linked_other : (P : Node → Type 0) (ns : List Node) (low high : ℕ) (n : Node) (q : ℕ) → q ≢ low → q ≢ high → P (node_at (linked ns low high n) q) → P (node_at ns q)
linked_other P ns low high n q d e h = other_set P ns low n q d (other_set P (set ns low n) high (Same low) q e h)

fits_linked : (i : Instances) (w : ℕ → Term) (ns : List Node) (low high : ℕ) (rest : List Pair) → low < high → high < length ns → AgreeWhere i (node_at ns low) (node_at ns high) rest →
    Fits i w ns → w low ≡ w high → Fits i w (linked ns low high (merged (node_at ns low) (node_at ns high))) × AreEqual w rest
fits_linked i w ns low high rest order inside agree f e =
    let h = (agree w (w low)).0 (f low, subst (λ (t : Term). Describes i w t (node_at ns high)) (sym e) (f high)) in
    (each_linked (λ q m. Describes i w (w q) m) ns low high (merged (node_at ns low) (node_at ns high)) order inside h.0 (sym e) f, h.1)

fits_unlinked : (i : Instances) (w : ℕ → Term) (ns : List Node) (low high : ℕ) (rest : List Pair) → low < high → high < length ns → AgreeWhere i (node_at ns low) (node_at ns high) rest →
    Fits i w (linked ns low high (merged (node_at ns low) (node_at ns high))) → AreEqual w rest → Fits i w ns × (w low ≡ w high)
fits_unlinked i w ns low high rest order inside agree f k =
    let n = merged (node_at ns low) (node_at ns high) in
    let e : w high ≡ w low = linked_high (Describes i w (w high)) ns low high n order inside (f high) in
    let h = (agree w (w low)).1 (linked_low (Describes i w (w low)) ns low high n order inside (f low), k) in
    let g : Describes i w (w high) (node_at ns high) = subst (λ (t : Term). Describes i w t (node_at ns high)) (sym e) h.1 in (
      λ q. elim (cases_eq q low) [
        | inl j ↦ subst (λ (u : ℕ). Describes i w (w u) (node_at ns u)) (sym j) h.0
        | inr d ↦ elim (cases_eq q high) [
          | inl j ↦ subst (λ (u : ℕ). Describes i w (w u) (node_at ns u)) (sym j) g
          | inr u ↦ linked_other (Describes i w (w q)) ns low high n q d u (f q)
        ]
      ],
      sym e,
    )

linked_moves : (i : Instances) (ns : List Node) (pair : Pair) (rest : List Pair) (pending : List Pair) → pair.first < pair.second → pair.second < length ns →
    AgreeWhere i (node_at ns pair.first) (node_at ns pair.second) rest →
    Moves i ns (pending ++ pair ∷ []) (linked ns pair.first pair.second (merged (node_at ns pair.first) (node_at ns pair.second))) (pending ++ rest)
linked_moves i ns pair rest pending order inside agree = record {
  longer = omega (arith, length_linked ns pair.first pair.second (merged (node_at ns pair.first) (node_at ns pair.second)));
  sound = λ w f h.
      let u = fits_unlinked i w ns pair.first pair.second rest order inside agree f (All_right (Equals w) pending rest h) in
      (u.0, (popped_equal w (pending ++ pair ∷ []) pending pair refl).1 (All_left (Equals w) pending rest h, u.1));
  complete = λ w f h.
      let p = (popped_equal w (pending ++ pair ∷ []) pending pair refl).0 h in
      let j = fits_linked i w ns pair.first pair.second rest order inside agree f p.1 in
      record {
        types = w;
        continues = continues_none (length ns) w;
        fits = j.0;
        equal = All-append (Equals w) pending rest p.0 j.1;
      };
}

-- the node at a smaller place that was free
placed_lower : (i : Instances) (count n low high : ℕ) (m : Node) → low < count → IsRoot m → IsPlaced i count n high m → IsPlaced i count n low m
placed_lower i count n low high Free c r h = c
placed_lower i count n low high (Same q) c r h = absurd r
placed_lower i count n low high Int c r h = h
placed_lower i count n low high Bool c r h = h
placed_lower i count n low high Char c r h = h
placed_lower i count n low high (Named m) c r h = h
placed_lower i count n low high (SeqOf q) c r h = h
placed_lower i count n low high (Both p q) c r h = h
placed_lower i count n low high (Part r k) c s h = h

placed_merged : (i : Instances) (count n low high : ℕ) (a b : Node) → IsRoot b → IsPlaced i count n low a → IsPlaced i count n high b → IsPlaced i count n low (merged a b)
placed_merged i count n low high Free b r h k = placed_lower i count n low high b h r k
placed_merged i count n low high (Same q) b r h k = h
placed_merged i count n low high Int b r h k = h
placed_merged i count n low high Bool b r h k = h
placed_merged i count n low high Char b r h k = h
placed_merged i count n low high (Named m) b r h k = h
placed_merged i count n low high (SeqOf p) b r h k = h
placed_merged i count n low high (Both p q) b r h k = h
placed_merged i count n low high (Part p q) b r h k = h

linked_table : (i : Instances) (count : ℕ) (ns : List Node) (low high : ℕ) → low < high → high < length ns → IsRoot (node_at ns high) → IsTable i count ns →
    IsTable i count (linked ns low high (merged (node_at ns low) (node_at ns high)))
linked_table i count ns low high order inside root t =
    let n = merged (node_at ns low) (node_at ns high) in
    let e = length_linked ns low high n in
    let below : low < length ns = omega arith in
    let each = each_linked (λ q m. q < length ns → IsPlaced i count (length ns) q m) ns low high n order inside
    (λ _. placed_merged i count (length ns) low high (node_at ns low) (node_at ns high) root (t low below) (t high inside)) (λ _. order) t in
    λ q l. subst (λ (k : ℕ). IsPlaced i count k q (node_at (linked ns low high n) q)) (sym e) (each q (omega arith))

weight_root : (i : Instances) (n : Node) → IsRoot n → 2 ≤ weight i n
weight_root i Free h = omega arith
weight_root i (Same q) h = absurd h
weight_root i Int h = omega arith
weight_root i Bool h = omega arith
weight_root i Char h = omega arith
weight_root i (Named m) h = omega arith
weight_root i (SeqOf q) h = omega arith
weight_root i (Both q r) h = omega arith
weight_root i (Part r k) h = omega (arith, nodes_positive (part_type i r k))

weight_merged : (i : Instances) (a b : Node) → IsRoot a → IsRoot b → weight i (merged a b) + 2 ≤ weight i a + weight i b
weight_merged i Free b h k = omega arith
weight_merged i (Same q) b h k = absurd h
weight_merged i Int b h k = omega (arith, weight_root i b k)
weight_merged i Bool b h k = omega (arith, weight_root i b k)
weight_merged i Char b h k = omega (arith, weight_root i b k)
weight_merged i (Named m) b h k = omega (arith, weight_root i b k)
weight_merged i (SeqOf q) b h k = omega (arith, weight_root i b k)
weight_merged i (Both q r) b h k = omega (arith, weight_root i b k)
weight_merged i (Part r j) b h k = omega (arith, weight_root i b k)

pub length_rest : (rest : Rest) → length (pairs_of rest) ≤ 2
length_rest Nothing = omega arith
length_rest (One p) = omega arith
length_rest (Two p q) = omega arith

linked_fewer : (i : Instances) (ns : List Node) (low high : ℕ) (rest : List Pair) (pending : List Pair) → low < high → high < length ns → weight i (merged (node_at ns low) (node_at ns high)) + length rest ≤ weight i (node_at ns low) + weight i (node_at ns high) →
    sum_by (weight i) (linked ns low high (merged (node_at ns low) (node_at ns high))) + length (pending ++ rest) ≤ sum_by (weight i) ns + length pending
linked_fewer i ns low high rest pending order inside few =
    let n = merged (node_at ns low) (node_at ns high) in
    let l : high < length (set ns low n) = omega (arith, length-set ns low n) in
    let s = sum_by-set (weight i) ns low n Free (omega arith) in
    let t = sum_by-set (weight i) (set ns low n) high (Same low) Free l in
    let o : get_or (set ns low n) high Free ≡ get_or ns high Free = get_or-set_other ns low high n Free (omega arith) in
    let p : weight i (get_or (set ns low n) high Free) ≡ weight i (node_at ns high) = ap (weight i) o in
    omega (arith, s, t, p, few, length-append pending rest)

-- what holds after a join: `new` is the table, and `more` the pairs that are left then
module _ (i : Instances) (ns new : List Node) (pair : Pair) (rest : List Pair) (pending more : List Pair) (at : new ≡ linked ns pair.first pair.second (merged (node_at ns pair.first) (node_at ns pair.second)))
    (left : more ≡ pending ++ rest) (order : pair.first < pair.second) (inside : pair.second < length ns) where
  pub join_moves : AgreeWhere i (node_at ns pair.first) (node_at ns pair.second) rest → Moves i ns (pending ++ pair ∷ []) new more
  join_moves agree = rw (at, left) (linked_moves i ns pair rest pending order inside agree)

  pub join_table : IsRoot (node_at ns pair.second) → (count : ℕ) → IsTable i count ns → IsTable i count new
  join_table root = rw at (λ count. linked_table i count ns pair.first pair.second order inside root)

  pub pending_below : All (IsPairBelow (length ns)) rest → All (IsPairBelow (length ns)) pending → All (IsPairBelow (length new)) more
  pending_below below h =
      let e : length new ≡ length ns = ap length at ∙ length_linked ns pair.first pair.second (merged (node_at ns pair.first) (node_at ns pair.second)) in
      let all : All (IsPairBelow (length ns)) more = rw left (All-append (IsPairBelow (length ns)) pending rest h below) in
      subst (λ (n : ℕ). All (IsPairBelow n) more) (sym e) all

  pub join_pending : IsGraph i ns → ((n low high : ℕ) → IsPlaced i n n low (node_at ns pair.first) → IsPlaced i n n high (node_at ns pair.second) → All (IsPairBelow n) rest) → All (IsPairBelow (length ns)) pending → All (IsPairBelow (length new)) more
  join_pending graph lie h =
      let below : pair.first < length ns = omega arith in
      pending_below (lie (length ns) pair.first pair.second (graph.table pair.first below) (graph.table pair.second inside)) h

  pub join_fewer : weight i (merged (node_at ns pair.first) (node_at ns pair.second)) + length rest ≤ weight i (node_at ns pair.first) + weight i (node_at ns pair.second) → sum_by (weight i) new + length more ≤ sum_by (weight i) ns + length pending
  join_fewer few = rw (at, left) (linked_fewer i ns pair.first pair.second rest pending order inside few)

pub fewer_rest : (i : Instances) (a b : Node) (rest : Rest) → IsRoot a → IsRoot b → weight i (merged a b) + length (pairs_of rest) ≤ weight i a + weight i b
fewer_rest i a b rest h k = omega (arith, weight_merged i a b h k, length_rest rest)

-- what holds after the parts of instances at a pair's places are expanded, where `mid` is the table in between
module _ (i : Instances) (old mid new : List Node) (pair : Pair) (pending more : List Pair) (left : more ≡ pending ++ pair ∷ []) (order : pair.first < pair.second) (inside : pair.second < length old)
    (below : All (IsPairBelow (length old)) pending) (first : Moves i old [] mid []) (second : Moves i mid [] new []) where
  later_all : All (IsPairBelow (length old)) (pending ++ pair ∷ [])
  later_all = let x : pair.first < length old = omega arith in All-push (IsPairBelow (length old)) pending pair below (x, inside)

  pub later_moves : Moves i old (pending ++ pair ∷ []) new more
  later_moves =
      let ps = pending ++ pair ∷ [] in
      rw left (moves_more i old mid new ps ps ps (moves_with i old mid ps later_all first)
      (moves_with i mid new ps (pairs_longer (length old) (length mid) ps first.longer later_all) second))

  pub later_pending : All (IsPairBelow (length new)) more
  later_pending = let l : length old ≤ length new = omega (arith, first.longer, second.longer) in rw left (pairs_longer (length old) (length new) (pending ++ pair ∷ []) l later_all)

  pub later_fewer : node_at mid pair.second ≡ node_at old pair.second → 1 ≤ expandable (node_at old pair.first) + expandable (node_at old pair.second) →
      sum_by (weight i) mid + expandable (node_at old pair.first) ≤ sum_by (weight i) old → sum_by (weight i) new + expandable (node_at mid pair.second) ≤ sum_by (weight i) mid →
      sum_by (weight i) new + length more ≤ sum_by (weight i) old + length pending
  later_fewer kept some a b =
      let e : expandable (node_at mid pair.second) ≡ expandable (node_at old pair.second) = ap expandable kept in
      let l : length more ≡ length pending + 1 = ap length left ∙ length_push pending pair in
      omega (arith, e, l, some, a, b)
