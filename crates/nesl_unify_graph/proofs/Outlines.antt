-- The nodes of a type in a list.
use Rattle.std.proofs.Common.{◌≡◌, ◌≢◌, inl, inr, ℕ, zero, suc, ◌+◌, ◌*◌, ◌<◌, ◌≤◌, List, [], ◌∷◌, ◌++◌, All, Option, Some, None, IfSome, IfNone, length, get_or, set, drop, refl, sym, ap, subst, ◌∙◌, arith}
use Rattle.std.proofs.lemmas.Bool.{cases_lt, cases_eq}
use Rattle.std.proofs.lemmas.List.{get_or-set_same, get_or-set_other, length-set, length-append, get_or_append_left, get_or-append-add, get_or_push, length_push, drop_more, drop-append-le}
use Rattle.std.proofs.lemmas.List.Elements.{All-nil, All-cons, All-append, All-get_or}
use Rattle.nesl_types_shared.specs.Term.{Term, nodes, seq_of}
use Rattle.nesl_types_shared.specs.declared.shape.Shape.{Shape}
use Rattle.nesl_types_shared.specs.declared.shape.Shape.TheVariants as shape
use Rattle.nesl_types_shared.specs.Shapes.{shape_type, shape_at, IsShapeBelow}
use Rattle.nesl_types_shared.specs.Types.{type_at, Extends, IsPut}
use Rattle.nesl_types_shared.proofs.Nodes.{nodes_positive}
use Rattle.nesl_unify_graph.specs.declared.node.Node.{Node}
use Rattle.nesl_unify_graph.specs.declared.instances.Instances.{Instances}
use Rattle.nesl_unify_graph.specs.declared.form.Item.{Item}
use Rattle.nesl_unify_graph.specs.declared.form.Item.TheVariants.{At}
use Rattle.nesl_unify_graph.specs.declared.form.Form.{Form}
use Rattle.nesl_unify_graph.specs.declared.form.Form.TheVariants.{Free, Int, Bool, Char, Named, SeqOf, Both}
use Rattle.nesl_unify_graph.specs.Readings.{unrolled, Reads}
use Rattle.nesl_unify_graph.specs.Forms.{item_type, form_type, form_parts, IsItem, AreItems, IsForm, IsItemRead, near, IsLarger}
use Rattle.nesl_unify_graph.specs.Outlines.{form_shape, placed_shape, IsShapeAfter, IsOutline, FitsOutline, IsOutlineOf}
use Rattle.nesl_unify_graph.proofs.Walks.{IsCounted, count_first, count_item, measured_form, weight, weight-append, read_form, near_read, items_of_parts}

abbrev pub item_at : List Item → ℕ → Item
item_at xs k = get_or xs k (At 0)

-- the form of a shape whose parts are among items
abbrev pub outlined_form : List Item → Shape → Form
outlined_form xs shape.Int = Int
outlined_form xs shape.Bool = Bool
outlined_form xs shape.Char = Char
outlined_form xs (shape.Var v) = Free v
outlined_form xs (shape.Named m) = Named m
outlined_form xs (shape.SeqOf c) = SeqOf (item_at xs c)
outlined_form xs (shape.Both c d) = Both (item_at xs c) (item_at xs d)

-- the shape of item k
pub record IsOutlined (i : Instances) (ns : List Node) (xs : List Item) (k : ℕ) (s : Shape) : Type 0 where
  pub after : IsShapeAfter k (length xs) s
  pub form : IsForm i ns (item_at xs k) (outlined_form xs s)

form_more : (xs ys : List Item) (k : ℕ) (s : Shape) → IsShapeAfter k (length xs) s → outlined_form (xs ++ ys) s ≡ outlined_form xs s
form_more xs ys k shape.Int h = refl
form_more xs ys k shape.Bool h = refl
form_more xs ys k shape.Char h = refl
form_more xs ys k (shape.Var v) h = refl
form_more xs ys k (shape.Named m) h = refl
form_more xs ys k (shape.SeqOf c) h = ap SeqOf (get_or_append_left xs ys (At 0) c h.1)
form_more xs ys k (shape.Both c d) h =
    let a = get_or_append_left xs ys (At 0) c h.1 in
    let b = get_or_append_left xs ys (At 0) d h.3 in
    cc

after_more : (k m n : ℕ) (s : Shape) → m ≤ n → IsShapeAfter k m s → IsShapeAfter k n s
after_more k m n shape.Int l h = tt
after_more k m n shape.Bool l h = tt
after_more k m n shape.Char l h = tt
after_more k m n (shape.Var v) l h = tt
after_more k m n (shape.Named t) l h = tt
after_more k m n (shape.SeqOf c) l h = let b = h.1 in (h.0, omega arith)
after_more k m n (shape.Both c d) l h = let a = h.1 in let b = h.3 in (h.0, omega arith, h.2, omega arith)

outlined_more : (i : Instances) (ns : List Node) (xs ys : List Item) (k : ℕ) (s : Shape) → k < length xs → IsOutlined i ns xs k s → IsOutlined i ns (xs ++ ys) k s
outlined_more i ns xs ys k s l o = record {
  after = after_more k (length xs) (length (xs ++ ys)) s (omega (arith, length-append xs ys)) o.after;
  form = subst (λ f. IsForm i ns (item_at (xs ++ ys) k) f) (sym (form_more xs ys k s o.after))
      (subst (λ x. IsForm i ns x (outlined_form xs s)) (sym (get_or_append_left xs ys (At 0) k l)) o.form);
}

-- the parts of a form were added
form_added : (xs : List Item) (f : Form) → outlined_form (xs ++ form_parts f) (form_shape (length xs) f) ≡ f
form_added xs (Free p) = refl
form_added xs Int = refl
form_added xs Bool = refl
form_added xs Char = refl
form_added xs (Named m) = refl
form_added xs (SeqOf x) = ap SeqOf (get_or_push xs x (At 0) (length xs) refl)
form_added xs (Both x y) =
    let z : length xs + 0 ≡ length xs = omega arith in
    let a : item_at (xs ++ x ∷ y ∷ []) (length xs) ≡ x = ap (item_at (xs ++ x ∷ y ∷ [])) (sym z) ∙ get_or-append-add xs (x ∷ y ∷ []) 0 (At 0) in
    let b : item_at (xs ++ x ∷ y ∷ []) (length xs + 1) ≡ y = get_or-append-add xs (x ∷ y ∷ []) 1 (At 0) in
    cc

after_added : (k : ℕ) (xs : List Item) (f : Form) → k < length xs → IsShapeAfter k (length (xs ++ form_parts f)) (form_shape (length xs) f)
after_added k xs (Free p) l = tt
after_added k xs Int l = tt
after_added k xs Bool l = tt
after_added k xs Char l = tt
after_added k xs (Named m) l = tt
after_added k xs (SeqOf x) l = let e = length-append xs (x ∷ []) in (l, omega arith)
after_added k xs (Both x y) l = let e = length-append xs (x ∷ y ∷ []) in (l, omega arith, omega arith, omega arith)

-- the items below `next` are looked at, and their shapes noted
pub record IsOutlining (i : Instances) (ns : List Node) (start : ℕ) (xs : List Item) (shapes : List Shape) (next : ℕ) : Type 0 where
  pub len : length shapes ≡ next
  pub some : 0 < length xs
  pub inside : next ≤ length xs
  pub few : next ≤ 4096
  pub within : All (IsItem i (length ns)) xs
  pub counted : IsCounted i ns start next (drop next xs)
  pub first : item_at xs 0 ≡ At start
  pub noted : (k : ℕ) → k < next → IsOutlined i ns xs k (shape_at shapes k)

pub outline_first : (i : Instances) (ns : List Node) (start : ℕ) (xs : List Item) (shapes : List Shape) → start < length ns →
    xs ≡ At start ∷ [] → shapes ≡ [] → IsOutlining i ns start xs shapes 0
outline_first i ns start xs shapes l e o =
    let goal : IsOutlining i ns start (At start ∷ []) shapes 0 = record {
      len = ap length o;
      some = omega arith;
      inside = omega arith;
      few = omega arith;
      within = All-cons (IsItem i (length ns)) (At start) [] l (All-nil (IsItem i (length ns)));
      counted = count_first i ns start;
      first = refl;
      noted = λ k b. absurd (omega arith);
    } in
    subst (λ ys. IsOutlining i ns start ys shapes 0) (sym e) goal

first_of_more : (i : Instances) (ns : List Node) (xs : List Item) (k n : ℕ) → k < length xs →
    weight i ns n (drop k xs) ≡ weight i ns n (drop (k + 1) xs) + nodes (item_type i (near i ns n) (item_at xs k))
first_of_more i ns xs k n l =
    let e = ap (weight i ns n) (drop_more xs k (At 0) l) in
    omega arith

pub item_within : (i : Instances) (n : ℕ) (xs : List Item) (k : ℕ) (x : Item) → k < length xs → x ≡ item_at xs k → All (IsItem i n) xs → IsItem i n x
item_within i n xs k x l e a = subst (IsItem i n) (sym e) (All-get_or (IsItem i n) xs k (At 0) l a)

pub outline_on : (i : Instances) (ns : List Node) (start : ℕ) (xs ys : List Item) (shapes more : List Shape) (next : ℕ) (f : Form) →
    next < length xs → next ≢ 4096 → IsForm i ns (item_at xs next) f → AreItems i (length ns) f →
    ys ≡ xs ++ form_parts f → more ≡ shapes ++ form_shape (length xs) f ∷ [] →
    IsOutlining i ns start xs shapes next → IsOutlining i ns start ys more (next + 1)
outline_on i ns start xs ys shapes more next f l d h a e o w =
    let len = w.len in
    let few = w.few in
    let size = length-append xs (form_parts f) in
    let zs = xs ++ form_parts f in
    let s = form_shape (length xs) f in
    let more_len : length more ≡ next + 1 = ap length o ∙ length_push shapes s ∙ omega arith in
    let goal : IsOutlining i ns start zs more (next + 1) = record {
      len = more_len;
      some = omega arith;
      inside = omega arith;
      few = omega arith;
      within = All-append (IsItem i (length ns)) xs (form_parts f) w.within (items_of_parts i (length ns) f a);
      counted = count_item i ns start next 1 (item_at xs next) (drop (next + 1) xs) (form_parts f) (drop next xs) (drop (next + 1) zs) (measured_form i ns (item_at xs next) f h)
          (λ n. first_of_more i ns xs next n l)
          (λ n. ap (weight i ns n) (drop-append-le (next + 1) xs (form_parts f) (omega arith)) ∙ weight-append i ns n (drop (next + 1) xs) (form_parts f))
          w.counted;
      first = get_or_append_left xs (form_parts f) (At 0) 0 w.some ∙ w.first;
      noted = λ k b. elim (cases_lt k next) [
        | inl g ↦
            let same : shape_at more k ≡ shape_at shapes k = ap (λ ss. shape_at ss k) o ∙ get_or_append_left shapes (s ∷ []) shape.Int k (omega arith) in
            subst (IsOutlined i ns zs k) (sym same) (outlined_more i ns xs (form_parts f) k (shape_at shapes k) (omega arith) (w.noted k g))
        | inr g ↦
            let at : next ≡ k = omega arith in
            let same : shape_at more next ≡ s = ap (λ ss. shape_at ss next) o ∙ get_or_push shapes s shape.Int next len in
            let here : IsOutlined i ns zs next s = record {
              after = after_added next xs f l;
              form = subst (λ g. IsForm i ns (item_at zs next) g) (sym (form_added xs f))
                  (subst (λ x. IsForm i ns x f) (sym (get_or_append_left xs (form_parts f) (At 0) next l)) h);
            } in
            subst (λ j. IsOutlined i ns zs j (shape_at more j)) at (subst (IsOutlined i ns zs next) (sym same) here)
      ];
    } in
    subst (λ qs. IsOutlining i ns start qs more (next + 1)) (sym e) goal

pub outline_fails : (i : Instances) (ns : List Node) (start : ℕ) (xs : List Item) (shapes : List Shape) (next : ℕ) →
    next < length xs → next ≡ 4096 → IsOutlining i ns start xs shapes next → IsLarger i ns 4096 start
outline_fails i ns start xs shapes next l e w =
    let k = w.counted 0 in
    let f = first_of_more i ns xs next 0 l in
    let p = nodes_positive (item_type i (near i ns 0) (item_at xs next)) in
    subst (λ c. IsLarger i ns c start) e (k.0, omega (arith, k.1))

form_of_types : (i : Instances) (ns : List Node) (xs : List Item) (g : ℕ → Term) (k : ℕ) (s : Shape) → IsShapeAfter k (length xs) s →
    ((c : ℕ) → k < c → c < length xs → IsItemRead i ns (item_at xs c) (g c)) →
    (far : ℕ → Term) (m : ℕ) → 2 * nodes (shape_type g s) ≤ m + 2 → form_type i (unrolled i ns far m) (outlined_form xs s) ≡ shape_type g s
form_of_types i ns xs g k shape.Int h r far m l = refl
form_of_types i ns xs g k shape.Bool h r far m l = refl
form_of_types i ns xs g k shape.Char h r far m l = refl
form_of_types i ns xs g k (shape.Var v) h r far m l = refl
form_of_types i ns xs g k (shape.Named t) h r far m l = refl
form_of_types i ns xs g k (shape.SeqOf c) h r far m l = ap seq_of (r c h.0 h.1 far m (omega arith))
form_of_types i ns xs g k (shape.Both c d) h r far m l =
    let a = r c h.0 h.1 far m (omega arith) in
    let b = r d h.2 h.3 far m (omega arith) in
    cc

reads_from : (i : Instances) (ns : List Node) (xs : List Item) (shapes : List Shape) (g : ℕ → Term) →
    ((k : ℕ) → k < length xs → IsOutlined i ns xs k (shape_at shapes k)) → ((k : ℕ) → k < length xs → g k ≡ shape_type g (shape_at shapes k)) →
    (d k : ℕ) → length xs ≤ k + d → k < length xs → IsItemRead i ns (item_at xs k) (g k)
reads_from i ns xs shapes g o f zero k e l = absurd (omega arith)
reads_from i ns xs shapes g o f (suc d) k e l =
    let s = shape_at shapes k in
    let h = o k l in
    subst (IsItemRead i ns (item_at xs k)) (sym (f k l))
    (read_form i ns (item_at xs k) (outlined_form xs s) (shape_type g s) h.form
    (form_of_types i ns xs g k s h.after (λ c a b. reads_from i ns xs shapes g o f d c (omega arith) b)))

pub outline_last : (i : Instances) (ns : List Node) (start : ℕ) (xs : List Item) (shapes : List Shape) (next : ℕ) →
    length xs ≤ next → IsOutlining i ns start xs shapes next → IsOutlineOf i ns start shapes
outline_last i ns start xs shapes next l w =
    let len = w.len in
    let inside = w.inside in
    let some = w.some in
    let same : length xs ≡ length shapes = omega arith in
    record {
      outline = record {
        some = omega arith;
        made = λ k b. subst (λ n. IsShapeAfter k n (shape_at shapes k)) same (w.noted k (omega arith)).after;
      };
      reads = λ g f.
          let r = reads_from i ns xs shapes g (λ k b. w.noted k (omega arith)) (λ k b. f k (omega arith)) (length xs) 0 (omega arith) some in
          subst (λ x. IsItemRead i ns x (g 0)) w.first r;
    }

-- a type is read once
pub reads_same : (i : Instances) (ns : List Node) (p : ℕ) (t u : Term) → Reads i ns p t → Reads i ns p u → t ≡ u
reads_same i ns p t u r s =
    let n : ℕ = 2 * nodes t + 2 * nodes u in
    sym (r (λ q. t) n (omega arith)) ∙ s (λ q. t) n (omega arith)

pub no_larger : (i : Instances) (ns : List Node) (p : ℕ) (u : Term) → IsLarger i ns 4096 p → Reads i ns p u → nodes u ≤ 4096 → ⊥
no_larger i ns p u h r l = let b = near_read i ns h.0 p u r in let a = h.1 in omega arith

-- the shapes from place `left` on are in a bank
pub record IsPlacing (shapes : List Shape) (bank : List Term) (ps : List ℕ) (left : ℕ) : Type 0 where
  pub len : length ps ≡ length shapes
  pub inside : left ≤ length shapes
  pub within : (k : ℕ) → left ≤ k → k < length shapes → get_or ps k 0 < length bank
  pub types : (k : ℕ) → left ≤ k → k < length shapes →
      type_at bank (get_or ps k 0) ≡ shape_type (λ c. type_at bank (get_or ps c 0)) (shape_at shapes k)

pub placing_first : (shapes : List Shape) (bank : List Term) (ps : List ℕ) (left : ℕ) → length ps ≡ length shapes → left ≡ length shapes → IsPlacing shapes bank ps left
placing_first shapes bank ps left l e = record {
  len = l;
  inside = omega arith;
  within = λ k a b. absurd (omega arith);
  types = λ k a b. absurd (omega arith);
}

pub below_of_after : (k n : ℕ) (s : Shape) → IsShapeAfter k n s → IsShapeBelow n s
below_of_after k n shape.Int h = tt
below_of_after k n shape.Bool h = tt
below_of_after k n shape.Char h = tt
below_of_after k n (shape.Var v) h = tt
below_of_after k n (shape.Named m) h = tt
below_of_after k n (shape.SeqOf c) h = h.1
below_of_after k n (shape.Both c d) h = (h.1, h.3)

placed_within : (k n m : ℕ) (ps : List ℕ) (s : Shape) → IsShapeAfter k n s → ((c : ℕ) → k < c → c < n → get_or ps c 0 < m) → IsShapeBelow m (placed_shape ps s)
placed_within k n m ps shape.Int h b = tt
placed_within k n m ps shape.Bool h b = tt
placed_within k n m ps shape.Char h b = tt
placed_within k n m ps (shape.Var v) h b = tt
placed_within k n m ps (shape.Named t) h b = tt
placed_within k n m ps (shape.SeqOf c) h b = b c h.0 h.1
placed_within k n m ps (shape.Both c d) h b = (b c h.0 h.1, b d h.2 h.3)

placed_type : (f : ℕ → Term) (ps : List ℕ) (s : Shape) → shape_type f (placed_shape ps s) ≡ shape_type (λ c. f (get_or ps c 0)) s
placed_type f ps shape.Int = refl
placed_type f ps shape.Bool = refl
placed_type f ps shape.Char = refl
placed_type f ps (shape.Var v) = refl
placed_type f ps (shape.Named m) = refl
placed_type f ps (shape.SeqOf c) = refl
placed_type f ps (shape.Both c d) = refl

same_types : (f g : ℕ → Term) (k n : ℕ) (s : Shape) → IsShapeAfter k n s → ((c : ℕ) → k < c → c < n → f c ≡ g c) → shape_type f s ≡ shape_type g s
same_types f g k n shape.Int h e = refl
same_types f g k n shape.Bool h e = refl
same_types f g k n shape.Char h e = refl
same_types f g k n (shape.Var v) h e = refl
same_types f g k n (shape.Named m) h e = refl
same_types f g k n (shape.SeqOf c) h e = ap seq_of (e c h.0 h.1)
same_types f g k n (shape.Both c d) h e = let a = e c h.0 h.1 in let b = e d h.2 h.3 in cc

pub placing_below : (shapes : List Shape) (bank : List Term) (ps : List ℕ) (left k : ℕ) → k + 1 ≡ left → IsOutline shapes → IsPlacing shapes bank ps left →
    IsShapeBelow (length bank) (placed_shape ps (shape_at shapes k))
placing_below shapes bank ps left k e o w =
    let inside = w.inside in
    placed_within k (length shapes) (length bank) ps (shape_at shapes k) (o.made k (omega arith)) (λ c a b. w.within c (omega arith) b)

pub placing_on : (shapes : List Shape) (old new : List Term) (ps : List ℕ) (left k a : ℕ) → k + 1 ≡ left → IsOutline shapes → Extends old new →
    IsPut old new (shape_type (type_at old) (placed_shape ps (shape_at shapes k))) a → IsPlacing shapes old ps left → IsPlacing shapes new (set ps k a) k
placing_on shapes old new ps left k a e o x p w =
    let inside = w.inside in
    let len = w.len in
    let here : get_or (set ps k a) k 0 ≡ a = get_or-set_same ps k a 0 (omega arith) in
    let other : (c : ℕ) → k < c → get_or (set ps k a) c 0 ≡ get_or ps c 0 = λ c l. get_or-set_other ps k c a 0 (λ q. omega arith) in
    let kept : (c : ℕ) → k < c → c < length shapes → type_at old (get_or ps c 0) ≡ type_at new (get_or (set ps k a) c 0) = λ c l b.
    sym (ap (type_at new) (other c l) ∙ x.kept (get_or ps c 0) (w.within c (omega arith) b)) in
    record {
      len = length-set ps k a ∙ len;
      inside = omega arith;
      within = λ j b l. elim (cases_eq j k) [
        | inl q ↦ subst (λ c. get_or (set ps k a) c 0 < length new) (sym q) (subst (λ c. c < length new) (sym here) p.within)
        | inr d ↦
            let m = other j (omega arith) in
            let v = w.within j (omega arith) l in
            let g = x.longer in
            omega arith
      ];
      types = λ j b l. elim (cases_eq j k) [
        | inl q ↦ subst (λ c. type_at new (get_or (set ps k a) c 0) ≡ shape_type (λ c. type_at new (get_or (set ps k a) c 0)) (shape_at shapes c)) (sym q)
            (ap (type_at new) here ∙ p.here ∙ placed_type (type_at old) ps (shape_at shapes k)
            ∙ same_types (λ c. type_at old (get_or ps c 0)) (λ c. type_at new (get_or (set ps k a) c 0)) k (length shapes) (shape_at shapes k) (o.made k (omega arith)) kept)
        | inr d ↦
            let above : k < j = omega arith in
            sym (kept j above l) ∙ w.types j (omega arith) l
            ∙ same_types (λ c. type_at old (get_or ps c 0)) (λ c. type_at new (get_or (set ps k a) c 0)) j (length shapes) (shape_at shapes j) (o.made j l) (λ c m n. kept c (omega arith) n)
      ];
    }

pub placing_last : (shapes : List Shape) (bank : List Term) (ps : List ℕ) (left a : ℕ) (t : Term) → left ≡ 0 → IsOutline shapes → IsPlacing shapes bank ps left →
    a ≡ get_or ps 0 0 → t ≡ type_at bank a → (g : ℕ → Term) × (FitsOutline g shapes × (t ≡ g 0))
placing_last shapes bank ps left a t z o w e h =
    ((λ k. type_at bank (get_or ps k 0)), ((λ k l. w.types k (omega arith) l), h ∙ ap (type_at bank) e))

pub at_some : {X : Type 0} (P : X → Type 0) (o : Option X) (x : X) → o ≡ Some x → IfSome o P → P x
at_some P o x e h = subst (λ r. IfSome r P) e h

pub at_none : {X : Type 0} (P : Type 0) (o : Option X) → o ≡ None → IfNone o P → P
at_none P o e h = subst (λ r. IfNone r P) e h
