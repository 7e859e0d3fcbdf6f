-- The parts of a type, as they are put into a list.
use Rattle.std.proofs.Common.{rules, replicate, ◌≡◌, ◌≢◌, inl, inr, ℕ, zero, suc, ◌+◌, ◌-◌, ◌*◌, ◌<◌, ◌≤◌, Bool, true, false, List, [], ◌∷◌, ◌++◌, Option, None, Some, length, get_or, set, refl, sym, ap, subst, ◌∙◌, true≢false, arith}
use Rattle.std.proofs.Math.Nat.{suc-mul}
use Rattle.std.proofs.lemmas.Bool.{cases_lt}
use Rattle.std.proofs.lemmas.List.{get_or_past, get_or-replicate, length-replicate, get_or_append_left, get_or_push, length_push, get_or-set_same, get_or-set_other, length-set}
use Rattle.std.specs.List.{list_any}
use Rattle.nesl_types_shared.specs.Term.{Term, int, seq_of, pair_of}
use Rattle.nesl_types_shared.specs.declared.shape.Shape.{Shape}
use Rattle.nesl_types_shared.specs.declared.shape.Shape.TheVariants.{Int, Bool as Bool', Char, Var, Named, SeqOf, Both}
use Rattle.nesl_types_shared.specs.Shapes.{shape_type, shape_at, IsShapeBelow}
use Rattle.nesl_types_shared.specs.Types.{type_at, types, StandOnce, AreDistinct}
use Rattle.nesl_types_shared.specs.Lists.{is_same, with_parts, last_type, AreParts, moved_to, IsMoved, IsFirstLeft}
pub use Rattle.nesl_types_shared.specs.Moving.{finished, IsMoving}
use Rattle.nesl_types_shared.proofs.Made.{length-types, type_made, types-push}
use Rattle.nesl_types_shared.proofs.Placed.{made_push}
use Rattle.nesl_types_shared.proofs.Visited.{cases_eq}
use Rattle.nesl_types_shared.proofs.Listed.{Has, HasParts, IsClosed, same_itself, has_either, closed_parts, alone, added_last, item_first, left_first, right_first}
use Rattle.nesl_types_shared.proofs.Visited.{or_left, or_right}

has_at : (ts : List Term) (a : ℕ) → a < length ts → Has ts (type_at ts a)
has_at [] a l = absurd (omega arith)
has_at (t ∷ ts) zero l = or_left (is_same t t) (list_any (is_same t) ts) (same_itself t)
has_at (t ∷ ts) (suc a) l = or_right (is_same (type_at ts a) t) (list_any (is_same (type_at ts a)) ts) (has_at ts a (omega arith))

finished-push : (f : ℕ → Term) (ts : List Term) (ps : List ℕ) (p : ℕ) → finished f ts (ps ++ p ∷ []) ≡ finished f (with_parts ts (f p)) ps
finished-push f ts [] p = refl
finished-push f ts (q ∷ ps) p = ap (λ us. with_parts us (f q)) (finished-push f ts ps p)

module _ (from : List Term) (root : ℕ) (shapes : List Shape) (places : List (Option ℕ)) (ps qs : List ℕ) (p : ℕ) (x : Shape) (i : IsMoving from root shapes places qs) (popped : qs ≡ ps ++ p ∷ []) (below : IsShapeBelow p x) (here : type_at from p ≡ shape_type (type_at from) x) where
  abbrev pub out : List Term
  out = types shapes

  size : length qs ≡ length ps + 1
  size = ap length popped ∙ length_push ps p

  top : get_or qs (length ps) 0 ≡ p
  top = ap (λ l. get_or l (length ps) 0) popped ∙ get_or_push ps p 0 (length ps) refl

  under : (k : ℕ) → k < length ps → get_or qs k 0 ≡ get_or ps k 0
  under k l = ap (λ s. get_or s k 0) popped ∙ get_or_append_left ps (p ∷ []) 0 k l

  pub inside : p < length from
  inside = subst (λ k. k < length from) top (i.below (length ps) (let e = size in omega arith))

  pub unmoved : moved_to places p ≡ None
  unmoved = subst (λ k. moved_to places k ≡ None) top (i.left (length ps) (let e = size in omega arith))

  above : (k : ℕ) → k < length ps → p < get_or ps k 0
  above k l = subst (λ j. p < j) (under k l) (subst (λ j. j < get_or qs k 0) top (i.falls k (length ps) l (let e = size in omega arith)))

  found : (q a : ℕ) → moved_to places q ≡ Some a → Has out (type_at from q)
  found q a m = let h = i.moved q a m in subst (Has out) h.1 (has_at out a (let e = length-types shapes in omega (arith, h.0)))

  -- the shape at the places to which its parts were moved
  shape_moved : (s : Shape) → IsMoved places x s → (IsShapeBelow (length shapes) s) × (shape_type (type_at out) s ≡ shape_type (type_at from) x)
  shape_moved s m = by x m
    where
      by : (y : Shape) → IsMoved places y s → (IsShapeBelow (length shapes) s) × (shape_type (type_at out) s ≡ shape_type (type_at from) y)
      by Int e = rw e (tt, refl)
      by Bool' e = rw e (tt, refl)
      by Char e = rw e (tt, refl)
      by (Var v) e = rw e (tt, refl)
      by (Named n) e = rw e (tt, refl)
      by (SeqOf q) e = let h = i.moved q e.0 e.1.0 in rw e.1.1 (h.0, ap seq_of h.1)
      by (Both q r) e =
          let h = i.moved q e.0 e.1.1.0 in
          let k = i.moved r e.1.0 e.1.1.1.0 in
          let t : pair_of (type_at out e.0) (type_at out e.1.0) ≡ pair_of (type_at from q) (type_at from r) = cc in
          rw e.1.1.1.1 ((h.0, k.0), t)

  parts_there : (s : Shape) → IsMoved places x s → HasParts out (shape_type (type_at from) x)
  parts_there s m = by x m
    where
      by : (y : Shape) → IsMoved places y s → HasParts out (shape_type (type_at from) y)
      by Int e = tt
      by Bool' e = tt
      by Char e = tt
      by (Var v) e = tt
      by (Named n) e = tt
      by (SeqOf q) e = found q e.0 e.1.0
      by (Both q r) e = (found q e.0 e.1.1.0, found r e.1.0 e.1.1.1.0)

  -- its type isn't there
  absent : list_any (is_same (type_at from p)) out ≡ false
  absent = by (list_any (is_same (type_at from p)) out) refl
    where
      by : (b : Bool) → list_any (is_same (type_at from p)) out ≡ b → b ≡ false
      by true e = let h = i.all p inside e in let n : None ≡ Some h.0 = sym unmoved ∙ h.1 in cc
      by false e = refl

  module _ (s : Shape) (m : IsMoved places x s) where
    s_type : shape_type (type_at out) s ≡ type_at from p
    s_type = (shape_moved s m).1 ∙ sym here

    s_below : IsShapeBelow (length shapes) s
    s_below = (shape_moved s m).0

    wider : types (shapes ++ s ∷ []) ≡ out ++ type_at from p ∷ []
    wider = types-push shapes s ∙ ap (λ t. out ++ t ∷ []) s_type

    other_shape : (a : ℕ) → a < length shapes → shape_at shapes a ≡ s → ⊥
    other_shape a l e =
        let t : type_at out a ≡ type_at from p = type_made shapes a l (i.made a l) ∙ ap (shape_type (type_at out)) e ∙ s_type in
        let h : Has out (type_at from p) = subst (Has out) t (has_at out a (let k = length-types shapes in omega arith)) in
        true≢false (sym h ∙ absent)

    at_end : shape_at (shapes ++ s ∷ []) (length shapes) ≡ s
    at_end = get_or_push shapes s Int (length shapes) refl

    before : (a : ℕ) → a < length shapes → shape_at (shapes ++ s ∷ []) a ≡ shape_at shapes a
    before a l = get_or_append_left shapes (s ∷ []) Int a l

    once_more : StandOnce (shapes ++ s ∷ [])
    once_more a b l k e =
        let n = length_push shapes s in
        elim (cases_lt a (length shapes)) [
          | inl la ↦ elim (cases_lt b (length shapes)) [
            | inl lb ↦ i.once a b la lb (sym (before a la) ∙ e ∙ before b lb)
            | inr gb ↦
                let same : length shapes ≡ b = omega arith in
                absurd (other_shape a la (sym (before a la) ∙ e ∙ ap (shape_at (shapes ++ s ∷ [])) (sym same) ∙ at_end))
          ]
          | inr ga ↦ elim (cases_lt b (length shapes)) [
            | inl lb ↦
                let same : length shapes ≡ a = omega arith in
                absurd (other_shape b lb (sym (before b lb) ∙ sym e ∙ ap (shape_at (shapes ++ s ∷ [])) (sym same) ∙ at_end))
            | inr gb ↦ omega arith
          ]
        ]

    abbrev pub new_places : List (Option ℕ)
    new_places = set places p (Some (length shapes))

    in_places : p < length places
    in_places = let e = i.len in let l = inside in omega arith

    moved_here : moved_to new_places p ≡ Some (length shapes)
    moved_here = get_or-set_same places p (Some (length shapes)) None in_places

    moved_other : (q : ℕ) → q ≢ p → moved_to new_places q ≡ moved_to places q
    moved_other q d = get_or-set_other places p q (Some (length shapes)) None d

    new_moved : (q a : ℕ) → moved_to new_places q ≡ Some a → (a < length (shapes ++ s ∷ [])) × (type_at (types (shapes ++ s ∷ [])) a ≡ type_at from q)
    new_moved q a h =
        let n = length_push shapes s in
        let len = length-types shapes in
        elim (cases_eq q p) [
          | inl e ↦
              let here_is : Some a ≡ Some (length shapes) = sym h ∙ ap (moved_to new_places) e ∙ moved_here in
              let same : a ≡ length shapes = cc in
              let place : length out ≡ a = omega arith in
              (omega arith, ap (λ ts. type_at ts a) wider ∙ get_or_push out (type_at from p) int a place ∙ ap (type_at from) (sym e))
          | inr d ↦
              let old = i.moved q a (sym (moved_other q d) ∙ h) in
              let l : a < length out = omega (arith, old.0) in
              (omega (arith, old.0), ap (λ ts. type_at ts a) wider ∙ get_or_append_left out (type_at from p ∷ []) int a l ∙ old.1)
        ]

    new_all : AreDistinct from → (q : ℕ) → q < length from → Has (types (shapes ++ s ∷ [])) (type_at from q) → (a : ℕ) × (moved_to new_places q ≡ Some a)
    new_all d q l h = elim (cases_eq q p) [
      | inl e ↦ (length shapes, ap (moved_to new_places) e ∙ moved_here)
      | inr o ↦ elim (has_either out (type_at from p) (type_at from q) (subst (λ ts. Has ts (type_at from q)) wider h)) [
        | inl old ↦ let r = i.all q l old in (r.0, moved_other q o ∙ r.1)
        | inr same ↦ absurd (o (d q p l inside same))
      ]
    ]

    grown : with_parts out (type_at from p) ≡ types (shapes ++ s ∷ [])
    grown =
        alone out (type_at from p) i.closed (subst (HasParts out) (sym here) (parts_there s m))
        ∙ added_last out (type_at from p) absent
        ∙ sym wider

    last_here : length ps ≡ 0 → (0 < length (shapes ++ s ∷ [])) × (last_type (types (shapes ++ s ∷ [])) ≡ type_at from root)
    last_here e =
        let n = length_push shapes s in
        let k = size in
        let first : get_or qs 0 0 ≡ p = ap (λ j. get_or qs j 0) (sym e) ∙ top in
        let is_root : p ≡ root = sym first ∙ i.bottom (omega arith) in
        let l = length_push out (type_at from p) in
        let place : length out ≡ length (out ++ type_at from p ∷ []) - 1 = omega arith in
        (omega arith, ap last_type wider ∙ get_or_push out (type_at from p) int (length (out ++ type_at from p ∷ []) - 1) place ∙ ap (type_at from) is_root)

    pub moving_push : AreDistinct from → IsMoving from root (shapes ++ s ∷ []) new_places ps
    moving_push d = record {
      made = made_push shapes s i.made s_below;
      once = once_more;
      len = length-set places p (Some (length shapes)) ∙ i.len;
      moved = new_moved;
      all = new_all d;
      closed = subst IsClosed grown (closed_parts out (type_at from p) i.closed);
      below = λ k l. subst (λ j. j < length from) (under k l) (i.below k (let e = size in omega arith));
      left = λ k l.
          let a = above k l in
          moved_other (get_or ps k 0) (omega arith) ∙ ap (moved_to places) (sym (under k l)) ∙ i.left k (let e = size in omega arith);
      falls = λ j k l h.
          let a : j < length ps = omega arith in
          subst (λ v. v < get_or ps j 0) (under k h) (subst (λ v. get_or qs k 0 < v) (under j a) (i.falls j k l (let e = size in omega arith)));
      order = ap (λ ts. finished (type_at from) ts ps) (sym grown) ∙ sym (finished-push (type_at from) out ps p) ∙ ap (finished (type_at from) out) (sym popped) ∙ i.order;
      bottom = λ l. sym (under 0 l) ∙ i.bottom (let e = size in omega arith);
      last = last_here;
    }

  module _ (q : ℕ) (m : IsFirstLeft places x q) where
    pub part_left : (q < p) × (moved_to places q ≡ None)
    part_left = by x m below
      where
        by : (y : Shape) → IsFirstLeft places y q → IsShapeBelow p y → (q < p) × (moved_to places q ≡ None)
        by Int e b = absurd e
        by Bool' e b = absurd e
        by Char e b = absurd e
        by (Var v) e b = absurd e
        by (Named n) e b = absurd e
        by (SeqOf r) e b = (omega (arith, e.0), ap (moved_to places) e.0 ∙ e.1)
        by (Both r t) e b = elim e [
          | inl f ↦ (omega (arith, f.0, b.0), ap (moved_to places) f.0 ∙ f.1)
          | inr f ↦ (omega (arith, f.0, b.1), ap (moved_to places) f.0 ∙ f.1.0)
        ]

    part_first : with_parts (with_parts out (type_at from q)) (shape_type (type_at from) x) ≡ with_parts out (shape_type (type_at from) x)
    part_first = by x m
      where
        by : (y : Shape) → IsFirstLeft places y q → with_parts (with_parts out (type_at from q)) (shape_type (type_at from) y) ≡ with_parts out (shape_type (type_at from) y)
        by Int e = absurd e
        by Bool' e = absurd e
        by Char e = absurd e
        by (Var v) e = absurd e
        by (Named n) e = absurd e
        by (SeqOf r) e = ap (λ k. with_parts (with_parts out (type_at from k)) (seq_of (type_at from r))) e.0 ∙ item_first out (type_at from r) i.closed
        by (Both r t) e = elim e [
          | inl f ↦ ap (λ k. with_parts (with_parts out (type_at from k)) (pair_of (type_at from r) (type_at from t))) f.0 ∙ left_first out (type_at from r) (type_at from t) i.closed
          | inr f ↦ ap (λ k. with_parts (with_parts out (type_at from k)) (pair_of (type_at from r) (type_at from t))) f.0 ∙ right_first out (type_at from r) (type_at from t) i.closed (found r f.1.1.0 f.1.1.1)
        ]

    longer : length (qs ++ q ∷ []) ≡ length qs + 1
    longer = length_push qs q

    pub new_top : get_or (qs ++ q ∷ []) (length qs) 0 ≡ q
    new_top = get_or_push qs q 0 (length qs) refl

    old : (k : ℕ) → k < length qs → get_or (qs ++ q ∷ []) k 0 ≡ get_or qs k 0
    old k l = get_or_append_left qs (q ∷ []) 0 k l

    lowest : (k : ℕ) → k < length qs → q < get_or qs k 0
    lowest k l =
        let e = size in
        let h = part_left in
        elim (cases_lt k (length ps)) [
          | inl a ↦ let b = above k a in subst (λ j. q < j) (sym (under k a)) (omega (arith, h.0))
          | inr g ↦ let same : length ps ≡ k = omega arith in subst (λ j. q < get_or qs j 0) same (subst (λ j. q < j) (sym top) h.0)
        ]

    pub moving_part : IsMoving from root shapes places (qs ++ q ∷ [])
    moving_part =
        let n = longer in
        let h = part_left in
        let w = inside in
        record {
          made = i.made;
          once = i.once;
          len = i.len;
          moved = i.moved;
          all = i.all;
          closed = i.closed;
          below = λ k l. elim (cases_lt k (length qs)) [
            | inl a ↦ subst (λ j. j < length from) (sym (old k a)) (i.below k a)
            | inr g ↦ let same : length qs ≡ k = omega arith in subst (λ j. get_or (qs ++ q ∷ []) j 0 < length from) same (subst (λ j. j < length from) (sym new_top) (omega (arith, h.0)))
          ];
          left = λ k l. elim (cases_lt k (length qs)) [
            | inl a ↦ ap (moved_to places) (old k a) ∙ i.left k a
            | inr g ↦ let same : k ≡ length qs = omega arith in ap (λ j. moved_to places (get_or (qs ++ q ∷ []) j 0)) same ∙ ap (moved_to places) new_top ∙ h.1
          ];
          falls = λ j k l u.
              let a : j < length qs = omega arith in
              elim (cases_lt k (length qs)) [
                | inl b ↦ subst (λ v. v < get_or (qs ++ q ∷ []) j 0) (sym (old k b)) (subst (λ v. get_or qs k 0 < v) (sym (old j a)) (i.falls j k l b))
                | inr g ↦
                    let same : length qs ≡ k = omega arith in
                    subst (λ v. get_or (qs ++ q ∷ []) v 0 < get_or (qs ++ q ∷ []) j 0) same (subst (λ v. v < get_or (qs ++ q ∷ []) j 0) (sym new_top) (subst (λ v. q < v) (sym (old j a)) (lowest j a)))
              ];
          order =
              finished-push (type_at from) out qs q
              ∙ ap (finished (type_at from) (with_parts out (type_at from q))) popped
              ∙ finished-push (type_at from) (with_parts out (type_at from q)) ps p
              ∙ ap (λ t. finished (type_at from) (with_parts (with_parts out (type_at from q)) t) ps) here
              ∙ ap (λ ts. finished (type_at from) ts ps) part_first
              ∙ ap (λ t. finished (type_at from) (with_parts out t) ps) (sym here)
              ∙ sym (finished-push (type_at from) out ps p)
              ∙ ap (finished (type_at from) out) (sym popped)
              ∙ i.order;
          bottom = λ l. let e = size in let a : 0 < length qs = omega arith in old 0 a ∙ i.bottom a;
          last = λ e. absurd (omega arith);
        }

-- nothing is moved yet
pub moving_first : (from : List Term) (root : ℕ) (shapes : List Shape) (places : List (Option ℕ)) (stack : List ℕ) → root < length from → shapes ≡ [] → places ≡ replicate (length from) None → stack ≡ root ∷ [] → IsMoving from root shapes places stack
moving_first from root shapes places stack l a b d =
    let start : List (Option ℕ) = replicate (length from) None in
    let size : length start ≡ length from = length-replicate (length from) None in
    let none : (p : ℕ) → moved_to start p ≡ None = λ p. elim (cases_lt p (length from)) [
      | inl m ↦ get_or-replicate (length from) p None None m
      | inr g ↦ get_or_past start p None (omega (arith, size))
    ] in
    rw (a, b, d) (record {
      made = search rules;
      once = search rules;
      len = size;
      moved = λ p q e. let f : None ≡ Some q = sym (none p) ∙ e in cc;
      all = λ p m h. search rules;
      closed = search rules;
      below = search rules;
      left = λ i m. none _;
      falls = λ i j m n. absurd (omega arith);
      order = search rules;
      bottom = search rules;
      last = λ e. absurd (omega arith);
    })

-- in the end all parts are there
pub all_moved : (from : List Term) (root : ℕ) (shapes : List Shape) (places : List (Option ℕ)) (stack : List ℕ) → stack ≡ [] → IsMoving from root shapes places stack → AreParts shapes (type_at from root)
all_moved from root shapes places stack e i =
    let l = i.last (ap length e) in
    record {
      made = i.made;
      once = i.once;
      some = l.0;
      order = ap (finished (type_at from) (types shapes)) (sym e) ∙ i.order;
      last = l.1;
    }

-- how many aren't moved
abbrev pub unmoved_of : List (Option ℕ) → ℕ
unmoved_of [] = 0
unmoved_of (None ∷ os) = suc (unmoved_of os)
unmoved_of (Some a ∷ os) = unmoved_of os

unmoved-set : (os : List (Option ℕ)) (p a : ℕ) → p < length os → moved_to os p ≡ None → unmoved_of (set os p (Some a)) + 1 ≡ unmoved_of os
unmoved-set [] p a l h = absurd (omega arith)
unmoved-set (None ∷ os) zero a l h = omega arith
unmoved-set (Some b ∷ os) zero a l h = cc
unmoved-set (None ∷ os) (suc p) a l h = omega (arith, unmoved-set os p a (omega arith) h)
unmoved-set (Some b ∷ os) (suc p) a l h = unmoved-set os p a (omega arith) h

abbrev pub top_of : List ℕ → ℕ
top_of ps = get_or ps (length ps - 1) 0

-- what decreases: fewer are left, or a lower place is on top
abbrev pub left_of : List (Option ℕ) → List ℕ → ℕ
left_of places stack = unmoved_of places * suc (length places) + top_of stack

pub less_moved : (places : List (Option ℕ)) (ps qs : List ℕ) (p a : ℕ) → qs ≡ ps ++ p ∷ [] → p < length places → moved_to places p ≡ None → ((i : ℕ) → i < length qs → get_or qs i 0 < length places) → left_of (set places p (Some a)) ps < left_of places qs
less_moved places ps qs p a e l h b =
    let n = unmoved_of (set places p (Some a)) in
    let m : n + 1 ≡ unmoved_of places = unmoved-set places p a l h in
    let k = suc (length places) in
    let wide : unmoved_of places * k ≡ n * k + k = ap (λ j. j * k) (sym m) ∙ add_one_times n k in
    let len : suc (length (set places p (Some a))) ≡ k = ap suc (length-set places p (Some a)) in
    let same : unmoved_of (set places p (Some a)) * suc (length (set places p (Some a))) ≡ n * k = ap (λ j. n * j) len in
    let size = ap length e ∙ length_push ps p in
    let low : top_of ps ≤ length places = elim (cases_lt 0 (length ps)) [
      | inl some ↦
          let inside : length ps - 1 < length ps = omega arith in
          let under = ap (λ s. get_or s (length ps - 1) 0) e ∙ get_or_append_left ps (p ∷ []) 0 (length ps - 1) inside in
          let c = b (length ps - 1) (omega arith) in
          omega arith
      | inr none ↦ past ps (omega arith)
    ] in
    omega arith
  where
    add_one_times : (n k : ℕ) → (n + 1) * k ≡ n * k + k
    add_one_times n k = let e : n + 1 ≡ suc n = omega arith in ap (λ j. j * k) e ∙ suc-mul n k

    past : (ps : List ℕ) → length ps ≡ 0 → top_of ps ≤ length places
    past [] h = omega arith
    past (q ∷ ps) h = absurd (omega arith)

pub less_part : (places : List (Option ℕ)) (ps qs : List ℕ) (p q : ℕ) → qs ≡ ps ++ p ∷ [] → q < p → left_of places (qs ++ q ∷ []) < left_of places qs
less_part places ps qs p q e l =
    let size = ap length e ∙ length_push ps p in
    let n = length_push qs q in
    let first : length qs ≡ length (qs ++ q ∷ []) - 1 = omega arith in
    let second : length ps ≡ length qs - 1 = omega arith in
    let new : top_of (qs ++ q ∷ []) ≡ q = get_or_push qs q 0 (length (qs ++ q ∷ []) - 1) first in
    let old : top_of qs ≡ p = ap (λ s. get_or s (length qs - 1) 0) e ∙ get_or_push ps p 0 (length qs - 1) second in
    omega arith
