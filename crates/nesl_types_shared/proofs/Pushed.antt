-- The sequences of a type, after its parts.
use Rattle.std.proofs.Common.{◌≡◌, ℕ, suc, ◌-◌, ◌<◌, Bool, true, false, List, [], ◌∷◌, ◌++◌, length, refl, sym, ap, subst, ◌∙◌, inl, inr, arith}
use Rattle.std.proofs.lemmas.Bool.{cases_lt}
use Rattle.std.proofs.lemmas.List.{get_or_append_left, get_or_push, length_push}
use Rattle.std.specs.List.{list_any}
use Rattle.nesl_types_shared.specs.Term.{Term, int, seq_of}
use Rattle.nesl_types_shared.specs.declared.shape.Shape.{Shape}
use Rattle.nesl_types_shared.specs.declared.shape.Shape.TheVariants.{Int, Bool as Bool', Char, Var, Named, SeqOf, Both}
use Rattle.nesl_types_shared.specs.Shapes.{shape_type, shape_at, IsShapeBelow}
use Rattle.nesl_types_shared.specs.Types.{type_at, types, StandOnce}
use Rattle.nesl_types_shared.specs.Lists.{is_same, with_type, last_type, AreParts}
use Rattle.nesl_types_shared.proofs.Made.{length-types, type_made, types-push}
use Rattle.nesl_types_shared.proofs.Placed.{made_push}
use Rattle.nesl_types_shared.proofs.Once.{one_place}
use Rattle.nesl_types_shared.proofs.Visited.{or_cases}
use Rattle.nesl_types_shared.proofs.Listed.{Has, same_types, added_last}

-- the place of a type in a list
record StandsAt (ts : List Term) (v : Term) : Type 0 where
  place : ℕ
  within : place < length ts
  here : type_at ts place ≡ v

place_in : (ts : List Term) (v : Term) → Has ts v → StandsAt ts v
place_in [] v h = cc
place_in (t ∷ ts) v h = elim (or_cases (is_same v t) (list_any (is_same v) ts) h) [
  | inl e ↦ record { place = 0; within = omega arith; here = sym (same_types v t e) }
  | inr i ↦ let s = place_in ts v i in record { place = suc s.place; within = omega (arith, s.within); here = s.here }
]

-- what the sequences of a type are made of
item_place : (f : ℕ → Term) (n : ℕ) (x : Shape) (t : Term) → IsShapeBelow n x → shape_type f x ≡ seq_of t → (p : ℕ) × ((p < n) × (f p ≡ t))
item_place f n Int t b e = cc
item_place f n Bool' t b e = cc
item_place f n Char t b e = cc
item_place f n (Var v) t b e = cc
item_place f n (Named m) t b e = cc
item_place f n (SeqOf p) t b e = let d : f p ≡ t = cc in (p, (b, d))
item_place f n (Both p q) t b e = cc

module _ (ns : List Shape) (t : Term) (i : AreParts ns t) where
  abbrev pub top : Shape
  top = SeqOf (length ns - 1)

  abbrev out : List Term
  out = types ns

  len : length out ≡ length ns
  len = length-types ns

  absent : list_any (is_same (seq_of t)) out ≡ false
  absent = by (list_any (is_same (seq_of t)) out) refl
    where
      by : (b : Bool) → list_any (is_same (seq_of t)) out ≡ b → b ≡ false
      by false e = refl
      by true e =
          let s = place_in out (seq_of t) e in
          let n = len in
          let w : s.place < length ns = omega (arith, s.within) in
          let made = i.made s.place w in
          let p = item_place (type_at out) s.place (shape_at ns s.place) t made (sym (type_made ns s.place w made) ∙ s.here) in
          let at_last : type_at out (length ns - 1) ≡ t = ap (λ k. type_at out (k - 1)) (sym n) ∙ i.last in
          let same = one_place ns i.made i.once p.0 (length ns - 1) (omega (arith, p.1.0)) (omega (arith, i.some)) (p.1.1 ∙ sym at_last) in
          absurd (omega (arith, p.1.0))

  below : IsShapeBelow (length ns) top
  below = omega (arith, i.some)

  other_shape : (a : ℕ) → a < length ns → shape_at ns a ≡ top → ⊥
  other_shape a l e = let b : length ns - 1 < a = subst (IsShapeBelow a) e (i.made a l) in omega arith

  at_end : shape_at (ns ++ top ∷ []) (length ns) ≡ top
  at_end = get_or_push ns top Int (length ns) refl

  before : (a : ℕ) → a < length ns → shape_at (ns ++ top ∷ []) a ≡ shape_at ns a
  before a l = get_or_append_left ns (top ∷ []) Int a l

  once_more : StandOnce (ns ++ top ∷ [])
  once_more a b l k e =
      let n = length_push ns top in
      elim (cases_lt a (length ns)) [
        | inl la ↦ elim (cases_lt b (length ns)) [
          | inl lb ↦ i.once a b la lb (sym (before a la) ∙ e ∙ before b lb)
          | inr gb ↦
              let same : length ns ≡ b = omega arith in
              absurd (other_shape a la (sym (before a la) ∙ e ∙ ap (shape_at (ns ++ top ∷ [])) (sym same) ∙ at_end))
        ]
        | inr ga ↦ elim (cases_lt b (length ns)) [
          | inl lb ↦
              let same : length ns ≡ a = omega arith in
              absurd (other_shape b lb (sym (before b lb) ∙ sym e ∙ ap (shape_at (ns ++ top ∷ [])) (sym same) ∙ at_end))
          | inr gb ↦ omega arith
        ]
      ]

  wider : types (ns ++ top ∷ []) ≡ out ++ seq_of t ∷ []
  wider =
      let n = len in
      types-push ns top ∙ ap (λ u. out ++ seq_of u ∷ []) (ap (λ k. type_at out (k - 1)) (sym n) ∙ i.last)

  pub seq_parts : AreParts (ns ++ top ∷ []) (seq_of t)
  seq_parts = record {
    made = made_push ns top i.made below;
    once = once_more;
    some = let n = length_push ns top in omega arith;
    order = wider ∙ sym (added_last out (seq_of t) absent) ∙ ap (λ us. with_type us (seq_of t)) i.order;
    last =
        let l = length_push out (seq_of t) in
        let place : length out ≡ length (out ++ seq_of t ∷ []) - 1 = omega arith in
        ap last_type wider ∙ get_or_push out (seq_of t) int (length (out ++ seq_of t ∷ []) - 1) place;
  }
