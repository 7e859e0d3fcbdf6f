-- A shape more in a bank.
use Rattle.std.proofs.Common.{◌≡◌, ◌⊎◌, inl, inr, ℕ, ◌<◌, Bool, true, false, not, cond, List, [], ◌∷◌, ◌++◌, length, map, get_or, slice_get, Option, None, Some, IfSome, sym, ap, subst, ◌∙◌, true≢false, arith}
use Rattle.std.proofs.lemmas.Bool.{cases_lt}
use Rattle.std.proofs.lemmas.List.{get_or_append_left, get_or_push, length_push, get_or-map, map-append}
use Rattle.std.proofs.lemmas.Option.{get_or_from_slice_get}
use Rattle.std.proofs.lemmas.Map.Keys.{apart_from_distinct}
use Rattle.std.proofs.lemmas.List.Quantifiers.{position-Some}
use Rattle.std.specs.List.{IsDistinct, list_any, position}
use Rattle.nesl_types_shared.specs.Term.{Term, int}
use Rattle.nesl_types_shared.specs.declared.shape.Shape.{Shape}
use Rattle.nesl_types_shared.specs.declared.shape.Shape.TheVariants.{Int, Bool as Bool', Char, Var, Named, SeqOf, Both}
use Rattle.nesl_types_shared.specs.Shapes.{shape_type, shape_size, shape_at, IsShapeBelow}
use Rattle.nesl_types_shared.specs.Types.{type_at, size_of, types, AreMade, StandOnce, IsBank, IsPlaced, IsPut}
use Rattle.nesl_types_shared.proofs.Made.{type_same, length-types, type_made, types-push}

module _ (eq : Shape → Shape → Bool) (same : (x y : Shape) → eq x y ≡ true → x ≡ y) (itself : (x : Shape) → eq x x ≡ true) where
  apart : (ns : List Shape) (p q : ℕ) → IsDistinct eq ns → p < q → q < length ns → shape_at ns p ≡ shape_at ns q → ⊥
  apart ns p q d l w e = true≢false (sym (itself (shape_at ns q)) ∙ ap (λ s. eq s (shape_at ns q)) (sym e) ∙ apart_from_distinct eq ns p q Int d l w)

  -- a set has no shape twice
  pub once_from_distinct : (ns : List Shape) → IsDistinct eq ns → StandOnce ns
  once_from_distinct ns d p q v w e = elim (cases_lt p q) [
    | inl l ↦ absurd (apart ns p q d l w e)
    | inr g ↦ elim (cases_lt q p) [
      | inl l ↦ absurd (apart ns q p d l v (sym e))
      | inr h ↦ omega arith
    ]
  ]

  -- what an insertion into a set says of its shapes
  pub placed_from_set : (old new : List Shape) (s k : Shape) (p : ℕ) (added : Bool) → IsDistinct eq new → p < length new → slice_get new p ≡ Some k → eq s k ≡ true →
      added ≡ not (list_any (eq s) old) → new ≡ cond (list_any (eq s) old) old (old ++ s ∷ []) → IsPlaced old new s p added
  placed_from_set old new s k p added d w at e a r = record {
    within = w;
    here = get_or_from_slice_get new p k Int at ∙ sym (same s k e);
    rest = by (list_any (eq s) old) a r;
    once = once_from_distinct new d;
  }
    where
      by : (b : Bool) → added ≡ not b → new ≡ cond b old (old ++ s ∷ []) → new ≡ cond added (old ++ s ∷ []) old
      by true i j = rw i j
      by false i j = rw i j

-- the shapes are those of before, and maybe one more
shapes_after : (old new : List Shape) (s : Shape) (p : ℕ) (added : Bool) → IsPlaced old new s p added → (new ≡ old) ⊎ (new ≡ old ++ s ∷ [])
shapes_after old new s p true i = inr i.rest
shapes_after old new s p false i = inl i.rest

pub made_push : (old : List Shape) (s : Shape) → AreMade old → IsShapeBelow (length old) s → AreMade (old ++ s ∷ [])
made_push old s m b p w = elim (cases_lt p (length old)) [
  | inl l ↦ rw (get_or_append_left old (s ∷ []) Int p l) (m p l)
  | inr g ↦
      let here : length old ≡ p = omega (arith, length_push old s) in
      rw (get_or_push old s Int p here) (subst (λ k. IsShapeBelow k s) here b)
]

-- the size of a shape is that of its type
size_made : (ts : List Term) (s : Shape) → IsShapeBelow (length ts) s → shape_size (λ p. get_or (map size_of ts) p 0) s ≡ size_of (shape_type (type_at ts) s)
size_made ts Int b = omega arith
size_made ts Bool' b = omega arith
size_made ts Char b = omega arith
size_made ts (Var v) b = omega arith
size_made ts (Named n) b = omega arith
size_made ts (SeqOf p) b = let e = get_or-map size_of ts p int 0 b in omega arith
size_made ts (Both p q) b =
    let e = get_or-map size_of ts p int 0 b.0 in
    let d = get_or-map size_of ts q int 0 b.1 in
    omega arith

-- a shape that was added, with its size
pub bank_push : (old new : List Shape) (sizes wider : List ℕ) (s : Shape) (p : ℕ) → IsBank old sizes → IsPlaced old new s p true → IsShapeBelow (length old) s →
    wider ≡ sizes ++ shape_size (λ q. get_or sizes q 0) s ∷ [] → IsBank new wider
bank_push old new sizes wider s p b i l w =
    let ts = types old in
    let k : IsShapeBelow (length ts) s = rw (length-types old) l in
    let t = shape_type (type_at ts) s in
    record {
      made = subst AreMade (sym i.rest) (made_push old s b.made l);
      once = i.once;
      sized =
          w ∙ ap (λ ms. ms ++ shape_size (λ q. get_or ms q 0) s ∷ []) b.sized
          ∙ ap (λ n. map size_of ts ++ n ∷ []) (size_made ts s k)
          ∙ sym (map-append size_of ts (t ∷ []))
          ∙ ap (map size_of) (sym (types-push old s) ∙ ap types (sym i.rest));
    }

-- the place of a shape is the place of its type
pub type_placed : (old new : List Shape) (s : Shape) (p : ℕ) (added : Bool) → AreMade old → IsPlaced old new s p added → IsShapeBelow (length old) s → IsPut (types old) (types new) (shape_type (type_at (types old)) s) p
type_placed old new s p added m i l =
    let t = shape_type (type_at (types old)) s in
    elim (shapes_after old new s p added i) [
      | inl e ↦
          let d : AreMade new = subst AreMade (sym e) m in
          let h = type_made new p i.within (d p i.within) in
          record {
            within = rw (length-types new) i.within;
            here = h ∙ ap (shape_type (type_at (types new))) i.here ∙ ap (λ ns. shape_type (type_at (types ns)) s) e;
            rest = inl (ap types e);
          }
      | inr e ↦
          let d : AreMade new = subst AreMade (sym e) (made_push old s m l) in
          let h = type_made new p i.within (d p i.within) in
          let k : IsShapeBelow (length (types old)) s = rw (length-types old) l in
          let r : types new ≡ types old ++ t ∷ [] = ap types e ∙ types-push old s in
          record {
            within = rw (length-types new) i.within;
            here = h ∙ ap (shape_type (type_at (types new))) i.here ∙ ap (λ ts. shape_type (type_at ts) s) r
                ∙ type_same (length (types old)) (type_at (types old ++ t ∷ [])) (type_at (types old)) s k (λ q w. get_or_append_left (types old) (t ∷ []) int q w);
            rest = inr r;
          }
    ]

-- the type at the place at which a shape is
pub place_type : (ns : List Shape) (ts : List Term) (s : Shape) (o : Option ℕ) → IfSome o (λ p. (p < length ns) × (shape_at ns p ≡ s)) → types ns ≡ ts → AreMade ns →
    IfSome o (λ p. (p < length ts) × (type_at ts p ≡ shape_type (type_at ts) s))
place_type ns ts s None h e m = tt
place_type ns ts s (Some p) h e m =
    let k = ap length e in
    let made = type_made ns p h.0 (m p h.0) ∙ ap (shape_type (type_at (types ns))) h.1 in
    (omega (arith, h.0, length-types ns), subst (λ us. type_at us p ≡ shape_type (type_at us) s) e made)

-- the place at which a set has a shape
pub found_place : (is : Shape → Bool) (ns : List Shape) (ts : List Term) (s : Shape) (o : Option ℕ) → o ≡ position is ns → ((x : Shape) → is x ≡ true → s ≡ x) → types ns ≡ ts → AreMade ns →
    IfSome o (λ p. (p < length ts) × (type_at ts p ≡ shape_type (type_at ts) s))
found_place is ns ts s None h same e m = tt
found_place is ns ts s (Some p) h same e m =
    let at = position-Some is ns p Int (sym h) in
    place_type ns ts s (Some p) (at.0, sym (same (shape_at ns p) at.1)) e m
