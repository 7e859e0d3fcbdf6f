-- A shape that is at none of the places.
use Rattle.std.proofs.Common.{◌≡◌, ℕ, suc, ◌<◌, Bool, true, false, ◌||◌, cond, List, [], ◌∷◌, ◌++◌, length, get_or, refl, sym, ap, subst, inl, inr, ◌∙◌, arith}
use Rattle.std.proofs.lemmas.Bool.{cases_lt}
use Rattle.std.proofs.lemmas.List.{get_or_append_left, get_or_push, length_push}
use Rattle.std.specs.List.{list_any}
use Rattle.nesl_types_shared.specs.declared.shape.Shape.{Shape}
use Rattle.nesl_types_shared.specs.declared.shape.Shape.TheVariants.{Int}
use Rattle.nesl_types_shared.specs.Shapes.{shape_at, shape_size, IsShapeBelow}
use Rattle.nesl_types_shared.specs.Types.{AreMade, StandOnce, IsAbsent, IsBank, IsPlaced}
use Rattle.nesl_types_shared.proofs.Placed.{bank_push}

module _ (eq : Shape → Shape → Bool) (same : (x y : Shape) → eq x y ≡ true → x ≡ y) where
  none_equal : (ns : List Shape) (s : Shape) → IsAbsent ns s → list_any (eq s) ns ≡ false
  none_equal [] s a = refl
  none_equal (n ∷ ns) s a = by (eq s n) refl (λ _. none_equal ns s (λ p l h. a (suc p) (omega arith) h))
    where
      by : (b : Bool) → eq s n ≡ b → (Unit {0} → list_any (eq s) ns ≡ false) → (eq s n || list_any (eq s) ns) ≡ false
      by true e r = absurd (a 0 (omega arith) (sym (same s n e)))
      by false e r = ap (λ b. b || list_any (eq s) ns) e ∙ r tt

  -- what an insertion of a shape that isn't there makes of a set's shapes
  pub inserted_absent : (ns new : List Shape) (s : Shape) → IsAbsent ns s → new ≡ cond (list_any (eq s) ns) ns (ns ++ s ∷ []) → new ≡ ns ++ s ∷ []
  inserted_absent ns new s a e = e ∙ ap (λ b. cond b ns (ns ++ s ∷ [])) (none_equal ns s a)

-- a shape isn't where its parts can't be
pub absent_below : (ns : List Shape) (s : Shape) (start : ℕ) → AreMade ns → ((p : ℕ) → p < start → IsShapeBelow p s → ⊥) → (p : ℕ) → p < start → p < length ns → shape_at ns p ≡ s → ⊥
absent_below ns s start m h p l w e = h p l (subst (IsShapeBelow p) e (m p w))

-- no shape occurs twice after one was added that wasn't there
once_push : (ns : List Shape) (s : Shape) → StandOnce ns → IsAbsent ns s → StandOnce (ns ++ s ∷ [])
once_push ns s o a p q v w e = elim (cases_lt p (length ns)) [
  | inl l ↦ elim (cases_lt q (length ns)) [
    | inl m ↦ o p q l m (sym (get_or_append_left ns (s ∷ []) Int p l) ∙ e ∙ get_or_append_left ns (s ∷ []) Int q m)
    | inr h ↦ absurd (a p l (sym (get_or_append_left ns (s ∷ []) Int p l) ∙ e ∙ get_or_push ns s Int q (omega (arith, h, w, length_push ns s))))
  ]
  | inr g ↦ elim (cases_lt q (length ns)) [
    | inl m ↦ absurd (a q m (sym (get_or_append_left ns (s ∷ []) Int q m) ∙ sym e ∙ get_or_push ns s Int p (omega (arith, g, v, length_push ns s))))
    | inr h ↦ omega (arith, g, h, v, w, length_push ns s)
  ]
]

-- a shape that wasn't there is at the end
pub placed_absent : (ns ms : List Shape) (s : Shape) → StandOnce ns → IsAbsent ns s → ms ≡ ns ++ s ∷ [] → IsPlaced ns ms s (length ns) true
placed_absent ns ms s o a e = record {
  within = omega (arith, ap length e, length_push ns s);
  here = ap (λ ks. shape_at ks (length ns)) e ∙ get_or_push ns s Int (length ns) refl;
  rest = e;
  once = subst StandOnce (sym e) (once_push ns s o a);
}

-- a shape that is there
pub placed_found : (ns : List Shape) (s : Shape) (p : ℕ) → StandOnce ns → p < length ns → shape_at ns p ≡ s → IsPlaced ns ns s p false
placed_found ns s p o w h = record { within = w; here = h; rest = refl; once = o }

-- the shapes of an index where one was added, or none
pub same_shapes : (ns ks ms : List Shape) (s : Shape) (p : ℕ) (added b : Bool) → IsPlaced ns ks s p added → added ≡ b → ms ≡ cond b (ns ++ s ∷ []) ns → ks ≡ ms
same_shapes ns ks ms s p added b i t e = i.rest ∙ ap (λ x. cond x (ns ++ s ∷ []) ns) t ∙ sym e

-- a bank and its index with a shape more
pub bank_grown : (ns ks ms : List Shape) (sizes wider : List ℕ) (s : Shape) (p : ℕ) (added : Bool) → IsBank ns sizes → IsPlaced ns ks s p added → added ≡ true →
    IsShapeBelow (length ns) s → ms ≡ ns ++ s ∷ [] → wider ≡ sizes ++ shape_size (λ q. get_or sizes q 0) s ∷ [] → IsBank ms wider × (ks ≡ ms)
bank_grown ns ks ms sizes wider s p added b i t l e w =
    let k = same_shapes ns ks ms s p added true i t e in
    let j = subst (λ x. IsPlaced ns ks s p x) t i in
    (bank_push ns ms sizes wider s p b (subst (λ x. IsPlaced ns x s p true) k j) l w, k)
