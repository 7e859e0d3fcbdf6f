-- What is listed as types is types.
use Rattle.std.proofs.Common.{◌≡◌, ℕ, zero, suc, ◌+◌, ◌<◌, Bool as Bool', true, false, not, ◌||◌, nat_eq, nat_lt, List, [], ◌∷◌, length, refl, sym, ap, subst, ◌∙◌, arith}
use Rattle.std.proofs.lemmas.Bool.{and_parts, not-true, ltb-true, eq-eqb, and_from, true≢false}
use Rattle.std.specs.List.{list_any}
use Rattle.nesl_types_shared.specs.declared.shape.Shape.{Shape}
use Rattle.nesl_types_shared.specs.declared.shape.Shape.TheVariants.{Int, Bool, Char, Var, Named, SeqOf, Both}
use Rattle.nesl_types_shared.specs.Shapes.{shape_at, IsShapeBelow}
use Rattle.nesl_types_shared.specs.Types.{StandOnce, AreTypes}
use Rattle.nesl_builtins.specs.Lists.{is_below, is_equal, are_made, are_apart, are_types}

below : (n : ℕ) (s : Shape) → is_below n s ≡ true → IsShapeBelow n s
below n Int h = tt
below n Bool h = tt
below n Char h = tt
below n (Var v) h = tt
below n (Named m) h = tt
below n (SeqOf p) h = ltb-true p n h
below n (Both p q) h = let i = and_parts (nat_lt p n) (nat_lt q n) h in (ltb-true p n i.0, ltb-true q n i.1)

equal_itself : (s : Shape) → is_equal s s ≡ true
equal_itself Int = refl
equal_itself Bool = refl
equal_itself Char = refl
equal_itself (Var v) = eq-eqb v v refl
equal_itself (Named m) = eq-eqb m m refl
equal_itself (SeqOf p) = eq-eqb p p refl
equal_itself (Both p q) = and_from (nat_eq p p) (nat_eq q q) (eq-eqb p p refl) (eq-eqb q q refl)

made : (n : ℕ) (ss : List Shape) → are_made n ss ≡ true → (p : ℕ) → p < length ss → IsShapeBelow (n + p) (shape_at ss p)
made n [] h p l = absurd (omega arith)
made n (s ∷ ss) h zero l =
    let e : n ≡ n + 0 = omega arith in
    subst (λ k. IsShapeBelow k s) e (below n s (and_parts (is_below n s) (are_made (suc n) ss) h).0)
made n (s ∷ ss) h (suc p) l =
    let e : suc n + p ≡ n + suc p = omega arith in
    subst (λ k. IsShapeBelow k (shape_at ss p)) e (made (suc n) ss (and_parts (is_below n s) (are_made (suc n) ss) h).1 p (omega arith))

stands : (s : Shape) (ss : List Shape) (p : ℕ) → p < length ss → s ≡ shape_at ss p → list_any (is_equal s) ss ≡ true
stands s [] p l e = absurd (omega arith)
stands s (x ∷ xs) zero l e = ap (λ b. b || list_any (is_equal s) xs) (ap (is_equal s) (sym e) ∙ equal_itself s)
stands s (x ∷ xs) (suc p) l e = either (is_equal s x) (stands s xs p (omega arith) e)
  where
    either : (a : Bool') {b : Bool'} → b ≡ true → (a || b) ≡ true
    either true h = refl
    either false h = h

once : (ss : List Shape) → are_apart ss ≡ true → StandOnce ss
once [] h p q l m e = absurd (omega arith)
once (s ∷ ss) h zero zero l m e = refl
once (s ∷ ss) h zero (suc q) l m e =
    let i = (and_parts (not (list_any (is_equal s) ss)) (are_apart ss) h).0 in
    absurd (true≢false (sym (stands s ss q (omega arith) e) ∙ not-true (list_any (is_equal s) ss) i))
once (s ∷ ss) h (suc p) zero l m e =
    let i = (and_parts (not (list_any (is_equal s) ss)) (are_apart ss) h).0 in
    absurd (true≢false (sym (stands s ss p (omega arith) (sym e)) ∙ not-true (list_any (is_equal s) ss) i))
once (s ∷ ss) h (suc p) (suc q) l m e =
    ap suc (once ss (and_parts (not (list_any (is_equal s) ss)) (are_apart ss) h).1 p q (omega arith) (omega arith) e)

pub types : (ss : List Shape) → are_types ss ≡ true → AreTypes ss
types ss h =
    let i = and_parts (are_made 0 ss) (are_apart ss) h in
    record { made = λ p l. let e : 0 + p ≡ p = omega arith in subst (λ k. IsShapeBelow k (shape_at ss p)) e (made 0 ss i.0 p l); once = once ss i.1 }
