-- Types that are each made of earlier ones.
use Rattle.std.proofs.Common.{◌≡◌, ℕ, zero, suc, ◌+◌, ◌<◌, ◌≤◌, List, [], ◌∷◌, ◌++◌, length, fold, refl, sym, ap, subst, ◌∙◌, arith}
use Rattle.std.proofs.lemmas.List.{get_or_append_left, get_or_push, length_push}
use Rattle.std.proofs.lemmas.List.Sums.{fold-append}
use Rattle.nesl_types_shared.specs.Term.{Term, int, seq_of}
use Rattle.nesl_types_shared.specs.declared.shape.Shape.{Shape}
use Rattle.nesl_types_shared.specs.declared.shape.Shape.TheVariants.{Int, Bool as Bool', Char, Var, Named, SeqOf, Both}
use Rattle.nesl_types_shared.specs.Shapes.{shape_type, shape_at, IsShapeBelow}
use Rattle.nesl_types_shared.specs.Types.{type_at, with_shape, types}

pub below_wider : (n m : ℕ) (s : Shape) → n ≤ m → IsShapeBelow n s → IsShapeBelow m s
below_wider n m Int l b = tt
below_wider n m Bool' l b = tt
below_wider n m Char l b = tt
below_wider n m (Var v) l b = tt
below_wider n m (Named t) l b = tt
below_wider n m (SeqOf p) l b = omega arith
below_wider n m (Both p q) l b = (omega arith, omega arith)

-- a shape's type is made of those of its parts
pub type_same : (n : ℕ) (f g : ℕ → Term) (s : Shape) → IsShapeBelow n s → ((p : ℕ) → p < n → f p ≡ g p) → shape_type f s ≡ shape_type g s
type_same n f g Int b h = refl
type_same n f g Bool' b h = refl
type_same n f g Char b h = refl
type_same n f g (Var v) b h = refl
type_same n f g (Named t) b h = refl
type_same n f g (SeqOf p) b h = ap seq_of (h p b)
type_same n f g (Both p q) b h = let x = h p b.0 in let y = h q b.1 in cc

-- more shapes
length-more : (ts : List Term) (ns : List Shape) → length (fold with_shape ts ns) ≡ length ts + length ns
length-more ts [] = omega arith
length-more ts (n ∷ ns) = omega (arith, length-more (with_shape ts n) ns, length_push ts (shape_type (type_at ts) n))

kept-more : (ts : List Term) (ns : List Shape) (p : ℕ) → p < length ts → type_at (fold with_shape ts ns) p ≡ type_at ts p
kept-more ts [] p l = refl
kept-more ts (n ∷ ns) p l =
    let t = shape_type (type_at ts) n in
    kept-more (with_shape ts n) ns p (omega (arith, length_push ts t)) ∙ get_or_append_left ts (t ∷ []) int p l

made-more : (ts : List Term) (ns : List Shape) (q : ℕ) → q < length ns → IsShapeBelow (length ts + q) (shape_at ns q) →
    type_at (fold with_shape ts ns) (length ts + q) ≡ shape_type (type_at (fold with_shape ts ns)) (shape_at ns q)
made-more ts [] q l b = absurd (omega arith)
made-more ts (n ∷ ns) zero l b =
    let t = shape_type (type_at ts) n in
    let r = fold with_shape (with_shape ts n) ns in
    let e : length ts + 0 ≡ length ts = omega arith in
    let c : IsShapeBelow (length ts) n = subst (λ k. IsShapeBelow k n) e b in
    ap (type_at r) e
    ∙ kept-more (with_shape ts n) ns (length ts) (omega (arith, length_push ts t))
    ∙ get_or_push ts t int (length ts) refl
    ∙ type_same (length ts) (type_at ts) (type_at r) n c (λ p h. sym (kept-more ts (n ∷ ns) p h))
made-more ts (n ∷ ns) (suc q) l b =
    let t = shape_type (type_at ts) n in
    let r = fold with_shape (with_shape ts n) ns in
    let e : length ts + suc q ≡ length (with_shape ts n) + q = omega (arith, length_push ts t) in
    ap (type_at r) e ∙ made-more (with_shape ts n) ns q (omega arith) (subst (λ k. IsShapeBelow k (shape_at ns q)) e b)

pub length-types : (ns : List Shape) → length (types ns) ≡ length ns
length-types ns = omega (arith, length-more [] ns)

-- the type at a place is made of those of its parts
pub type_made : (ns : List Shape) (p : ℕ) → p < length ns → IsShapeBelow p (shape_at ns p) → type_at (types ns) p ≡ shape_type (type_at (types ns)) (shape_at ns p)
type_made ns p l b =
    let e : 0 + p ≡ p = omega arith in
    subst (λ k. type_at (types ns) k ≡ shape_type (type_at (types ns)) (shape_at ns p)) e (made-more [] ns p l (subst (λ k. IsShapeBelow k (shape_at ns p)) (sym e) b))

pub types-push : (ns : List Shape) (n : Shape) → types (ns ++ n ∷ []) ≡ types ns ++ shape_type (type_at (types ns)) n ∷ []
types-push ns n = fold-append with_shape [] ns (n ∷ [])
