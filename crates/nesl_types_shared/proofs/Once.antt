-- No type occurs twice in a bank.
use Rattle.std.proofs.Common.{◌≡◌, ℕ, zero, suc, ◌+◌, ◌<◌, List, length, refl, sym, ap, ◌∙◌, arith}
use Rattle.nesl_types_shared.specs.Term.{Term}
use Rattle.nesl_types_shared.specs.declared.shape.Shape.{Shape}
use Rattle.nesl_types_shared.specs.declared.shape.Shape.TheVariants.{Int, Bool, Char, Var, Named, SeqOf, Both}
use Rattle.nesl_types_shared.specs.Shapes.{shape_type, shape_at, IsShapeBelow}
use Rattle.nesl_types_shared.specs.Types.{type_at, types, AreMade, StandOnce}
use Rattle.nesl_types_shared.proofs.Made.{length-types, type_made}

-- where parts of one type have one place, shapes of one type are equal
pub one_shape : (f : ℕ → Term) (n m : ℕ) (x y : Shape) → IsShapeBelow n x → IsShapeBelow m y → ((p q : ℕ) → p < n → q < m → f p ≡ f q → p ≡ q) → shape_type f x ≡ shape_type f y → x ≡ y
one_shape f n m Int Int b c h e = refl
one_shape f n m Bool Bool b c h e = refl
one_shape f n m Char Char b c h e = refl
one_shape f n m (Var v) (Var w) b c h e = cc
one_shape f n m (Named i) (Named j) b c h e = cc
one_shape f n m (SeqOf p) (SeqOf q) b c h e = let i : f p ≡ f q = cc in ap SeqOf (h p q b c i)
one_shape f n m (Both p r) (Both q s) b c h e =
    let i : f p ≡ f q = cc in
    let j : f r ≡ f s = cc in
    let k = h p q b.0 c.0 i in
    let l = h r s b.1 c.1 j in
    cc
one_shape f n m x y b c h e = cc

one_below : (ns : List Shape) → AreMade ns → StandOnce ns → (k p q : ℕ) → p < k → q < k → p < length ns → q < length ns → type_at (types ns) p ≡ type_at (types ns) q → p ≡ q
one_below ns m o zero p q i j v w e = absurd (omega arith)
one_below ns m o (suc k) p q i j v w e =
    let t = type_at (types ns) in
    o p q v w (one_shape t p q (shape_at ns p) (shape_at ns q) (m p v) (m q w) (λ a b l g. one_below ns m o k a b (omega arith) (omega arith) (omega arith) (omega arith)) (sym (type_made ns p v (m p v)) ∙ e ∙ type_made ns q w (m q w)))

pub one_place : (ns : List Shape) → AreMade ns → StandOnce ns → (p q : ℕ) → p < length ns → q < length ns → type_at (types ns) p ≡ type_at (types ns) q → p ≡ q
one_place ns m o p q v w e = one_below ns m o (suc (p + q)) p q (omega arith) (omega arith) v w e

-- the same of a bank's types
pub same_place : (ns : List Shape) (ts : List Term) → AreMade ns → StandOnce ns → types ns ≡ ts → (p q : ℕ) → p < length ts → q < length ts → type_at ts p ≡ type_at ts q → p ≡ q
same_place ns ts m o e p q v w h =
    let l = length-types ns in
    let k = ap length e in
    one_place ns m o p q (omega arith) (omega arith) (ap (λ us. type_at us p) e ∙ h ∙ ap (λ us. type_at us q) (sym e))
