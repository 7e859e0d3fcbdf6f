-- Equal types have equal lists.
use Rattle.std.proofs.Common.{◌≡◌, ◌↔◌, zero, suc, ◌<◌, List, [], ◌∷◌, Some, length, refl, sym, ap, subst, ◌∙◌, arith}
use Rattle.std.proofs.lemmas.List.{ext_get_or}
use Rattle.nesl_types_shared.specs.Term.{Term, seq_of, pair_of}
use Rattle.nesl_types_shared.specs.Term as term
use Rattle.nesl_types_shared.specs.Substitution.{substitute}
use Rattle.nesl_types_shared.specs.declared.shape.Shape.{Shape}
use Rattle.nesl_types_shared.specs.declared.shape.Shape.TheVariants.{Int, Bool, Char, Var, Named, SeqOf, Both}
use Rattle.nesl_types_shared.specs.Shapes.{shape_type, shape_at, IsShapeBelow}
use Rattle.nesl_types_shared.specs.Types.{type_at, types, AreMade}
use Rattle.nesl_types_shared.specs.Lists.{AreParts, IsType, last_type}
use Rattle.nesl_types_shared.specs.Renames.{replacement}
use Rattle.nesl_types_shared.proofs.Made.{length-types, type_made}
use Rattle.nesl_types_shared.proofs.Once.{one_shape, one_place}

pub same_shapes : (ns ms : List Shape) (t : Term) → AreParts ns t → AreParts ms t → ns ≡ ms
same_shapes ns ms t a b =
    let e : types ns ≡ types ms = a.order ∙ sym b.order in
    let n = length-types ns in
    let m = length-types ms in
    let d = ap length e in
    let f = type_at (types ns) in
    ext_get_or Int ns ms (omega arith) (λ p l.
    let k : p < length ms = omega arith in
    let same : shape_type f (shape_at ns p) ≡ shape_type f (shape_at ms p) =
    sym (type_made ns p l (a.made p l)) ∙ ap (λ ts. type_at ts p) e ∙ type_made ms p k (b.made p k) ∙ ap (λ ts. shape_type (type_at ts) (shape_at ms p)) (sym e) in
    one_shape f p p (shape_at ns p) (shape_at ms p) (a.made p l) (b.made p k) (λ i j v w h. one_place ns a.made a.once i j (omega arith) (omega arith) h) same)

-- a list is that of one type alone, and a type has one list
pub lists_decide : (ns ms : List Shape) (t u : Term) → AreParts ns (last_type (types ns)) → AreParts ms (last_type (types ms)) → last_type (types ns) ≡ t → last_type (types ms) ≡ u → (ns ≡ ms) ↔ (t ≡ u)
lists_decide ns ms t u a b e d = (
  λ h. sym e ∙ ap (λ ks. last_type (types ks)) h ∙ d,
  λ h. same_shapes ns ms t (subst (AreParts ns) e a) (subst (AreParts ms) (d ∙ sym h) b),
)

-- a shape without parts
pub leaf_type : (s : Shape) → IsShapeBelow 0 s → IsType (s ∷ []) (Some 1)
leaf_type s b = by s b
  where
    made : (x : Shape) → IsShapeBelow 0 x → AreMade (x ∷ [])
    made x i zero l = i
    made x i (suc p) l = absurd (omega arith)

    by : (x : Shape) → IsShapeBelow 0 x → IsType (x ∷ []) (Some 1)
    by Int i = record { parts = record { made = made Int i; once = λ p q k l e. omega arith; some = omega arith; order = refl; last = refl }; sized = refl }
    by Bool i = record { parts = record { made = made Bool i; once = λ p q k l e. omega arith; some = omega arith; order = refl; last = refl }; sized = refl }
    by Char i = record { parts = record { made = made Char i; once = λ p q k l e. omega arith; some = omega arith; order = refl; last = refl }; sized = refl }
    by (Var v) i = record { parts = record { made = made (Var v) i; once = λ p q k l e. omega arith; some = omega arith; order = refl; last = refl }; sized = refl }
    by (Named n) i = record { parts = record { made = made (Named n) i; once = λ p q k l e. omega arith; some = omega arith; order = refl; last = refl }; sized = refl }
    by (SeqOf p) i = absurd (omega arith)
    by (Both p q) i = absurd (omega (arith, i.0))

-- nothing is replaced where nothing is given
pub none_replaced : (ts : List Term) (t : Term) → substitute (replacement ts []) t ≡ t
none_replaced ts term.int = refl
none_replaced ts term.bool = refl
none_replaced ts term.char = refl
none_replaced ts (term.variable v) = refl
none_replaced ts (term.seq_of t) = ap seq_of (none_replaced ts t)
none_replaced ts (term.pair_of t u) = let e = none_replaced ts t in let d = none_replaced ts u in cc
none_replaced ts (term.named n) = refl
