-- Types whose variables get other numbers, in a bank.
use Rattle.std.proofs.Common.{◌≡◌, inl, inr, ℕ, ◌+◌, ◌<◌, List, [], ◌∷◌, ◌++◌, length, get_or, refl, sym, ap, subst, ◌∙◌, arith}
use Rattle.std.proofs.lemmas.Bool.{cases_lt}
use Rattle.std.proofs.lemmas.List.{get_or_append_left, get_or_push, length_push}
use Rattle.nesl_types_shared.specs.Term.{Term, variable, seq_of}
use Rattle.nesl_types_shared.specs.Substitution.{substitute}
use Rattle.nesl_types_shared.specs.declared.shape.Shape.{Shape}
use Rattle.nesl_types_shared.specs.declared.shape.Shape.TheVariants.{Int, Bool, Char, Var, Named, SeqOf, Both}
use Rattle.nesl_types_shared.specs.Shapes.{shape_type, IsShapeBelow}
use Rattle.nesl_types_shared.specs.Types.{type_at, Extends, IsPut}
use Rattle.nesl_types.specs.Numbered.{numbered_shape}

-- the types at the first places got other numbers
pub record AreNumbered (f : ℕ → ℕ) (from bank : List Term) (places : List ℕ) (next : ℕ) : Type 0 where
  pub len : length places ≡ next
  pub within : (q : ℕ) → q < next → get_or places q 0 < length bank
  pub types : (q : ℕ) → q < next → type_at bank (get_or places q 0) ≡ substitute (λ v. variable (f v)) (type_at from q)

module _ (f : ℕ → ℕ) (from bank : List Term) (places : List ℕ) (next : ℕ) (x : Shape) (i : AreNumbered f from bank places next) (below : IsShapeBelow next x) where
  -- its parts are there
  pub parts_there : IsShapeBelow (length bank) (numbered_shape f places x)
  parts_there = by x below
    where
      by : (y : Shape) → IsShapeBelow next y → IsShapeBelow (length bank) (numbered_shape f places y)
      by Int b = tt
      by Bool b = tt
      by Char b = tt
      by (Var v) b = tt
      by (Named n) b = tt
      by (SeqOf p) b = i.within p b
      by (Both p q) b = (i.within p b.0, i.within q b.1)

  numbered : shape_type (type_at bank) (numbered_shape f places x) ≡ substitute (λ v. variable (f v)) (shape_type (type_at from) x)
  numbered = by x below
    where
      by : (y : Shape) → IsShapeBelow next y → shape_type (type_at bank) (numbered_shape f places y) ≡ substitute (λ v. variable (f v)) (shape_type (type_at from) y)
      by Int b = refl
      by Bool b = refl
      by Char b = refl
      by (Var v) b = refl
      by (Named n) b = refl
      by (SeqOf p) b = ap seq_of (i.types p b)
      by (Both p q) b = let e = i.types p b.0 in let d = i.types q b.1 in cc

  pub numbered_push : (new : List Term) (p : ℕ) → Extends bank new → IsPut bank new (shape_type (type_at bank) (numbered_shape f places x)) p → type_at from next ≡ shape_type (type_at from) x → AreNumbered f from new (places ++ p ∷ []) (next + 1)
  numbered_push new p e put here =
      let len = length_push places p in
      let last : get_or (places ++ p ∷ []) next 0 ≡ p = get_or_push places p 0 next i.len in
      record {
        len = omega (arith, i.len);
        within = λ q l. elim (cases_lt q next) [
          | inl m ↦ subst (λ j. j < length new) (sym (get_or_append_left places (p ∷ []) 0 q (omega (arith, i.len)))) (let w = i.within q m in omega (arith, e.longer))
          | inr g ↦ let same : next ≡ q = omega arith in subst (λ k. get_or (places ++ p ∷ []) k 0 < length new) same (subst (λ j. j < length new) (sym last) put.within)
        ];
        types = λ q l. elim (cases_lt q next) [
          | inl m ↦ ap (type_at new) (get_or_append_left places (p ∷ []) 0 q (omega (arith, i.len))) ∙ e.kept (get_or places q 0) (i.within q m) ∙ i.types q m
          | inr g ↦
              let same : next ≡ q = omega arith in
              subst (λ k. type_at new (get_or (places ++ p ∷ []) k 0) ≡ substitute (λ v. variable (f v)) (type_at from k)) same
              (ap (type_at new) last ∙ put.here ∙ numbered ∙ ap (substitute (λ v. variable (f v))) (sym here))
        ];
      }
