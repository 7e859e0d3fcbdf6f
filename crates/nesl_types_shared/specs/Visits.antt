-- What is looked at after a shape.
use Rattle.std.specs.Prelude.{◌≡◌, ◌<◌, ℕ, Bool, true, false, List, [], ◌∷◌, All}
use Rattle.std.specs.Prelude.{length, fold, slice_index_or, slice_set}
use Rattle.nesl_types_shared.specs.Term.{Term}
use Rattle.nesl_types_shared.specs.declared.shape.Shape.{Shape}
use Rattle.nesl_types_shared.specs.declared.shape.Shape.TheVariants.{Int, Bool as Bool', Char, Var, Named, SeqOf, Both}
use Rattle.nesl_types_shared.specs.Shapes.{shape_type, IsShapeBelow}
use Rattle.nesl_types_shared.specs.Types.{type_at}
use Rattle.nesl_types_shared.specs.Substitution.{substitute}
use Rattle.nesl_types_shared.specs.Numbering.{IsBelow}

-- the places of its parts, the first one last
abbrev pub parts : Shape → List ℕ
parts Int = []
parts Bool' = []
parts Char = []
parts (Var v) = []
parts (Named n) = []
parts (SeqOf p) = p ∷ []
parts (Both p q) = q ∷ (p ∷ [])

-- the variable that it is
abbrev pub own_variables : Shape → List ℕ
own_variables Int = []
own_variables Bool' = []
own_variables Char = []
own_variables (Var v) = v ∷ []
own_variables (Named n) = []
own_variables (SeqOf p) = []
own_variables (Both p q) = []

-- the marks with those of some places set
abbrev pub with_marks : List Bool → List ℕ → List Bool
with_marks marks ps = fold (λ ms p. slice_set ms p true) marks ps

-- no marked type has variables that the one at a place hasn't, whatever types are put for them
abbrev pub HaveItsVariables : List Term → ℕ → List Bool → Type 0
HaveItsVariables ts place marks =
    (n : ℕ) (s : ℕ → Term) → IsBelow n (substitute s (type_at ts place)) →
    (p : ℕ) → slice_index_or marks p false ≡ true → IsBelow n (substitute s (type_at ts p))

-- the place of a type and those of all that it is made of are marked
pub record AreReached (ts : List Term) (place : ℕ) (marks : List Bool) : Type 0 where
  pub len : length marks ≡ length ts
  pub top : slice_index_or marks place false ≡ true
  pub closed : (p : ℕ) (s : Shape) → slice_index_or marks p false ≡ true → p < length ts → IsShapeBelow p s →
      type_at ts p ≡ shape_type (type_at ts) s → All (λ q. slice_index_or marks q false ≡ true) (parts s)
  pub only : HaveItsVariables ts place marks
