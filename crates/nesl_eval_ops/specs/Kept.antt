-- The code that a body keeps.
use Rattle.std.specs.Prelude.{ℕ, List, refl}
use Rattle.std.specs.Coded.{Coded, code_by, coded×, coded_list, coded_ℕ}
use Rattle.nesl_eval_code.specs.declared.code.Code.{Code}

-- code, its height, and the sizes of the frames round it
pub record Kept : Type 0 where
  pub height : ℕ
  pub sizes : List ℕ
  pub code : Code

-- it is stored as its fields, one after the other
abbrev pub kept_code : Coded Code → Coded Kept
kept_code c =
    code_by (ℕ × (List ℕ × Code)) (coded× coded_ℕ (coded× (coded_list coded_ℕ) c))
    (λ k. (k.height, (k.sizes, k.code))) (λ p. record { height = p.0; sizes = p.1.0; code = p.1.1 }) (λ _. refl)
