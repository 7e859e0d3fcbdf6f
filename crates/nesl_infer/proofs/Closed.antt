-- Schemes of types without variables.
use Rattle.std.proofs.Common.{◌≡◌, ℕ, List, [], ◌∷◌, ◌++◌, map, refl, sym, ap, ◌∙◌, arith}
use Rattle.nesl_types.specs.declared.classes.Class.{Class}
use Rattle.nesl_types.specs.declared.schemes.Scheme.{Scheme}
use Rattle.nesl_types.specs.Scheme.{IsSchemeOf, scheme_variables}
use Rattle.nesl_types_shared.specs.Term.{Term, int, bool, char, variable, seq_of, pair_of, named}
use Rattle.nesl_types_shared.specs.Numbering.{IsBelow, variables, first_occurrences, number_of}
use Rattle.nesl_infer_rules.proofs.Applied.{closed-kept}

pub no_variables : (t : Term) → IsBelow 0 t → variables t ≡ []
no_variables int b = refl
no_variables bool b = refl
no_variables char b = refl
no_variables (variable v) b = absurd (omega arith)
no_variables (seq_of t) b = no_variables t b
no_variables (pair_of t u) b = ap (λ (vs : List ℕ). vs ++ variables u) (no_variables t b.0) ∙ no_variables u b.1
no_variables (named n) b = refl

none_in : (us vs : List ℕ) → us ++ vs ≡ [] → (us ≡ []) × (vs ≡ [])
none_in [] vs e = (refl, e)
none_in (u ∷ us) vs e = cc

pub none_below : (t : Term) → variables t ≡ [] → IsBelow 0 t
none_below int e = tt
none_below bool e = tt
none_below char e = tt
none_below (variable v) e = absurd cc
none_below (seq_of t) e = none_below t e
none_below (pair_of t u) e = let both = none_in (variables t) (variables u) e in (none_below t both.0, none_below u both.1)
none_below (named n) e = tt

pub none_occur : (t u : Term) → IsBelow 0 t → IsBelow 0 u → scheme_variables t u ≡ []
none_occur t u b d = ap (λ (vs : List ℕ). first_occurrences (vs ++ variables u)) (no_variables t b) ∙ ap first_occurrences (no_variables u d)

-- they are their own scheme
pub own_scheme : (t u : Term) (of : ℕ → Class) (s : Scheme) → IsBelow 0 t → IsBelow 0 u → s.argument ≡ t → s.result ≡ u → s.classes.items ≡ [] → IsSchemeOf t u of s
own_scheme t u of s b d p q r =
    let f : ℕ → Term = λ v. variable (number_of (scheme_variables t u) v) in
    record {
      argument = p ∙ sym (closed-kept f t b);
      result = q ∙ sym (closed-kept f u d);
      classes = r ∙ ap (map of) (sym (none_occur t u b d));
    }
