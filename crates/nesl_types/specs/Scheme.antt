-- The scheme of a function.
use Rattle.std.specs.Prelude.{◌≡◌, ℕ, List, ◌++◌, map}
use Rattle.nesl_types.specs.declared.classes.Class.{Class}
use Rattle.nesl_types.specs.declared.schemes.Scheme.{Scheme}
use Rattle.nesl_types_shared.specs.Term.{Term, variable}
use Rattle.nesl_types_shared.specs.Substitution.{substitute}
use Rattle.nesl_types_shared.specs.Numbering.{variables, first_occurrences, number_of}

-- the variables of a function that takes t and gives u, in order of first occurrence
abbrev pub scheme_variables : Term → Term → List ℕ
scheme_variables t u = first_occurrences (variables t ++ variables u)

-- the scheme of a function that takes t and gives u, in which `of` gives each variable its class: the types with their
-- variables numbered in order of first occurrence, and the classes in that order
pub record IsSchemeOf (t u : Term) (of : ℕ → Class) (s : Scheme) : Type 0 where
  pub argument : s.argument ≡ substitute (λ v. variable (number_of (scheme_variables t u) v)) t
  pub result : s.result ≡ substitute (λ v. variable (number_of (scheme_variables t u) v)) u
  pub classes : s.classes.items ≡ map of (scheme_variables t u)

-- the same types and the same classes
pub record IsSameScheme (a b : Scheme) : Type 0 where
  pub argument : a.argument ≡ b.argument
  pub result : a.result ≡ b.result
  pub classes : a.classes.items ≡ b.classes.items
