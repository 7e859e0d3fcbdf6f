-- Types that can't differ are the same.
use Rattle.std.proofs.Common.{◌≡◌, refl, ap, List, [], ◌∷◌, inl, inr}
use Rattle.std.proofs.lemmas.Bool.{cases_eq}
use Rattle.nesl_types.specs.declared.classes.Class.{Class}
use Rattle.nesl_types.specs.declared.classes.Class.TheVariants.{Any, Ordinal, Number, Logical}
use Rattle.nesl_types.specs.declared.schemes.Scheme.{Scheme}
use Rattle.nesl_types.specs.Scheme.{IsSameScheme}
use Rattle.nesl_types_shared.specs.Term.{Term, int, bool, char, variable, seq_of, pair_of, named}
use Rattle.nesl_builtins.specs.FunctionTypes.{function_type}

pub stable_term : (t u : Term) → ((t ≡ u → ⊥) → ⊥) → t ≡ u
stable_term int int h = refl
stable_term bool bool h = refl
stable_term char char h = refl
stable_term (variable v) (variable w) h =
    elim (cases_eq v w) [ inl e ↦ ap variable e | inr n ↦ absurd (h (λ e. n cc)) ]
stable_term (seq_of t) (seq_of u) h = ap seq_of (stable_term t u (λ n. h (λ e. n cc)))
stable_term (pair_of a b) (pair_of c d) h =
    let l = stable_term a c (λ n. h (λ e. n cc)) in
    let r = stable_term b d (λ n. h (λ e. n cc)) in
    λ i. pair_of (l i) (r i)
stable_term (named v) (named w) h =
    elim (cases_eq v w) [ inl e ↦ ap named e | inr n ↦ absurd (h (λ e. n cc)) ]
stable_term _ _ h = absurd (h (λ e. cc))

stable_class : (c d : Class) → ((c ≡ d → ⊥) → ⊥) → c ≡ d
stable_class Any Any h = refl
stable_class Ordinal Ordinal h = refl
stable_class Number Number h = refl
stable_class Logical Logical h = refl
stable_class _ _ h = absurd (h (λ e. cc))

stable_classes : (cs ds : List Class) → ((cs ≡ ds → ⊥) → ⊥) → cs ≡ ds
stable_classes [] [] h = refl
stable_classes (c ∷ cs) (d ∷ ds) h =
    let l = stable_class c d (λ n. h (λ e. n cc)) in
    let r = stable_classes cs ds (λ n. h (λ e. n cc)) in
    λ i. l i ∷ r i
stable_classes _ _ h = absurd (h (λ e. cc))

-- function types
pub stable_scheme : (f g : Scheme) → ((function_type f ≡ function_type g → ⊥) → ⊥) → IsSameScheme f g
stable_scheme f g h = record {
  argument = stable_term _ _ (λ n. h (λ e. n (ap (λ t. t.argument) e)));
  result = stable_term _ _ (λ n. h (λ e. n (ap (λ t. t.result) e)));
  classes = stable_classes _ _ (λ n. h (λ e. n (ap (λ t. t.classes) e)));
}
