-- Restricted classes of variables.
use Rattle.std.proofs.Common.{◌≡◌, ◌≢◌, ◌↔◌, ◌+◌, ◌<◌, inl, inr, ℕ, List, length, get_or, sym, ap, ◌∙◌, subst, arith}
use Rattle.std.proofs.lemmas.Bool.{cases_eq, cases_lt}
use Rattle.std.proofs.lemmas.List.{get_or_default}
use Rattle.nesl_types.specs.declared.classes.Class.{Class}
use Rattle.nesl_types.specs.declared.classes.Class.TheVariants.{Any}
use Rattle.nesl_types_shared.specs.Term.{Term, int, bool, char, variable, seq_of, pair_of, named}
use Rattle.nesl_types.specs.Class.{IsIn}
use Rattle.nesl_types.proofs.Members.{IsIn-narrowed, IsWithin-from_types}
use Rattle.nesl_unify.specs.declared.narrow.Member.{Member}

-- one member more
pub more_within : (old new : ℕ → Class) (s : ℕ → Term) (members : List Member) (i : ℕ) (e : Member) → i < length members →
    ((v : ℕ) (of : ℕ → Class) (t : Term) → IsIn of (new v) t → IsIn of (old v) t) →
    ((k : ℕ) (d : Member) → k < i → IsIn old (get_or members k d).class (s (get_or members k d).variable)) →
    IsIn new (get_or members i e).class (s (get_or members i e).variable) →
    (k : ℕ) (d : Member) → k < i + 1 → IsIn new (get_or members k d).class (s (get_or members k d).variable)
more_within old new s members i e inside narrower before here k d below =
    elim (cases_lt k i) [
      | inl l ↦
          let m = get_or members k d in
          IsIn-narrowed new old m.class (s m.variable) (λ v. IsWithin-from_types (new v) (old v) (narrower v)) (before k d l)
      | inr g ↦
          let same : k ≡ i = omega arith in
          let at_end : get_or members k d ≡ get_or members i e = ap (λ (j : ℕ). get_or members j d) same ∙ get_or_default members i d e inside in
          subst (λ (m : Member). IsIn new m.class (s m.variable)) (sym at_end) here
    ]

-- the widest class has each type
pub all_in_any : (of : ℕ → Class) (c : Class) (t : Term) → c ≡ Any → IsIn of c t
all_in_any of c int e = rw e tt
all_in_any of c bool e = rw e tt
all_in_any of c char e = rw e tt
all_in_any of c (variable v) e = rw e (λ t m. tt)
all_in_any of c (seq_of t) e = rw e tt
all_in_any of c (pair_of t u) e = rw e tt
all_in_any of c (named n) e = rw e tt

-- a variable is restricted to a class: `old` gives the classes before, and `new` those after
module _ (old new : ℕ → Class) (x : ℕ) (c : Class) (here : (of : ℕ → Class) (t : Term) → IsIn of (new x) t ↔ (IsIn of (old x) t × IsIn of c t)) (others : (v : ℕ) → v ≢ x → new v ≡ old v) where
  pub restricted_within : IsIn new c (variable x)
  restricted_within = IsWithin-from_types (new x) c (λ of t h. ((here of t).0 h).1)

  pub restricted_narrower : (v : ℕ) (of : ℕ → Class) (t : Term) → IsIn of (new v) t → IsIn of (old v) t
  restricted_narrower v of t h = elim (cases_eq v x) [
    | inl same ↦ subst (λ k. IsIn of (old k) t) (sym same) ((here of t).0 (subst (λ k. IsIn of (new k) t) same h)).0
    | inr other ↦ subst (λ d. IsIn of d t) (others v other) h
  ]

  pub restricted_general : (w : ℕ → Term) (of : ℕ → Class) → IsIn of c (w x) → ((v : ℕ) → IsIn of (old v) (w v)) → (v : ℕ) → IsIn of (new v) (w v)
  restricted_general w of e h v = elim (cases_eq v x) [
    | inl same ↦ subst (λ k. IsIn of (new k) (w k)) (sym same) ((here of (w x)).1 (h x, e))
    | inr other ↦ subst (λ d. IsIn of d (w v)) (sym (others v other)) (h v)
  ]
