-- Substitutions that agree on the variables of a state.
use Rattle.std.proofs.Common.{◌≡◌, ◌≤◌, ℕ, inl, inr, cond, get_or, refl, sym, ap, ◌∙◌, subst, arith}
use Rattle.std.proofs.lemmas.Bool.{cases_eq}
use Rattle.std.proofs.lemmas.Bool.Decides.{nat_tests}
use Rattle.std.specs.Prelude.{nat_eq}
use Rattle.nesl_types.specs.declared.classes.Class.{Class}
use Rattle.nesl_types_shared.specs.Term.{Term, int, bool, char, variable, seq_of, pair_of, named, nodes}
use Rattle.nesl_types_shared.specs.Substitution.{substitute}
use Rattle.nesl_types_shared.specs.Numbering.{IsBelow}
use Rattle.nesl_types.specs.Class.{IsIn}
use Rattle.nesl_unify.specs.Bounds.{IsBounded}
use Rattle.nesl_unify.proofs.Facts.{true_same}
use Rattle.nesl_infer_rules.specs.declared.state.State.{State}
use Rattle.nesl_infer_rules.specs.Steps.{Agrees, count, IsSolution}

pub substitute-below : (n : ℕ) (s z : ℕ → Term) (t : Term) → Agrees n s z → IsBelow n t → substitute s t ≡ substitute z t
substitute-below n s z int a b = refl
substitute-below n s z bool a b = refl
substitute-below n s z char a b = refl
substitute-below n s z (variable v) a b = a v b
substitute-below n s z (seq_of t) a b = ap seq_of (substitute-below n s z t a b)
substitute-below n s z (pair_of t u) a b =
    let e = substitute-below n s z t a b.0 in
    let d = substitute-below n s z u a b.1 in
    cc
substitute-below n s z (named k) a b = refl

pub below-weaker : (m n : ℕ) (t : Term) → m ≤ n → IsBelow m t → IsBelow n t
below-weaker m n int l b = tt
below-weaker m n bool l b = tt
below-weaker m n char l b = tt
below-weaker m n (variable v) l b = omega arith
below-weaker m n (seq_of t) l b = below-weaker m n t l b
below-weaker m n (pair_of t u) l b = (below-weaker m n t l b.0, below-weaker m n u l b.1)
below-weaker m n (named k) l b = tt

-- a solution may change beyond the variables of its state
pub holds-agrees : (state : State) (s z : ℕ → Term) (of : ℕ → Class) → Agrees (count state) s z → IsSolution s of state → IsSolution z of state
holds-agrees state s z of a h =
    let made = state.made h.whole in
    record {
      whole = h.whole;
      solves = record {
        equal = true_same state.system.instances (count state) state.system.facts.items s z made.facts a h.solves.equal;
        within = λ k d l.
            let e = get_or state.system.members.items k d in
            subst (λ (u : Term). IsIn of e.class u) (a e.variable (made.members k d l)) (h.solves.within k d l);
      };
    }

pub Agrees-trans : (m n : ℕ) (s z y : ℕ → Term) → m ≤ n → Agrees m s z → Agrees n z y → Agrees m s y
Agrees-trans m n s z y l a b = λ v h. a v h ∙ b v (omega arith)

pub Agrees-less : (m n : ℕ) (s z : ℕ → Term) → m ≤ n → Agrees n s z → Agrees m s z
Agrees-less m n s z l a = λ v h. a v (omega arith)

pub Agrees-sym : (n : ℕ) (s z : ℕ → Term) → Agrees n s z → Agrees n z s
Agrees-sym n s z a v l = sym (a v l)

-- another type for one variable
abbrev pub with_at : (ℕ → Term) → ℕ → Term → ℕ → Term
with_at s n t v = cond (nat_eq v n) t (s v)

pub with_at-agrees : (s : ℕ → Term) (n : ℕ) (u : Term) → Agrees n s (with_at s n u)
with_at-agrees s n u v h = grind (arith, nat_tests)

pub with_at-same : (s : ℕ → Term) (n : ℕ) (u : Term) → with_at s n u n ≡ u
with_at-same s n u = grind (arith, nat_tests)

pub with_at-bounded : (s : ℕ → Term) (n : ℕ) (u : Term) → IsBounded s → nodes u ≤ 4096 → IsBounded (with_at s n u)
with_at-bounded s n u b c v =
    elim (cases_eq v n) [
      | inl e ↦ subst (λ (w : ℕ). nodes (with_at s n u w) ≤ 4096) (sym e) (subst (λ (t : Term). nodes t ≤ 4096) (sym (with_at-same s n u)) c)
      | inr d ↦ let h = b v in grind (arith, nat_tests)
    ]
