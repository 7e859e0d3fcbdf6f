-- Laws of substitution.
use Rattle.std.proofs.Common.{◌≡◌, ◌≢◌, ℕ, ◌≤◌, ◌⊎◌, inl, inr, Bool, true, false, ◌||◌, refl, ap, arith}
use Rattle.std.proofs.lemmas.Bool.Decides.{nat_tests}
use Rattle.nesl_types_shared.specs.Term.{Term, int, bool, char, variable, seq_of, pair_of, named, nodes}
use Rattle.nesl_types_shared.specs.Substitution.{substitute, occurs, single}
use Rattle.nesl_types_shared.proofs.Nodes.{nodes_positive}

-- equal substitutions make equal types
pub substitute-same : (f g : ℕ → Term) (t : Term) → ((v : ℕ) → f v ≡ g v) → substitute f t ≡ substitute g t
substitute-same f g int h = refl
substitute-same f g bool h = refl
substitute-same f g char h = refl
substitute-same f g (variable v) h = h v
substitute-same f g (seq_of t) h = ap seq_of (substitute-same f g t h)
substitute-same f g (pair_of t u) h = let e = substitute-same f g t h in let d = substitute-same f g u h in cc
substitute-same f g (named n) h = refl

-- one substitution after another is one
pub substitute-substitute : (f g : ℕ → Term) (t : Term) → substitute f (substitute g t) ≡ substitute (λ v. substitute f (g v)) t
substitute-substitute f g int = refl
substitute-substitute f g bool = refl
substitute-substitute f g char = refl
substitute-substitute f g (variable v) = refl
substitute-substitute f g (seq_of t) = ap seq_of (substitute-substitute f g t)
substitute-substitute f g (pair_of t u) = let e = substitute-substitute f g t in let d = substitute-substitute f g u in cc
substitute-substitute f g (named n) = refl

-- where s makes x and t equal, it doesn't see whether t was put in place of x
pub substitute-single_forced : (s : ℕ → Term) (x : ℕ) (t u : Term) → s x ≡ substitute s t → substitute s (substitute (single x t) u) ≡ substitute s u
substitute-single_forced s x t int h = refl
substitute-single_forced s x t bool h = refl
substitute-single_forced s x t char h = refl
substitute-single_forced s x t (variable v) h = grind (arith, nat_tests)
substitute-single_forced s x t (seq_of u) h = ap seq_of (substitute-single_forced s x t u h)
substitute-single_forced s x t (pair_of u w) h = let e = substitute-single_forced s x t u h in let d = substitute-single_forced s x t w h in cc
substitute-single_forced s x t (named n) h = refl

-- an instance never has fewer nodes
pub nodes-substitute : (s : ℕ → Term) (t : Term) → nodes t ≤ nodes (substitute s t)
nodes-substitute s int = omega arith
nodes-substitute s bool = omega arith
nodes-substitute s char = omega arith
nodes-substitute s (variable v) = omega (arith, nodes_positive (s v))
nodes-substitute s (seq_of t) = omega (arith, nodes-substitute s t)
nodes-substitute s (pair_of t u) = omega (arith, nodes-substitute s t, nodes-substitute s u)
nodes-substitute s (named n) = omega arith

or_cases : (a b : Bool) → (a || b) ≡ true → (a ≡ true) ⊎ (b ≡ true)
or_cases true b h = inl refl
or_cases false b h = inr h

-- the type put for a variable has no more nodes than that put for a type with the variable
pub nodes_of_part : (s : ℕ → Term) (x : ℕ) (t : Term) → occurs x t ≡ true → nodes (s x) ≤ nodes (substitute s t)
nodes_of_part s x int h = cc
nodes_of_part s x bool h = cc
nodes_of_part s x char h = cc
nodes_of_part s x (variable v) h = grind (arith, nat_tests)
nodes_of_part s x (seq_of t) h = omega (arith, nodes_of_part s x t h)
nodes_of_part s x (pair_of t u) h =
    elim (or_cases (occurs x t) (occurs x u) h) [
      | inl p ↦ omega (arith, nodes_of_part s x t p)
      | inr q ↦ omega (arith, nodes_of_part s x u q)
    ]
nodes_of_part s x (named n) h = cc

-- no substitution makes a variable equal to a larger type in which it occurs
pub occurs_check : (s : ℕ → Term) (x : ℕ) (t : Term) → occurs x t ≡ true → variable x ≢ t → s x ≢ substitute s t
occurs_check s x int h d e = cc
occurs_check s x bool h d e = cc
occurs_check s x char h d e = cc
occurs_check s x (variable v) h d e = d (grind (arith, nat_tests))
occurs_check s x (seq_of t) h d e = let g = ap nodes e in omega (arith, nodes_of_part s x t h)
occurs_check s x (pair_of t u) h d e =
    let g = ap nodes e in
    elim (or_cases (occurs x t) (occurs x u) h) [
      | inl p ↦ omega (arith, nodes_of_part s x t p)
      | inr q ↦ omega (arith, nodes_of_part s x u q)
    ]
occurs_check s x (named n) h d e = cc

-- a variable of a type after a replacement is one of what was put in, or an older one
pub occurs-single : (v x : ℕ) (t u : Term) → occurs v (substitute (single x t) u) ≡ true → (occurs v t ≡ true) ⊎ ((occurs v u ≡ true) × (v ≢ x))
occurs-single v x t int h = cc
occurs-single v x t bool h = cc
occurs-single v x t char h = cc
occurs-single v x t (variable w) h = grind (arith, nat_tests)
occurs-single v x t (seq_of u) h = occurs-single v x t u h
occurs-single v x t (pair_of u w) h =
    elim (or_cases (occurs v (substitute (single x t) u)) (occurs v (substitute (single x t) w)) h) [
      | inl p ↦ let i = occurs-single v x t u p in grind arith
      | inr q ↦ let i = occurs-single v x t w q in grind arith
    ]
occurs-single v x t (named n) h = cc

-- a type without the variable stays
pub substitute-single_absent : (x : ℕ) (t u : Term) → occurs x u ≡ false → substitute (single x t) u ≡ u
substitute-single_absent x t int h = refl
substitute-single_absent x t bool h = refl
substitute-single_absent x t char h = refl
substitute-single_absent x t (variable v) h = grind (arith, nat_tests)
substitute-single_absent x t (seq_of u) h = ap seq_of (substitute-single_absent x t u h)
substitute-single_absent x t (pair_of u w) h =
    let p : occurs x u ≡ false = grind arith in
    let q : occurs x w ≡ false = grind arith in
    let e = substitute-single_absent x t u p in
    let d = substitute-single_absent x t w q in
    cc
substitute-single_absent x t (named n) h = refl
