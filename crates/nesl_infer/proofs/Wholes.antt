-- From a typing to a solution.
use Rattle.std.proofs.Common.{◌≡◌, ◌<◌, ℕ, [], sym, ◌∙◌, subst, arith}
use Rattle.nesl_types.specs.declared.classes.Class.{Class}
use Rattle.nesl_types_shared.specs.Term.{Term, int}
use Rattle.nesl_syntax_tree.specs.Trees.{Tree}
use Rattle.nesl_unify.specs.Bounds.{IsBounded}
use Rattle.nesl_infer_rules.specs.declared.state.State.{State}
use Rattle.nesl_infer_rules.specs.World.{TypedNames}
use Rattle.nesl_infer_rules.specs.Typing.{HasType}
use Rattle.nesl_infer_rules.specs.Principal.{bounded}
use Rattle.nesl_infer_rules.specs.Steps.{count, IsSolution, Adds}
use Rattle.nesl_infer_rules.proofs.Arms.{AnyTerm}
use Rattle.nesl_infer_rules.proofs.Places.{small}

-- nothing is asked
abbrev pub IsEmpty : State → Type 0
IsEmpty A = (s : ℕ → Term) (of : ℕ → Class) → IsSolution s of A

-- each typing comes from a bounded solution of the equations
pub solution_of_typing : {A B C : State} (N : TypedNames) (e : Tree) (root : ℕ) → IsEmpty A → root < count B → AnyTerm A B root → Adds B C (λ s of. HasType (bounded N of) [] e (s root)) →
    (of : ℕ → Class) (t : Term) → HasType (bounded N of) [] e t → (z : ℕ → Term) × IsSolution z of C × IsBounded z × (z root ≡ t)
solution_of_typing {A = A} N e root h inside p q of t k =
    let y = p.complete (λ v. int) of (λ v. omega arith) (h (λ v. int) of) t (small (bounded N of) [] e t 4096 k) in
    let z = q.complete y.0 of y.3 y.2 tt (subst (λ (u : Term). HasType (bounded N of) [] e u) (sym y.4) k) in
    (z.0, z.2, z.3, sym (z.1 root inside) ∙ y.4)
