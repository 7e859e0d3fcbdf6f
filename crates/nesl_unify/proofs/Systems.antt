-- Systems that were solved.
use Rattle.std.proofs.Common.{◌≡◌, ◌↔◌, ℕ, List, sym, subst}
use Rattle.std.specs.Prelude.{Result, Ok, Err, IfOk}
use Rattle.nesl_unify_graph.specs.declared.instances.Instances.{Instances}
use Rattle.nesl_types.specs.declared.classes.Class.{Class}
use Rattle.nesl_types_shared.specs.Term.{Term}
use Rattle.nesl_unify.specs.declared.equation.Equation.{Equation}
use Rattle.nesl_unify.specs.declared.fact.Fact.{Fact}
use Rattle.nesl_unify.specs.declared.narrow.Member.{Member}
use Rattle.nesl_unify.specs.declared.solution.Solution.{Solution}
use Rattle.nesl_unify.specs.declared.system.System.{System}
use Rattle.nesl_unify.specs.Facts.{AreTrue}
use Rattle.nesl_unify.specs.Members.{IsInAll}
use Rattle.nesl_unify.specs.Solves.{SolvesAll, IsSolution, IsInstance, type_of, class_of}
use Rattle.nesl_unify.specs.Systems.{SolvesSystem}

-- what solves the facts and the classes of a system solves it
pub solves_system : {E : Type 0} (a : System) (i : Instances) (facts : List Fact) (members : List Member) (r : Result Solution E) → i ≡ a.instances → facts ≡ a.facts.items →
    members ≡ a.members.items → IfOk r (λ x. AreTrue i facts (type_of x)) → IfOk r (λ x. IsInAll (type_of x) (class_of x) members) → IfOk r (λ x. SolvesSystem a (type_of x) (class_of x))
solves_system a i facts members (Ok x) j e d h w = record {
  equal = subst (λ (k : Instances). AreTrue k a.facts.items (type_of x)) j (subst (λ (l : List Fact). AreTrue i l (type_of x)) e h);
  within = subst (λ (l : List Member). IsInAll (type_of x) (class_of x) l) d w;
}
solves_system a i facts members (Err x) j e d h w = tt

-- what solves the facts of equations, and the classes, solves both
module _ (i : Instances) (facts : List Fact) (members : List Member) (es : List Equation) (same : (s : ℕ → Term) → AreTrue i facts s ↔ SolvesAll s es) where
  pub solves_equations : {E : Type 0} (r : Result Solution E) → IfOk r (λ x. AreTrue i facts (type_of x)) → IfOk r (λ x. IsInAll (type_of x) (class_of x) members) → IfOk r (λ x. IsSolution es members (type_of x) (class_of x))
  solves_equations (Ok x) h w = record { equal = (same (type_of x)).0 h; within = w }
  solves_equations (Err x) h w = tt

  pub general_equations : {E : Type 0} (r : Result Solution E) → IfOk r (λ x. (s : ℕ → Term) → (of : ℕ → Class) → AreTrue i facts s → IsInAll s of members → IsInstance (type_of x) (class_of x) s of) →
      IfOk r (λ x. (s : ℕ → Term) → (of : ℕ → Class) → IsSolution es members s of → IsInstance (type_of x) (class_of x) s of)
  general_equations (Ok x) h = λ s of k. h s of ((same s).1 k.equal) k.within
  general_equations (Err x) h = tt

-- the same facts, as they are lent
pub lent_same : (i : Instances) (facts lent : List Fact) (es : List Equation) → lent ≡ facts → ((s : ℕ → Term) → AreTrue i facts s ↔ SolvesAll s es) → (s : ℕ → Term) → AreTrue i lent s ↔ SolvesAll s es
lent_same i facts lent es e h s = subst (λ (l : List Fact). AreTrue i l s ↔ SolvesAll s es) (sym e) (h s)
