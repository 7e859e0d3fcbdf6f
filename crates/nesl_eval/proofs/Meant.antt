-- An evaluation of code that means an expression.
use Rattle.std.proofs.Common.{◌≡◌, ℕ, List, [], true, nat_le, sym, subst, arith}
use Rattle.std.specs.Prelude.{if◌then◌else◌}
use Rattle.std.proofs.lemmas.Bool.Decides.{nat_tests}
use Rattle.nesl_syntax_tree.specs.Trees.{Tree}
use Rattle.nesl_eval_code.specs.declared.code.Code.{Code}
use Rattle.nesl_eval_meaning.specs.Names.{Name, Value, Environment, outside}
use Rattle.nesl_eval_meaning.specs.Out.{Out, value, fault, stuck, within}
use Rattle.nesl_eval_meaning.specs.Outcome.{out}
use Rattle.nesl_eval_code.specs.Run.{Table, run}
use Rattle.nesl_eval_code.specs.Means.{Means, IsTableOf, names_of}
use Rattle.nesl_eval_code.specs.Laws.{RunsAsMeant}
use Rattle.nesl_eval.specs.declared.outcome.Outcome.{Outcome}
use Rattle.nesl_eval.specs.declared.outcome.Outcome.TheVariants.{Done, Fault, Over, Memory}
use Rattle.nesl_eval.specs.Outcomes.{OutcomeIs}

none_within : (b : ℕ) → nat_le 0 b ≡ true
none_within b = grind (arith, nat_tests)

tells_stuck : {A : Type 0} (r : Outcome A) (b : ℕ) → OutcomeIs r (within b stuck)
tells_stuck (Done v w d) b = rw (none_within b) tt
tells_stuck (Fault k s w) b = rw (none_within b) tt
tells_stuck Over b = rw (none_within b) tt
tells_stuck Memory b = tt

-- an outcome that is a run's is that of what the run agrees with
as_meant : {A : Type 0} (r : Outcome A) (b : ℕ) (p o : Out Value) → ((o ≡ stuck → ⊥) → p ≡ o) → OutcomeIs r (within b p) → OutcomeIs r (within b o)
as_meant r b p stuck f h = tells_stuck r b
as_meant r b p (value x w d) f h = subst (λ q. OutcomeIs r (within b q)) (f (λ e. cc)) h
as_meant r b p (fault k s w) f h = subst (λ q. OutcomeIs r (within b q)) (f (λ e. cc)) h

pub tells_meant : {A : Type 0} (law : RunsAsMeant) (r : Outcome A) (b n : ℕ) (t : Table) (env : Environment) (c : Code) (e : Tree) (names : List Name) → names_of t ≡ names → IsTableOf n env t → Means names [] c e → OutcomeIs r (within b (run n t [] c)) → OutcomeIs r (within b (out n env (outside []) e))
tells_meant law r b n t env c e names same stands means h =
    as_meant r b (run n t [] c) (out n env (outside []) e) (law n t env c e stands (subst (λ ns. Means ns [] c e) (sym same) means)) h
