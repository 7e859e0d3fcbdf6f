-- The law of what code evaluates to that means an expression.
use Rattle.std.specs.Prelude.{◌≡◌, ℕ, []}
use Rattle.nesl_syntax_tree.specs.Trees.{Tree}
use Rattle.nesl_eval_code.specs.declared.code.Code.{Code}
use Rattle.nesl_eval_meaning.specs.Names.{Environment, outside}
use Rattle.nesl_eval_meaning.specs.Out.{stuck}
use Rattle.nesl_eval_meaning.specs.Outcome.{out}
use Rattle.nesl_eval_code.specs.Run.{Table, run}
use Rattle.nesl_eval_code.specs.Means.{Means, IsTableOf, names_of}

-- at the table of an environment, code that means a tree evaluates to what the tree does
abbrev pub RunsAsMeant : Type 0
RunsAsMeant =
    (n : ℕ) (t : Table) (env : Environment) (c : Code) (e : Tree) → IsTableOf n env t → Means (names_of t) [] c e →
    (out n env (outside []) e ≡ stuck → ⊥) → run n t [] c ≡ out n env (outside []) e
