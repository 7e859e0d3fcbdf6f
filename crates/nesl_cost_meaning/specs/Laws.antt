-- The account is held to the outcome.
use Rattle.std.specs.Prelude.{◌≡◌, ℕ, Option}
use Rattle.nesl_syntax_tree.specs.Trees.{Tree}
use Rattle.nesl_eval_meaning.specs.Names.{Name, Scope, Environment}
use Rattle.nesl_eval_meaning.specs.Outcome.{out}
use Rattle.nesl_cost_meaning.specs.Cost.{Cost, work_in, depth_in, charges, path, works, depths}
use Rattle.nesl_cost_meaning.specs.Traced.{traced, erase}

-- without its account, what is traced is the outcome
abbrev pub ErasesToOutcome : Type 0
ErasesToOutcome = (n : ℕ) (env : Environment) (sc : Scope) (e : Tree) → erase (traced n env sc e) ≡ out n env sc e

-- the works of all charges add up to the work, and the depths of those on the critical path to the depth
abbrev pub SumsUp : Type 0
SumsUp = (h : Option Name) (c : Cost) → (works (charges h c) ≡ work_in c) × (depths (path h c) ≡ depth_in c)
