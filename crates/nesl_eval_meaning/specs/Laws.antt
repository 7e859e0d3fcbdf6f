-- The law of what an expression's depth is beside its work.
use Rattle.std.specs.Prelude.{◌≤◌, ℕ, suc}
use Rattle.nesl_syntax_tree.specs.Trees.{Tree}
use Rattle.nesl_eval_meaning.specs.Names.{Scope, Environment}
use Rattle.nesl_eval_meaning.specs.Out.{Out, value, fault, stuck}
use Rattle.nesl_eval_meaning.specs.Outcome.{out}

-- a value's depth is at most its work
abbrev pub IsShallow : {X : Type 0} → Out X → Type 0
IsShallow (value x w d) = d ≤ w
IsShallow (fault t s w) = Unit {0}
IsShallow stuck = Unit {0}

-- and both are at least 1; so is the work of a fault
abbrev pub CostsOne : {X : Type 0} → Out X → Type 0
CostsOne (value x w d) = (1 ≤ w) × (1 ≤ d)
CostsOne (fault t s w) = 1 ≤ w
CostsOne stuck = Unit {0}

abbrev pub DepthWithinWork : Type 0
DepthWithinWork =
    (n : ℕ) (env : Environment) (sc : Scope) (e : Tree) → IsShallow (out n env sc e) × CostsOne (out (suc n) env sc e)
