-- The scopes that local names are.
use Rattle.std.specs.Prelude.{◌≡◌, ◌⊎◌, List, Option, Some, None, option_map, map, Result, Ok, Err}
use Rattle.std.specs.Prelude.{reverse}
use Rattle.nesl_values.specs.View.{tree_of}
use Rattle.nesl_eval_meaning.specs.Names as names
use Rattle.nesl_eval_meaning.specs.Names.{Name, Value, Locals, Environment, Top, variable_of, function_of, datatype_of}
use Rattle.nesl_eval_meaning.specs.Names.{nothing}
use Rattle.nesl_syntax_tree.specs.Views.{pattern_tree}
use Rattle.nesl_syntax_tree.specs.Views as syntax
use Rattle.nesl_eval_top_level.specs.Stored.{environment}
use Rattle.nesl_cost_meaning.specs.Traced.{Parts, traced}
use Rattle.nesl_cost_eval.specs.declared.unfinished.Unfinished.{Unfinished}
use Rattle.nesl_cost_eval.specs.declared.unfinished.Unfinished.TheVariants.{Memory, Stuck}
use Rattle.nesl_cost_eval.specs.declared.scope.Local.{Local}
use Rattle.nesl_cost_eval.specs.declared.scope.Scope.{Scope}
use Rattle.nesl_cost_eval.specs.declared.top.Callee.{Callee}
use Rattle.nesl_cost_eval.specs.declared.top.Callee.TheVariants.{Function, Datatype}
use Rattle.nesl_cost_eval.specs.declared.evaluating.At.{At}

abbrev pub local_of : Local → Name × Value
local_of l = (l.name.now, tree_of l.value)

-- the newest name is last in the code, and first in a scope
abbrev pub locals : List Local → Locals
locals ls = reverse (map local_of ls)

abbrev pub scope_of : Scope → names.Scope
scope_of s = record { names = locals s.names.items; element = option_map tree_of s.element }

-- the names are those that are bound, if any are
abbrev pub Gives : Result (Unit {0}) Unfinished → Option Locals → Locals → Type 0
Gives (Ok v) o ns = o ≡ Some ns
Gives (Err e) o ns = (e ≡ Memory) ⊎ ((e ≡ Stuck) × (o ≡ None))

-- the scope is this one, if there is any
abbrev pub GivesScope : Result Scope Unfinished → Option names.Scope → Type 0
GivesScope (Ok s) o = o ≡ Some (scope_of s)
GivesScope (Err e) o = (e ≡ Memory) ⊎ ((e ≡ Stuck) × (o ≡ None))

-- the function or the datatype that a call means, if it means either
abbrev pub Calls : Option Callee → Option Top → Type 0
Calls (Some (Function p e)) o = o ≡ Some (function_of (pattern_tree p.now) (syntax.tree_of e.now))
Calls (Some (Datatype k)) o = o ≡ Some (datatype_of k)
Calls None (Some (function_of p e)) = ⊥
Calls None (Some (datatype_of k)) = ⊥
Calls None (Some (variable_of v)) = Unit {0}
Calls None (Some nothing) = Unit {0}
Calls None None = Unit {0}

-- what an evaluation sees
abbrev pub environment_of : At → Environment
environment_of at = environment at.env.now

abbrev pub scope_in : At → names.Scope
scope_in at = scope_of at.scope.now

abbrev pub parts_of : At → Parts
parts_of at = traced at.levels (environment_of at)
