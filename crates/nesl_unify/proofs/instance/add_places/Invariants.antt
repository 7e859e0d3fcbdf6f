use Rattle.std.proofs.Common.{◌≡◌, ◌++◌, take}
use Rattle.nesl_unify.proofs.instance.add_places.Given as goal

abbrev pub invariant-loop-variable : goal.invariant-loop-variable
invariant-loop-variable l = l.places.items ≡ l.initial.places.items ++ take l.variable-index l.fresh
