use Rattle.nesl_unify.specs.Equations.{AreOwnPlaces}
use Rattle.nesl_unify.proofs.solve.own_places.Given as goal

abbrev pub invariant-loop-variable : goal.invariant-loop-variable
invariant-loop-variable l = AreOwnPlaces l.variable l.fresh.items
