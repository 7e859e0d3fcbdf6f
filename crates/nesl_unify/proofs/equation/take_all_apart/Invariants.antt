use Rattle.std.proofs.Common.{sum_by}
use Rattle.nesl_unify.specs.Equations.{AreTakenApart, weight}
use Rattle.nesl_unify.proofs.equation.take_all_apart.Given as goal

abbrev pub invariant-loop-ends : goal.invariant-loop-ends
invariant-loop-ends l = AreTakenApart l.fn.sides l.fn.facts.items l.facts.items l.fn.pending.items l.pending.items

abbrev pub decreases-loop-ends : goal.decreases-loop-ends
decreases-loop-ends l = sum_by (weight l.fn.sides) l.pending.items
