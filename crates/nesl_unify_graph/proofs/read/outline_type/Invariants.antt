use Rattle.nesl_unify_graph.proofs.Outlines.{IsPlacing}
use Rattle.nesl_unify_graph.proofs.read.outline_type.Given as goal

abbrev pub invariant-loop-left : goal.invariant-loop-left
invariant-loop-left l = IsPlacing l.shapes l.bank l.places.items l.left

abbrev pub decreases-loop-left : goal.decreases-loop-left
decreases-loop-left l = l.left
