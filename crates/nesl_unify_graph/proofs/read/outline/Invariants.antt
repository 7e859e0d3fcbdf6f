use Rattle.std.proofs.Common.{◌-◌}
use Rattle.nesl_unify_graph.proofs.Outlines.{IsOutlining}
use Rattle.nesl_unify_graph.proofs.read.outline.Given as goal

abbrev pub invariant-loop-next : goal.invariant-loop-next
invariant-loop-next l = IsOutlining l.instances l.nodes l.place l.items.items l.shapes.items l.next

abbrev pub decreases-loop-next : goal.decreases-loop-next
decreases-loop-next l = 4096 - l.next
