use Rattle.nesl_unify_graph.proofs.Walks.{IsWalking}
use Rattle.nesl_unify_graph.proofs.walk.walk.Given as goal

abbrev pub invariant-loop-item : goal.invariant-loop-item
invariant-loop-item l = IsWalking l.instances l.nodes l.most l.work.items.items l.room l.root

abbrev pub decreases-loop-item : goal.decreases-loop-item
decreases-loop-item l = l.room
