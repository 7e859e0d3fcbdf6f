use Rattle.nesl_types_shared.proofs.Reached.{IsReaching}
use Rattle.nesl_types_shared.proofs.renaming.mark_reached.Given as goal

abbrev pub invariant-loop-next : goal.invariant-loop-next
invariant-loop-next l = IsReaching l.from l.place l.next l.marks

abbrev pub decreases-loop-next : goal.decreases-loop-next
decreases-loop-next l = l.next
