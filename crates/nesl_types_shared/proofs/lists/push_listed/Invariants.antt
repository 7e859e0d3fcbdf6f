use Rattle.nesl_types_shared.proofs.Moved.{IsMoving, left_of}
use Rattle.nesl_types_shared.proofs.lists.push_listed.Given as goal

abbrev pub invariant-loop-next : goal.invariant-loop-next
invariant-loop-next l = IsMoving l.from l.place l.shapes.items l.places l.stack.items

abbrev pub decreases-loop-next : goal.decreases-loop-next
decreases-loop-next l = left_of l.places l.stack.items
