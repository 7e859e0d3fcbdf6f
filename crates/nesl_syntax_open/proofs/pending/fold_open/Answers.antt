use Rattle.nesl_syntax_open.proofs.Stacks.{turn, turned}
use Rattle.nesl_syntax_open.proofs.pending.fold_open.Goals as goal

pub loop-pending-preserved : goal.loop-pending-preserved
loop-pending-preserved c = λ ws x s h. turn _ _ _ _ _ _ ws x c.in-Some.ensures.popped c.in-Some.ensures.ranked c.in_ok-part.ensures (c.loop-pending.invariant ws x s h)

pub returns : goal.returns
returns c = λ ws x s h. rw c.in_default.ensures.same (turned _ _ _ ws x c.in_default.ensures.settled (c.loop-pending.invariant ws x s h))
