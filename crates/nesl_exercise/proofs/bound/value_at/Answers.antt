use Rattle.nesl_exercise.proofs.BoundLemmas.{computes_next}
use Rattle.nesl_exercise.proofs.bound.value_at.Goals as goal

pub loop-op-preserved : goal.loop-op-preserved
loop-op-preserved c = λ last more.
    c.loop-op.invariant last (computes_next c.args.ops.now c.loop-op.op-index _ c.args.n _ _ last c.loop-op-test.true c.in_ok-apply.ensures more)
