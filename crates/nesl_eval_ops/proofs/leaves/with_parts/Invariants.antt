use Rattle.std.proofs.Common.{◌≤◌}
use Rattle.nesl_eval_ops.specs.Lists.{EndsAt}
use Rattle.nesl_eval_ops.proofs.leaves.with_parts.Given as goal

abbrev pub invariant-loop-index : goal.invariant-loop-index
invariant-loop-index l = record { ends : EndsAt l.codes l.count; within : l.count ≤ l.index }
