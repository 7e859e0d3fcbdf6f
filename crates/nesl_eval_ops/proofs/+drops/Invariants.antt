use Rattle.std.proofs.Common.{◌≤◌}
use Rattle.nesl_eval_ops.specs.declared.ops.Block.TheDeep.{deep-Ops}
use Rattle.nesl_eval_ops.proofs.+drops.Given as goal

abbrev pub invariant-ops::Ops::drop-loop-self : goal.invariant-ops::Ops::drop-loop-self
invariant-ops::Ops::drop-loop-self l = deep-Ops l.self ≤ deep-Ops l.initial.self
