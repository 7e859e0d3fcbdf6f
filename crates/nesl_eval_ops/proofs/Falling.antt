-- What operations hold has fewer operations than they.
use Rattle.std.proofs.Common.{◌≤◌, arith}
use Rattle.nesl_eval_ops.specs.declared.ops.Ops.{Ops}
use Rattle.nesl_eval_ops.specs.declared.ops.Block.TheDeep.{deep-Ops}
use Rattle.nesl_eval_ops.specs.View.{block_of}
use Rattle.nesl_eval_ops.specs.Weight.{weight}
use Rattle.nesl_eval_ops.specs.Falls.{depth_le}

pub falls : (o : Ops) → deep-Ops o ≤ weight (block_of o)
falls o = omega (arith, depth_le o)
