-- What operations hold has fewer operations than they.
use Rattle.std.specs.Prelude.{◌≡◌, ◌≤◌, ◌+◌, max}
use Rattle.std.proofs.Common.{arith, subst}
use Rattle.nesl_eval_code.specs.Block.{Block}
use Rattle.nesl_eval_ops.specs.declared.ops.Body.{Body}
use Rattle.nesl_eval_ops.specs.declared.ops.Body.TheVariants.{Any, Plain}
use Rattle.nesl_eval_ops.specs.declared.ops.Ops.{Ops}
use Rattle.nesl_eval_ops.specs.declared.ops.Ops.TheVariants.{Finish, Push, Enter, OfLeaf, OfTop, OfLeaves}
use Rattle.nesl_eval_ops.specs.declared.ops.Ops.TheVariants.{OfTopAndLeaf, OfTops, OfMany, Choose, Last, Call, Bind}
use Rattle.nesl_eval_ops.specs.declared.ops.Ops.TheVariants.{Forget, Each, Filtered}
use Rattle.nesl_eval_ops.specs.declared.ops.Block.TheDeep.{deep-Ops, deep-Body}
use Rattle.nesl_eval_ops.specs.View.{block_of, body_block}
use Rattle.nesl_eval_ops.specs.Weight.{weight}

pub deep_body_le : (b : Body) → deep-Body b ≤ weight (body_block b) + 1
deep_body_le (Any b) = omega arith
deep_body_le (Plain k) = omega arith

pub depth_le : (o : Ops) → max (deep-Ops o) 0 ≤ weight (block_of o)
depth_le Finish = omega arith
depth_le (Push h l b) = omega arith
depth_le (Enter h s b) = omega arith
depth_le (OfLeaf n l b) = omega arith
depth_le (OfTop n b) = omega arith
depth_le (OfLeaves n l r b) = omega arith
depth_le (OfTopAndLeaf n r b) = omega arith
depth_le (OfTops n b) = omega arith
depth_le (OfMany n k ls b) = omega arith
depth_le (Choose c d b) = omega arith
depth_le (Last c d) = omega arith
depth_le (Call h s f b) = omega arith
depth_le (Bind b) = omega arith
depth_le (Forget m b) = omega arith
depth_le (Each s k c b) = omega (arith, deep_body_le c.value)
depth_le (Filtered s k c d b) = omega (arith, deep_body_le c.value, deep_body_le d.value)

pub depth_le_same : (o : Ops) (b : Block) → block_of o ≡ b → max (deep-Ops o) 0 ≤ weight b
depth_le_same o b e = subst (λ x. max (deep-Ops o) 0 ≤ weight x) e (depth_le o)
