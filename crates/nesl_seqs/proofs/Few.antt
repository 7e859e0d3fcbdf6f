-- What functions evaluate to on lent values of fewer than 2^64 nodes.
use Rattle.std.proofs.Common.{◌^◌, ◌<◌, arith}
use Rattle.nesl_values.specs.Tree.{size}
use Rattle.nesl_seqs_base.specs.Lent.{argument_tree}
use Rattle.nesl_seqs_base.specs.declared.argument.Argument.{Argument}
use Rattle.nesl_seqs.specs.Few.{HasFewNodes}

pub few : {A : Type 0} (x : Argument A) → HasFewNodes x → size (argument_tree x) < 2 ^ 66
few (Argument.One x) h = omega (arith, h)
few (Argument.Two x y) h = omega (arith, h.0, h.1)
few (Argument.Three x y z) h = omega (arith, h.0, h.1, h.2)
