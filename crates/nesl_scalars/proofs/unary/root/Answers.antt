use Rattle.std.proofs.Common.{rules, subst, ◌∙◌}
use Rattle.std.specs.Int.{IsIsqrt}
use Rattle.nesl_scalars.proofs.Powers.{number_read}
use Rattle.nesl_scalars.proofs.Roots.{isqrt_is}
use Rattle.nesl_scalars.proofs.unary.root.Goals as goal

pub returns : goal.returns
returns c = number_read c.isqrt.result (search rules) ∙ isqrt_is c.args.a c.isqrt.result (subst (λ z. IsIsqrt z c.isqrt.result) (number_read c.args.a c.ranges.a) c.isqrt.ensures)
