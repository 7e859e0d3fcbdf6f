use Rattle.std.proofs.Common.{rules, refl, ap, inl}
use Rattle.nesl_values.specs.Tree.{int}
use Rattle.nesl_scalars.specs.Outcomes.{gives}
use Rattle.nesl_scalars.proofs.Zeros.{zero_is, nonzero_is, remainder_read}
use Rattle.nesl_scalars.proofs.binary.remainder_of.Goals as goal

pub returns-then-b-eq0 : goal.returns-then-b-eq0
returns-then-b-eq0 g c = rw (zero_is c.args.b c.ranges.b c.if-b-eq0.true) (inl refl)

pub returns : goal.returns
returns g c =
    rw (nonzero_is c.args.b c.ranges.b c.if-b-eq0.false) (ap (λ z. gives (int z)) (remainder_read c.args.a c.args.b c.wrapping_rem.result c.ranges.a c.ranges.b (search rules) c.wrapping_rem.ensures))
