use Rattle.std.proofs.Common.{refl, inl}
use Rattle.nesl_scalars.proofs.Zeros.{zero_is}
use Rattle.nesl_scalars.proofs.binary.quotient.Goals as goal

pub returns-then-b-eq0 : goal.returns-then-b-eq0
returns-then-b-eq0 g c = rw (zero_is c.args.b c.ranges.b c.if-b-eq0.true) (inl refl)
