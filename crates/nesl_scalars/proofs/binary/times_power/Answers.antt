use Rattle.nesl_scalars.proofs.Powers.{shifted_fits, product_read}
use Rattle.nesl_scalars.proofs.binary.times_power.Goals as goal

pub overflow_cast-n-then-n-lt63 : goal.overflow_cast-n-then-n-lt63
overflow_cast-n-then-n-lt63 c = shifted_fits c.args.n c.if-n-lt63.true

pub returns-then-n-lt63 : goal.returns-then-n-lt63
returns-then-n-lt63 c = product_read c.checked_mul.result c.args.a c.args.n c.ranges.a c.if-n-lt63.true c.checked_mul.ensures
