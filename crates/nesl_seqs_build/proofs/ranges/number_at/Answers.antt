use Rattle.std.proofs.Common.{arith}
use Rattle.std.proofs.lemmas.Int.{ints}
use Rattle.nesl_seqs_build.proofs.ranges.number_at.Goals as goal

pub overflow_mul-ahead : goal.overflow_mul-ahead
overflow_mul-ahead c = omega (arith, ints, c.requires.range c.args.place c.requires.within)

pub overflow_add-result : goal.overflow_add-result
overflow_add-result c = omega (arith, ints, c.requires.range c.args.place c.requires.within)

pub overflow_cast-result-3 : goal.overflow_cast-result-3
overflow_cast-result-3 c = omega (arith, ints, c.requires.range c.args.place c.requires.within)

pub returns : goal.returns
returns c = omega (arith, ints, c.requires.range c.args.place c.requires.within)
