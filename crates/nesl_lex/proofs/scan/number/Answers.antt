use Rattle.std.proofs.Common.{arith}
use Rattle.nesl_lex.proofs.Numbers.{too_large}
use Rattle.nesl_lex.proofs.scan.number.Goals as goal

pub returns-then-value-clause-none : goal.returns-then-value-clause-none
returns-then-value-clause-none c = omega (arith, too_large c.loop-digit.value c.args.digits.now c.loop-digit.digit-index _ c.loop-digit-test.true c.loop-digit.invariant.so_far)

pub returns-then-next-gt-GREATEST-clause-none : goal.returns-then-next-gt-GREATEST-clause-none
returns-then-next-gt-GREATEST-clause-none c = omega (arith, too_large c.loop-digit.value c.args.digits.now c.loop-digit.digit-index _ c.loop-digit-test.true c.loop-digit.invariant.so_far)
