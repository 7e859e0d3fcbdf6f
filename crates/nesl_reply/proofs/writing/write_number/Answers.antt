use Rattle.std.proofs.Common.{arith}
use Rattle.nesl_reply.proofs.Digits.{two_digits}
use Rattle.nesl_reply.proofs.writing.write_number.Goals as goal

pub returns-then-number-lt100 : goal.returns-then-number-lt100
returns-then-number-lt100 c =
    two_digits c.args.out.now.items c.write_digit-then-number-lt100.new.out.items c.write_digit-then-number-lt100-2.new.out.items c.args.number c.ranges.number.fits (omega (arith, c.if-number-lt10.false))
    c.in_ok-write_digit.ensures c.in_ok-write_digit-2.ensures
