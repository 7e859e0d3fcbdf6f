use Rattle.std.proofs.Common.{◌≡◌, ◌++◌, length}
use Rattle.nesl_grade.specs.declared.line.Spot.TheVariants as spots
use Rattle.nesl_grade.specs.Lines.{with_number}
use Rattle.nesl_grade.proofs.line.put_with_number.Given as goal

abbrev pub invariant-loop-byte : goal.invariant-loop-byte
invariant-loop-byte l =
    l.out.items ++ with_number l.spot l.digits l.rest ≡ l.initial.out.items ++ with_number spots.Plain l.digits l.fn.exp

abbrev pub decreases-loop-byte : goal.decreases-loop-byte
decreases-loop-byte l = length l.rest
