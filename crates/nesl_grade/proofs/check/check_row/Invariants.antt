use Rattle.std.proofs.Common.{take}
use Rattle.std.specs.Prelude.{All}
use Rattle.nesl_grade.specs.Outcomes.{IsWithin}
use Rattle.nesl_grade.proofs.check.check_row.Given as goal

abbrev pub invariant-loop-n : goal.invariant-loop-n
invariant-loop-n l = All (IsWithin l.examined l.exp l.measure l.bound) (take l.n-index l.row)
