use Rattle.std.proofs.Common.{take}
use Rattle.nesl_grade.specs.Grades.{TellsEach}
use Rattle.nesl_grade.proofs.grade.check_all.Given as goal

abbrev pub invariant-loop-test : goal.invariant-loop-test
invariant-loop-test l = TellsEach l.examined (take l.test-index l.tests) l.outcomes.items
