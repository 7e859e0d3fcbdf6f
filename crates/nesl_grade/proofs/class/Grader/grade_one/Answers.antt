use Rattle.std.proofs.Common.{refl}
use Rattle.nesl_grade.proofs.class.Grader.grade_one.Goals as goal

pub returns : goal.returns
returns g c = record { name = refl; forms = refl; outcomes = c.graded_forms-graded.ensures }
