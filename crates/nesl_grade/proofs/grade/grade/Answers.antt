use Rattle.std.proofs.Common.{List, subst}
use Rattle.nesl_exercise.specs.declared.test.Test.{Test}
use Rattle.nesl_grade.specs.Grades.{TellsEach}
use Rattle.nesl_grade.proofs.grade.grade.Goals as goal

pub returns : goal.returns
returns c =
    let outcomes = c.in_ok-graded.graded.outcomes.items in (
      c.in_ok-examined.examined,
      c.in_ok-examined.ensures,
      subst (λ (tests : List Test). TellsEach c.in_ok-examined.examined tests outcomes) c.as_slice-2.ensures.value
          c.in_ok-graded.ensures,
    )
