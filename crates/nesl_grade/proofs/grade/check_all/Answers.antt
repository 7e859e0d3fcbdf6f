use Rattle.std.proofs.Common.{◌+◌, List, take, sym, subst}
use Rattle.nesl_exercise.specs.declared.outcome.Outcome.{Outcome}
use Rattle.nesl_exercise.specs.declared.test.Test.{Test}
use Rattle.nesl_grade.specs.Grades.{Tells, TellsEach}
use Rattle.nesl_grade.proofs.GradeLemmas.{tells_next}
use Rattle.nesl_grade.proofs.grade.check_all.Goals as goal

pub loop-test-preserved : goal.loop-test-preserved
loop-test-preserved c =
    let s = c.args.examined.now in
    let i = c.loop-test.test-index in
    let told =
    subst (λ (test : Test). Tells s test.check c.in_ok-outcome.outcome) c.test-item.is c.in_ok-outcome.ensures in
    subst (λ (outcomes : List Outcome). TellsEach s (take (i + 1) c.args.tests.now) outcomes)
    (sym c.in_ok-push.ensures.items)
    (tells_next s c.args.tests.now i c.test-item.result c.loop-test.outcomes.items c.in_ok-outcome.outcome
    c.loop-test-test.true c.loop-test.invariant told)
