use Rattle.std.proofs.Common.{◌↔◌}
use Rattle.nesl_values.specs.Comparing.{AllMeet, work_of_all}
use Rattle.nesl_values.proofs.listed.answer_all.Given as goal

abbrev pub invariant-loop-question : goal.invariant-loop-question
invariant-loop-question g l = AllMeet l.questions.items ↔ AllMeet l.fn.questions.items

abbrev pub decreases-loop-question : goal.decreases-loop-question
decreases-loop-question g l = work_of_all l.questions.items
