use Rattle.std.proofs.Common.{[]}
use Rattle.nesl_prompt.proofs.Conversations.{takes_given}
use Rattle.nesl_prompt.proofs.desk.Desk.answer_line.Goals as goal

pub returns-clause-said : goal.returns-clause-said
returns-clause-said g c = takes_given _ _ _ _ _ (c.take-output.ensures.takes [])
