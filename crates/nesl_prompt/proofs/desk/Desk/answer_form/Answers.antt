use Rattle.nesl_prompt.proofs.Conversations.{responds_to}
use Rattle.nesl_prompt.proofs.desk.Desk.answer_form.Goals as goal

pub returns-clause-said : goal.returns-clause-said
returns-clause-said g c = (
  c.line-answer.result,
  responds_to _ _ _ _ _ (cc) c.line-answer.ensures,
  λ line. record { more = c.below-more.result.items; written = c.told_of.ensures.told line; below = c.below-more.ensures.below },
)
