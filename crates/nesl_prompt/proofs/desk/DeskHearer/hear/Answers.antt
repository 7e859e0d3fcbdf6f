use Rattle.std.proofs.Common.{◌∙◌, refl}
use Rattle.nesl_prompt.proofs.Conversations.{conversed_more, turn_at}
use Rattle.nesl_prompt.proofs.desk.DeskHearer.hear.Goals as goal

pub returns-clause-heard : goal.returns-clause-heard
returns-clause-heard g c = λ first start lines texts t. (
  c.answer-told.ensures.style ∙ t.0,
  conversed_more _ _ _ _ lines texts c.args.line.now _ t.1 (turn_at _ _ _ _ _ _ t.0 c.answer-told.ensures.turn),
  λ o. (lines, c.args.line.now, refl, c.quits-is_over.ensures o),
)
