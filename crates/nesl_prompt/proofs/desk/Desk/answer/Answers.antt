use Rattle.nesl_prompt.specs.Conversation.{takes}
use Rattle.nesl_prompt.proofs.desk.Desk.answer.Goals as goal

pub returns-then-has_form-clause-turn : goal.returns-then-has_form-clause-turn
returns-then-has_form-clause-turn g c =
    takes (λ e. absurd (c.has_form.ensures.some c.if-has_form.true e)) (c.take.ensures.takes c.args.line.now)
