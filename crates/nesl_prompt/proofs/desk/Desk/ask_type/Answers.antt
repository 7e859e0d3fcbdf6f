use Rattle.nesl_prompt.proofs.Conversations.{given_one}
use Rattle.nesl_prompt.proofs.desk.Desk.ask_type.Goals as goal

pub returns-clause-said : goal.returns-clause-said
returns-clause-said g c = let s = c.answer_form-output.ensures.said in given_one _ _ _ s.0 s.1
