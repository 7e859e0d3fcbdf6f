use Rattle.nesl_prompt.proofs.Conversations.{given_one, given_then}
use Rattle.nesl_prompt.proofs.desk.Desk.answer_text.Goals as goal

pub returns-clause-said : goal.returns-clause-said
returns-clause-said g c = let s = c.answer_form-output.ensures.said in given_then _ _ _ c.answer_lines-put.ensures.said (given_one _ _ _ s.0 s.1)

pub returns-in_err-put-clause-said : goal.returns-in_err-put-clause-said
returns-in_err-put-clause-said g c = let s = c.answer_form-output.ensures.said in given_then _ _ _ c.answer_lines-put.ensures.said (given_one _ _ _ s.0 s.1)
