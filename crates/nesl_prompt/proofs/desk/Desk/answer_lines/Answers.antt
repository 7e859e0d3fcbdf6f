use Rattle.std.proofs.Common.{◌∙◌, refl}
use Rattle.nesl_prompt.proofs.Conversations.{given_none, given_then}
use Rattle.nesl_prompt.proofs.desk.Desk.answer_lines.Goals as goal

pub lines-init : goal.lines-init
lines-init g c = record { said = given_none _ _ refl; style = refl }

pub lines-preserved : goal.lines-preserved
lines-preserved g c = record {
  said = given_then _ _ _ c.lines.invariant.said c.answer_line.ensures.said;
  style = c.answer_line.ensures.style ∙ c.lines.invariant.style;
}

pub returns-clause-said : goal.returns-clause-said
returns-clause-said g c = given_then _ _ _ c.lines.invariant.said c.answer_line-2.ensures.said

pub returns-in_err-answer_line-clause-said : goal.returns-in_err-answer_line-clause-said
returns-in_err-answer_line-clause-said g c = given_then _ _ _ c.lines.invariant.said c.answer_line.ensures.said
