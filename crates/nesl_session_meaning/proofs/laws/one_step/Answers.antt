use Rattle.nesl_session_meaning.proofs.Runs.{step_unique}
use Rattle.nesl_session_meaning.proofs.laws.one_step.Goals as goal

pub returns : goal.returns
returns c = step_unique (record {
  one_list = c.one_reading.ensures.one_list;
  one_place = c.one_reading.ensures.one_place;
  not_both = c.one_reading.ensures.not_both;
  one_form = c.one_form.ensures;
  expressions = c.verdicts_are_one.ensures.expressions;
  functions = c.verdicts_are_one.ensures.functions;
  contents = c.verdicts_are_one.ensures.contents;
})
