use Rattle.nesl_infer.proofs.Verdicts.{one_of_expression, one_of_function, one_of_content}
use Rattle.nesl_infer.proofs.laws.verdicts_are_one.Goals as goal

pub returns-clause-expressions : goal.returns-clause-expressions
returns-clause-expressions c = one_of_expression

pub returns-clause-functions : goal.returns-clause-functions
returns-clause-functions c = one_of_function

pub returns-clause-contents : goal.returns-clause-contents
returns-clause-contents c = one_of_content
